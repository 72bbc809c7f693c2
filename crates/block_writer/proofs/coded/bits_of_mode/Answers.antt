use Rattle.std.proofs.Common.{◌∙◌, sym}
use Rattle.block_writer.proofs.LegalLemmas.{legal-with_level}
use Rattle.block_writer.proofs.RoundTripLemmas.{read-back, unused-written, least-written}
use Rattle.block_writer.proofs.coded.bits_of_mode.Goals as goal

pub returns-clause-reads_back : goal.returns-clause-reads_back
returns-clause-reads_back g c =
    let coded = c.args.coded.now in
    let mode = c.args.mode.now in
    let level = c.unwrap-level.result in
    read-back _ _ c.bits_under.result coded mode level
    (legal-with_level _ _ coded mode c.requires.legal.0 level c.requires.legal.1
    (sym c.colour_shape.ensures.shape ∙ c.unwrap-level.ensures)) c.bits_under.ensures

pub returns-clause-unused : goal.returns-clause-unused
returns-clause-unused g c =
    let coded = c.args.coded.now in
    let mode = c.args.mode.now in
    let level = c.unwrap-level.result in
    unused-written _ _ c.bits_under.result coded mode level
    (legal-with_level _ _ coded mode c.requires.legal.0 level c.requires.legal.1
    (sym c.colour_shape.ensures.shape ∙ c.unwrap-level.ensures)) c.bits_under.ensures

pub returns-clause-least : goal.returns-clause-least
returns-clause-least g c =
    let coded = c.args.coded.now in
    let mode = c.args.mode.now in
    let level = c.unwrap-level.result in
    least-written _ _ c.bits_under.result coded mode level
    (legal-with_level _ _ coded mode c.requires.legal.0 level c.requires.legal.1
    (sym c.colour_shape.ensures.shape ∙ c.unwrap-level.ensures)) c.bits_under.ensures
