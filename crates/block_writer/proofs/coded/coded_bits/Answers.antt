use Rattle.std.proofs.Common.{◌∙◌, sym}
use Rattle.block_writer.proofs.LegalLemmas.{legal-with_mode, mode-sizes}
use Rattle.block_writer.proofs.coded.coded_bits.Goals as goal

pub bits_of_mode-requires-clause-sizes : goal.bits_of_mode-requires-clause-sizes
bits_of_mode-requires-clause-sizes g c =
    let coded = c.args.coded.now in
    let legal = legal-with_mode _ _ coded c.unwrap.result c.requires (sym c.mode_of.ensures.row
    ∙ c.unwrap.ensures) in
    mode-sizes _ _ coded c.unwrap.result legal.0 legal.1
