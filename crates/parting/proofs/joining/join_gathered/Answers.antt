use Rattle.std.proofs.Common.{◌≡◌, length, sym, ◌∙◌, ap, subst}
use Rattle.ktx_file.specs.Files.{AreBlocks}
use Rattle.outcomes.proofs.EndLaws.{ends-read_as}
use Rattle.parting.specs.Joins.{Joins, BeginsJoin, blocks_in, errors_in}
use Rattle.packed_levels.specs.Framing.{FramesTexture, BeginsTexture}
use Rattle.parting.specs.Gathering.{parts_of}
use Rattle.parting.proofs.JoinLaws.{are-blocks, errors-length, joins-of}
use Rattle.parting.proofs.joining.join_gathered.Goals as goal

pub write_texture-requires-clause-full : goal.write_texture-requires-clause-full
write_texture-requires-clause-full g c =
    let parts = parts_of c.args.parts.now.slots.items in
    let blocks : c.deref.result.now ≡ blocks_in parts = c.deref.ensures.value ∙ c.in-Ok.ensures
    ∙ ap (λ slots. blocks_in (parts_of slots)) c.as_slice-slots.ensures.value in
    subst (AreBlocks c.args.parts.now.layout) (sym blocks)
    (are-blocks c.args.parts.now.layout c.args.parts.now.mark parts c.requires.are)

pub write_texture-requires-clause-errors : goal.write_texture-requires-clause-errors
write_texture-requires-clause-errors g c =
    let parts = parts_of c.args.parts.now.slots.items in
    let blocks : c.deref.result.now ≡ blocks_in parts = c.deref.ensures.value ∙ c.in-Ok.ensures
    ∙ ap (λ slots. blocks_in (parts_of slots)) c.as_slice-slots.ensures.value in
    let errors : c.deref-2.result.now ≡ errors_in parts = c.deref-2.ensures.value
    ∙ c.in-Ok-all_errors.ensures
    ∙ ap (λ slots. errors_in (parts_of slots)) c.as_slice-slots.ensures.value in
    ap length errors ∙ errors-length parts ∙ ap length (sym blocks)

pub returns-clause-ends : goal.returns-clause-ends
returns-clause-ends g c =
    let shape = c.args.parts.now.layout in
    let parts = parts_of c.args.parts.now.slots.items in
    let blocks : c.deref.result.now ≡ blocks_in parts = c.deref.ensures.value ∙ c.in-Ok.ensures
    ∙ ap (λ slots. blocks_in (parts_of slots)) c.as_slice-slots.ensures.value in
    let errors : c.deref-2.result.now ≡ errors_in parts = c.deref-2.ensures.value
    ∙ c.in-Ok-all_errors.ensures
    ∙ ap (λ slots. errors_in (parts_of slots)) c.as_slice-slots.ensures.value in
    ends-read_as (FramesTexture shape c.deref.result.now) (BeginsTexture shape c.deref.result.now)
    Joins BeginsJoin c.deref-2.result.now parts c.args.output.now _ _ c.write_texture.result
    (λ file lines made. joins-of shape c.args.parts.now.mark parts c.deref.result.now
    c.deref-2.result.now file lines c.requires.are blocks errors made)
    (λ k file begun. (
      begun.0,
      joins-of shape c.args.parts.now.mark parts c.deref.result.now
          c.deref-2.result.now file begun.0 c.requires.are blocks errors begun.1,
    ))
    c.write_texture.ensures.ends
