use Rattle.std.proofs.Common.{◌∷◌, [], ◌++◌, ◌∙◌, ap, length, refl}
use Rattle.part_file.proofs.PieceLemmas.{put_behind}
use Rattle.part_file.proofs.piece.piece_of.Goals as goal

pub returns : goal.returns
returns c =
    put_behind 16 4 c.copy_from_slice.new.self (0 ∷ 0 ∷ 0 ∷ 0 ∷ []) c.copy_from_slice-2.new.self
    (ap length c.copy_from_slice.ensures.after ∙ c.told-block) refl
    ∙ ap (λ block. block ++ c.copy_from_slice-2.new.self) c.copy_from_slice.ensures.after
    ∙ ap (λ word. c.args.block.now ++ word) (c.copy_from_slice-2.ensures.after
    ∙ c.to_le_bytes.ensures)
