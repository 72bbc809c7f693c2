use Rattle.std.proofs.Common.{◌∙◌, arith}
use Rattle.part_file.proofs.MarkLemmas.{mark_put}
use Rattle.part_file.proofs.mark.mark_bytes.Goals as goal

pub returns : goal.returns
returns c =
    mark_put c.args.mark.now c.copy_from_slice.new.self c.copy_from_slice-2.new.self
    c.copy_from_slice-3.new.self (c.copy_from_slice.ensures.after ∙ c.to_le_bytes.ensures)
    c.copy_from_slice-2.ensures.after
    (c.copy_from_slice-3.ensures.after ∙ c.to_le_bytes-2.ensures)
    (omega (arith, c.copy_from_slice-2.ensures.len))
