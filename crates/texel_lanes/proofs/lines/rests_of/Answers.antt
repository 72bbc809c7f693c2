use Rattle.std.proofs.Common.{bit_and, get_or, ◌∙◌}
use Rattle.std.proofs.lemmas.Nat.{and_mask}
use Rattle.texel_lanes.proofs.LaneLaws.{zipped_splat}
use Rattle.texel_lanes.proofs.lines.rests_of.Goals as goal

pub returns : goal.returns
returns c =
    let v = c.args.bytes in
    let h = zipped_splat 16 bit_and v 3 c.fits-bytes.0 in
    record { long = h.long; each = λ k l. h.each k l ∙ and_mask (get_or v k 0) 2 }
