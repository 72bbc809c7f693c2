use Rattle.std.proofs.Common.{◌∙◌, ◌%◌, get_or, arith}
use Rattle.std.specs.Simd.Lanes.{chunk}
use Rattle.std.proofs.lemmas.Simd.{get_or-chunk}
use Rattle.texel_lanes.proofs.LaneLaws.{low_bits, may_look_up, looked_up}
use Rattle.texel_lanes.proofs.look_ups.looked_up.Goals as goal

pub swizzle : goal.swizzle
swizzle c = may_look_up _ _ (low_bits c.args.places c.fits-places.0) (λ k l. omega arith)

pub returns : goal.returns
returns c =
    let v = c.args.places in
    let at = c.args.at in
    let found = looked_up _ _ (low_bits v c.fits-places.0) (λ k l. omega arith)
    (chunk at 16 c.args.values.now) in
    record {
      long = found.long;
      each = λ k l. found.each k l
          ∙ get_or-chunk at 16 c.args.values.now (get_or v k 0 % 16) 0 (omega arith);
    }
