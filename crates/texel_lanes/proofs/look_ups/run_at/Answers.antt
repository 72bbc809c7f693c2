use Rattle.std.proofs.Common.{refl, arith, get_or, w8, ◌∙◌}
use Rattle.std.specs.Simd.Lanes.{chunk}
use Rattle.std.proofs.lemmas.Simd.{SwzOk-from_Each1, Each1-from_get_or, length-swz_l}
use Rattle.texel_lanes.proofs.LaneLaws.{may_be_looked_up, lane_in_run}
use Rattle.texel_lanes.proofs.look_ups.run_at.Goals as goal

pub swizzle : goal.swizzle
swizzle c =
    let js = c.args.places in
    let long = c.fits-places.0 in
    SwzOk-from_Each1 w8 16 1 16 0 js refl (omega arith)
    (Each1-from_get_or _ js 0
    (λ k l. may_be_looked_up (get_or js k 0) (c.requires.places.each k (omega arith))))

pub returns : goal.returns
returns c =
    let js = c.args.places in
    let long = c.fits-places.0 in
    record {
      long = length-swz_l w8 16 (chunk c.args.start 16 c.args.table.now) 0 js ∙ long;
      each = λ k l. lane_in_run c.args.table.now c.args.start js k l long
          (c.requires.places.each k l);
    }
