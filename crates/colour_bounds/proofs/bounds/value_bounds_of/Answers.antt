use Rattle.std.proofs.Common.{ap}
use Rattle.colour_bounds.proofs.BoundLaws.{ordered, small_place}
use Rattle.colour_bounds.proofs.bounds.value_bounds_of.Goals as goal

pub returns : goal.returns
returns g c = record {
  small_curve = c.curve_between.ensures.small;
  on = λ value above below.
      rw (ordered c.args.scan.now.cem c.args.place c.args.scan.now.values
      c.requires.scan.eight_values c.requires.place value
      (small_place c.args.scan.now.cem c.args.place c.requires.scan.mode_fits c.requires.place)
      (rw c.order_of-from.ensures at above) (rw c.order_of-from.ensures at below))
      (c.curve_between.ensures.on value above below);
  off = rw c.order_of-from.ensures c.least_out_of_order.ensures;
  from_is = ap (λ bounds. bounds.0) c.order_of-from.ensures;
  before_is = ap (λ bounds. bounds.1) c.order_of-from.ensures;
  single = c.single_channel_now.ensures;
  rising = c.rising_of.ensures;
  falling = c.others_of.ensures;
  three = c.three_channels_of.ensures;
}
