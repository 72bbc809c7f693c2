use Rattle.std.proofs.Common.{ℕ, set, sym, ◌∙◌}
use Rattle.colour_bounds.specs.OneChannel.{moved_ends}
use Rattle.colour_bounds.proofs.one_channel.others_of.Goals as goal

pub returns-in-Some : goal.returns-in-Some
returns-in-Some g c = record {
  small = c.one_channel.ensures.small;
  more_is = λ value also.
      let pair : ℕ × ℕ = moved_ends c.args.trend c.args.scan.now.cem
      (set c.args.scan.now.values c.args.place value) c.args.place in
      c.in-Some.ensures.more_is value also
      ∙ sym (rw c.moved_channel-channel.ensures at (c.one_channel.ensures.more pair.0 pair.1));
  less_is = λ value also.
      let pair : ℕ × ℕ = moved_ends c.args.trend c.args.scan.now.cem
      (set c.args.scan.now.values c.args.place value) c.args.place in
      c.in-Some.ensures.less_is value also
      ∙ sym (rw c.moved_channel-channel.ensures at (c.one_channel.ensures.less pair.0 pair.1));
}
