use Rattle.std.proofs.Common.{◌∙◌, get_or}
use Rattle.texel_lanes.proofs.LaneLaws.{one_of_two, either_same}
use Rattle.texel_lanes.proofs.look_ups.gathered.Goals as goal

pub returns : goal.returns
returns c = record {
  long = c.either.ensures.long;
  each = λ k l.
      c.either.ensures.each k l
      ∙ either_same _ _ _ _ (c.run_at-one.ensures.each k l) (c.run_at-other.ensures.each k l)
      ∙ one_of_two c.args.table.now c.args.starts.0 c.args.starts.1 (get_or c.args.first k 0)
      (get_or c.args.second k 0)
      (c.requires.one.each k l);
}
