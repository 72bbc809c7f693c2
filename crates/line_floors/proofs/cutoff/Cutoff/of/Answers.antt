use Rattle.line_floors.proofs.FloorLaws.{cutoff_law}
use Rattle.line_floors.proofs.cutoff.Cutoff.of.Goals as goal

pub invariant_of-result : goal.invariant_of-result
invariant_of-result c = record {
  enough = λ error is.
      cutoff_law c.args.limit c.args.weight c.root_above-root.result c.from-wanted.result error
      c.from-wanted.ensures c.root_above-root.ensures.covers is;
}
