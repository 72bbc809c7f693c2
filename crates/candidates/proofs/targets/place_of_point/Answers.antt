use Rattle.std.proofs.Common.{sym, ◌%◌, ◌/◌, rules}
use Rattle.astc_model.specs.Targets.{distance, place_of_point}
use Rattle.candidates.proofs.NearestLaws.{takes_nearest}
use Rattle.candidates.proofs.TargetLaws.{nearest_inside_none}
use Rattle.candidates.proofs.targets.place_of_point.Goals as goal

pub loop-p-init : goal.loop-p-init
loop-p-init g c = record {
  nearest = sym (nearest_inside_none (λ q. distance g.row.W g.row.H c.args.n c.args.m
      (c.args.k % c.args.n) (c.args.k / c.args.n) (q % g.row.W) (q / g.row.W))
      c.args.places.now);
  within = search rules;
}

pub returns-clause-nearest : goal.returns-clause-nearest
unfolding place_of_point
returns-clause-nearest g c =
    takes_nearest g.row.W g.row.H c.args.n c.args.m c.args.k c.args.places.now _
    (search rules) c.requires.places
