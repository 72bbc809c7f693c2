use Rattle.std.proofs.Common.{◌*◌, ◌≤◌, ◌%◌, ◌/◌, length, arith}
use Rattle.astc_model.specs.Partitions.{part_of}
use Rattle.astc_model.specs.Bounds.{part_map}
use Rattle.astc_model.proofs.FootprintLaws.{sides_few}
use Rattle.astc_model.proofs.ListLaws.{front_is}
use Rattle.candidates.proofs.bounds.part_map.Goals as goal

pub returns-clause-parts : goal.returns-clause-parts
unfolding part_map
returns-clause-parts g c =
    let within : g.row.W * g.row.H ≤ length c.loop-p.map =
    omega (arith, c.loop-p.invariant.count, sides_few g.row.W g.row.H c.requires.footprint) in
    front_is (λ k. part_of g.row.W g.row.H c.args.parts c.args.seed (k % g.row.W) (k / g.row.W))
    c.loop-p.map (g.row.W * g.row.H) within
    (λ k below. c.loop-p.invariant.parts k (omega arith))
