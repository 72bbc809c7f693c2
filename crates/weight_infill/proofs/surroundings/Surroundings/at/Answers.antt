use Rattle.std.proofs.Common.{ℕ, ◌/◌, ◌%◌}
use Rattle.weight_infill.proofs.InfillLaws.{factors-inside, factors-small, factors-total}
use Rattle.weight_infill.proofs.SurroundedLaws.{texel_in}
use Rattle.weight_infill.proofs.surroundings.Surroundings.at.Goals as goal

pub returns-clause-in_grid : goal.returns-clause-in_grid
returns-clause-in_grid g c =
    let own = c.args.self.now in
    let p : ℕ = c.args.p in
    rw (own.are.each p c.requires)
    (factors-inside g.row.W g.row.H own.columns own.rows (p % g.row.W) (p / g.row.W)
    (texel_in g.row.W g.row.H own.columns own.rows p own.around own.are c.requires))

pub returns-clause-small : goal.returns-clause-small
returns-clause-small g c =
    let own = c.args.self.now in
    let p : ℕ = c.args.p in
    rw (own.are.each p c.requires) (factors-small g.row.W g.row.H own.columns own.rows (p % g.row.W)
    (p / g.row.W))

pub returns-clause-total : goal.returns-clause-total
returns-clause-total g c =
    let own = c.args.self.now in
    let p : ℕ = c.args.p in
    rw (own.are.each p c.requires) (factors-total g.row.W g.row.H own.columns own.rows (p % g.row.W)
    (p / g.row.W))
