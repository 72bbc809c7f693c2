use Rattle.std.proofs.Common.{◌≤◌, arith}
use Rattle.line_floors.proofs.FloorLaws.{under_less}
use Rattle.line_floors.proofs.cutoff.Cutoff.is_over.Goals as goal

pub returns-clause-floor : goal.returns-clause-floor
returns-clause-floor c = λ weight error less is over.
    let far : c.args.self.now.distances ≤ c.args.distances = grind (arith, over) in
    c.args.self.now.enough error
    (under_less c.args.self.now.distances c.args.distances weight c.args.self.now.weight error
    far less is)
