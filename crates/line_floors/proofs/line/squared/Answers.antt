use Rattle.std.proofs.Common.{◌≤◌, rules}
use Rattle.std.proofs.lemmas.Nat.{mul-le}
use Rattle.line_floors.proofs.line.squared.Goals as goal

pub returns-clause-small : goal.returns-clause-small
returns-clause-small c =
    let near : c.from-apart.result ≤ 255 = search rules in
    mul-le c.args.gain c.square.result 15 65025 c.requires.gain (c.square.ensures.small 255 near)
