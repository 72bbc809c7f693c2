use Rattle.std.proofs.Common.{◌*◌, arith}
use Rattle.line_floors.proofs.WholeLaws.{times_small}
use Rattle.line_floors.proofs.line.constant_sum.Goals as goal

pub returns-clause-small : goal.returns-clause-small
returns-clause-small c =
    times_small c.args.constant 2005371000 c.args.count (130815 * 144) c.ranges.constant
    c.requires.constant c.requires.count (omega arith) (omega arith)

pub returns-clause-fits : goal.returns-clause-fits
returns-clause-fits c = omega (arith, returns-clause-small c, c.requires.count)
