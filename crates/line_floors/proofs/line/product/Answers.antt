use Rattle.std.proofs.Common.{◌*◌, arith}
use Rattle.line_floors.proofs.WholeLaws.{times_small}
use Rattle.line_floors.proofs.line.product.Goals as goal

pub returns-clause-small : goal.returns-clause-small
returns-clause-small c =
    times_small c.args.slope 3825 c.args.value (17112564225 * 144) c.ranges.slope
    c.requires.slope c.requires.value (omega arith) (omega arith)

pub returns-clause-fits : goal.returns-clause-fits
returns-clause-fits c = omega (arith, returns-clause-small c, c.requires.value)
