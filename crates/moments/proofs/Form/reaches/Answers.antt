use Rattle.std.proofs.Common.{arith}
use Rattle.std.proofs.lemmas.Bool.{leb-true}
use Rattle.moments.proofs.FloorLaws.{floored_law}
use Rattle.moments.proofs.Form.reaches.Goals as goal

pub returns-clause-floor : goal.returns-clause-floor
returns-clause-floor c = λ e w limit floored far reached. floored_law _ _ e w _ limit floored far
    (omega (arith, leb-true _ _ reached))
