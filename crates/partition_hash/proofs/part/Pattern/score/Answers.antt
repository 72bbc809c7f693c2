use Rattle.std.proofs.Common.{◌-◌, ◌*◌, arith}
use Rattle.partition_hash.proofs.Shifts.{shifted-lt}
use Rattle.partition_hash.proofs.part.Pattern.score.Goals as goal

pub overflow_add-result-2 : goal.overflow_add-result-2
overflow_add-result-2 c =
    omega (arith, shifted-lt c.args.self.hash (14 - 4 * c.args.k) (omega arith) (omega arith))
