use Rattle.std.proofs.Common.{ℕ, ◌≡◌, ◌≤◌, arith}
use Rattle.partition_hash.proofs.PartitionLaws.{part_at-lt}
use Rattle.partition_hash.proofs.part.part_of.Goals as goal

pub returns-clause-within : goal.returns-clause-within
returns-clause-within g c =
    let parts : ℕ = c.from-parts.result in
    let same : parts ≡ c.args.parts = c.from-parts.ensures in
    let several : 2 ≤ parts = omega arith in
    let few : parts ≤ 4 = omega arith in
    rw (c.part_at.ensures, ← same) (part_at-lt parts _ _ _ several few)
