use Rattle.std.proofs.Common.{ℕ, ◌*◌, ◌<◌}
use Rattle.texel_error.specs.Groups.{IsLaneKept}
use Rattle.texel_error.proofs.groups.GroupOrigins.has.Given as goal

abbrev pub invariant-loop-k : goal.invariant-loop-k
invariant-loop-k g l = (j : ℕ) → j < l.k → IsLaneKept (g.row.W * g.row.H) l.self l.places j
