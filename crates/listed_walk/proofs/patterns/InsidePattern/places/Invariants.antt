use Rattle.std.proofs.Common.{◌≡◌, ℕ, ◌<◌, length}
use Rattle.texel_error.specs.Counting.{is_inside}
use Rattle.listed_walk.specs.Patterns.{is_of_first}
use Rattle.listed_walk.proofs.patterns.InsidePattern.places.Given as goal

abbrev pub invariant-loop-p : goal.invariant-loop-p
invariant-loop-p g l = (length l.places ≡ 144)
    × ((k : ℕ) → k < l.p → is_inside l.places k ≡ is_of_first g.row.W l.self.columns l.self.rows k)
