-- Lists that are filled entry by entry.
use Rattle.std.proofs.Common.{◌≡◌, ℕ, ◌+◌, ◌<◌, ◌≤◌, List, length, get_or, set, take, map, ◌∙◌, arith, inl, inr}
use Rattle.std.specs.List.{range_with_len}
use Rattle.std.proofs.lemmas.Bool.{cases_eq}
use Rattle.std.proofs.lemmas.List.{length-take-le, get_or-take, get_or-set_same, get_or-set_other}
use Rattle.std.proofs.lemmas.List.FromFn.{fill_by_all}

-- if the entries before n have their values and entry n is set to its value, the entries up to n
-- have them
pub fill_step : {X : Type 0} (F : ℕ → X) (xs : List X) (n : ℕ) (d v : X) → n < length xs → v ≡ F n
    → ((k : ℕ) → k < n → get_or xs k d ≡ F k) → (k : ℕ) → k < n + 1 → get_or (set xs n v) k d ≡ F k
fill_step F xs n d v inside is before k below =
    elim (cases_eq k n) [
      | inl same ↦ rw same (get_or-set_same xs n v d inside ∙ is)
      | inr other ↦ get_or-set_other xs n k v d other ∙ before k (omega arith)
    ]

-- the first n entries of a list are f of their indices
pub front_is : (f : ℕ → ℕ) (xs : List ℕ) (n : ℕ) → n ≤ length xs
    → ((k : ℕ) → k < n → get_or xs k 0 ≡ f k) → take n xs ≡ map f (range_with_len 0 n)
front_is f xs n within each = fill_by_all f (take n xs) n 0 (length-take-le n xs within)
    (λ k below. get_or-take n xs k 0 below ∙ each k below)
