-- The places of the points of a grid are in the block.
use Rattle.std.proofs.Common.{◌≡◌, ℕ, ◌*◌, ◌<◌, List, [], get_or, length, Option, None, Some, refl, ap, sym, subst, ◌∙◌, arith, inl, inr}
use Rattle.arrayvec.specs.ArrayVec.{ArrayVec}
use Rattle.std.specs.Option.{IfSome}
use Rattle.std.specs.List.{All}
use Rattle.std.proofs.lemmas.Bool.{cases_lt}
use Rattle.std.proofs.lemmas.List.{get_or_default, get_or_past}
use Rattle.listed_walk.specs.declared.known.PatternGrids.{PatternGrids}
use Rattle.listed_walk.specs.GridTables.{IsGridAt, grid_at}
use Rattle.listed_walk.specs.Known.{ArePatternGrids, no_grids}

pub all_inside : (n : ℕ) (grid : List (Option ℕ))
    → ((j p : ℕ) → get_or grid j None ≡ Some p → p < n)
    → All (λ place. IfSome place (λ p. p < n)) grid
all_inside n grid each k d below =
    subst (λ place. IfSome place (λ p. p < n)) (sym (get_or_default grid k d None below))
    (by (get_or grid k None) refl)
  where
    by : (place : Option ℕ) → get_or grid k None ≡ place → IfSome place (λ p. p < n)
    by None is = tt
    by (Some p) is = each k p is

pub some_inside : (n : ℕ) (grid : List (Option ℕ)) → All (λ place. IfSome place (λ p. p < n)) grid
    → (j p : ℕ) → get_or grid j None ≡ Some p → p < n
some_inside n grid all j p is =
    elim (cases_lt j (length grid)) [
      | inl below ↦ subst (λ place. IfSome place (λ p. p < n)) is (all j None below)
      | inr past ↦ let none : get_or grid j None ≡ None = get_or_past grid j None past in
          absurd (cc)
    ]

-- the grid at a place of the table of a pattern, as code reaches it
pub grid_inside : (w h : ℕ) (patterns : List PatternGrids) → All (ArePatternGrids w h) patterns
    → (i k : ℕ) → i < length patterns → k < 121 → (own : PatternGrids) → own ≡ get_or patterns i own
    → (table : List (ArrayVec (Option ℕ))) → table ≡ own.by_sides.items
    → (entry : ArrayVec (Option ℕ)) → entry ≡ get_or table k entry → (grid : List (Option ℕ))
    → grid ≡ entry.items → IsGridAt w h k → All (λ place. IfSome place (λ p. p < w * h)) grid
grid_inside w h patterns each i k within below own own_is table table_is entry entry_is grid grid_is
    at =
    let have : ArePatternGrids w h own =
    subst (ArePatternGrids w h)
    (sym (own_is ∙ get_or_default patterns i own no_grids within)) (each i no_grids within) in
    let same : entry ≡ get_or own.by_sides.items k (record { items = [] }) =
    entry_is ∙ ap (λ t. get_or t k entry) table_is
    ∙ get_or_default own.by_sides.items k entry (record { items = [] })
    (omega (arith, below, have.all)) in
    subst (All (λ place. IfSome place (λ p. p < w * h)))
    (sym (grid_is ∙ ap (λ x. x.items) same))
    (all_inside (w * h) (grid_at own.by_sides.items k) (have.inside k below at))
