-- The nearest inside places depend on which places are inside alone.
use Rattle.std.proofs.Common.{◌≡◌, ℕ, zero, suc, ◌+◌, ◌*◌, ◌/◌, ◌%◌, ◌<◌, List, map, Option, None, Some, length, set, refl, sym, ap, ◌∙◌, arith, inl, inr}
use Rattle.std.specs.Prelude.{is_some, slice_index_or}
use Rattle.std.specs.List.{range_with_len}
use Rattle.std.proofs.lemmas.Bool.{cases_eq}
use Rattle.std.proofs.lemmas.Grind.{get_or-set_at}
use Rattle.std.proofs.lemmas.List.{get_or-set_other}
use Rattle.astc_model.specs.Places.{Texel}
use Rattle.astc_model.specs.Targets.{distance, nearer, nearer_if, nearest_inside, place_of_point}
use Rattle.texel_error.specs.Counting.{is_inside}
use Rattle.arrayvec.specs.ArrayVec.{ArrayVec}
use Rattle.candidates.specs.Pieces.{grid_places}
use Rattle.listed_walk.specs.GridTables.{AreGridsTo, columns_at, rows_at}
use Rattle.listed_walk.specs.Patterns.{IsInside, is_of_first}

same_if : (far : ℕ → ℕ) (p : ℕ) (a b : Option Texel) (x y : Option ℕ) → is_some a ≡ is_some b → x
    ≡ y → nearer_if far p a x ≡ nearer_if far p b y
same_if far p None None x y same e = e
same_if far p None (Some b) x y same e = absurd (cc)
same_if far p (Some a) None x y same e = absurd (cc)
same_if far p (Some a) (Some b) x y same e = ap (nearer far p) e

nearest_same : (far : ℕ → ℕ) (places other : List (Option Texel)) (n : ℕ)
    → ((p : ℕ) → p < n → is_inside places p ≡ is_inside other p)
    → nearest_inside far places n ≡ nearest_inside far other n
unfolding nearest_inside
nearest_same far places other zero same = refl
nearest_same far places other (suc n) same =
    same_if far n (slice_index_or places n None) (slice_index_or other n None)
    (nearest_inside far places n) (nearest_inside far other n) (same n (omega arith))
    (nearest_same far places other n (λ p below. same p (omega arith)))

point_same : (w h n m : ℕ) (places other : List (Option Texel))
    → ((p : ℕ) → p < w * h → is_inside places p ≡ is_inside other p) → (k : ℕ)
    → place_of_point w h n m places k ≡ place_of_point w h n m other k
unfolding place_of_point
point_same w h n m places other same k =
    nearest_same (λ p. distance w h n m (k % n) (k / n) (p % w) (p / w)) places other (w * h) same

map_same : {X : Type 0} (f g : ℕ → X) (a n : ℕ) → ((k : ℕ) → f k ≡ g k) → map f (range_with_len a n)
    ≡ map g (range_with_len a n)
map_same f g a zero same = refl
map_same f g a (suc n) same =
    let here : f a ≡ g a = same a in
    let rest : map f (range_with_len (a + 1) n) ≡ map g (range_with_len (a + 1) n) =
    map_same f g (a + 1) n same in
    cc

-- the places of the points of a grid are those of any other places that are inside alike
grid_same : (w h n m : ℕ) (places other : List (Option Texel))
    → ((p : ℕ) → p < w * h → is_inside places p ≡ is_inside other p)
    → grid_places w h n m places ≡ grid_places w h n m other
unfolding grid_places
grid_same w h n m places other same = map_same (place_of_point w h n m places)
    (place_of_point w h n m other) 0 (n * m) (point_same w h n m places other same)

-- the grids of places are those of any others of their pattern
pub grids_within : (w h columns rows : ℕ) (places other : List (Option Texel))
    (grids : List (ArrayVec (Option ℕ)))
    → IsInside w h columns rows places → IsInside w h columns rows other
    → AreGridsTo w h places 121 grids → AreGridsTo w h other 121 grids
grids_within w h columns rows places other grids one two are = record {
  all = are.all;
  each = λ k below at.
      are.each k below at ∙ grid_same w h (columns_at k) (rows_at k) places other
      (λ p within. one.each p within ∙ sym (two.each p within));
}

-- one place more
pub one_more : (w columns rows : ℕ) (places : List (Option Texel)) (p : ℕ) (place : Option Texel)
    → p < length places → is_some place ≡ is_of_first w columns rows p
    → ((k : ℕ) → k < p → is_inside places k ≡ is_of_first w columns rows k) → (k : ℕ) → k < p + 1
    → is_inside (set places p place) k ≡ is_of_first w columns rows k
one_more w columns rows places p place within own each k below = elim (cases_eq k p) [
  | inl same ↦ ap is_some (get_or-set_at places p k place None same within) ∙ own
      ∙ ap (is_of_first w columns rows) (sym same)
  | inr other ↦ ap is_some (get_or-set_other places p k place None other) ∙ each k (omega arith)
]
