-- The search over the places finds the closest inside place, the first one at a tie.
use Rattle.std.proofs.Common.{◌≡◌, ◌↔◌, ℕ, zero, suc, ◌*◌, ◌<◌, ◌≤◌, Bool, true, false, nat_lt, if◌then◌else◌, List, Option, None, Some, length, refl, ap, ◌∙◌, arith, inl, inr}
use Rattle.std.specs.Prelude.{slice_index_or}
use Rattle.std.specs.Option.{IsNone, IfSome}
use Rattle.std.specs.List.{All}
use Rattle.std.proofs.lemmas.Bool.{cases_lt, ltb-true, ltb-false}
use Rattle.std.proofs.lemmas.List.{get_or_default}
use Rattle.std.proofs.lemmas.List.FromFn.{get_or-map-range_with_len}
use Rattle.astc_model.specs.Places.{Texel}
use Rattle.astc_model.specs.Targets.{nearer_if, nearest_inside, place_of_point}
use Rattle.candidates.specs.NearestPlaces.{distance_from_point, IsInside, IsNearestInside, TakesNearest}
use Rattle.candidates.specs.Pieces.{grid_places}

-- the result of the search over the first `count` places is right
Finds : (ℕ → ℕ) → List (Option Texel) → ℕ → Option ℕ → Type 0
Finds far places count None = (q : ℕ) → q < count → IsNone (slice_index_or places q None)
Finds far places count (Some p) = IsNearestInside far places count p

-- a step of the search at an inside place, by the result of the comparison with the best place so
-- far
compared : (far : ℕ → ℕ) (places : List (Option Texel)) (p q : ℕ) (b : Bool)
    → nat_lt (far p) (far q) ≡ b → IsInside places p → IsNearestInside far places p q
    → Finds far places (suc p) (if b then Some p else Some q)
unfolding Finds
compared far places p q true less inside is =
    let lt : far p < far q = ltb-true (far p) (far q) less in
    record {
      within = omega arith;
      inside = inside;
      nearest = λ j below here. elim (cases_lt j p) [
        | inl before ↦ let le : far q ≤ far j = is.nearest j before here in omega arith
        | inr last ↦ let same : j ≡ p = omega arith in rw same (omega arith)
      ];
      first = λ j below here. let le : far q ≤ far j = is.nearest j below here in omega arith;
    }
compared far places p q false less inside is =
    let le : far q ≤ far p = ltb-false (far p) (far q) less in
    record {
      within = omega (arith, is.within);
      inside = is.inside;
      nearest = λ j below here. elim (cases_lt j p) [
        | inl before ↦ is.nearest j before here
        | inr last ↦ let same : j ≡ p = omega arith in rw same le
      ];
      first = is.first;
    }

-- a step of the search
one_more : (far : ℕ → ℕ) (places : List (Option Texel)) (p : ℕ) (here : Option Texel)
    (best : Option ℕ) → slice_index_or places p None ≡ here → Finds far places p best
    → Finds far places (suc p) (nearer_if far p here best)
unfolding Finds
one_more far places p None None is found = λ q below. elim (cases_lt q p) [
  | inl before ↦ found q before
  | inr last ↦ let same : q ≡ p = omega arith in rw (same, is) refl
]
one_more far places p None (Some q) is found = record {
  within = omega (arith, found.within);
  inside = found.inside;
  nearest = λ j below here. elim (cases_lt j p) [
    | inl before ↦ found.nearest j before here
    | inr last ↦ let same : j ≡ p = omega arith in let outside = rw (same, is) at here in
        absurd (cc)
  ];
  first = found.first;
}
one_more far places p (Some texel) None is found = record {
  within = omega arith;
  inside = rw is refl;
  nearest = λ j below here. elim (cases_lt j p) [
    | inl before ↦ let outside : IsNone (slice_index_or places j None) = found j before in
        absurd (cc)
    | inr last ↦ let same : j ≡ p = omega arith in rw same (omega arith)
  ];
  first = λ j below here. let outside : IsNone (slice_index_or places j None) = found j below in
      absurd (cc);
}
one_more far places p (Some texel) (Some q) is found =
    compared far places p q (nat_lt (far p) (far q)) refl (rw is refl) found

finds : (far : ℕ → ℕ) (places : List (Option Texel)) (n : ℕ)
    → Finds far places n (nearest_inside far places n)
unfolding Finds nearest_inside
finds far places zero = λ q below. absurd (omega arith)
finds far places (suc n) = one_more far places n (slice_index_or places n None)
    (nearest_inside far places n) refl (finds far places n)

-- ---- in the form of the clauses

found_nearest : (far : ℕ → ℕ) (places : List (Option Texel)) (n : ℕ) (best : Option ℕ)
    → Finds far places n best → IfSome best (IsNearestInside far places n)
unfolding Finds
found_nearest far places n None found = tt
found_nearest far places n (Some p) found = found

found_none : (far : ℕ → ℕ) (places : List (Option Texel)) (n : ℕ) (best : Option ℕ) → length places
    ≡ n → Finds far places n best → IsNone best ↔ All IsNone places
unfolding Finds
found_none far places n None long found =
    (λ _ k d below. rw (get_or_default places k d None below) (found k (omega arith)), λ _. refl)
found_none far places n (Some p) long found = (
  λ none. absurd (cc),
  λ outside. let here : IsNone (slice_index_or places p None) =
      outside p None (omega (arith, found.within)) in let inside = found.inside in absurd
      (cc),
)

point_takes_nearest : (w h n m k : ℕ) (places : List (Option Texel)) (place : Option ℕ) → place
    ≡ place_of_point w h n m places k
    → IfSome place (IsNearestInside (distance_from_point w h n m k) places (w * h))
unfolding place_of_point
point_takes_nearest w h n m k places place is =
    rw is (found_nearest (distance_from_point w h n m k) places (w * h)
    (nearest_inside (distance_from_point w h n m k) places (w * h))
    (finds (distance_from_point w h n m k) places (w * h)))

point_takes_none : (w h n m k : ℕ) (places : List (Option Texel)) (place : Option ℕ) → place
    ≡ place_of_point w h n m places k → length places ≡ w * h
    → IsNone place ↔ All IsNone places
unfolding place_of_point
point_takes_none w h n m k places place is long =
    rw is (found_none (distance_from_point w h n m k) places (w * h)
    (nearest_inside (distance_from_point w h n m k) places (w * h)) long
    (finds (distance_from_point w h n m k) places (w * h)))

pub takes_nearest : (w h n m k : ℕ) (places : List (Option Texel)) (place : Option ℕ) → place
    ≡ place_of_point w h n m places k → length places ≡ w * h
    → TakesNearest w h n m places k place
takes_nearest w h n m k places None is long =
    (point_takes_none w h n m k places None is long).0 refl
takes_nearest w h n m k places (Some p) is long = point_takes_nearest w h n m k places (Some p) is

pub grid_takes_nearest : (w h n m : ℕ) (places : List (Option Texel)) (grid : List (Option ℕ))
    → grid ≡ grid_places w h n m places → length places ≡ w * h
    → (k : ℕ) → k < n * m → TakesNearest w h n m places k (slice_index_or grid k None)
unfolding grid_places
grid_takes_nearest w h n m places grid is long k below =
    takes_nearest w h n m k places (slice_index_or grid k None)
    (ap (λ xs. slice_index_or xs k None) is
    ∙ get_or-map-range_with_len (place_of_point w h n m places) 0 (n * m) k k None below
    (omega arith)) long
