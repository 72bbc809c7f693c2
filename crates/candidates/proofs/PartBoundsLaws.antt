-- The bounds of a partition are the least and greatest values of each channel over its texels.
use Rattle.std.proofs.Common.{◌≡◌, ◌⊎◌, ℕ, zero, suc, ◌<◌, ◌≤◌, ◌==◌, min, max, Bool, true, false, if◌then◌else◌, List, Option, None, Some, length, refl, sym, ap, ◌∙◌, arith, inl, inr}
use Rattle.std.specs.Prelude.{slice_index, slice_index_or}
use Rattle.std.proofs.Math.Nat.{min-le_left, min-le_right, le-max_left, le-max_right, min-eq_left, min-eq_right, max-eq_left, max-eq_right}
use Rattle.std.proofs.lemmas.Bool.{cases_lt, eqb-true, eq-eqb}
use Rattle.std.proofs.lemmas.List.{get_or_past}
use Rattle.std.proofs.lemmas.List.FromFn.{get_or-map-range_with_len}
use Rattle.astc_model.specs.Places.{Texel, channel}
use Rattle.astc_model.specs.Bounds.{texel_in, by_channel, widened_by, bounds_below, bounds_of, or_zero}
use Rattle.astc_model.specs.declared.bounds.Box8.{Box8}
use Rattle.candidates.specs.PartBounds.{IsTexelOf, IsReached, AreBounds}
use Rattle.candidates.specs.Pieces.{bounds_by_part, no_bounds}

-- f returns one of its arguments, which precedes both in the order `Before` (f is min or max)
record Chooses (Before : ℕ → ℕ → Type 0) (f : ℕ → ℕ → ℕ) : Type 0 where
  same : (a : ℕ) → Before a a
  first : (a b : ℕ) → Before (f a b) a
  second : (a b : ℕ) → Before (f a b) b
  passes : (a b c : ℕ) → Before a b → Before b c → Before a c
  one : (a b : ℕ) → (f a b ≡ a) ⊎ (f a b ≡ b)

min_one : (a b : ℕ) → (min a b ≡ a) ⊎ (min a b ≡ b)
min_one a b = elim (cases_lt a b) [
  | inl less ↦ inl (min-eq_left (omega arith))
  | inr not_less ↦ inr (min-eq_right (omega arith))
]

max_one : (a b : ℕ) → (max a b ≡ a) ⊎ (max a b ≡ b)
max_one a b = elim (cases_lt a b) [
  | inl less ↦ inr (max-eq_right (omega arith))
  | inr not_less ↦ inl (max-eq_left (omega arith))
]

IsAbove : ℕ → ℕ → Type 0
IsAbove a b = b ≤ a

min_chooses : Chooses ◌≤◌ min
min_chooses = record {
  same = λ a. omega arith;
  first = min-le_left;
  second = min-le_right;
  passes = λ a b c h k. omega arith;
  one = min_one;
}

max_chooses : Chooses IsAbove max
unfolding IsAbove
max_chooses = record {
  same = λ a. omega arith;
  first = le-max_left;
  second = le-max_right;
  passes = λ a b c h k. omega arith;
  one = max_one;
}

channel-by_channel : (f : ℕ → ℕ → ℕ) (a b : Texel) (c : ℕ) → c < 4 → channel c (by_channel f a b)
    ≡ f (channel c a) (channel c b)
channel-by_channel f a b zero few = refl
channel-by_channel f a b (suc zero) few = refl
channel-by_channel f a b (suc (suc zero)) few = refl
channel-by_channel f a b (suc (suc (suc zero))) few = refl
channel-by_channel f a b (suc (suc (suc (suc c)))) few = absurd (omega arith)

-- ---- one of the two bounds, over the first n places

record IsEnd (Before : ℕ → ℕ → Type 0) (texel : ℕ → Option Texel) (n : ℕ)
    (end : Texel) : Type 0 where
  bounds : (p : ℕ) (t : Texel) → p < n → texel p ≡ Some t → (c : ℕ) → c < 4
      → Before (channel c end) (channel c t)
  reached : (c : ℕ) → c < 4 → (p : ℕ) × (t : Texel) × (p < n) × (texel p ≡ Some t)
      × (channel c t ≡ channel c end)

-- the bound is unchanged if the place has no texel
end_stays : (Before : ℕ → ℕ → Type 0) (texel : ℕ → Option Texel) (p : ℕ) (end : Texel) → texel p
    ≡ None → IsEnd Before texel p end → IsEnd Before texel (suc p) end
end_stays Before texel p end none is = record {
  bounds = λ q t below here c few. elim (cases_lt q p) [
    | inl before ↦ is.bounds q t before here c few
    | inr last ↦ let same : texel q ≡ texel p = ap texel (omega arith) in absurd (cc)
  ];
  reached = λ c few. let at = is.reached c few in (at.0, at.1, omega (arith, at.2), at.3, at.4);
}

-- the bound after the first texel
end_starts : (Before : ℕ → ℕ → Type 0) (f : ℕ → ℕ → ℕ) (texel : ℕ → Option Texel) (p : ℕ)
    (t : Texel) → Chooses Before f → texel p ≡ Some t
    → ((q : ℕ) → q < p → texel q ≡ None) → IsEnd Before texel (suc p) t
end_starts Before f texel p t chooses is none = record {
  bounds = λ q u below here c few. elim (cases_lt q p) [
    | inl before ↦ let other : texel q ≡ None = none q before in absurd (cc)
    | inr last ↦ let same : texel q ≡ texel p = ap texel (omega arith) in let equal : u ≡ t = cc in
        rw equal (chooses.same (channel c t))
  ];
  reached = λ c few. (p, t, omega arith, is, refl);
}

-- the bound after one more texel
end_moves : (Before : ℕ → ℕ → Type 0) (f : ℕ → ℕ → ℕ) (texel : ℕ → Option Texel) (p : ℕ)
    (t end : Texel) → Chooses Before f → texel p ≡ Some t
    → IsEnd Before texel p end → IsEnd Before texel (suc p) (by_channel f end t)
end_moves Before f texel p t end chooses here is = record {
  bounds = λ q u below at c few. rw (channel-by_channel f end t c few) (elim (cases_lt q p) [
    | inl before ↦ chooses.passes (f (channel c end) (channel c t)) (channel c end) (channel c u)
        (chooses.first (channel c end) (channel c t)) (is.bounds q u before at c few)
    | inr last ↦ let same : texel q ≡ texel p = ap texel (omega arith) in let equal : u ≡ t = cc in
        rw equal (chooses.second (channel c end) (channel c t))
  ]);
  reached = λ c few. rw (channel-by_channel f end t c few)
      (elim (chooses.one (channel c end) (channel c t)) [
        | inl old ↦ let at = is.reached c few in
            (at.0, at.1, omega (arith, at.2), at.3, at.4 ∙ sym old)
        | inr new ↦ (p, t, omega arith, here, sym new)
      ]);
}

-- ---- both bounds

record AreEnds (texel : ℕ → Option Texel) (n : ℕ) (bounds : Box8) : Type 0 where
  low : IsEnd ◌≤◌ texel n bounds.lo
  high : IsEnd IsAbove texel n bounds.hi

Bound : (ℕ → Option Texel) → ℕ → Option Box8 → Type 0
Bound texel n None = (p : ℕ) → p < n → texel p ≡ None
Bound texel n (Some bounds) = AreEnds texel n bounds

one_more : (texel : ℕ → Option Texel) (p : ℕ) (here : Option Texel) (bounds : Option Box8) → texel p
    ≡ here → Bound texel p bounds → Bound texel (suc p) (widened_by here bounds)
unfolding Bound
one_more texel p None None is bound = λ q below. elim (cases_lt q p) [
  | inl before ↦ bound q before
  | inr last ↦ ap texel (omega arith) ∙ is
]
one_more texel p None (Some bounds) is bound = record {
  low = end_stays ◌≤◌ texel p bounds.lo is bound.low;
  high = end_stays IsAbove texel p bounds.hi is bound.high;
}
one_more texel p (Some t) None is bound = record {
  low = end_starts ◌≤◌ min texel p t min_chooses is bound;
  high = end_starts IsAbove max texel p t max_chooses is bound;
}
one_more texel p (Some t) (Some bounds) is bound = record {
  low = end_moves ◌≤◌ min texel p t bounds.lo min_chooses is bound.low;
  high = end_moves IsAbove max texel p t bounds.hi max_chooses is bound.high;
}

bound_below : (texel : ℕ → Option Texel) (n : ℕ) → Bound texel n (bounds_below texel n)
unfolding Bound bounds_below
bound_below texel zero = λ q below. absurd (omega arith)
bound_below texel (suc n) = one_more texel n (texel n) (bounds_below texel n) refl
    (bound_below texel n)

-- ---- the texels of a partition

chosen_inside : (b : Bool) (place : Option Texel) (t : Texel)
    → ◌≡◌ {A = Option Texel} (if b then place else None) (Some t) → (b ≡ true) × (place ≡ Some t)
chosen_inside true place t is = (refl, is)
chosen_inside false place t is = absurd (cc)

texel_of_place : (parts : List ℕ) (part : ℕ) (places : List (Option Texel)) (p : ℕ) (t : Texel)
    → texel_in parts part places p ≡ Some t → IsTexelOf parts part places t
unfolding texel_in
texel_of_place parts part places p t is =
    let both = chosen_inside (slice_index parts p == part) (slice_index_or places p None) t is in
    record { place = p; of_part = eqb-true (slice_index parts p) part both.0; inside = both.1 }

place_of_texel : (parts : List ℕ) (part : ℕ) (places : List (Option Texel)) (t : Texel)
    (is : IsTexelOf parts part places t) → texel_in parts part places is.place ≡ Some t
unfolding texel_in
place_of_texel parts part places t is =
    rw (eq-eqb (slice_index parts is.place) part is.of_part) is.inside

place_within : (places : List (Option Texel)) (p : ℕ) (t : Texel) → slice_index_or places p None
    ≡ Some t → p < length places
place_within places p t is = elim (cases_lt p (length places)) [
  | inl within ↦ within
  | inr past ↦ let none : slice_index_or places p None ≡ None =
      get_or_past places p None (omega arith) in absurd (cc)
]

reached_value : (Before : ℕ → ℕ → Type 0) (parts : List ℕ) (part : ℕ) (places : List (Option Texel))
    (n : ℕ) (end : Texel) → IsEnd Before (texel_in parts part places) n end
    → (c : ℕ) → c < 4 → IsReached parts part places c (channel c end)
reached_value Before parts part places n end is c few =
    let at = is.reached c few in
    (at.1, texel_of_place parts part places at.0 at.1 at.3, at.4)

bounded : (Before : ℕ → ℕ → Type 0) (parts : List ℕ) (part : ℕ) (places : List (Option Texel))
    (end : Texel) → IsEnd Before (texel_in parts part places) (length places) end
    → (t : Texel) → IsTexelOf parts part places t → (c : ℕ) → c < 4
    → Before (channel c end) (channel c t)
bounded Before parts part places end is t of c few =
    is.bounds of.place t (place_within places of.place t of.inside)
    (place_of_texel parts part places t of) c few

no_texel : (parts : List ℕ) (part : ℕ) (places : List (Option Texel))
    → ((p : ℕ) → p < length places → texel_in parts part places p ≡ None) → (t : Texel)
    → IsTexelOf parts part places t → ⊥
no_texel parts part places none t of =
    let here : texel_in parts part places of.place ≡ Some t =
    place_of_texel parts part places t of in
    let nothing : texel_in parts part places of.place ≡ None =
    none of.place (place_within places of.place t of.inside) in
    cc

are_bounds : (parts : List ℕ) (part : ℕ) (places : List (Option Texel)) (bounds : Option Box8)
    → Bound (texel_in parts part places) (length places) bounds
    → AreBounds parts part places (or_zero bounds)
unfolding Bound IsAbove
are_bounds parts part places None bound =
    let no = no_texel parts part places bound in
    record {
      least = λ t of c few. absurd (no t of);
      greatest = λ t of c few. absurd (no t of);
      least_reached = λ t of c few. absurd (no t of);
      greatest_reached = λ t of c few. absurd (no t of);
      none = λ _. (refl, refl);
    }
are_bounds parts part places (Some bounds) bound = record {
  least = bounded ◌≤◌ parts part places bounds.lo bound.low;
  greatest = bounded IsAbove parts part places bounds.hi bound.high;
  least_reached = λ t of c few. reached_value ◌≤◌ parts part places
      (length places) bounds.lo bound.low c few;
  greatest_reached = λ t of c few. reached_value IsAbove parts part places
      (length places) bounds.hi bound.high c few;
  none = λ no. let at = bound.low.reached 0 (omega arith) in
      absurd (no at.1 (texel_of_place parts part places at.0 at.1 at.3));
}

pub bounds_of-are : (parts : List ℕ) (part : ℕ) (places : List (Option Texel))
    → AreBounds parts part places (bounds_of parts part places (length places))
bounds_of-are parts part places =
    are_bounds parts part places (bounds_below (texel_in parts part places) (length places))
    (bound_below (texel_in parts part places) (length places))

pub bounds_by_part-are : (parts : List ℕ) (count : ℕ) (places : List (Option Texel))
    (items : List Box8) → items ≡ bounds_by_part parts count places (length places)
    → (part : ℕ) → part < count → AreBounds parts part places (slice_index_or items part no_bounds)
unfolding bounds_by_part
bounds_by_part-are parts count places items are part below =
    let at : slice_index_or items part no_bounds ≡ bounds_of parts part places (length places) =
    ap (λ xs. slice_index_or xs part no_bounds) are
    ∙ get_or-map-range_with_len (λ k. bounds_of parts k places (length places)) 0 count part part
    no_bounds below (omega arith) in
    rw at (bounds_of-are parts part places)
