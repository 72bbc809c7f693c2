-- A property that a test finds true for all fourteen footprints holds for every footprint; sides
-- are 4 to 12.
use Rattle.std.proofs.Common.{◌≡◌, ℕ, ◌*◌, ◌/◌, ◌%◌, ◌<◌, ◌≤◌, ◌==◌, ◌&&◌, Bool, true, false, IsTrue, nat_le, refl, List, [], ◌∷◌, mod-lt, arith, inl, inr, mul-le-mul}
use Rattle.std.proofs.Math.Nat.{mul-le-mul_left}
use Rattle.std.proofs.lemmas.Bool.{cases_lt, eqb-true, leb-true}
use Rattle.std.specs.List.{list_any, list_all}
use Rattle.astc_model.specs.Footprints.{is_footprint, footprint_sides}

both_true : (a b : Bool) → (a && b) ≡ true → (a ≡ true) × (b ≡ true)
both_true true b e = (refl, e)
both_true false b e = cc

-- w by h is the first pair of sides or one of the rest
first_or_rest : (test : ℕ → ℕ → Bool) (w h : ℕ) (first : ℕ × ℕ) (rest : List (ℕ × ℕ)) (b : Bool)
    → (first.0 == w && first.1 == h) ≡ b
    → IsTrue (test first.0 first.1 && list_all (λ sides. test sides.0 sides.1) rest)
    → (IsTrue (list_any (λ sides. sides.0 == w && sides.1 == h) rest) → IsTrue (test w h))
    → IsTrue (list_any (λ sides. sides.0 == w && sides.1 == h) (first ∷ rest)) → IsTrue (test w h)
first_or_rest test w h first rest true e all later listed =
    let same = both_true (first.0 == w) (first.1 == h) e in
    let wide : first.0 ≡ w = eqb-true _ _ same.0 in
    let high : first.1 ≡ h = eqb-true _ _ same.1 in
    let here : test first.0 first.1 ≡ true = (both_true (test first.0 first.1) _ all).0 in
    rw (wide, high) at here
first_or_rest test w h first rest false e all later listed = later (rw e at listed)

listed_passes : (test : ℕ → ℕ → Bool) (w h : ℕ) (pairs : List (ℕ × ℕ))
    → IsTrue (list_all (λ sides. test sides.0 sides.1) pairs)
    → IsTrue (list_any (λ sides. sides.0 == w && sides.1 == h) pairs) → IsTrue (test w h)
listed_passes test w h [] all listed = cc
listed_passes test w h (first ∷ rest) all listed =
    first_or_rest test w h first rest (first.0 == w && first.1 == h) refl all
    (listed_passes test w h rest
    (both_true (test first.0 first.1) (list_all (λ sides. test sides.0 sides.1) rest)
    all).1) listed

-- a test that is true for all fourteen footprints is true for every footprint; the first premise is
-- usually `refl`
pub every_footprint : (test : ℕ → ℕ → Bool) (w h : ℕ)
    → IsTrue (list_all (λ sides. test sides.0 sides.1) footprint_sides) → IsTrue (is_footprint w h)
    → IsTrue (test w h)
every_footprint test w h all listed = listed_passes test w h footprint_sides all listed

pub record IsSides (w h : ℕ) : Type 0 where
  pub least_width : 4 ≤ w
  pub most_width : w ≤ 12
  pub least_height : 4 ≤ h
  pub most_height : h ≤ 12

pub is_footprint-sides : (w h : ℕ) → IsTrue (is_footprint w h) → IsSides w h
is_footprint-sides w h listed = record {
  least_width = leb-true 4 w (every_footprint (λ x y. nat_le 4 x) w h refl listed);
  most_width = leb-true w 12 (every_footprint (λ x y. nat_le x 12) w h refl listed);
  least_height = leb-true 4 h (every_footprint (λ x y. nat_le 4 y) w h refl listed);
  most_height = leb-true h 12 (every_footprint (λ x y. nat_le y 12) w h refl listed);
}

-- a footprint has at most 144 places
pub sides_few : (w h : ℕ) → IsTrue (is_footprint w h) → w * h ≤ 144
sides_few w h sides = let s : IsSides w h = is_footprint-sides w h sides in
    mul-le-mul s.most_width s.most_height

-- the column and the row of a place are within the sides
pub column_below : (w h p : ℕ) → IsTrue (is_footprint w h) → p % w < w
column_below w h p sides = let s : IsSides w h = is_footprint-sides w h sides in
    mod-lt p (omega (arith, s.least_width))

pub row_below : (w h p : ℕ) → IsTrue (is_footprint w h) → p < w * h → p / w < h
row_below w h p sides below =
    let s : IsSides w h = is_footprint-sides w h sides in
    elim (cases_lt (p / w) h) [
      | inl less ↦ less
      | inr more ↦ absurd (omega (arith, mul-le-mul_left w more, s.least_width))
    ]
