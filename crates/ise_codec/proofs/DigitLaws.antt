-- Laws of the trits that T encodes and of the quints that Q encodes, proved case by case.
use Rattle.std.proofs.Common.{◌≡◌, ◌≢◌, ℕ, zero, suc, ◌<◌, ◌≤◌, Bool, true, false, IsTrue, ◌&&◌, List, [], ◌∷◌, get_or, refl, ◌∙◌, ap, arith, ltb, eqb, inl, inr}
use Rattle.std.proofs.lemmas.Bool.{ltb-true, eqb-true, eq-eqb, and_parts, and_from, both_ways, cases_eq}
use Rattle.astc_model.specs.Sums.{all_below}
use Rattle.astc_model.proofs.SumLaws.{every_below}
use Rattle.astc_model.specs.Sequences.{low_trits, trits, low_quints, quints, least_from, same_digits, least_trits, least_quints}

-- ---- the digits are small

abbrev trits_test : ℕ → Bool
trits_test t = all_below (λ i. ltb (get_or (trits t) i 0) 3) 5

all_trits : IsTrue (all_below trits_test 256)
unfolding trits low_trits
all_trits = refl

pub trits-lt : (t i : ℕ) → t < 256 → i < 5 → get_or (trits t) i 0 < 3
trits-lt t i lt within =
    ltb-true (get_or (trits t) i 0) 3 (every_below (λ j. ltb (get_or (trits t) j 0) 3) 5 i
    (every_below trits_test 256 t all_trits lt) within)

abbrev quints_test : ℕ → Bool
quints_test q = all_below (λ i. ltb (get_or (quints q) i 0) 5) 3

all_quints : IsTrue (all_below quints_test 128)
unfolding quints low_quints
all_quints = refl

pub quints-lt : (q i : ℕ) → q < 128 → i < 3 → get_or (quints q) i 0 < 5
quints-lt q i lt within =
    ltb-true (get_or (quints q) i 0) 5 (every_below (λ j. ltb (get_or (quints q) j 0) 5) 3 i
    (every_below quints_test 128 q all_quints lt) within)

-- ---- the least number that encodes given digits

from_same_digits : (xs ys : List ℕ) → same_digits xs ys ≡ true → xs ≡ ys
from_same_digits [] [] e = refl
from_same_digits [] (y ∷ ys) e = cc
from_same_digits (x ∷ xs) [] e = cc
from_same_digits (x ∷ xs) (y ∷ ys) e =
    let both : (eqb x y ≡ true) × (same_digits xs ys ≡ true) =
    and_parts (eqb x y) (same_digits xs ys) e in
    let head : x ≡ y = eqb-true x y both.0 in
    let tail : xs ≡ ys = from_same_digits xs ys both.1 in
    cc

same_digits-self : (xs : List ℕ) → same_digits xs xs ≡ true
same_digits-self [] = refl
same_digits-self (x ∷ xs) = and_from (eqb x x) (same_digits xs xs) (eq-eqb x x refl)
    (same_digits-self xs)

-- no number before the first one for which p is true has this property
least_from-first : (p : ℕ → Bool) (n k t : ℕ) → k ≤ t → t < least_from p n k → p t ≡ false
least_from-first p zero k t from lt = absurd (omega arith)
least_from-first p (suc n) k t from lt =
    let step : (b : Bool) → p k ≡ b
    → t < (elim b as (λ _. ℕ) [ true ↦ k | false ↦ least_from p n (suc k) ]) → p t ≡ false =
    λ b.
    elim b as (λ v. p k ≡ v → t < (elim v as (λ _. ℕ) [ true ↦ k | false ↦ least_from p n (suc k) ])
    → p t ≡ false) [
      | true ↦ λ _ below. absurd (omega arith)
      | false ↦ λ e below. elim (cases_eq t k) [
        | inl same ↦ ap p same ∙ e
        | inr other ↦ least_from-first p n (suc k) t (omega arith) below
      ]
    ]
    in
    step (p k) refl lt

-- no smaller T encodes the trits
pub least_trits-least : (digits : List ℕ) (t : ℕ) → t < least_trits digits → trits t ≢ digits
unfolding least_trits
least_trits-least digits t lt e =
    both_ways (same_digits (trits t) digits)
    (least_from-first (λ u. same_digits (trits u) digits) 256 0 t (omega arith) lt)
    (ap (λ x. same_digits x digits) e ∙ same_digits-self digits)

pub least_quints-least : (digits : List ℕ) (q : ℕ) → q < least_quints digits → quints q ≢ digits
unfolding least_quints
least_quints-least digits q lt e =
    both_ways (same_digits (quints q) digits)
    (least_from-first (λ u. same_digits (quints u) digits) 128 0 q (omega arith) lt)
    (ap (λ x. same_digits x digits) e ∙ same_digits-self digits)

-- ---- all combinations of five trits and of three quints have an encoding

abbrev trits_back : ℕ → ℕ → ℕ → ℕ → ℕ → Bool
trits_back a b c d e =
    same_digits (trits (least_trits (a ∷ b ∷ c ∷ d ∷ e ∷ []))) (a ∷ b ∷ c ∷ d ∷ e ∷ [])
    && ltb (least_trits (a ∷ b ∷ c ∷ d ∷ e ∷ [])) 256

all_trits_back : IsTrue
    (all_below (λ a. all_below
    (λ b. all_below (λ c. all_below (λ d. all_below (trits_back a b c d) 3) 3) 3) 3) 3)
unfolding trits low_trits least_trits
all_trits_back = refl

trits_back-is : (a b c d e : ℕ) → a < 3 → b < 3 → c < 3 → d < 3 → e < 3 → trits_back a b c d e
    ≡ true
trits_back-is a b c d e la lb lc ld le =
    let of_a = every_below (λ a.
    all_below (λ b. all_below (λ c. all_below (λ d. all_below (trits_back a b c d) 3) 3) 3)
    3) 3 a all_trits_back la in
    let of_b = every_below (λ b.
    all_below (λ c. all_below (λ d. all_below (trits_back a b c d) 3) 3) 3) 3 b of_a lb in
    let of_c = every_below (λ c. all_below (λ d. all_below (trits_back a b c d) 3) 3) 3 c of_b lc in
    let of_d = every_below (λ d. all_below (trits_back a b c d) 3) 3 d of_c ld in
    every_below (trits_back a b c d) 3 e of_d le

pub trits-least_trits : (a b c d e : ℕ) → a < 3 → b < 3 → c < 3 → d < 3 → e < 3
    → trits (least_trits (a ∷ b ∷ c ∷ d ∷ e ∷ [])) ≡ a ∷ b ∷ c ∷ d ∷ e ∷ []
trits-least_trits a b c d e la lb lc ld le =
    from_same_digits (trits (least_trits (a ∷ b ∷ c ∷ d ∷ e ∷ []))) (a ∷ b ∷ c ∷ d ∷ e ∷ [])
    (and_parts (same_digits (trits (least_trits (a ∷ b ∷ c ∷ d ∷ e ∷ []))) (a ∷ b ∷ c ∷ d ∷ e ∷ []))
    (ltb (least_trits (a ∷ b ∷ c ∷ d ∷ e ∷ [])) 256)
    (trits_back-is a b c d e la lb lc ld le)).0

pub least_trits-lt : (a b c d e : ℕ) → a < 3 → b < 3 → c < 3 → d < 3 → e < 3
    → least_trits (a ∷ b ∷ c ∷ d ∷ e ∷ []) < 256
least_trits-lt a b c d e la lb lc ld le =
    ltb-true (least_trits (a ∷ b ∷ c ∷ d ∷ e ∷ [])) 256
    (and_parts (same_digits (trits (least_trits (a ∷ b ∷ c ∷ d ∷ e ∷ []))) (a ∷ b ∷ c ∷ d ∷ e ∷ []))
    (ltb (least_trits (a ∷ b ∷ c ∷ d ∷ e ∷ [])) 256)
    (trits_back-is a b c d e la lb lc ld le)).1

abbrev quints_back : ℕ → ℕ → ℕ → Bool
quints_back a b c =
    same_digits (quints (least_quints (a ∷ b ∷ c ∷ []))) (a ∷ b ∷ c ∷ [])
    && ltb (least_quints (a ∷ b ∷ c ∷ [])) 128

all_quints_back : IsTrue (all_below (λ a. all_below (λ b. all_below (quints_back a b) 5) 5) 5)
unfolding quints low_quints least_quints
all_quints_back = refl

quints_back-is : (a b c : ℕ) → a < 5 → b < 5 → c < 5 → quints_back a b c ≡ true
quints_back-is a b c la lb lc =
    let of_a = every_below (λ a. all_below (λ b. all_below (quints_back a b) 5) 5) 5 a
    all_quints_back la in
    let of_b = every_below (λ b. all_below (quints_back a b) 5) 5 b of_a lb in
    every_below (quints_back a b) 5 c of_b lc

pub quints-least_quints : (a b c : ℕ) → a < 5 → b < 5 → c < 5
    → quints (least_quints (a ∷ b ∷ c ∷ [])) ≡ a ∷ b ∷ c ∷ []
quints-least_quints a b c la lb lc =
    from_same_digits (quints (least_quints (a ∷ b ∷ c ∷ []))) (a ∷ b ∷ c ∷ [])
    (and_parts (same_digits (quints (least_quints (a ∷ b ∷ c ∷ []))) (a ∷ b ∷ c ∷ []))
    (ltb (least_quints (a ∷ b ∷ c ∷ [])) 128) (quints_back-is a b c la lb lc)).0

pub least_quints-lt : (a b c : ℕ) → a < 5 → b < 5 → c < 5 → least_quints (a ∷ b ∷ c ∷ []) < 128
least_quints-lt a b c la lb lc =
    ltb-true (least_quints (a ∷ b ∷ c ∷ [])) 128
    (and_parts (same_digits (quints (least_quints (a ∷ b ∷ c ∷ []))) (a ∷ b ∷ c ∷ []))
    (ltb (least_quints (a ∷ b ∷ c ∷ [])) 128) (quints_back-is a b c la lb lc)).1

-- ---- the missing integers of an incomplete last group take no bits

pub least_trits-none : least_trits (0 ∷ 0 ∷ 0 ∷ 0 ∷ 0 ∷ []) ≡ 0
unfolding trits low_trits least_trits
least_trits-none = refl

one_trit : IsTrue (all_below (λ a. ltb (least_trits (a ∷ 0 ∷ 0 ∷ 0 ∷ 0 ∷ [])) 4) 3)
unfolding trits low_trits least_trits
one_trit = refl

pub least_trits-one : (a : ℕ) → a < 3 → least_trits (a ∷ 0 ∷ 0 ∷ 0 ∷ 0 ∷ []) < 4
least_trits-one a la = ltb-true (least_trits (a ∷ 0 ∷ 0 ∷ 0 ∷ 0 ∷ [])) 4
    (every_below (λ a. ltb (least_trits (a ∷ 0 ∷ 0 ∷ 0 ∷ 0 ∷ [])) 4) 3 a one_trit la)

two_trits : IsTrue (all_below
    (λ a. all_below (λ b. ltb (least_trits (a ∷ b ∷ 0 ∷ 0 ∷ 0 ∷ [])) 16) 3) 3)
unfolding trits low_trits least_trits
two_trits = refl

pub least_trits-two : (a b : ℕ) → a < 3 → b < 3 → least_trits (a ∷ b ∷ 0 ∷ 0 ∷ 0 ∷ []) < 16
least_trits-two a b la lb =
    let of_a = every_below (λ a. all_below (λ b. ltb (least_trits (a ∷ b ∷ 0 ∷ 0 ∷ 0 ∷ [])) 16) 3) 3
    a two_trits la in
    ltb-true (least_trits (a ∷ b ∷ 0 ∷ 0 ∷ 0 ∷ [])) 16
    (every_below (λ b. ltb (least_trits (a ∷ b ∷ 0 ∷ 0 ∷ 0 ∷ [])) 16) 3 b of_a lb)

three_trits : IsTrue (all_below
    (λ a. all_below (λ b. all_below (λ c. ltb (least_trits (a ∷ b ∷ c ∷ 0 ∷ 0 ∷ [])) 32) 3) 3)
    3)
unfolding trits low_trits least_trits
three_trits = refl

pub least_trits-three : (a b c : ℕ) → a < 3 → b < 3 → c < 3
    → least_trits (a ∷ b ∷ c ∷ 0 ∷ 0 ∷ []) < 32
least_trits-three a b c la lb lc =
    let of_a = every_below (λ a.
    all_below (λ b. all_below (λ c. ltb (least_trits (a ∷ b ∷ c ∷ 0 ∷ 0 ∷ [])) 32) 3) 3) 3 a
    three_trits la in
    let of_b = every_below (λ b. all_below (λ c. ltb (least_trits (a ∷ b ∷ c ∷ 0 ∷ 0 ∷ [])) 32) 3) 3
    b of_a lb in
    ltb-true (least_trits (a ∷ b ∷ c ∷ 0 ∷ 0 ∷ [])) 32
    (every_below (λ c. ltb (least_trits (a ∷ b ∷ c ∷ 0 ∷ 0 ∷ [])) 32) 3 c of_b lc)

four_trits : IsTrue (all_below
    (λ a. all_below (λ b. all_below
    (λ c. all_below (λ d. ltb (least_trits (a ∷ b ∷ c ∷ d ∷ 0 ∷ [])) 128) 3) 3) 3) 3)
unfolding trits low_trits least_trits
four_trits = refl

pub least_trits-four : (a b c d : ℕ) → a < 3 → b < 3 → c < 3 → d < 3
    → least_trits (a ∷ b ∷ c ∷ d ∷ 0 ∷ []) < 128
least_trits-four a b c d la lb lc ld =
    let of_a = every_below (λ a.
    all_below (λ b. all_below
    (λ c. all_below (λ d. ltb (least_trits (a ∷ b ∷ c ∷ d ∷ 0 ∷ [])) 128) 3) 3) 3) 3 a
    four_trits la in
    let of_b = every_below (λ b.
    all_below (λ c. all_below (λ d. ltb (least_trits (a ∷ b ∷ c ∷ d ∷ 0 ∷ [])) 128) 3) 3) 3
    b of_a lb in
    let of_c = every_below (λ c. all_below (λ d. ltb (least_trits (a ∷ b ∷ c ∷ d ∷ 0 ∷ [])) 128) 3)
    3 c of_b lc in
    ltb-true (least_trits (a ∷ b ∷ c ∷ d ∷ 0 ∷ [])) 128
    (every_below (λ d. ltb (least_trits (a ∷ b ∷ c ∷ d ∷ 0 ∷ [])) 128) 3 d of_c ld)

pub least_quints-none : least_quints (0 ∷ 0 ∷ 0 ∷ []) ≡ 0
unfolding quints low_quints least_quints
least_quints-none = refl

one_quint : IsTrue (all_below (λ a. ltb (least_quints (a ∷ 0 ∷ 0 ∷ [])) 8) 5)
unfolding quints low_quints least_quints
one_quint = refl

pub least_quints-one : (a : ℕ) → a < 5 → least_quints (a ∷ 0 ∷ 0 ∷ []) < 8
least_quints-one a la = ltb-true (least_quints (a ∷ 0 ∷ 0 ∷ [])) 8
    (every_below (λ a. ltb (least_quints (a ∷ 0 ∷ 0 ∷ [])) 8) 5 a one_quint la)

two_quints : IsTrue (all_below (λ a. all_below (λ b. ltb (least_quints (a ∷ b ∷ 0 ∷ [])) 32) 5) 5)
unfolding quints low_quints least_quints
two_quints = refl

pub least_quints-two : (a b : ℕ) → a < 5 → b < 5 → least_quints (a ∷ b ∷ 0 ∷ []) < 32
least_quints-two a b la lb =
    let of_a = every_below (λ a. all_below (λ b. ltb (least_quints (a ∷ b ∷ 0 ∷ [])) 32) 5) 5 a
    two_quints la in
    ltb-true (least_quints (a ∷ b ∷ 0 ∷ [])) 32
    (every_below (λ b. ltb (least_quints (a ∷ b ∷ 0 ∷ [])) 32) 5 b of_a lb)
