-- The level of the colour integers is the greatest one that fits.
use Rattle.std.proofs.Common.{◌≡◌, ℕ, ◌+◌, ◌<◌, ◌≤◌, Bool, true, false, cond, ◌&&◌, nat_le, IsTrue, List, [], ◌∷◌, Option, None, Some, IfSome, IsNone, ◌↔◌, refl, sym, ◌∙◌, ap, arith, ◌⊎◌, inl, inr}
use Rattle.std.specs.List.{find, list_all}
use Rattle.std.proofs.lemmas.Bool.{and_parts, leb-true, le-leb, leb-false, lt-leb}
use Rattle.astc_model.specs.declared.level.Level.{Level}
use Rattle.astc_model.specs.declared.level.Level.TheVariants.{Two, Three, Four, Five, Six, Eight, Ten, Twelve, Sixteen, Twenty, TwentyFour, ThirtyTwo, Forty, FortyEight, SixtyFour, Eighty, NinetySix, OneTwentyEight, OneSixty, OneNinetyTwo, TwoFiftySix}
use Rattle.astc_model.specs.Levels.{count_of, sequence_bits}
use Rattle.astc_model.specs.Shapes.{colour_levels, greatest_fit, IsGreatestFit}

-- a level occurs in a list
abbrev In : Level → List Level → Type 0
In y [] = ⊥
In y (x ∷ xs) = (y ≡ x) ⊎ In y xs

abbrev is_descending : List Level → Bool
is_descending [] = true
is_descending (x ∷ xs) = list_all (λ y. nat_le (count_of y) (count_of x)) xs && is_descending xs

all-in : (p : Level → Bool) (xs : List Level) (y : Level) → IsTrue (list_all p xs) → In y xs
    → IsTrue (p y)
all-in p [] y all here = absurd here
all-in p (x ∷ xs) y all (inl same) = rw same ((and_parts (p x) (list_all p xs) all).0)
all-in p (x ∷ xs) y all (inr later) = all-in p xs y ((and_parts (p x) (list_all p xs) all).1) later

-- x is the level with the greatest count among those in the list for which p is true
record IsGreatest (p : Level → Bool) (xs : List Level) (x : Level) : Type 0 where
  passes : IsTrue (p x)
  inside : In x xs
  greatest : (y : Level) → In y xs → IsTrue (p y) → count_of y ≤ count_of x

true-false : (b : Bool) → b ≡ true → b ≡ false → ⊥
true-false b yes_here no_here = cc

some-same : (x y : Level) → ◌≡◌ {A = Option Level} (Some x) (Some y) → x ≡ y
some-same x y is = cc

none-some : (y : Level) → ◌≡◌ {A = Option Level} None (Some y) → ⊥
none-some y is = cc

find-step : (p : Level → Bool) (first : Level) (xs : List Level) (x : Level) (passes : Bool)
    → p first ≡ passes
    → IsTrue (list_all (λ y. nat_le (count_of y) (count_of first)) xs)
    → (find p xs ≡ Some x → IsGreatest p xs x)
    → cond passes (Some first) (find p xs) ≡ Some x → IsGreatest p (first ∷ xs) x
find-step p first xs x true here below rest found =
    let same : first ≡ x = some-same first x found in
    record {
      passes = rw (sym same) here;
      inside = inl (sym same);
      greatest = λ y place passes. elim place [
        | inl first_place ↦ rw (first_place, sym same) (omega arith)
        | inr later ↦ rw (sym same)
            (leb-true (count_of y) (count_of first)
            (all-in (λ y. nat_le (count_of y) (count_of first)) xs y below later))
      ];
    }
find-step p first xs x false here below rest found =
    let after : IsGreatest p xs x = rest found in
    record {
      passes = after.passes;
      inside = inr after.inside;
      greatest = λ y place passes. elim place [
        | inl first_place ↦ absurd (true-false (p y) passes (ap p first_place ∙ here))
        | inr later ↦ after.greatest y later passes
      ];
    }

find-greatest : (p : Level → Bool) (xs : List Level) (x : Level) → IsTrue (is_descending xs)
    → find p xs ≡ Some x → IsGreatest p xs x
find-greatest p [] x order found = absurd (none-some x found)
find-greatest p (first ∷ xs) x order found =
    let both = and_parts (list_all (λ y. nat_le (count_of y) (count_of first)) xs)
    (is_descending xs) order in
    find-step p first xs x (p first) refl both.0 (λ later. find-greatest p xs x both.1 later) found

-- `find` returns None exactly if p is true for no level of the list
none-step : (p : Level → Bool) (first : Level) (xs : List Level) (passes : Bool) → p first ≡ passes
    → (find p xs ≡ None → (y : Level) → In y xs → p y ≡ false)
    → cond passes (Some first) (find p xs) ≡ None
    → (y : Level) → In y (first ∷ xs) → p y ≡ false
none-step p first xs true here rest found = λ y place. absurd (none-some first (sym found))
none-step p first xs false here rest found = λ y place. elim place [
  | inl same ↦ ap p same ∙ here
  | inr later ↦ rest found y later
]

find-none : (p : Level → Bool) (xs : List Level) → find p xs ≡ None → (y : Level) → In y xs → p y
    ≡ false
find-none p [] found = λ y place. absurd place
find-none p (first ∷ xs) found = none-step p first xs (p first) refl (find-none p xs) found

none-found : (p : Level → Bool) (xs : List Level) → ((y : Level) → In y xs → p y ≡ false)
    → find p xs ≡ None
none-found p [] fails = refl
none-found p (first ∷ xs) fails =
    rw (fails first (inl refl)) (none-found p xs (λ y later. fails y (inr later)))

-- every level from 6 on is in the list of colour levels
in-colour_levels : (y : Level) → 6 ≤ count_of y → In y colour_levels
in-colour_levels Two six = absurd (omega (arith, six))
in-colour_levels Three six = absurd (omega (arith, six))
in-colour_levels Four six = absurd (omega (arith, six))
in-colour_levels Five six = absurd (omega (arith, six))
in-colour_levels TwoFiftySix six = inl refl
in-colour_levels OneNinetyTwo six = inr (inl refl)
in-colour_levels OneSixty six = inr (inr (inl refl))
in-colour_levels OneTwentyEight six = inr (inr (inr (inl refl)))
in-colour_levels NinetySix six = inr (inr (inr (inr (inl refl))))
in-colour_levels Eighty six = inr (inr (inr (inr (inr (inl refl)))))
in-colour_levels SixtyFour six = inr (inr (inr (inr (inr (inr (inl refl))))))
in-colour_levels FortyEight six = inr (inr (inr (inr (inr (inr (inr (inl refl)))))))
in-colour_levels Forty six = inr (inr (inr (inr (inr (inr (inr (inr (inl refl))))))))
in-colour_levels ThirtyTwo six = inr (inr (inr (inr (inr (inr (inr (inr (inr (inl refl)))))))))
in-colour_levels TwentyFour six =
    inr (inr (inr (inr (inr (inr (inr (inr (inr (inr (inl refl))))))))))
in-colour_levels Twenty six =
    inr (inr (inr (inr (inr (inr (inr (inr (inr (inr (inr (inl refl)))))))))))
in-colour_levels Sixteen six =
    inr (inr (inr (inr (inr (inr (inr (inr (inr (inr (inr (inr (inl refl))))))))))))
in-colour_levels Twelve six =
    inr (inr (inr (inr (inr (inr (inr (inr (inr (inr (inr (inr (inr (inl refl)))))))))))))
in-colour_levels Ten six =
    inr (inr (inr (inr (inr (inr (inr (inr (inr (inr (inr (inr (inr (inr (inl refl))))))))))))))
in-colour_levels Eight six =
    inr (inr (inr (inr (inr
    (inr (inr (inr (inr (inr (inr (inr (inr (inr (inr (inl refl)))))))))))))))
in-colour_levels Six six =
    inr (inr (inr (inr (inr
    (inr (inr (inr (inr (inr (inr (inr (inr (inr (inr (inr (inl refl))))))))))))))))

-- a sequence of level 6 is the shortest of the colour levels
six-shortest : (y : Level) (n : ℕ) → 6 ≤ count_of y → sequence_bits Six n ≤ sequence_bits y n
six-shortest Two n six = absurd (omega (arith, six))
six-shortest Three n six = absurd (omega (arith, six))
six-shortest Four n six = absurd (omega (arith, six))
six-shortest Five n six = absurd (omega (arith, six))
six-shortest TwoFiftySix n six = omega arith
six-shortest OneNinetyTwo n six = omega arith
six-shortest OneSixty n six = omega arith
six-shortest OneTwentyEight n six = omega arith
six-shortest NinetySix n six = omega arith
six-shortest Eighty n six = omega arith
six-shortest SixtyFour n six = omega arith
six-shortest FortyEight n six = omega arith
six-shortest Forty n six = omega arith
six-shortest ThirtyTwo n six = omega arith
six-shortest TwentyFour n six = omega arith
six-shortest Twenty n six = omega arith
six-shortest Sixteen n six = omega arith
six-shortest Twelve n six = omega arith
six-shortest Ten n six = omega arith
six-shortest Eight n six = omega arith
six-shortest Six n six = omega arith

abbrev fits : ℕ → ℕ → Level → Bool
fits taken n level = nat_le (taken + sequence_bits level n) 128

pub greatest_fit-some : (taken n : ℕ) (level : Level) → greatest_fit taken n ≡ Some level
    → IsGreatestFit taken n level
unfolding greatest_fit
greatest_fit-some taken n level found =
    let best = find-greatest (fits taken n) colour_levels level refl found in
    record {
      six = leb-true 6 (count_of level)
          (all-in (λ y. nat_le 6 (count_of y)) colour_levels level refl best.inside);
      fits = leb-true _ 128 best.passes;
      greatest = λ other six fit. best.greatest other (in-colour_levels other six)
          (le-leb _ 128 fit);
    }

greatest_fit-none : (taken n : ℕ) → greatest_fit taken n ≡ None → 128 < taken + sequence_bits Six n
unfolding greatest_fit
greatest_fit-none taken n found =
    leb-false (taken + sequence_bits Six n) 128 (find-none (fits taken n) colour_levels found Six
    (in-colour_levels Six (omega arith)))

no-greatest_fit : (taken n : ℕ) → 128 < taken + sequence_bits Six n → greatest_fit taken n ≡ None
unfolding greatest_fit
no-greatest_fit taken n long =
    none-found (fits taken n) colour_levels (λ y place. lt-leb (taken + sequence_bits y n) 128
    (omega (
      arith,
      long,
      six-shortest y n
          (leb-true 6 (count_of y)
          (all-in (λ y. nat_le 6 (count_of y)) colour_levels y refl place)),
    )))

-- a result equal to `greatest_fit` is the greatest fit
pub if-greatest_fit : (taken n : ℕ) (result : Option Level) → result ≡ greatest_fit taken n
    → IfSome result (IsGreatestFit taken n)
if-greatest_fit taken n None same = tt
if-greatest_fit taken n (Some level) same = greatest_fit-some taken n level (sym same)

pub is-greatest_fit : (taken n : ℕ) (result : Option Level) → result ≡ greatest_fit taken n
    → IsNone result ↔ (128 < taken + sequence_bits Six n)
is-greatest_fit taken n None same = (λ _. greatest_fit-none taken n (sym same), λ _. refl)
is-greatest_fit taken n (Some level) same = (
  λ none. absurd (true-false true refl none),
  λ long.
      absurd (none-some level (sym (no-greatest_fit taken n long) ∙ sym same)),
)
