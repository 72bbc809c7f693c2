-- The order of the integers of a colour level by their values.
use Rattle.std.proofs.Common.{◌≡◌, ℕ, zero, suc, ◌+◌, ◌-◌, ◌/◌, ◌%◌, ◌<◌, ◌≤◌, ◌&&◌, ◌||◌, Bool, true, false, refl, subst, ◌∙◌, arith, inl, inr}
use Rattle.std.specs.Prelude.{nat_lt, nat_le, nat_eq, if◌then◌else◌}
use Rattle.std.proofs.lemmas.Bool.{and_parts, ltb-true, eqb-true, lt-leb, lt-ltb, le-ltb, cases_lt}
use Rattle.astc_model.specs.ColourValues.{colour_value}
use Rattle.astc_model.specs.Levels.{count_of}
use Rattle.astc_model.specs.declared.level.Level.{Level}
use Rattle.astc_model.specs.declared.level.Level.TheVariants.{Two, Three, Four, Five, Six, Eight, Ten, Twelve, Sixteen, Twenty, TwentyFour, ThirtyTwo, Forty, FortyEight, SixtyFour, Eighty, NinetySix, OneTwentyEight, OneSixty, OneNinetyTwo, TwoFiftySix}
use Rattle.astc_model.proofs.SumLaws.{every_below}
use Rattle.colour_bounds.specs.Ranks.{integer_at, rank_of}

-- the properties that are tested for each number below the count of a level
abbrev ranks_at : Level → ℕ → Bool
ranks_at level k = nat_lt (integer_at (count_of level) k) (count_of level)
    && nat_lt (rank_of (count_of level) k) (count_of level)

abbrev inverse_at : Level → ℕ → Bool
inverse_at level k = nat_eq (rank_of (count_of level) (integer_at (count_of level) k)) k
    && nat_eq (integer_at (count_of level) (rank_of (count_of level) k)) k

abbrev rising_at : Level → ℕ → Bool
rising_at level k = nat_le (count_of level) (k + 1)
    || nat_lt (colour_value level (integer_at (count_of level) k))
    (colour_value level (integer_at (count_of level) (k + 1)))

-- half of the values have the top bit 0; a quarter of all, rounded up, also have the next bit 0
abbrev quarter : (count k : ℕ) → ℕ
quarter count k =
    if nat_lt k ((count + 3) / 4) then 0 else
    if nat_lt k (count / 2) then 1 else
    if nat_lt k (count - (count + 3) / 4) then 2 else
    3

abbrev quarter_at : Level → ℕ → Bool
quarter_at level k = nat_eq (count_of level % 2) 0
    && nat_eq (colour_value level (integer_at (count_of level) k) / 64)
    (quarter (count_of level) k)

abbrev all_at : Level → ℕ → Bool
all_at level k = ranks_at level k
    && (inverse_at level k && (rising_at level k && quarter_at level k))

checked : (level : Level) (k : ℕ) → 6 ≤ count_of level → k < count_of level → all_at level k ≡ true
unfolding colour_value
checked Two k some lt = absurd (omega (arith, some))
checked Three k some lt = absurd (omega (arith, some))
checked Four k some lt = absurd (omega (arith, some))
checked Five k some lt = absurd (omega (arith, some))
checked Six k some lt = every_below (all_at Six) 6 k refl lt
checked Eight k some lt = every_below (all_at Eight) 8 k refl lt
checked Ten k some lt = every_below (all_at Ten) 10 k refl lt
checked Twelve k some lt = every_below (all_at Twelve) 12 k refl lt
checked Sixteen k some lt = every_below (all_at Sixteen) 16 k refl lt
checked Twenty k some lt = every_below (all_at Twenty) 20 k refl lt
checked TwentyFour k some lt = every_below (all_at TwentyFour) 24 k refl lt
checked ThirtyTwo k some lt = every_below (all_at ThirtyTwo) 32 k refl lt
checked Forty k some lt = every_below (all_at Forty) 40 k refl lt
checked FortyEight k some lt = every_below (all_at FortyEight) 48 k refl lt
checked SixtyFour k some lt = every_below (all_at SixtyFour) 64 k refl lt
checked Eighty k some lt = every_below (all_at Eighty) 80 k refl lt
checked NinetySix k some lt = every_below (all_at NinetySix) 96 k refl lt
checked OneTwentyEight k some lt = every_below (all_at OneTwentyEight) 128 k refl lt
checked OneSixty k some lt = every_below (all_at OneSixty) 160 k refl lt
checked OneNinetyTwo k some lt = every_below (all_at OneNinetyTwo) 192 k refl lt
checked TwoFiftySix k some lt = every_below (all_at TwoFiftySix) 256 k refl lt

module _ (level : Level) (k : ℕ) (some : 6 ≤ count_of level) (lt : k < count_of level) where
  whole : (ranks_at level k ≡ true)
      × (inverse_at level k && (rising_at level k && quarter_at level k) ≡ true)
  whole = and_parts (ranks_at level k)
      (inverse_at level k && (rising_at level k && quarter_at level k)) (checked level k some lt)

  ranges : (nat_lt (integer_at (count_of level) k) (count_of level) ≡ true)
      × (nat_lt (rank_of (count_of level) k) (count_of level) ≡ true)
  ranges = and_parts _ _ whole.0

  rest : (inverse_at level k ≡ true) × (rising_at level k && quarter_at level k ≡ true)
  rest = and_parts (inverse_at level k) (rising_at level k && quarter_at level k) whole.1

  last : (rising_at level k ≡ true) × (quarter_at level k ≡ true)
  last = and_parts (rising_at level k) (quarter_at level k) rest.1

  quarters : (nat_eq (count_of level % 2) 0 ≡ true)
      × (nat_eq (colour_value level (integer_at (count_of level) k) / 64)
      (quarter (count_of level) k) ≡ true)
  quarters = and_parts _ _ last.1

  pub even_count : count_of level % 2 ≡ 0
  even_count = eqb-true (count_of level % 2) 0 quarters.0

  quarter_is : colour_value level (integer_at (count_of level) k) / 64 ≡ quarter (count_of level) k
  quarter_is = eqb-true (colour_value level (integer_at (count_of level) k) / 64)
      (quarter (count_of level) k) quarters.1

  inverses : (nat_eq (rank_of (count_of level) (integer_at (count_of level) k)) k ≡ true)
      × (nat_eq (integer_at (count_of level) (rank_of (count_of level) k)) k ≡ true)
  inverses = and_parts _ _ rest.0

  pub integer_range : integer_at (count_of level) k < count_of level
  integer_range = ltb-true (integer_at (count_of level) k) (count_of level) ranges.0

  pub rank_range : rank_of (count_of level) k < count_of level
  rank_range = ltb-true (rank_of (count_of level) k) (count_of level) ranges.1

  pub rank_of_integer : rank_of (count_of level) (integer_at (count_of level) k) ≡ k
  rank_of_integer = eqb-true (rank_of (count_of level) (integer_at (count_of level) k)) k inverses.0

  pub integer_of_rank : integer_at (count_of level) (rank_of (count_of level) k) ≡ k
  integer_of_rank = eqb-true (integer_at (count_of level) (rank_of (count_of level) k)) k inverses.1

  next_rises : k + 1 < count_of level → colour_value level (integer_at (count_of level) k)
      < colour_value level (integer_at (count_of level) (k + 1))
  next_rises more =
      ltb-true (colour_value level (integer_at (count_of level) k))
      (colour_value level (integer_at (count_of level) (k + 1)))
      (second _ _ (lt-leb (count_of level) (k + 1) more) last.0)
    where
      second : (x y : Bool) → x ≡ false → (x || y) ≡ true → y ≡ true
      second true y off is = absurd (cc)
      second false y off is = is

-- the two top bits of the values by rank
module _ (x n k : ℕ) (is : x ≡ quarter n k) where
  first_of : k < (n + 3) / 4 → x ≡ 0
  first_of low = is ∙ rw (lt-ltb k ((n + 3) / 4) low) refl

  second_of : (n + 3) / 4 ≤ k → k < n / 2 → x ≡ 1
  second_of high low = is ∙ rw (le-ltb k ((n + 3) / 4) high, lt-ltb k (n / 2) low) refl

  third_of : 6 ≤ n → n / 2 ≤ k → k < n - (n + 3) / 4 → x ≡ 2
  third_of some high low = is ∙ rw (
    le-ltb k ((n + 3) / 4) (omega (arith, high, some)),
    le-ltb k (n / 2) high,
    lt-ltb k (n - (n + 3) / 4) low,
  ) refl

  fourth_of : 6 ≤ n → n % 2 ≡ 0 → n - (n + 3) / 4 ≤ k → x ≡ 3
  fourth_of some even high = is ∙ rw (
    le-ltb k ((n + 3) / 4) (omega (arith, high, some)),
    le-ltb k (n / 2) (omega (arith, high, some, even)),
    le-ltb k (n - (n + 3) / 4) high,
  ) refl

module _ (level : Level) (k : ℕ) (some : 6 ≤ count_of level) (lt : k < count_of level) where
  abbrev n : ℕ
  n = count_of level

  abbrev byte : ℕ
  byte = colour_value level (integer_at n k)

  pub first_quarter : k < (n + 3) / 4 → byte / 64 ≡ 0
  first_quarter = first_of (byte / 64) n k (quarter_is level k some lt)

  pub second_quarter : (n + 3) / 4 ≤ k → k < n / 2 → byte / 64 ≡ 1
  second_quarter = second_of (byte / 64) n k (quarter_is level k some lt)

  pub third_quarter : n / 2 ≤ k → k < n - (n + 3) / 4 → byte / 64 ≡ 2
  third_quarter = third_of (byte / 64) n k (quarter_is level k some lt) some

  pub fourth_quarter : n - (n + 3) / 4 ≤ k → byte / 64 ≡ 3
  fourth_quarter = fourth_of (byte / 64) n k (quarter_is level k some lt) some
      (even_count level k some lt)

-- values rise with ranks
pub values_rise : (level : Level) (a b : ℕ) → 6 ≤ count_of level → a ≤ b → b < count_of level
    → colour_value level (integer_at (count_of level) a)
    ≤ colour_value level (integer_at (count_of level) b)
values_rise level a zero some order lt =
    let same : a ≡ 0 = omega (arith, order) in
    rw same (omega arith)
values_rise level a (suc b) some order lt =
    elim (cases_lt a (suc b)) [
      | inl less ↦
          let before = values_rise level a b some (omega (arith, less)) (omega (arith, lt)) in
          let next = next_rises level b some (omega (arith, lt)) (omega (arith, lt)) in
          let later : colour_value level (integer_at (count_of level) b)
          < colour_value level (integer_at (count_of level) (suc b)) =
          subst (λ k. colour_value level (integer_at (count_of level) b)
          < colour_value level (integer_at (count_of level) k)) (plus_one b) next in
          omega (arith, before, later)
      | inr same ↦ let is : a ≡ suc b = omega (arith, order, same) in rw is (omega arith)
    ]
  where
    plus_one : (n : ℕ) → n + 1 ≡ suc n
    plus_one n = omega arith

pub values_rise_strictly : (level : Level) (a b : ℕ) → 6 ≤ count_of level → a < b
    → b < count_of level
    → colour_value level (integer_at (count_of level) a)
    < colour_value level (integer_at (count_of level) b)
values_rise_strictly level a b some less lt =
    let next = next_rises level a some (omega (arith, less, lt)) (omega (arith, less, lt)) in
    let rest = values_rise level (a + 1) b some (omega (arith, less)) lt in
    omega (arith, next, rest)

-- ranks rise with values
pub ranks_rise : (level : Level) (i j : ℕ) → 6 ≤ count_of level → i < count_of level
    → j < count_of level
    → rank_of (count_of level) i ≤ rank_of (count_of level) j
    → colour_value level i ≤ colour_value level j
ranks_rise level i j some within also order =
    subst (λ k. colour_value level k ≤ colour_value level j) (integer_of_rank level i some within)
    (subst (λ k. colour_value level (integer_at (count_of level) (rank_of (count_of level) i))
    ≤ colour_value level k) (integer_of_rank level j some also)
    (values_rise level (rank_of (count_of level) i) (rank_of (count_of level) j) some order
    (rank_range level j some also)))

-- a level has at most 256 integers
pub few : (level : Level) → count_of level ≤ 256
few Two = omega arith
few Three = omega arith
few Four = omega arith
few Five = omega arith
few Six = omega arith
few Eight = omega arith
few Ten = omega arith
few Twelve = omega arith
few Sixteen = omega arith
few Twenty = omega arith
few TwentyFour = omega arith
few ThirtyTwo = omega arith
few Forty = omega arith
few FortyEight = omega arith
few SixtyFour = omega arith
few Eighty = omega arith
few NinetySix = omega arith
few OneTwentyEight = omega arith
few OneSixty = omega arith
few OneNinetyTwo = omega arith
few TwoFiftySix = omega arith
