-- The search through the integers of a level finds the closest one, and at a tie the least.
use Rattle.std.proofs.Common.{◌≡◌, ℕ, zero, suc, ◌<◌, ◌≤◌, Bool, true, false, cond, nat_lt, refl, arith, inl, inr}
use Rattle.std.proofs.lemmas.Bool.{cases_lt, ltb-true, ltb-false}
use Rattle.std.specs.Int.{abs_diff}
use Rattle.astc_model.specs.ColourValues.{colour_value}
use Rattle.astc_model.specs.Levels.{count_of}
use Rattle.astc_model.specs.Nearest.{nearest_below, nearest_colour, nearest_weight, IsNearest}
use Rattle.astc_model.specs.WeightValues.{weight_value}
use Rattle.astc_model.specs.declared.level.Level.{Level}
use Rattle.astc_model.specs.declared.level.Level.TheVariants.{Two, Three, Four, Five, Six, Eight, Ten, Twelve, Sixteen, Twenty, TwentyFour, ThirtyTwo, Forty, FortyEight, SixtyFour, Eighty, NinetySix, OneTwentyEight, OneSixty, OneNinetyTwo, TwoFiftySix}

-- a step of the search, by the result of the comparison with the best integer so far
more_is : (value : ℕ → ℕ) (v n best : ℕ) (b : Bool) → nat_lt (abs_diff (value n) v)
    (abs_diff (value best) v) ≡ b → IsNearest value n v best
    → IsNearest value (suc n) v (cond b n best)
more_is value v n best true less h =
    let lt : abs_diff (value n) v < abs_diff (value best) v = ltb-true _ _ less in
    record {
      within = omega arith;
      nearest = λ j below. elim (cases_lt j n) [
        | inl inside ↦ let le : abs_diff (value best) v ≤ abs_diff (value j) v =
            h.nearest j inside in omega (arith, le, lt)
        | inr last ↦ let same : j ≡ n = omega arith in rw same (omega arith)
      ];
      first = λ j below. let le : abs_diff (value best) v ≤ abs_diff (value j) v =
          h.nearest j below in omega (arith, le, lt);
    }
more_is value v n best false less h =
    let le : abs_diff (value best) v ≤ abs_diff (value n) v = ltb-false _ _ less in
    record {
      within = omega (arith, h.within);
      nearest = λ j below. elim (cases_lt j n) [
        | inl inside ↦ h.nearest j inside
        | inr last ↦ let same : j ≡ n = omega arith in rw same le
      ];
      first = h.first;
    }

cond-same : (b : Bool) (n : ℕ) → cond b n n ≡ n
cond-same true n = refl
cond-same false n = refl

only_is : (value : ℕ → ℕ) (v : ℕ) → IsNearest value 1 v 0
only_is value v = record {
  within = omega arith;
  nearest = λ j below. let same : j ≡ 0 = omega arith in rw same (omega arith);
  first = λ j below. absurd (omega arith);
}

pub nearest_below-is : (value : ℕ → ℕ) (v n : ℕ)
    → IsNearest value (suc n) v (nearest_below value v (suc n))
nearest_below-is value v zero =
    rw (cond-same (nat_lt (abs_diff (value 0) v) (abs_diff (value 0) v)) 0) (only_is value v)
nearest_below-is value v (suc n) = more_is value v (suc n) (nearest_below value v (suc n))
    (nat_lt (abs_diff (value (suc n)) v) (abs_diff (value (nearest_below value v (suc n))) v)) refl
    (nearest_below-is value v n)

-- the search over any number of integers above 0
nearest_of_count : (value : ℕ → ℕ) (v n : ℕ) → 0 < n → IsNearest value n v (nearest_below value v n)
nearest_of_count value v zero some = absurd (omega arith)
nearest_of_count value v (suc n) some = nearest_below-is value v n

-- every level has integers
pub count_of-pos : (level : Level) → 0 < count_of level
count_of-pos Two = omega arith
count_of-pos Three = omega arith
count_of-pos Four = omega arith
count_of-pos Five = omega arith
count_of-pos Six = omega arith
count_of-pos Eight = omega arith
count_of-pos Ten = omega arith
count_of-pos Twelve = omega arith
count_of-pos Sixteen = omega arith
count_of-pos Twenty = omega arith
count_of-pos TwentyFour = omega arith
count_of-pos ThirtyTwo = omega arith
count_of-pos Forty = omega arith
count_of-pos FortyEight = omega arith
count_of-pos SixtyFour = omega arith
count_of-pos Eighty = omega arith
count_of-pos NinetySix = omega arith
count_of-pos OneTwentyEight = omega arith
count_of-pos OneSixty = omega arith
count_of-pos OneNinetyTwo = omega arith
count_of-pos TwoFiftySix = omega arith

pub nearest_colour-is : (level : Level) (v : ℕ) → IsNearest (colour_value level) (count_of level) v
    (nearest_colour level v)
unfolding nearest_colour
nearest_colour-is level v = nearest_of_count (colour_value level) v (count_of level)
    (count_of-pos level)

pub nearest_weight-is : (level : Level) (v : ℕ) → IsNearest (weight_value level) (count_of level) v
    (nearest_weight level v)
unfolding nearest_weight
nearest_weight-is level v = nearest_of_count (weight_value level) v (count_of level)
    (count_of-pos level)
