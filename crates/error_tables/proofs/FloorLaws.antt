-- The moments of a part's texels bound its error with any ends from below.
use Rattle.std.proofs.Common.{◌≡◌, ℕ, zero, suc, ◌+◌, ◌-◌, ◌*◌, ◌/◌, ◌<◌, ◌≤◌, List, [], ◌∷◌, length, get_or, take, refl, ap, ◌∙◌, arith, Option, None, Some}
use Rattle.std.specs.Prelude.{sum_by, slice_index_or}
use Rattle.std.proofs.Math.Nat.{mul-le-mul_left}
use Rattle.std.proofs.lemmas.List.Sums.{sum_by-cons, sum_by_more}
use Rattle.astc_model.specs.Sums.{sum_to}
use Rattle.astc_model.specs.Places.{Texel, channel}
use Rattle.astc_model.specs.Errors.{squared_difference}
use Rattle.astc_model.specs.CodedTexels.{widened, mixed}
use Rattle.astc_model.specs.declared.flavour.Flavour.{Flavour}
use Rattle.astc_model.specs.declared.flavour.Flavour.TheVariants.{Linear, Srgb}
use Rattle.moments.specs.Floors.{shown, factor_of, target, no_moments, with_texel, more_of, less_of, IsMost}
use Rattle.moments.specs.declared.Moments.{Moments}
use Rattle.moments.proofs.FloorLaws.{floored_times, floored_plus, floored_law, floored_texel, floored_nothing}
use Rattle.texel_error.specs.Shown.{Ends}
use Rattle.texel_error.specs.Decoding.{shown_of, numerators_at}
use Rattle.error_tables.specs.declared.tables.Tables.{Tables}
use Rattle.error_tables.specs.declared.floors.PartitionFloor.{PartitionFloor}
use Rattle.error_tables.specs.Trials.{error_with, coloured}
use Rattle.error_tables.specs.Floors.{widening_of, weight_at, channel_from, channel_part, one_inside, inside_at, AreMomentsOf, IsOnePlaceMore, IsPartFloor, form_more, form_less, moments_at, channel_more, channel_less, weight_sum}

-- ---- one place more

module _ (tables : Tables) (c p : ℕ) where
  pub more_inside : (old new : Moments) (texel : Texel) (weight wanted : ℕ)
      → slice_index_or tables.places.now p None ≡ Some texel → weight ≡ weight_at tables p c
      → weight ≤ 64
      → wanted ≡ channel c texel → new ≡ with_texel old (64 - weight) weight
      (target (widening_of tables.decoded.flavour c) wanted) → IsOnePlaceMore tables c p old new
  unfolding channel_part inside_at
  more_inside old new texel weight wanted there weight_is fits wanted_is new_is = record {
    grows = λ first second e n before.
        let part : channel_part tables c first second p
        ≡ squared_difference (shown (widening_of tables.decoded.flavour c) first second weight)
        wanted =
        rw (there, weight_is, wanted_is) refl in
        let one : inside_at tables.places.now p ≡ 1 = rw there refl in
        rw (part, one, new_is) (floored_texel (widening_of tables.decoded.flavour c) old first
        second weight wanted e n fits before);
  }

  pub more_outside : (moments : Moments) → slice_index_or tables.places.now p None ≡ None
      → IsOnePlaceMore tables c p moments moments
  unfolding channel_part inside_at
  more_outside moments there = record {
    grows = λ first second e n before.
        let part : e + channel_part tables c first second p ≡ e = rw there (omega arith) in
        let one : n + inside_at tables.places.now p ≡ n = rw there (omega arith) in
        rw (part, one) before;
  }

pub moments_none : (tables : Tables) (c : ℕ) → AreMomentsOf tables c [] no_moments
moments_none tables c = record { floored = λ first second. floored_nothing _ _ }

pub moments_more : (tables : Tables) (c k p : ℕ) (reach : List ℕ) (old new : Moments)
    → k < length reach → p ≡ get_or reach k 0
    → AreMomentsOf tables c (take k reach) old → IsOnePlaceMore tables c p old new
    → AreMomentsOf tables c (take (k + 1) reach) new
moments_more tables c k p reach old new within p_is are more = record {
  floored = λ first second.
      let part : sum_by (channel_part tables c first second) (take (k + 1) reach)
      ≡ sum_by (channel_part tables c first second) (take k reach) + channel_part tables c first
      second p =
      sum_by_more (channel_part tables c first second) reach k 0 within ∙ rw p_is refl in
      let count : sum_by (inside_at tables.places.now) (take (k + 1) reach)
      ≡ sum_by (inside_at tables.places.now) (take k reach) + inside_at tables.places.now p =
      sum_by_more (inside_at tables.places.now) reach k 0 within ∙ rw p_is refl in
      rw (part, count) (more.grows first second _ _ (are.floored first second));
}

pub count_more : (places : List (Option Texel)) (reach : List ℕ) (k p count one : ℕ)
    → k < length reach → p ≡ get_or reach k 0
    → count ≡ sum_by (inside_at places) (take k reach) → one
    ≡ one_inside (slice_index_or places p None) → count + one
    ≡ sum_by (inside_at places) (take (k + 1) reach)
unfolding inside_at
count_more places reach k p count one within p_is count_is one_is =
    rw (
      sum_by_more (λ q. one_inside (slice_index_or places q None)) reach k 0 within,
      ← p_is,
      one_is,
      count_is,
    ) refl

swapped : (a b c : ℕ) → a + b ≤ c → b + a ≤ c
swapped a b c le = omega arith

-- ---- the error of the places by channels

same_red : (flavour : Flavour) (a b w : ℕ)
    → mixed (widened flavour 0 a) (widened flavour 0 b) w / 256
    ≡ shown (widening_of flavour 0) a b w
same_red Linear a b w = refl
same_red Srgb a b w = refl

same_green : (flavour : Flavour) (a b w : ℕ)
    → mixed (widened flavour 1 a) (widened flavour 1 b) w / 256
    ≡ shown (widening_of flavour 1) a b w
same_green Linear a b w = refl
same_green Srgb a b w = refl

same_blue : (flavour : Flavour) (a b w : ℕ)
    → mixed (widened flavour 2 a) (widened flavour 2 b) w / 256
    ≡ shown (widening_of flavour 2) a b w
same_blue Linear a b w = refl
same_blue Srgb a b w = refl

same_alpha : (flavour : Flavour) (a b w : ℕ)
    → mixed (widened flavour 3 a) (widened flavour 3 b) w / 256
    ≡ shown (widening_of flavour 3) a b w
same_alpha Linear a b w = refl
same_alpha Srgb a b w = refl

-- over plain numbers
four : (g h i j a b c d x y z v : ℕ) → a ≡ x → b ≡ y → c ≡ z → d ≡ v
    → 0 + g * a + h * b + i * c + j * d ≡ g * x + h * y + i * z + j * v
four g h i j a b c d x y z v a_is b_is c_is d_is = rw (a_is, b_is, c_is, d_is) (omega arith)

module _ (tables : Tables) (ends : Ends) where
  abbrev part : (c p : ℕ) → ℕ
  part c p = channel_part tables c (channel c ends.0) (channel c ends.1) p

  abbrev from : (c p : ℕ) → Option Texel → ℕ
  from c p place = channel_from tables c (channel c ends.0) (channel c ends.1) p place

  by_place : (p : ℕ) (place : Option Texel)
      → error_with tables ends (numerators_at tables.decoded p) place
      ≡ get_or tables.weights 0 0 * from 0 p place + get_or tables.weights 1 0 * from 1 p
      place + get_or tables.weights 2 0 * from 2 p place + get_or tables.weights 3 0 * from 3 p
      place
  unfolding error_with shown_of sum_to
  by_place p None = omega arith
  by_place p (Some wanted) =
      four _ _ _ _ _ _ _ _ _ _ _ _
      (ap (λ s. squared_difference s (channel 0 wanted))
      (same_red tables.decoded.flavour (channel 0 ends.0) (channel 0 ends.1)
      (weight_at tables p 0)))
      (ap (λ s. squared_difference s (channel 1 wanted))
      (same_green tables.decoded.flavour (channel 1 ends.0) (channel 1 ends.1)
      (weight_at tables p 1)))
      (ap (λ s. squared_difference s (channel 2 wanted))
      (same_blue tables.decoded.flavour (channel 2 ends.0) (channel 2 ends.1)
      (weight_at tables p 2)))
      (ap (λ s. squared_difference s (channel 3 wanted))
      (same_alpha tables.decoded.flavour (channel 3 ends.0) (channel 3 ends.1)
      (weight_at tables p 3)))

  coloured_is : (p : ℕ) → coloured tables ends p
      ≡ get_or tables.weights 0 0 * part 0 p + get_or tables.weights 1 0 * part 1 p + get_or
      tables.weights 2 0 * part 2 p + get_or tables.weights 3 0 * part 3 p
  unfolding coloured channel_part
  coloured_is p = by_place p (slice_index_or tables.places.now p None)

  -- one place more, over plain numbers
  more : (g h i j e e_rest e_all a a_rest a_all b b_rest b_all c c_rest c_all d d_rest d_all : ℕ)
      → e_all ≡ e + e_rest → a_all ≡ a + a_rest → b_all ≡ b + b_rest → c_all ≡ c + c_rest → d_all
      ≡ d + d_rest
      → e ≡ g * a + h * b + i * c + j * d → e_rest
      ≡ g * a_rest + h * b_rest + i * c_rest + j * d_rest
      → e_all ≡ g * a_all + h * b_all + i * c_all + j * d_all
  more g h i j e e_rest e_all a a_rest a_all b b_rest b_all c c_rest c_all d d_rest d_all e_is a_is
      b_is c_is d_is first rest =
      rw (e_is, a_is, b_is, c_is, d_is) (omega (arith, first, rest))

  pub coloured_sum : (reach : List ℕ) → sum_by (coloured tables ends) reach
      ≡ get_or tables.weights 0 0 * sum_by (part 0) reach + get_or tables.weights 1 0 * sum_by
      (part 1) reach
      + get_or tables.weights 2 0 * sum_by (part 2) reach + get_or tables.weights 3 0 * sum_by
      (part 3) reach
  coloured_sum [] = omega arith
  coloured_sum (p ∷ reach) =
      more (get_or tables.weights 0 0) (get_or tables.weights 1 0) (get_or tables.weights 2 0)
      (get_or tables.weights 3 0) _ _ _ _ _ _ _ _ _ _ _ _ _ _ _
      (sum_by-cons (coloured tables ends) p reach) (sum_by-cons (part 0) p reach)
      (sum_by-cons (part 1) p reach) (sum_by-cons (part 2) p reach)
      (sum_by-cons (part 3) p reach)
      (coloured_is p) (coloured_sum reach)

  -- if the form is far enough, the error of the places is at least the limit
  pub hopeless : (reach : List ℕ) (floor : PartitionFloor) (most limit w : ℕ)
      → IsPartFloor tables reach floor → w ≡ weight_sum tables * floor.count
      → IsMost most limit w → form_less tables floor ends + most ≤ form_more tables floor ends
      → limit ≤ sum_by (coloured tables ends) reach
  hopeless reach floor most limit w is w_is far reached =
      let n : ℕ = sum_by (inside_at tables.places.now) reach in
      let all = floored_plus (floored_plus (floored_plus
      (floored_times (get_or tables.weights 0 0)
      (is.red.floored (channel 0 ends.0) (channel 0 ends.1)))
      (floored_times (get_or tables.weights 1 0)
      (is.green.floored (channel 1 ends.0) (channel 1 ends.1))))
      (floored_times (get_or tables.weights 2 0)
      (is.blue.floored (channel 2 ends.0) (channel 2 ends.1))))
      (floored_times (get_or tables.weights 3 0)
      (is.alpha.floored (channel 3 ends.0) (channel 3 ends.1))) in
      let weight : w ≡ get_or tables.weights 0 0 * n + get_or tables.weights 1 0 * n + get_or
      tables.weights 2 0 * n + get_or tables.weights 3 0 * n =
      w_is ∙ rw is.count (omega arith) in
      rw (coloured_sum reach) (floored_law _ _ _ _ most limit all (rw weight at far)
      (swapped _ _ _ reached))

-- ---- one channel

below : (form less more : ℕ) → form + less ≡ more → less ≤ more
below form less more whole = omega (arith, whole)

-- if the form of a channel is far enough, its error is at least the limit
pub channel_hopeless : (tables : Tables) (reach : List ℕ) (floor : PartitionFloor)
    (c first second most limit : ℕ) → IsPartFloor tables reach floor → c < 4
    → IsMost most limit floor.count
    → less_of (moments_at floor c) (factor_of (widening_of tables.decoded.flavour c) * first)
    (factor_of (widening_of tables.decoded.flavour c) * second) + most
    ≤ more_of (moments_at floor c) (factor_of (widening_of tables.decoded.flavour c) * first)
    (factor_of (widening_of tables.decoded.flavour c) * second)
    → limit ≤ sum_by (channel_part tables c first second) reach
channel_hopeless tables reach floor zero first second most limit is within far reached =
    floored_law _ _ _ _ most limit (is.red.floored first second) (rw is.count at far)
    (swapped _ _ _ reached)
channel_hopeless tables reach floor (suc zero) first second most limit is within far reached =
    floored_law _ _ _ _ most limit (is.green.floored first second) (rw is.count at far)
    (swapped _ _ _ reached)
channel_hopeless tables reach floor (suc (suc zero)) first second most limit is within far reached =
    floored_law _ _ _ _ most limit (is.blue.floored first second) (rw is.count at far)
    (swapped _ _ _ reached)
channel_hopeless tables reach floor (suc (suc (suc zero))) first second most limit is within far
    reached =
    floored_law _ _ _ _ most limit (is.alpha.floored first second) (rw is.count at far)
    (swapped _ _ _ reached)
channel_hopeless tables reach floor (suc (suc (suc (suc c)))) first second most limit is within far
    reached = absurd (omega arith)

-- the form of a channel is not below 0
pub channel_form-le : (tables : Tables) (reach : List ℕ) (floor : PartitionFloor)
    (c first second : ℕ) → IsPartFloor tables reach floor → c < 4
    → channel_less tables floor c first second ≤ channel_more tables floor c first second
channel_form-le tables reach floor zero first second is within =
    mul-le-mul_left (get_or tables.weights 0 0) (below _ _ _ (is.red.floored first second).form_is)
channel_form-le tables reach floor (suc zero) first second is within =
    mul-le-mul_left (get_or tables.weights 1 0)
    (below _ _ _ (is.green.floored first second).form_is)
channel_form-le tables reach floor (suc (suc zero)) first second is within =
    mul-le-mul_left (get_or tables.weights 2 0) (below _ _ _ (is.blue.floored first second).form_is)
channel_form-le tables reach floor (suc (suc (suc zero))) first second is within =
    mul-le-mul_left (get_or tables.weights 3 0)
    (below _ _ _ (is.alpha.floored first second).form_is)
channel_form-le tables reach floor (suc (suc (suc (suc c)))) first second is within =
    absurd (omega arith)
