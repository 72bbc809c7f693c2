-- The error of a block is bounded by sums over the texels of each partition.
use Rattle.std.proofs.Common.{◌≡◌, ℕ, zero, suc, ◌+◌, ◌-◌, ◌*◌, ◌/◌, ◌%◌, ◌<◌, ◌≤◌, ◌==◌, Bool, true, false, cond, List, Option, None, Some, length, get_or, refl, ap, ◌∙◌, arith, inl, inr}
use Rattle.std.specs.Prelude.{slice_index, slice_index_or}
use Rattle.std.specs.List.{All}
use Rattle.std.proofs.lemmas.Bool.{cases_eq, cases_lt, eq-eqb, ne_eqb}
use Rattle.std.proofs.lemmas.List.FromFn.{get_or-map-range_with_len, length-map-range_with_len}
use Rattle.std.proofs.lemmas.Nat.{mul-add-lt}
use Rattle.std.proofs.Math.Nat.{mul-le-mul_left}
use Rattle.astc_model.specs.Sums.{sum_to}
use Rattle.astc_model.specs.Places.{Texel, channel}
use Rattle.astc_model.specs.Weights.{Weighting}
use Rattle.astc_model.specs.Candidates.{Ends, no_ends}
use Rattle.astc_model.specs.Errors.{squared_difference, place_error, texel, error}
use Rattle.astc_model.specs.Levels.{count_of}
use Rattle.astc_model.specs.WeightValues.{weight_value}
use Rattle.astc_model.specs.Partitions.{part_of}
use Rattle.astc_model.specs.CodedTexels.{mixed, widened, plane_of, plane_weights, part_colours}
use Rattle.astc_model.specs.declared.flavour.Flavour.{Flavour}
use Rattle.astc_model.specs.declared.flavour.Flavour.TheVariants.{Linear, Srgb}
use Rattle.astc_model.specs.declared.mode.Mode.{Mode}
use Rattle.astc_model.specs.declared.block.Coded.{Coded as CodedFields}
use Rattle.astc_model.specs.declared.block.Block.TheVariants.{Coded as CodedBlock}
use Rattle.astc_model.proofs.SumLaws.{sum_to-le-sum_to, sum_to-add}
use Rattle.quant_tables.proofs.ValueLaws.{weight_value-le}
use Rattle.weight_infill.proofs.InfillLaws.{infill-le}
use Rattle.texel_error.proofs.TexelLaws.{coded_texel-is, part_is, weight_of}
use Rattle.texel_error.specs.Shown.{shown_channel, shown_texel}
use Rattle.moments.specs.Floors.{shown, target, apart, IsFloored}
use Rattle.moments.specs.declared.Widening.TheVariants.{Repeated, Centred}
use Rattle.moments.proofs.MeanSquareLaws.{square_law}
use Rattle.moments.proofs.RoundingLaws.{near, near_square, squared_difference-apart}
use Rattle.moments.proofs.FloorLaws.{floored_none, floored_plus}
use Rattle.line_floors.specs.declared.block_sums.BlockSums.{BlockSums}
use Rattle.line_floors.specs.declared.part_sums.PartitionSums.{PartitionSums}
use Rattle.line_floors.specs.Lines.{HasColours}
use Rattle.line_floors.specs.Sums.{scale, middle}
use Rattle.line_floors.specs.Gathered.{AreBlockSums}
use Rattle.line_floors.specs.Floors.{gain, gains, part_distance, part_count, IsUnder}
use Rattle.line_floors.proofs.PartLaws.{at_place, sum_in, summed, mixed_at, part_under}
use Rattle.line_floors.proofs.FloorLaws.{floored_counted, floored_less, floored_more, floored_sum, floored_where}

-- ---- one texel

-- the blend is close to its target up to the error of the decoded channel and half a step
near_shown : (x z shown s : ℕ) → apart x z ≤ 16384 * apart shown s + 8192
    → IsFloored (squared_difference x z) 0 (squared_difference shown s) 1
near_shown x z shown s close = record {
  form = squared_difference x z;
  distance = apart shown s;
  form_is = omega arith;
  moved = near_square x z shown s close;
  spread = λ p t. rw (squared_difference-apart shown s) (means p t (apart shown s));
}
  where
    means : (p t d : ℕ) → 2 * (p * (t * d)) ≤ t * t * (d * d) + p * p * 1
    means p t d = omega (arith, square_law (t * d) p)

-- alpha in the units of the other channels
rescaled : (n s : ℕ) → apart (256 * n) (32 * ((131072 * s + 65408) / 257)) ≤ 16384 * apart
    ((257 * n + 32) / 64 / 256) s + 8192
rescaled n s = omega arith

near_alpha : (f h u w s : ℕ) → apart (256 * f * u + 256 * h * w)
    (32 * ((131072 * s + 65408) / 257)) ≤ 16384 * apart
    ((257 * f * u + 257 * h * w + 32) / 64 / 256) s + 8192
near_alpha f h u w s =
    let scaled : 256 * f * u + 256 * h * w ≡ 256 * (f * u + h * w) = omega arith in
    let shown : 257 * f * u + 257 * h * w ≡ 257 * (f * u + h * w) = omega arith in
    rw (scaled, shown) (rescaled (f * u + h * w) s)

near_channel : (flavour : Flavour) (c f h w s : ℕ) → w ≤ 64
    → IsFloored (squared_difference (scale flavour * f * (64 - w) + scale flavour * h * w)
    (32 * middle flavour c s)) 0
    (squared_difference (mixed (widened flavour c f) (widened flavour c h) w / 256) s) 1
near_channel Linear c f h w s fits =
    let same : 32 * (512 * s + 255) ≡ target Repeated s = omega arith in
    rw same (near_shown _ _ (shown Repeated f h w) s (near Repeated f h w s fits))
near_channel Srgb c f h w s fits = either (c == 3)
  where
    either : (b : Bool) → IsFloored (squared_difference (256 * f * (64 - w) + 256 * h * w)
        (32 * cond b ((131072 * s + 65408) / 257) (512 * s))) 0
        (squared_difference (mixed (cond b (257 * f) (256 * f + 128))
        (cond b (257 * h) (256 * h + 128)) w / 256) s) 1
    either true = near_shown _ _ (shown Repeated f h w) s (near_alpha f h (64 - w) w s)
    either false =
        let same : 32 * (512 * s) ≡ target Centred s = omega arith in
        rw same (near_shown _ _ (shown Centred f h w) s (near Centred f h w s fits))

-- the error of a texel whose channels all have the same weight w
abbrev pub error_from : (k : ℕ → ℕ) → Flavour → Ends → (w : ℕ) → Option Texel → ℕ
error_from k flavour ends w None = 0
error_from k flavour ends w (Some wanted) =
    sum_to (λ c. k c * squared_difference (shown_channel flavour ends w c) (channel c wanted)) 4

near_texel : (k : ℕ → ℕ) (flavour : Flavour) (ends : Ends) (w : ℕ) (wanted : Texel) (m : ℕ) → w ≤ 64
    → IsFloored
    (sum_to (λ c. k c * squared_difference
    (scale flavour * channel c ends.0 * (64 - w) + scale flavour * channel c ends.1 * w)
    (32 * middle flavour c (channel c wanted))) m)
    0 (sum_to (λ c. k c * squared_difference (shown_channel flavour ends w c) (channel c wanted)) m)
    (sum_to k m)
unfolding sum_to
near_texel k flavour ends w wanted zero fits = floored_none
near_texel k flavour ends w wanted (suc m) fits =
    counted (floored_plus (near_texel k flavour ends w wanted m fits)
    (floored_counted (k m) (near_channel flavour m (channel m ends.0) (channel m ends.1) w
    (channel m wanted) fits)))
  where
    counted : {q e : ℕ} → IsFloored q 0 e (sum_to k m + k m * 1)
        → IsFloored q 0 e (sum_to k m + k m)
    counted is = let one : k m * 1 ≡ k m = omega arith in rw one at is

near_place : (g : List ℕ) (flavour : Flavour) (ends : Ends) (w : ℕ) (place : Option Texel) → w ≤ 64
    → IsFloored (mixed_at flavour g ends w place) 0
    (error_from (slice_index g) flavour ends w place)
    (at_place flavour (λ t. sum_to (slice_index g) 4) place)
unfolding sum_to
near_place g flavour ends w None fits = floored_none
near_place g flavour ends w (Some wanted) fits =
    near_texel (slice_index g) flavour ends w wanted 4 fits

-- ---- all places

counts : (g : ℕ) (f : ℕ → ℕ) (n : ℕ) → sum_to (λ p. g * f p) n ≡ g * sum_to f n
unfolding sum_to
counts g f zero = omega arith
counts g f (suc n) = omega (arith, counts g f n)

-- a place belongs to one partition only
no_part : (i : ℕ) (v : ℕ → ℕ) (k : ℕ) → k ≤ i → sum_to (λ m. cond (i == m) (v m) 0) k ≡ 0
unfolding sum_to
no_part i v zero after = refl
no_part i v (suc k) after =
    let out : (i == k) ≡ false = ne_eqb i k (λ same. absurd (omega arith)) in
    rw (out, no_part i v k (omega arith)) refl

one_part : (i : ℕ) (v : ℕ → ℕ) (k : ℕ) → sum_to (λ m. cond (i == m) (v m) 0) k ≤ v i
unfolding sum_to
one_part i v zero = omega arith
one_part i v (suc k) =
    elim (cases_eq i k) [
      | inl same ↦
          let in_it : (i == k) ≡ true = eq-eqb i k same in
          let before : sum_to (λ m. cond (i == m) (v m) 0) k ≡ 0 = no_part i v k (omega arith) in
          rw (in_it, before, same) (omega arith)
      | inr other ↦
          let out : (i == k) ≡ false = ne_eqb i k other in
          rw out (omega (arith, one_part i v k))
    ]

nothing : (k : ℕ) → sum_to (λ m. 0) k ≡ 0
unfolding sum_to
nothing zero = refl
nothing (suc k) = omega (arith, nothing k)

all_parts : (parts : List ℕ) (e : ℕ → ℕ → ℕ) (n k : ℕ)
    → sum_to (λ m. sum_in parts m (e m) n) k ≤ sum_to (λ p. e (get_or parts p 0) p) n
unfolding sum_in sum_to
all_parts parts e zero k = omega (arith, nothing k)
all_parts parts e (suc n) k =
    omega (
      arith,
      sum_to-add (λ m. sum_in parts m (e m) n) (λ m. cond (get_or parts n 0 == m) (e m n) 0) k,
      all_parts parts e n k,
      one_part (get_or parts n 0) (λ m. e m n) k,
    )

abbrev pub ends_at : List ℕ → List Ends → ℕ → Ends
ends_at parts ends p = slice_index_or ends (get_or parts p 0) no_ends

sum_to-le-more : (f : ℕ → ℕ) (k n : ℕ) → k ≤ n → sum_to f k ≤ sum_to f n
unfolding sum_to
sum_to-le-more f k zero within = let none : k ≡ 0 = omega arith in rw none (omega arith)
sum_to-le-more f k (suc n) within =
    elim (cases_lt n k) [
      | inl all ↦ let same : k ≡ suc n = omega arith in rw same (omega arith)
      | inr fewer ↦ omega (arith, sum_to-le-more f k n fewer)
    ]

module _ (g : List ℕ) (flavour : Flavour) (parts : List ℕ) (ends : List Ends)
    (places : List (Option Texel)) (sums : BlockSums) (w : ℕ → ℕ) (n : ℕ)
    (few : length ends ≤ 4) (fit : (p : ℕ) → p < n → w p ≤ 64)
    (are : AreBlockSums n flavour places parts sums) where
  -- the error that place p would have in this partition
  error_in : (part p : ℕ) → ℕ
  error_in part p = error_from (slice_index g) flavour (slice_index_or ends part no_ends) (w p)
      (slice_index_or places p None)

  part_floored : (part : ℕ) → part < length ends
      → IsFloored (4194304 * part_distance flavour g sums ends part) 0
      (sum_in parts part (error_in part) n) (sum_to (slice_index g) 4 * part_count sums part)
  unfolding part_distance part_count sum_in error_in
  part_floored part below =
      let own : Ends = slice_index_or ends part no_ends in
      let same : _ = are part (omega (arith, few, below)) in
      let count : sum_to (slice_index g) 4 * part_count sums part
      ≡ sum_in parts part (λ p. at_place flavour (λ t. sum_to (slice_index g) 4)
      (slice_index_or places p None)) n =
      ap (λ (part_sums : PartitionSums). sum_to (slice_index g) 4 * part_sums.count) same
      ∙ summed flavour places parts part (λ part_sums. sum_to (slice_index g) 4 * part_sums.count)
      (λ t. sum_to (slice_index g) 4) (omega arith) (λ part_sums t. omega arith) n in
      rw (count, same)
      (floored_less (part_under flavour places parts part g own w n fit)
      (floored_sum (λ p. cond (get_or parts p 0 == part)
      (mixed_at flavour g own (w p) (slice_index_or places p None)) 0)
      (λ p. cond (get_or parts p 0 == part) (error_in part p) 0)
      (λ p. cond (get_or parts p 0 == part) (at_place flavour (λ t. sum_to (slice_index g) 4)
      (slice_index_or places p None)) 0) n
      (λ p inside. floored_where (get_or parts p 0 == part)
      (near_place g flavour own (w p) (slice_index_or places p None) (fit p inside)))))

  -- the distances of the first partitions are a lower bound on the error for any weights
  pub under_all : (k : ℕ) → k ≤ length ends
      → IsUnder (sum_to (part_distance flavour g sums ends) k)
      (sum_to (slice_index g) 4 * sum_to (part_count sums) 4)
      (sum_to (λ p. error_from (slice_index g) flavour (ends_at parts ends p) (w p)
      (slice_index_or places p None)) n)
  unfolding error_in
  under_all k within =
      let whole : _ = floored_sum (λ m. 4194304 * part_distance flavour g sums ends m)
      (λ m. sum_in parts m (error_in m) n) (λ m. sum_to (slice_index g) 4 * part_count sums m)
      k (λ m below. part_floored m (omega (arith, below, within))) in
      floored_more (all_parts parts error_in n k)
      (mul-le-mul_left (sum_to (slice_index g) 4)
      (sum_to-le-more (part_count sums) k 4 (omega (arith, within, few))))
      (rw (
        counts 4194304 (part_distance flavour g sums ends) k,
        counts (sum_to (slice_index g) 4)
            (part_count sums) k,
      ) at whole)

-- ---- a block with these endpoints

-- the weights of the first plane are at most 64
plane_weights-le : (coded : CodedFields) (mode : Mode) → 0 < mode.planes
    → All (λ integer. integer < count_of mode.level) coded.weights.items
    → length coded.weights.items ≡ mode.across * mode.down * mode.planes
    → All (λ weight. weight ≤ 64) (plane_weights coded mode 0)
plane_weights-le coded mode some small all =
    λ q d below.
    let n : ℕ = mode.across * mode.down in
    let value : ℕ → ℕ = λ k.
    weight_value mode.level (get_or coded.weights.items (k * mode.planes + 0) 0) in
    let within : q < n = rw (length-map-range_with_len value 0 n) at below in
    let place : q * mode.planes + 0 < length coded.weights.items =
    rw all (omega (arith, mul-add-lt q mode.planes 0 n within some)) in
    rw (get_or-map-range_with_len value 0 n q q d within (omega arith))
    (weight_value-le mode.level (get_or coded.weights.items (q * mode.planes + 0) 0)
    (small (q * mode.planes + 0) 0 place))

-- the weight 0 for the component of the second plane makes the bound smaller
channel_under : (weight component plane c s : ℕ) (shown : ℕ → ℕ) → plane ≡ component
    → cond (component == c + 1) 0 weight * squared_difference
    (shown 0) s ≤ weight * squared_difference (shown (cond (plane == c + 1) 1 0)) s
channel_under weight component plane c s shown same = rw same (either (component == c + 1))
  where
    either : (b : Bool) → cond b 0 weight * squared_difference
        (shown 0) s ≤ weight * squared_difference (shown (cond b 1 0)) s
    either true = omega arith
    either false = omega arith

-- the weight 0 for a channel that is left out makes the bound smaller
left_out : (b : Bool) (gain x y : ℕ) → gain * x ≤ y → cond b 0 gain * x ≤ y
left_out true gain x y under = omega arith
left_out false gain x y under = under

module _ (w h : ℕ) (flavour : Flavour) (weights : Weighting) (component : ℕ) (opaque : Bool)
    (parts : List ℕ) (ends : List Ends) (places : List (Option Texel)) (sums : BlockSums)
    (coded : CodedFields) (is : HasColours w h component parts ends coded) where
  -- the weight of place p in one plane
  weight_at : ℕ → ℕ → ℕ
  weight_at p plane = weight_of w h coded is.mode (p % w) (p / w) plane

  weight_at-le : (p : ℕ) → weight_at p 0 ≤ 64
  unfolding weight_at
  weight_at-le p =
      infill-le w h is.mode.across is.mode.down (p % w) (p / w) (plane_weights coded is.mode 0)
      (plane_weights-le coded is.mode is.shaped.some_plane is.shaped.weight_ranges
      is.shaped.all_weights)

  colours_at : ℕ → Ends
  colours_at p = part_colours coded is.level (part_of w h coded.parts coded.seed (p % w) (p / w))

  ends_at-is : (p : ℕ) → p < w * h → ends_at parts ends p ≡ colours_at p
  unfolding colours_at
  ends_at-is p below = rw (is.map p below)
      (is.colours _ (part_is w h flavour coded is.mode is.level is.shaped (p % w) (p / w)))

  texel_under : (p : ℕ) (place : Option Texel)
      → error_from (slice_index (gains weights component opaque)) flavour (colours_at p)
      (weight_at p 0) place
      ≤ place_error weights (shown_texel flavour (colours_at p)
      (λ c. weight_at p (plane_of coded c))) place
  unfolding sum_to
  texel_under p None = omega arith
  texel_under p (Some wanted) = four _ _ _ _ _ _ _ _ (own 0) (own 1) (own 2)
      (left_out opaque (gain weights component 3) _ _ (own 3))
    where
      own : (c : ℕ) → gain weights component c * squared_difference
          (shown_channel flavour (colours_at p) (weight_at p 0) c) (channel c wanted)
          ≤ get_or weights c 0 * squared_difference
          (shown_channel flavour (colours_at p) (weight_at p (plane_of coded c)) c)
          (channel c wanted)
      own c = channel_under (get_or weights c 0) component coded.plane c (channel c wanted)
          (λ plane. shown_channel flavour (colours_at p) (weight_at p plane) c) is.plane

      four : (a b c d x y z v : ℕ) → a ≤ x → b ≤ y → c ≤ z → d ≤ v
          → 0 + a + b + c + d ≤ 0 + x + y + z + v
      four a b c d x y z v one two three last = omega (arith, one, two, three, last)

  place_under : (p : ℕ) → p < w * h
      → error_from (slice_index (gains weights component opaque)) flavour (ends_at parts ends p)
      (weight_at p 0) (slice_index_or places p None)
      ≤ place_error weights (texel w h flavour (CodedBlock coded) (p % w) (p / w))
      (slice_index_or places p None)
  unfolding weight_at colours_at
  place_under p below =
      rw (
        ends_at-is p below,
        coded_texel-is w h flavour coded is.mode is.level is.shaped (p % w)
            (p / w),
      ) (texel_under p (slice_index_or places p None))

  pub under_error : (k : ℕ) → k ≤ length ends → length ends ≤ 4
      → AreBlockSums (w * h) flavour places parts sums
      → IsUnder (sum_to (part_distance flavour (gains weights component opaque) sums ends) k)
      (sum_to (slice_index (gains weights component opaque)) 4 * sum_to (part_count sums) 4)
      (error w h flavour weights (CodedBlock coded) places)
  unfolding error
  under_error k within few are =
      floored_more
      (sum_to-le-sum_to
      (λ p. error_from (slice_index (gains weights component opaque)) flavour (ends_at parts ends p)
      (weight_at p 0) (slice_index_or places p None))
      (λ p. place_error weights (texel w h flavour (CodedBlock coded) (p % w) (p / w))
      (slice_index_or places p None)) (w * h) place_under)
      (omega arith)
      (under_all (gains weights component opaque) flavour parts ends places sums
      (λ p. weight_at p 0) (w * h) few (λ p below. weight_at-le p) are k within)
