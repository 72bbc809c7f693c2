-- From the moments of a partition's texels to its error with other ends.
use Rattle.std.specs.Prelude.{◌≡◌, ℕ, ◌+◌, ◌*◌, ◌≤◌, ◌==◌, if◌then◌else◌, List, Option, None, Some, slice_index, slice_index_or, slice_set, sum_by}
use Rattle.astc_model.specs.Limits.{most_block_error}
use Rattle.astc_model.specs.Places.{Texel, channel}
use Rattle.astc_model.specs.Errors.{squared_difference}
use Rattle.astc_model.specs.declared.flavour.Flavour.{Flavour}
use Rattle.astc_model.specs.declared.flavour.Flavour.TheVariants.{Linear, Srgb}
use Rattle.moments.specs.Floors.{shown, factor_of, more_of, less_of, IsFloored, AreSmall}
use Rattle.moments.specs.declared.Widening.{Widening}
use Rattle.moments.specs.declared.Widening.TheVariants.{Repeated, Centred}
use Rattle.moments.specs.declared.Moments.{Moments}
use Rattle.texel_error.specs.Shown.{plane_at}
use Rattle.texel_error.specs.Numerators.{rounded}
use Rattle.texel_error.specs.Decoding.{numerators_at}
use Rattle.error_tables.specs.declared.tables.Tables.{Tables}
use Rattle.error_tables.specs.declared.floors.PartitionFloor.{PartitionFloor}

-- how a channel is widened
abbrev pub widening_of : Flavour → ℕ → Widening
widening_of Linear c = Repeated
widening_of Srgb c = if c == 3 then Repeated else Centred

-- the weight of a channel at a place
abbrev pub weight_at : Tables → (p c : ℕ) → ℕ
weight_at tables p c = rounded
    (slice_index (numerators_at tables.decoded p) (plane_at tables.decoded.plane c))

-- the squared difference of a channel between two ends from a place's texel, 0 outside
abbrev pub channel_from : Tables → (c first second p : ℕ) → Option Texel → ℕ
channel_from tables c first second p None = 0
channel_from tables c first second p (Some wanted) =
    squared_difference (shown (widening_of tables.decoded.flavour c) first second
    (weight_at tables p c)) (channel c wanted)

-- that of place p of the source
unfoldable pub channel_part : Tables → (c first second p : ℕ) → ℕ
channel_part tables c first second p = channel_from tables c first second p
    (slice_index_or tables.places.now p None)

-- 1 for a place that has a texel
abbrev pub one_inside : Option Texel → ℕ
one_inside None = 0
one_inside (Some texel) = 1

-- 1 for a place inside
unfoldable pub inside_at : List (Option Texel) → ℕ → ℕ
inside_at places p = one_inside (slice_index_or places p None)

-- the moments are those of a channel of these places
pub record AreMomentsOf (tables : Tables) (c : ℕ) (reach : List ℕ)
    (moments : Moments) : Type 0 where
  pub floored : (first second : ℕ) → IsFloored
      (more_of moments (factor_of (widening_of tables.decoded.flavour c) * first)
      (factor_of (widening_of tables.decoded.flavour c) * second))
      (less_of moments (factor_of (widening_of tables.decoded.flavour c) * first)
      (factor_of (widening_of tables.decoded.flavour c) * second))
      (sum_by (channel_part tables c first second) reach)
      (sum_by (inside_at tables.places.now) reach)

-- the second moments are the first and those of a place's channel
pub record IsOnePlaceMore (tables : Tables) (c p : ℕ) (old new : Moments) : Type 0 where
  pub grows : (first second e n : ℕ)
      → IsFloored (more_of old (factor_of (widening_of tables.decoded.flavour c) * first)
      (factor_of (widening_of tables.decoded.flavour c) * second))
      (less_of old (factor_of (widening_of tables.decoded.flavour c) * first)
      (factor_of (widening_of tables.decoded.flavour c) * second)) e n
      → IsFloored (more_of new (factor_of (widening_of tables.decoded.flavour c) * first)
      (factor_of (widening_of tables.decoded.flavour c) * second))
      (less_of new (factor_of (widening_of tables.decoded.flavour c) * first)
      (factor_of (widening_of tables.decoded.flavour c) * second))
      (e + channel_part tables c first second p) (n + inside_at tables.places.now p)

-- what is kept of these places
pub record IsPartFloor (tables : Tables) (reach : List ℕ) (floor : PartitionFloor) : Type 0 where
  pub red : AreMomentsOf tables 0 reach floor.red
  pub green : AreMomentsOf tables 1 reach floor.green
  pub blue : AreMomentsOf tables 2 reach floor.blue
  pub alpha : AreMomentsOf tables 3 reach floor.alpha
  pub count : floor.count ≡ sum_by (inside_at tables.places.now) reach
  pub taken : floor.taken ≡ sum_by (λ p. slice_index tables.errors p) reach

-- its numbers are within their ranges
pub record IsSmallFloor (floor : PartitionFloor) : Type 0 where
  pub small_red : AreSmall floor.red
  pub small_green : AreSmall floor.green
  pub small_blue : AreSmall floor.blue
  pub small_alpha : AreSmall floor.alpha
  pub few : floor.count ≤ 144
  pub small_taken : floor.taken ≤ most_block_error

-- the sums over the channels, each as often as it counts
abbrev pub form_more : Tables → PartitionFloor → List ℕ × List ℕ → ℕ
form_more tables floor ends =
    slice_index tables.weights 0 * more_of floor.red
    (factor_of (widening_of tables.decoded.flavour 0) * channel 0 ends.0)
    (factor_of (widening_of tables.decoded.flavour 0) * channel 0 ends.1)
    + slice_index tables.weights 1 * more_of floor.green
    (factor_of (widening_of tables.decoded.flavour 1) * channel 1 ends.0)
    (factor_of (widening_of tables.decoded.flavour 1) * channel 1 ends.1)
    + slice_index tables.weights 2 * more_of floor.blue
    (factor_of (widening_of tables.decoded.flavour 2) * channel 2 ends.0)
    (factor_of (widening_of tables.decoded.flavour 2) * channel 2 ends.1)
    + slice_index tables.weights 3 * more_of floor.alpha
    (factor_of (widening_of tables.decoded.flavour 3) * channel 3 ends.0)
    (factor_of (widening_of tables.decoded.flavour 3) * channel 3 ends.1)

-- what is taken off them: the form of a part with these ends is form_more less form_less
abbrev pub form_less : Tables → PartitionFloor → List ℕ × List ℕ → ℕ
form_less tables floor ends =
    slice_index tables.weights 0 * less_of floor.red
    (factor_of (widening_of tables.decoded.flavour 0) * channel 0 ends.0)
    (factor_of (widening_of tables.decoded.flavour 0) * channel 0 ends.1)
    + slice_index tables.weights 1 * less_of floor.green
    (factor_of (widening_of tables.decoded.flavour 1) * channel 1 ends.0)
    (factor_of (widening_of tables.decoded.flavour 1) * channel 1 ends.1)
    + slice_index tables.weights 2 * less_of floor.blue
    (factor_of (widening_of tables.decoded.flavour 2) * channel 2 ends.0)
    (factor_of (widening_of tables.decoded.flavour 2) * channel 2 ends.1)
    + slice_index tables.weights 3 * less_of floor.alpha
    (factor_of (widening_of tables.decoded.flavour 3) * channel 3 ends.0)
    (factor_of (widening_of tables.decoded.flavour 3) * channel 3 ends.1)

-- the moments of a channel
abbrev pub moments_at : PartitionFloor → ℕ → Moments
moments_at floor c =
    if c == 0 then floor.red else
    if c == 1 then floor.green else
    if c == 2 then floor.blue else
    floor.alpha

-- what one channel between two ends adds to these sums
abbrev pub channel_more : Tables → PartitionFloor → (c first second : ℕ) → ℕ
channel_more tables floor c first second =
    slice_index tables.weights c * more_of (moments_at floor c)
    (factor_of (widening_of tables.decoded.flavour c) * first)
    (factor_of (widening_of tables.decoded.flavour c) * second)

abbrev pub channel_less : Tables → PartitionFloor → (c first second : ℕ) → ℕ
channel_less tables floor c first second =
    slice_index tables.weights c * less_of (moments_at floor c)
    (factor_of (widening_of tables.decoded.flavour c) * first)
    (factor_of (widening_of tables.decoded.flavour c) * second)

-- ends with one channel replaced
abbrev pub with_channel : ℕ → ℕ × ℕ → List ℕ × List ℕ → List ℕ × List ℕ
with_channel c pair ends = (slice_set ends.0 c pair.0, slice_set ends.1 c pair.1)

-- how much all four channels count together
abbrev pub weight_sum : Tables → ℕ
weight_sum tables = slice_index tables.weights 0 + slice_index tables.weights 1 + slice_index
    tables.weights 2 + slice_index tables.weights 3
