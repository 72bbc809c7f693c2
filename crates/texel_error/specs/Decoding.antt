-- The texels of a prepared block (`Decoded`).
use Rattle.std.specs.Prelude.{◌≡◌, ℕ, ◌*◌, ◌/◌, ◌%◌, ◌<◌, ◌≤◌, List, [], Option, None, length, slice_index, slice_index_or}
use Rattle.std.specs.List.{All}
use Rattle.astc_model.specs.declared.flavour.Flavour.{Flavour}
use Rattle.astc_model.specs.Places.{Texel}
use Rattle.astc_model.specs.declared.block.Block.{Block}
use Rattle.astc_model.specs.Errors.{place_error, texel}
use Rattle.astc_model.specs.CodedTexels.{part_colours, plane_weights}
use Rattle.astc_model.specs.Partitions.{part_of}
use Rattle.astc_model.specs.declared.level.Level.{Level}
use Rattle.astc_model.specs.declared.mode.Mode.{Mode}
use Rattle.astc_model.specs.declared.block.Coded.{Coded as CodedFields}
use Rattle.texel_error.specs.Shown.{Ends, shown_texel, plane_at}
use Rattle.texel_error.specs.Numerators.{numerator, rounded}
use Rattle.texel_error.specs.declared.decoded.Decoded.{Decoded}

-- the texel between two endpoints; `numerators` has the weights of both planes in sixteenths, and
-- `plane` is the channel of the second plane, 1 to 4, or 0
unfoldable pub shown_of : Flavour → ℕ → Ends → List ℕ → Texel
shown_of flavour plane ends numerators =
    shown_texel flavour ends (λ c. rounded (slice_index numerators (plane_at plane c)))

-- the endpoints of the partition of place p
abbrev pub ends_at : Decoded → ℕ → Ends
ends_at decoded p = slice_index_or decoded.ends (slice_index decoded.parts p) ([], [])

-- the weights of place p in both planes, in sixteenths
abbrev pub numerators_at : Decoded → ℕ → List ℕ
numerators_at decoded p = slice_index_or decoded.numerators p []

-- the texel of place p
abbrev pub shown_at : Decoded → ℕ → Texel
shown_at decoded p = shown_of decoded.flavour decoded.plane (ends_at decoded p)
    (numerators_at decoded p)

-- the error of place p
abbrev pub error_of_place : Decoded → List ℕ → List (Option Texel) → ℕ → ℕ
error_of_place decoded weights places p = place_error weights (shown_at decoded p)
    (slice_index_or places p None)

-- all numbers are within their ranges
pub record IsSound (decoded : Decoded) : Type 0 where
  pub part_numbers : All (λ part. part < 4) decoded.parts
  pub small_numerators : All (λ pair. All (λ n. n ≤ 1024) pair) decoded.numerators
  pub all_parts : length decoded.parts ≡ 144
  pub all_numerators : length decoded.numerators ≡ 144

-- each place has the texel that the block has there
pub record Shows (w h : ℕ) (flavour : Flavour) (block : Block) (decoded : Decoded) : Type 0 where
  pub at : (p : ℕ) → p < w * h → shown_at decoded p ≡ texel w h flavour block (p % w) (p / w)

-- the weight of place p in a plane of the block, in sixteenths
abbrev pub numerator_at : (w h : ℕ) → CodedFields → Mode → (plane p : ℕ) → ℕ
numerator_at w h coded mode plane p = numerator w h mode.across mode.down (p % w) (p / w)
    (plane_weights coded mode plane)

-- the list has the weights of each place of a coded block in both planes, in sixteenths
pub record AreNumerators (w h : ℕ) (coded : CodedFields) (mode : Mode)
    (numerators : List (List ℕ)) : Type 0 where
  pub small : All (λ pair. All (λ n. n ≤ 1024) pair) numerators
  pub all : length numerators ≡ 144
  pub pairs : (p : ℕ) → p < w * h → length (slice_index_or numerators p []) ≡ 2
  pub exact : (p plane : ℕ) → p < w * h → plane < mode.planes
      → slice_index (slice_index_or numerators p []) plane ≡ numerator_at w h coded mode plane p

-- the values are those of a coded block, prepared for decoding
pub record IsDecoded (w h : ℕ) (flavour : Flavour) (coded : CodedFields) (mode : Mode)
    (level : Level) (decoded : Decoded) : Type 0 where
  pub sound : IsSound decoded
  pub flavour_is : decoded.flavour ≡ flavour
  pub plane_is : decoded.plane ≡ coded.plane
  pub parts_are : (p : ℕ) → p < w * h → slice_index decoded.parts p
      ≡ part_of w h coded.parts coded.seed (p % w) (p / w)
  pub ends_are : (part : ℕ) → part < coded.parts → slice_index_or decoded.ends part ([], [])
      ≡ part_colours coded level part
  pub pairs : (p : ℕ) → p < w * h → length (numerators_at decoded p) ≡ 2
  pub numerators_are : (p plane : ℕ) → p < w * h → plane < mode.planes
      → slice_index (numerators_at decoded p) plane ≡ numerator_at w h coded mode plane p
