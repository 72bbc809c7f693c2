-- Drawing: the texels of a coded block computed from endpoints and targets, without making the
-- block.
use Rattle.std.specs.Prelude.{◌≡◌, ℕ, ◌+◌, ◌-◌, ◌*◌, ◌/◌, ◌%◌, ◌==◌, ◌<◌, ◌≤◌, if◌then◌else◌, false, List, [], ◌∷◌, Option, None, length, map, slice_index, slice_index_or, IsTrue}
use Rattle.std.specs.List.{All}
use Rattle.astc_model.specs.Partitions.{part_of}
use Rattle.astc_model.specs.Places.{Texel, channel}
use Rattle.astc_model.specs.Weights.{Weighting}
use Rattle.astc_model.specs.Errors.{place_error, texel}
use Rattle.astc_model.specs.declared.flavour.Flavour.{Flavour}
use Rattle.astc_model.specs.declared.block.Block.{Block}
use Rattle.astc_model.specs.CodedTexels.{part_colours}
use Rattle.astc_model.specs.Footprints.{is_footprint}
use Rattle.astc_model.specs.declared.level.Level.{Level}
use Rattle.astc_model.specs.declared.mode.Mode.{Mode}
use Rattle.astc_model.specs.declared.block.Coded.{Coded as CodedFields}
use Rattle.texel_error.specs.Decoding.{numerator_at}
use Rattle.texel_error.specs.Groups.{IsOriginGroup, group_pairs}
use Rattle.texel_error.specs.Numerators.{rounded, share_sum}
use Rattle.texel_error.specs.Shaped.{IsShaped}
use Rattle.texel_error.specs.Shown.{top_of}
use Rattle.texel_error.specs.declared.colours.PlaceColours.{PlaceColours}
use Rattle.texel_error.specs.declared.drawn.Outline.{Outline}
use Rattle.texel_error.specs.declared.drawn.DrawnPoints.{DrawnPoints}
use Rattle.texel_error.specs.declared.groups.GroupOrigins.{GroupOrigins}

-- the quantized weight for the target of each place
unfoldable pub values_of : DrawnPoints → List ℕ
values_of points = map (slice_index points.values.now) points.targets.now

-- each of n places has a target of at most 64, and the table has a weight for each target, the same
-- for 31 and 32
pub record HaveValues (n : ℕ) (points : DrawnPoints) : Type 0 where
  pub all : length points.values.now ≡ 65
  pub small : All (λ value. value ≤ 64) points.values.now
  pub middle : slice_index points.values.now 31 ≡ slice_index points.values.now 32
  pub targets : (p : ℕ) → p < n → slice_index points.targets.now p ≤ 64
  pub places : length points.targets.now ≡ 160

-- the arrays have room for the endpoints of 144 places
pub record HaveColours (colours : PlaceColours) : Type 0 where
  pub first : length colours.first ≡ 576
  pub second : length colours.second ≡ 576

-- an empty group, for indices past the end
abbrev pub no_origins : GroupOrigins
no_origins = record { near = false; starts = (0, 0); first = []; second = []; factors = [] }

abbrev pub group_at : Outline → ℕ → GroupOrigins
group_at outline g = slice_index_or outline.groups.now g no_origins

-- the places and factors on which the weight of place p depends
abbrev pub origins_at : Outline → ℕ → List (ℕ × ℕ)
origins_at outline p = group_pairs (group_at outline (p / 4)) (p % 4)

-- the data have valid sizes, and all weights depend on places with targets only
pub record CanDraw (w h : ℕ) (outline : Outline) : Type 0 where
  pub sides : IsTrue (is_footprint w h)
  pub colours : HaveColours outline.colours.now
  pub all_groups : length outline.groups.now ≡ 36
  pub groups : (g : ℕ) → 4 * g < w * h → IsOriginGroup (w * h) (group_at outline g)
  pub first : HaveValues (w * h) outline.first
  pub second : HaveValues (w * h) outline.second

-- the grid points of the plane to which channel c belongs
abbrev pub points_at : Outline → ℕ → DrawnPoints
points_at outline c = if outline.plane == c + 1 then outline.second else outline.first

-- the weight of channel c in texel t of a group
abbrev pub weight_in : Outline → GroupOrigins → ℕ → ℕ → ℕ
weight_in outline own t c =
    rounded (share_sum (values_of (points_at outline c)) (group_pairs own t))

-- the interpolation of two bytes by a weight of 0 to 64, multiplied by 64
abbrev pub mix_of : ℕ → ℕ → ℕ → ℕ
mix_of first second weight = first * (64 - weight) + second * weight

-- the decoded byte of lane k: channel k % 4 of place k / 4
abbrev pub drawn_lane : Flavour → Outline → ℕ → ℕ
drawn_lane flavour outline k = top_of flavour (k % 4)
    (mix_of (slice_index outline.colours.now.first k) (slice_index outline.colours.now.second k)
    (weight_in outline (group_at outline (k / 4 / 4)) (k / 4 % 4) (k % 4)))

-- the decoded texel of place p
abbrev pub drawn_texel : Flavour → Outline → ℕ → Texel
drawn_texel flavour outline p = drawn_lane flavour outline (4 * p)
    ∷ drawn_lane flavour outline (4 * p + 1) ∷ drawn_lane flavour outline (4 * p + 2)
    ∷ drawn_lane flavour outline (4 * p + 3) ∷ []

-- the error of place p
abbrev pub drawn_error : Flavour → Outline → Weighting → List (Option Texel) → ℕ → ℕ
drawn_error flavour outline weights places p =
    place_error weights (drawn_texel flavour outline p) (slice_index_or places p None)

-- the places and factors give the weights, in sixteenths, that the coded block has in this plane
abbrev pub AreNumeratorsOf : (w h : ℕ) → Outline → DrawnPoints → CodedFields → Mode → ℕ → Type 0
AreNumeratorsOf w h outline points coded mode plane =
    (p : ℕ) → p < w * h → share_sum (values_of points) (origins_at outline p)
    ≡ numerator_at w h coded mode plane p

-- the endpoints of the partition of place p
abbrev pub colours_of_place : (w h : ℕ) → CodedFields → Level → ℕ → List ℕ × List ℕ
colours_of_place w h coded level p =
    part_colours coded level (part_of w h coded.parts coded.seed (p % w) (p / w))

-- each place has the endpoints of its partition
pub record AreColoursOf (w h : ℕ) (coded : CodedFields) (level : Level)
    (colours : PlaceColours) : Type 0 where
  pub first : (p c : ℕ) → p < w * h → c < 4 → slice_index colours.first (4 * p + c)
      ≡ channel c (colours_of_place w h coded level p).0
  pub second : (p c : ℕ) → p < w * h → c < 4 → slice_index colours.second (4 * p + c)
      ≡ channel c (colours_of_place w h coded level p).1

-- the outline describes the coded block: it has the same endpoints and the same weights at each
-- place
pub record IsDrawnFrom (w h : ℕ) (flavour : Flavour) (outline : Outline)
    (coded : CodedFields) : Type 0 where
  pub mode : Mode
  pub level : Level
  pub shaped : IsShaped w h coded mode level
  pub plane : outline.plane ≡ coded.plane
  pub colours : AreColoursOf w h coded level outline.colours.now
  pub first : AreNumeratorsOf w h outline outline.first coded mode 0
  pub second : 1 < mode.planes → AreNumeratorsOf w h outline outline.second coded mode 1

-- the error of place p of a block
abbrev pub block_error_at : (w h : ℕ) → Flavour → Weighting → Block → List (Option Texel) → ℕ → ℕ
block_error_at w h flavour weights block places p =
    place_error weights (texel w h flavour block (p % w) (p / w)) (slice_index_or places p None)
