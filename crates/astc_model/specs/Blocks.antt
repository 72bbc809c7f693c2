-- The contents of blocks as plain data, and which blocks are legal (Khronos Data Format
-- Specification, ASTC, "Block Layout", "Void-Extent Blocks" and "Illegal Encodings").
use Rattle.std.specs.Prelude.{◌≡◌, ◌<◌, ◌≤◌, ◌^◌, ℕ, ◌+◌, ◌*◌, ◌/◌, Bool, ◌&&◌, ◌||◌, ◌==◌, nat_lt, IsTrue, List, [], ◌∷◌, slice_index, length, None, Some, Ok}
use Rattle.std.specs.List.{list_all, All}
pub use Rattle.astc_model.specs.declared.block.Block.{Block}
use Rattle.astc_model.specs.declared.block.Block.TheVariants.{Constant, Coded}
use Rattle.astc_model.specs.declared.level.Level.{Level}
use Rattle.astc_model.specs.Levels.{count_of}
use Rattle.astc_model.specs.Modes.{Mode, decoded_mode}
pub use Rattle.astc_model.specs.Shapes.{CodedFields}
use Rattle.astc_model.specs.Shapes.{weight_count, grid_fault, colour_count, colour_shape}
pub use Rattle.astc_model.specs.declared.block.Constant.{Constant as ConstantFields}
use Rattle.astc_model.specs.Places.{Texel, channel_mean}
use Rattle.std.specs.Prelude.{Option}

-- the coordinates of a void-extent block that has no extent
abbrev pub no_extent : List ℕ
no_extent = 8191 ∷ 8191 ∷ 8191 ∷ 8191 ∷ []

-- whether the coordinates mean no extent, or are in order: least s below greatest s, and least t
-- below greatest t
abbrev pub is_extent_in_order : List ℕ → Bool
is_extent_in_order extent =
    list_all (λ coordinate. coordinate == 8191) extent
    || (nat_lt (slice_index extent 0) (slice_index extent 1) && nat_lt (slice_index extent 2)
    (slice_index extent 3))

-- a void-extent block is legal in the LDR profile
pub record IsLegalConstant (constant : ConstantFields) : Type 0 where
  pub four_values : length constant.rgba ≡ 4
  pub values : IsTrue (list_all (λ value. nat_lt value (2 ^ 16)) constant.rgba)
  pub four_coordinates : length constant.extent ≡ 4
  pub coordinates : IsTrue (list_all (λ coordinate. nat_lt coordinate (2 ^ 13)) constant.extent)
  pub order : IsTrue (is_extent_in_order constant.extent)

-- the block mode, partitions, selector and endpoint modes of a block are in range
pub record AreFieldsInRange (coded : CodedFields) : Type 0 where
  pub mode_range : coded.mode < 2048
  pub some_part : 1 ≤ coded.parts
  pub four_parts : coded.parts ≤ 4
  pub seed_range : coded.seed < 1024
  pub selector_range : coded.selector < 4
  pub four_modes : length coded.cems ≡ 4
  pub mode_ranges : All (λ cem. cem < 16) coded.cems

-- the endpoint mode of a partition can be encoded with the selector: if this is 0, all partitions
-- have the same mode; if it is k, the class of each mode (a quarter of its number) is k - 1 or k
pub record IsSelected (coded : CodedFields) (part : ℕ) : Type 0 where
  pub same : coded.selector ≡ 0 → slice_index coded.cems part ≡ slice_index coded.cems 0
  pub low_class : coded.selector ≤ slice_index coded.cems part / 4 + 1
  pub high_class : 0 < coded.selector → slice_index coded.cems part / 4 ≤ coded.selector

-- the fields that a block does not store are 0, and its endpoint modes can be encoded
pub record AreSparesFixed (coded : CodedFields) : Type 0 where
  pub no_seed : coded.parts ≡ 1 → coded.seed ≡ 0
  pub no_selector : coded.parts ≡ 1 → coded.selector ≡ 0
  pub no_mode : (part : ℕ) → coded.parts ≤ part → slice_index coded.cems part ≡ 0
  pub selected : (part : ℕ) → part < coded.parts → IsSelected coded part

-- the component of the second plane is 1 to 4 for a mode with two planes, and 0 for one plane
pub record IsPlaneOf (mode : Mode) (plane : ℕ) : Type 0 where
  pub one : mode.planes ≡ 1 → plane ≡ 0
  pub two : mode.planes ≡ 2 → (1 ≤ plane) × (plane ≤ 4)

-- a coded block of w by h texels with this mode and this level of colour integers is legal in the
-- LDR profile
pub record IsLegalCoded (w h : ℕ) (coded : CodedFields) (row : Mode) (range : Level) : Type 0 where
  pub fields : AreFieldsInRange coded
  pub spares : AreSparesFixed coded
  pub mode_known : decoded_mode coded.mode ≡ Some row
  pub no_grid_fault : grid_fault w h row ≡ None
  pub no_colour_fault : colour_shape row coded.parts coded.selector coded.cems ≡ Ok range
  pub plane_named : IsPlaneOf row coded.plane
  pub all_colours : length coded.colours.items ≡ colour_count coded.parts coded.cems
  pub colour_ranges : All (λ integer. integer < count_of range) coded.colours.items
  pub all_weights : length coded.weights.items ≡ weight_count row
  pub weight_ranges : All (λ integer. integer < count_of row.level) coded.weights.items

-- a block of w by h texels is legal: a decoder of the LDR profile decodes it
abbrev pub Legal : ℕ → ℕ → Block → Type 0
Legal w h (Constant constant) = IsLegalConstant constant
Legal w h (Coded coded) = (row : Mode) × (range : Level) × IsLegalCoded w h coded row range

-- the void-extent block with these values and without an extent
abbrev pub constant_of : List ℕ → Block
constant_of rgba = Constant (record { rgba = rgba; extent = no_extent })

-- the mean of each channel over the inside texels, widened from 8 to 16 bits
abbrev pub mean_values : List (Option Texel) → List ℕ
mean_values places =
    257 * channel_mean places 0 ∷ 257 * channel_mean places 1 ∷ 257 * channel_mean places 2
    ∷ 257 * channel_mean places 3 ∷ []

-- the void-extent block whose values and coordinates are all 0
abbrev pub blank_block : Block
blank_block = Constant (record { rgba = 0 ∷ 0 ∷ 0 ∷ 0 ∷ []; extent = 0 ∷ 0 ∷ 0 ∷ 0 ∷ [] })
