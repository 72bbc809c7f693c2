-- The report on a block.
use Rattle.std.specs.Prelude.{◌≡◌, ℕ, List, [], ◌∷◌, Option, None, Some, Result, Ok, Err, IfSome, length, replicate}
use Rattle.astc_model.specs.Levels.{count_of}
use Rattle.astc_model.specs.Modes.{decoded_mode}
use Rattle.astc_model.specs.FootprintNames.{sides_of}
use Rattle.astc_model.specs.Reading.{read}
use Rattle.astc_model.specs.declared.flavour.Flavour.{Flavour}
use Rattle.astc_model.specs.declared.footprint_name.FootprintName.{FootprintName}
use Rattle.astc_model.specs.declared.block.Block.{Block}
use Rattle.astc_model.specs.declared.block.Block.TheVariants.{Constant, Coded}
use Rattle.astc_model.specs.declared.block.BlockFault.{BlockFault}
use Rattle.astc_model.specs.declared.block.BlockFault.TheVariants.{ReservedMode, HdrConstant, ExtentReserved, ExtentOrder, GridTooLarge, TooManyWeights, WeightBits, DualPlaneFour, TooManyColours, HdrEndpoint, ColourBits}
use Rattle.astc_model.specs.declared.block.Constant.{Constant as ConstantFields}
use Rattle.astc_model.specs.declared.block.Coded.{Coded as CodedFields}
use Rattle.astc_model.specs.declared.mode.Mode.{Mode}
use Rattle.page.specs.declared.blocks.BlockTold.{BlockTold}

-- a fault by its place in the order of tests
abbrev pub fault_number : BlockFault → ℕ
fault_number ReservedMode = 1
fault_number HdrConstant = 2
fault_number ExtentReserved = 3
fault_number ExtentOrder = 4
fault_number GridTooLarge = 5
fault_number TooManyWeights = 6
fault_number WeightBits = 7
fault_number DualPlaneFour = 8
fault_number TooManyColours = 9
fault_number HdrEndpoint = 10
fault_number ColourBits = 11

-- the report on no block: a fault, or 0
unfoldable pub nothing_told : ℕ → BlockTold
nothing_told fault =
    let none : ℕ = 0 in
    let four : List ℕ = replicate 4 none in
    record {
      fault = fault;
      is_coded = 0;
      mode = 0;
      across = 0;
      down = 0;
      planes = 0;
      weight_values = 0;
      colour_values = 0;
      parts = 0;
      seed = 0;
      selector = 0;
      plane = 0;
      colour_count = 0;
      weight_count = 0;
      rgba = four;
      extent = four;
      cems = four;
      colours = replicate 18 none;
      weights = replicate 64 none;
      ends = replicate 4 (replicate 8 none);
      part_of = replicate 144 none;
    }

-- the report on a block of one colour: its values, and else 0
abbrev pub told_of_constant : ConstantFields → BlockTold
told_of_constant constant = record (nothing_told 0) {
  rgba = constant.rgba;
  extent = constant.extent;
}

-- the weight grid of a mode
pub record TellsGrid (mode : Mode) (told : BlockTold) : Type 0 where
  pub across : told.across ≡ mode.across
  pub down : told.down ≡ mode.down
  pub planes : told.planes ≡ mode.planes
  pub values : told.weight_values ≡ count_of mode.level

-- the report on a block of colours and weights
pub record TellsCoded (coded : CodedFields) (told : BlockTold) : Type 0 where
  pub fault : told.fault ≡ 0
  pub coded_is : told.is_coded ≡ 1
  pub mode : told.mode ≡ coded.mode
  pub grid : IfSome (decoded_mode coded.mode) (λ mode. TellsGrid mode told)
  pub parts : told.parts ≡ coded.parts
  pub seed : told.seed ≡ coded.seed
  pub selector : told.selector ≡ coded.selector
  pub plane : told.plane ≡ coded.plane
  pub cems : told.cems ≡ coded.cems
  pub colour_count : told.colour_count ≡ length coded.colours.items
  pub weight_count : told.weight_count ≡ length coded.weights.items
  pub no_values : told.rgba ≡ (nothing_told 0).rgba
  pub no_extent : told.extent ≡ (nothing_told 0).extent

-- the report on bytes, by their meaning: a block of either kind, or a fault
abbrev pub Tells : Result Block BlockFault → BlockTold → Type 0
Tells (Ok (Constant constant)) told = told ≡ told_of_constant constant
Tells (Ok (Coded coded)) told = TellsCoded coded told
Tells (Err fault) told = told ≡ nothing_told (fault_number fault)

-- The report on the first block, and the status: 1 for an unknown format, 2 without a block; then
-- the report before stays.
abbrev pub IsToldOf : Option (FootprintName × Flavour) → List (List ℕ) → (old told : BlockTold) → ℕ
    → Type 0
IsToldOf None blocks old told status = (status ≡ 1) × (told ≡ old)
IsToldOf (Some format) [] old told status = (status ≡ 2) × (told ≡ old)
IsToldOf (Some format) (bytes ∷ blocks) old told status = (status ≡ 0)
    × Tells (read (sides_of format.0).0 (sides_of format.0).1 bytes) told
