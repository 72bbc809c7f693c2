-- Changes of a block in one integer.
use Rattle.std.specs.Prelude.{◌≡◌, ◌≢◌, ℕ, ◌<◌, ◌^◌, length, slice_index, slice_set}
use Rattle.astc_model.specs.Blocks.{Block}
use Rattle.astc_model.specs.Shapes.{colour_range, weight_range}
use Rattle.astc_model.specs.declared.block.Block.TheVariants.{Constant, Coded}

-- what an integer of a block encodes: a value of a void-extent block, a colour value or a weight
pub data IntegerKind : Type 0 where
  ConstantValue : IntegerKind
  Colour : IntegerKind
  Weight : IntegerKind

-- a change: the kind of an integer, its index among those of its kind, and its new value
pub record Change : Type 0 where
  pub kind : IntegerKind
  pub at : ℕ
  pub value : ℕ

-- the number of integers of a kind in a block
abbrev pub integer_count : Block → IntegerKind → ℕ
integer_count (Constant constant) ConstantValue = 4
integer_count (Constant constant) Colour = 0
integer_count (Constant constant) Weight = 0
integer_count (Coded coded) ConstantValue = 0
integer_count (Coded coded) Colour = length coded.colours.items
integer_count (Coded coded) Weight = length coded.weights.items

-- the number of values that an integer of this kind can have in the block
abbrev pub value_count : Block → IntegerKind → ℕ
value_count (Constant constant) ConstantValue = 2 ^ 16
value_count (Constant constant) Colour = 0
value_count (Constant constant) Weight = 0
value_count (Coded coded) ConstantValue = 0
value_count (Coded coded) Colour = colour_range coded
value_count (Coded coded) Weight = weight_range coded

-- integer `at` of this kind
abbrev pub integer_at : Block → IntegerKind → ℕ → ℕ
integer_at (Constant constant) ConstantValue at = slice_index constant.rgba at
integer_at (Constant constant) Colour at = 0
integer_at (Constant constant) Weight at = 0
integer_at (Coded coded) ConstantValue at = 0
integer_at (Coded coded) Colour at = slice_index coded.colours.items at
integer_at (Coded coded) Weight at = slice_index coded.weights.items at

-- the block with another value for an integer of this kind; unchanged if the block has no integers
-- of this kind
abbrev pub with_integer : Block → IntegerKind → ℕ → ℕ → Block
with_integer (Constant constant) ConstantValue at value =
    Constant (record constant { rgba = slice_set constant.rgba at value })
with_integer (Constant constant) Colour at value = Constant constant
with_integer (Constant constant) Weight at value = Constant constant
with_integer (Coded coded) ConstantValue at value = Coded coded
with_integer (Coded coded) Colour at value =
    Coded (record coded { colours = record { items = slice_set coded.colours.items at value } })
with_integer (Coded coded) Weight at value =
    Coded (record coded { weights = record { items = slice_set coded.weights.items at value } })

-- the block after a change
abbrev pub with_change : Block → Change → Block
with_change block change = with_integer block change.kind change.at change.value

-- the change applies to the block: its integer exists, and the new value is within its range and
-- another one
pub record IsChange (block : Block) (change : Change) : Type 0 where
  pub place : change.at < integer_count block change.kind
  pub range : change.value < value_count block change.kind
  pub other : change.value ≢ integer_at block change.kind change.at

-- the second block is the first after a change: they differ in exactly one integer
abbrev pub Changed : Block → Block → Type 0
Changed block changed = (change : Change) × IsChange block change
    × (changed ≡ with_change block change)
