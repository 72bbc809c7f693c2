-- Changes of a block in a pair of colour integers: the two ends of one channel of a partition.
use Rattle.std.specs.Prelude.{◌≡◌, ◌≢◌, ℕ, ◌+◌, ◌*◌, ◌/◌, ◌<◌, ◌≤◌, suc, Bool, false, ◌==◌, nat_lt, if◌then◌else◌, IsTrue, List, Option, slice_index}
use Rattle.astc_model.specs.Places.{Texel}
use Rattle.astc_model.specs.Weights.{Weighting}
use Rattle.astc_model.specs.declared.flavour.Flavour.{Flavour}
use Rattle.astc_model.specs.declared.preset.Preset.{Preset}
use Rattle.astc_model.specs.declared.preset.Preset.TheVariants.{Pairs}
use Rattle.astc_model.specs.Blocks.{Block}
use Rattle.astc_model.specs.declared.block.Block.TheVariants.{Constant, Coded}
use Rattle.astc_model.specs.Shapes.{CodedFields, colour_count, colour_range}
use Rattle.astc_model.specs.Changes.{Colour, with_integer}
use Rattle.astc_model.specs.Errors.{error}
use Rattle.astc_model.specs.Settled.{IsSettledBlock}

-- whether the integers 2 k and 2 k + 1 of a partition with this endpoint mode are a pair, that is,
-- the two ends of one channel. In modes 6 and 10 (base and scale) only the two alphas of mode 10
-- are a pair.
abbrev pub has_pair : ℕ → ℕ → Bool
has_pair mode k = if mode == 6 then false else if mode == 10 then k == 2 else nat_lt k
    (mode / 4 + 1)

-- a change of a pair: the partition, the pair in it, and the new values of its two integers
pub record PairChange : Type 0 where
  pub part : ℕ
  pub pair : ℕ
  pub first : ℕ
  pub second : ℕ

-- the index of the first integer of a pair among the colour integers of the block
abbrev pub pair_place : CodedFields → ℕ → ℕ → ℕ
pair_place coded part pair = colour_count part coded.cems + 2 * pair

-- the block with new values for both integers of a pair
abbrev pub with_pair : CodedFields → PairChange → Block
with_pair coded change =
    with_integer (with_integer (Coded coded) Colour (pair_place coded change.part change.pair)
    change.first) Colour (suc (pair_place coded change.part change.pair)) change.second

-- the change applies to the block: the pair exists, and both values are within the range
pub record IsPairChange (coded : CodedFields) (change : PairChange) : Type 0 where
  pub part : change.part < coded.parts
  pub pair : IsTrue (has_pair (slice_index coded.cems change.part) change.pair)
  pub first : change.first < colour_range coded
  pub second : change.second < colour_range coded

-- the second block is the first, which is coded, with other values for one or both integers of a
-- pair
abbrev pub Paired : Block → Block → Type 0
Paired (Constant constant) changed = ⊥
Paired (Coded coded) changed = (change : PairChange) × IsPairChange coded change
    × (changed ≡ with_pair coded change) × (changed ≢ Coded coded)

-- no change of a pair of the block has an error under e
abbrev pub NoPairUnder : ℕ → ℕ → Flavour → Weighting → List (Option Texel) → ℕ → Block → Type 0
NoPairUnder w h flavour weights places e block = (changed : Block) → Paired block changed
    → e ≤ error w h flavour weights changed places

-- the bytes are a settled block for this source; under the preset pairs, no change of a pair has a
-- smaller error either
pub record IsPackedBlock (w h : ℕ) (flavour : Flavour) (weights : Weighting) (preset : Preset)
    (places : List (Option Texel)) (proposals : List Block) (bytes : List ℕ) (e : ℕ) : Type 0 where
  pub settled : IsSettledBlock w h flavour weights preset places proposals bytes e
  pub paired : preset ≡ Pairs → NoPairUnder w h flavour weights places e settled.block
