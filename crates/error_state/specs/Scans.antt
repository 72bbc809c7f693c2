-- The integers of a state's block by their kind, and what other values of one of them do to the
-- error.
use Rattle.std.specs.Prelude.{◌≡◌, ◌≢◌, ℕ, ◌<◌, ◌≤◌, Option, None, Some}
use Rattle.astc_model.specs.Changes.{IntegerKind, Colour, Weight, integer_count, value_count, integer_at, with_integer}
use Rattle.astc_model.specs.declared.block.Block.TheVariants.{Coded}
use Rattle.error_tables.specs.Changed.{with_weight, with_colour}
use Rattle.error_tables.specs.State.{StateView, error_in, touched_count, coloured_count}
use Rattle.error_state.specs.declared.kinds.CodedKind.{CodedKind}
use Rattle.error_state.specs.declared.kinds.CodedKind.TheVariants.{Colour as OfColour, Weight as OfWeight}
use Rattle.error_state.specs.declared.scans.Better.{Better}

-- the same kind among those of all blocks; void extents have another
abbrev pub kind_of : CodedKind → IntegerKind
kind_of OfColour = Colour
kind_of OfWeight = Weight

-- how many integers of a kind the block has
abbrev pub integers_of : StateView → CodedKind → ℕ
integers_of state kind = integer_count (Coded state.block) (kind_of kind)

-- how many values they can have
abbrev pub range_of : StateView → CodedKind → ℕ
range_of state kind = value_count (Coded state.block) (kind_of kind)

-- the value that integer i of a kind has in the block
abbrev pub value_at : StateView → CodedKind → ℕ → ℕ
value_at state kind i = integer_at (Coded state.block) (kind_of kind) i

-- the state with an integer at another value
abbrev pub with_value : StateView → CodedKind → (i value : ℕ) → StateView
with_value state OfColour i value = record state { block = with_colour state.block i value }
with_value state OfWeight i value = record state { block = with_weight state.block i value }

-- the error of the block
abbrev pub error_now : (w h : ℕ) → StateView → ℕ
error_now w h state = error_in w h state (Coded state.block)

-- the error of the block with an integer at another value
abbrev pub error_with_value : (w h : ℕ) → StateView → CodedKind → (i value : ℕ) → ℕ
error_with_value w h state kind i value =
    error_in w h state (with_integer (Coded state.block) (kind_of kind) i value)

-- how many inside texels another value of an integer can alter
abbrev pub reach_count : (w h : ℕ) → StateView → CodedKind → ℕ → ℕ
reach_count w h state OfColour i = coloured_count w h state i
reach_count w h state OfWeight i = touched_count w h state i

-- another value of an integer and the error with it, which is less than the block's
pub record IsBetter (w h : ℕ) (state : StateView) (kind : CodedKind) (i : ℕ)
    (better : Better) : Type 0 where
  pub within : better.value < range_of state kind
  pub other : better.value ≢ value_at state kind i
  pub exact : better.error ≡ error_with_value w h state kind i better.value
  pub less : better.error < error_now w h state

-- the error with a value, if there is one, and else the block's
abbrev pub least_of : ℕ → Option Better → ℕ
least_of total None = total
least_of total (Some better) = better.error

-- the best value once another one was tried
abbrev pub better_of : Option Better → (value : ℕ) → Option ℕ → Option Better
better_of best value None = best
better_of best value (Some e) = Some (record { value = value; error = e })

-- no other value of an integer gives an error under e
abbrev pub NoValueUnder : (w h : ℕ) → StateView → CodedKind → (i e : ℕ) → Type 0
NoValueUnder w h state kind i e = (value : ℕ) → value < range_of state kind
    → value ≢ value_at state kind i → e ≤ error_with_value w h state kind i value

-- no other value of an integer gives an error under the block's
abbrev pub NoBetter : (w h : ℕ) → StateView → CodedKind → ℕ → Type 0
NoBetter w h state kind i = NoValueUnder w h state kind i (error_now w h state)
