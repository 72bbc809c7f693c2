-- No change is better exactly if no change of either kind of integer is.
use Rattle.std.proofs.Common.{◌≢◌, ℕ, ◌<◌, ◌≤◌, List, Option, refl, arith}
use Rattle.astc_model.specs.Places.{Texel}
use Rattle.astc_model.specs.Weights.{Weighting}
use Rattle.astc_model.specs.Errors.{error}
use Rattle.astc_model.specs.Changes.{IntegerKind, ConstantValue, Colour as ColourInteger, Weight as WeightInteger, integer_count, value_count, integer_at, with_integer}
use Rattle.astc_model.specs.declared.flavour.Flavour.{Flavour}
use Rattle.astc_model.specs.declared.block.Coded.{Coded as CodedFields}
use Rattle.astc_model.specs.declared.block.Block.TheVariants.{Coded}
use Rattle.error_tables.specs.State.{StateView}
use Rattle.error_state.specs.Scans.{kind_of}
use Rattle.error_state.specs.declared.kinds.CodedKind.{CodedKind}
use Rattle.error_state.specs.declared.kinds.CodedKind.TheVariants.{Colour, Weight}
use Rattle.descent.specs.Least.{NoChangeIsBetter, NoneBetter, view_of}

module _ (w h : ℕ) (flavour : Flavour) (weights : Weighting) (places : List (Option Texel))
    (coded : CodedFields) where
  abbrev state : StateView
  state = view_of flavour weights places coded

  by_kind : NoneBetter w h state Colour → NoneBetter w h state Weight
      → (kind : IntegerKind) (at value : ℕ) → at < integer_count (Coded coded) kind
      → value < value_count (Coded coded) kind → value ≢ integer_at (Coded coded) kind at
      → error w h flavour weights (Coded coded) places ≤ error w h flavour weights
      (with_integer (Coded coded) kind at value) places
  by_kind colours others ConstantValue at value place range other = absurd (omega arith)
  by_kind colours others ColourInteger at value place range other =
      colours at place value range other
  by_kind colours others WeightInteger at value place range other =
      others at place value range other

  pub none_of_kinds : NoneBetter w h state Colour → NoneBetter w h state Weight
      → NoChangeIsBetter w h flavour weights places (Coded coded)
  none_of_kinds colours others = λ changed differs.
      rw differs.2 (by_kind colours others differs.0.kind differs.0.at differs.0.value
      differs.1.place differs.1.range differs.1.other)

  pub kinds_of_none : NoChangeIsBetter w h flavour weights places (Coded coded) → (kind : CodedKind)
      → NoneBetter w h state kind
  kinds_of_none none kind = λ i below value range other.
      none (with_integer (Coded coded) (kind_of kind) i value) (
        record { kind = kind_of kind; at = i; value = value },
        record {
          place = below;
          range = range;
          other = other;
        },
        refl,
      )
