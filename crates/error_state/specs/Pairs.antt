-- Changes of both integers of a pair of a state's block, and what they do to the error.
use Rattle.std.specs.Prelude.{◌≡◌, ℕ, ◌<◌, ◌≤◌, Option, None, Some}
use Rattle.astc_model.specs.PairChanges.{PairChange, IsPairChange, with_pair}
use Rattle.error_tables.specs.State.{StateView, error_in}
use Rattle.error_state.specs.Scans.{error_now}
use Rattle.error_state.specs.declared.pairs.BetterPair.{BetterPair}

-- the change that was found to be better, without its error
abbrev pub change_of : BetterPair → PairChange
change_of better = record {
  part = better.part;
  pair = better.pair;
  first = better.first;
  second = better.second;
}

-- the error of the block with both integers of a pair at other values
abbrev pub error_with_pair : (w h : ℕ) → StateView → PairChange → ℕ
error_with_pair w h state change = error_in w h state (with_pair state.block change)

-- a change of a pair and the error with it, which is less than the block's
pub record IsBetterPair (w h : ℕ) (state : StateView) (better : BetterPair) : Type 0 where
  pub within : IsPairChange state.block (change_of better)
  pub exact : better.error ≡ error_with_pair w h state (change_of better)
  pub less : better.error < error_now w h state

-- a better change of a pair among those that were tried; if none was found, none is better
abbrev pub FindsPair : (w h : ℕ) → StateView → (PairChange → Type 0) → Option BetterPair → Type 0
FindsPair w h state looked None = (change : PairChange) → IsPairChange state.block change
    → looked change → error_now w h state ≤ error_with_pair w h state change
FindsPair w h state looked (Some better) = IsBetterPair w h state better

-- the changes of a part's pairs, of one pair, and of one pair with one first value
abbrev pub OfPart : ℕ → PairChange → Type 0
OfPart part change = change.part ≡ part

abbrev pub OfPair : (part pair : ℕ) → PairChange → Type 0
OfPair part pair change = (change.part ≡ part) × (change.pair ≡ pair)

abbrev pub OfFirst : (part pair first : ℕ) → PairChange → Type 0
OfFirst part pair first change = (change.part ≡ part) × (change.pair ≡ pair)
    × (change.first ≡ first)

-- no change of a pair gives an error under the block's
abbrev pub NoPairBetter : (w h : ℕ) → StateView → Type 0
NoPairBetter w h state = (change : PairChange) → IsPairChange state.block change
    → error_now w h state ≤ error_with_pair w h state change
