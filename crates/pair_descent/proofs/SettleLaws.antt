-- The properties of the best block stay while it improves, and then its bytes are packed.
use Rattle.std.proofs.Common.{◌≡◌, ℕ, ◌≤◌, Bool, false, List, ◌++◌, Option, None, Some, Ok, refl, subst, arith}
use Rattle.std.specs.Option.{IfSome}
use Rattle.astc_model.specs.Reading.{read}
use Rattle.astc_model.specs.PairChanges.{NoPairUnder, IsPackedBlock}
use Rattle.astc_model.specs.Settled.{IsSettledBlock}
use Rattle.astc_model.specs.declared.preset.Preset.{Preset}
use Rattle.astc_model.specs.declared.preset.Preset.TheVariants.{Pairs}
use Rattle.astc_model.specs.declared.block.Coded.{Coded as CodedFields}
use Rattle.astc_model.specs.declared.block.Block.{Block}
use Rattle.astc_model.specs.declared.block.Block.TheVariants.{Coded}
use Rattle.texel_error.specs.Goals.{GoalView, error_to}
use Rattle.listed_walk.specs.declared.best.Best.{Best}
use Rattle.descent.specs.Encoding.{IsSettledBest, IsSettledAmong, best_block}
use Rattle.descent.proofs.EncodeLaws.{stays_best}
use Rattle.pair_descent.specs.Packed.{IsPackedAmong}
use Rattle.pair_descent.specs.Pairs.{FindsPair, StaysSettled}

module _ (w h : ℕ) (goal : GoalView) where
  -- if no change of a pair is better, the block is packed
  no_pair : (block : Option CodedFields) (e : ℕ)
      → IfSome block (λ coded. e ≡ error_to w h goal (Coded coded)) → FindsPair w h goal block None
      → NoPairUnder w h goal.flavour goal.weights goal.places e (best_block goal block)
  no_pair None e exact none = λ changed paired. absurd paired
  no_pair (Some coded) e exact none = λ changed paired. omega (arith, exact, none changed paired)

  pub packed : (preset : Preset) (fits : Bool) (proposals : List Block) (best new : Best)
      (bytes : List ℕ) → IsSettledAmong w h goal preset fits proposals best
      → StaysSettled w h goal best new
      → (preset ≡ Pairs → FindsPair w h goal new.block None) → read w h bytes
      ≡ Ok (best_block goal new.block)
      → ((blocks : List Block) → IsSettledBest w h goal preset blocks new
      → IsSettledBlock w h goal.flavour goal.weights preset goal.places blocks bytes
      new.error)
      → IsPackedAmong w h goal preset fits proposals bytes new.error
  packed preset fits proposals best new bytes is stays pairs reads settles =
      let blocks : List Block = is.fitted ++ proposals in
      let settled : IsSettledBest w h goal preset blocks new = record {
        best_for = stays_best w h goal preset blocks best new is.settled.best_for stays.sound
            stays.lower (λ nothing. stays.none (stays.some nothing)) stays.none;
        settled = stays.settled;
      } in
      let is_settled : IsSettledBlock w h goal.flavour goal.weights preset goal.places blocks bytes
      new.error = settles blocks settled in
      let same : is_settled.block ≡ best_block goal new.block = cc (is_settled.reads, reads) in
      record {
        fitted = is.fitted;
        plain = is.plain;
        packed = record {
          settled = is_settled;
          paired = λ under. rw same (no_pair new.block new.error stays.sound.exact (pairs under));
        };
      }

-- without fits only these blocks are proposed
pub plain_packed : (w h : ℕ) (goal : GoalView) (preset : Preset) (proposals : List Block)
    (bytes : List ℕ) (e : ℕ) → IsPackedAmong w h goal preset false proposals bytes e
    → IsPackedBlock w h goal.flavour goal.weights preset goal.places proposals bytes e
plain_packed w h goal preset proposals bytes e is =
    subst (λ fitted. IsPackedBlock w h goal.flavour goal.weights preset goal.places
    (fitted ++ proposals) bytes e) (is.plain refl) is.packed
