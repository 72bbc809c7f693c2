-- The encoded block, beside its proposals.
use Rattle.std.proofs.Common.{ℕ, ◌≤◌, List, [], ◌∷◌, ◌++◌, Option}
use Rattle.std.specs.List.{AllByRecursion}
use Rattle.astc_model.specs.Places.{Texel}
use Rattle.astc_model.specs.Errors.{error}
use Rattle.astc_model.specs.declared.block.Block.{Block}
use Rattle.encoder.specs.declared.settings.Settings.{Settings}
use Rattle.encoder.specs.Encoders.{IsEncoded}

all-behind : {X : Type 0} (P : X → Type 0) (xs ys : List X) → AllByRecursion P (xs ++ ys)
    → AllByRecursion P ys
all-behind P [] ys all = all
all-behind P (x ∷ xs) ys all = all-behind P xs ys all.1

-- no proposal has a smaller error
pub none-proposed : (w h : ℕ) (settings : Settings) (places : List (Option Texel))
    (proposals : List Block) (bytes : List ℕ) (e : ℕ)
    → IsEncoded w h settings places proposals bytes e
    → AllByRecursion (λ block. e ≤ error w h settings.flavour settings.weights block places)
    proposals
none-proposed w h settings places proposals bytes e is =
    all-behind (λ block. e ≤ error w h settings.flavour settings.weights block places) is.fitted
    proposals is.packed.settled.none_proposed
