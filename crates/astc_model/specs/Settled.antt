-- The blocks that a preset lists for a source, and settled blocks, the result that the compressor
-- promises.
use Rattle.std.specs.Prelude.{◌≡◌, ℕ, ◌≤◌, List, ◌∷◌, ◌++◌, Option, Ok}
use Rattle.std.specs.List.{AllByRecursion, filter_map}
use Rattle.astc_model.specs.Places.{Texel}
use Rattle.astc_model.specs.Weights.{Weighting}
use Rattle.astc_model.specs.declared.flavour.Flavour.{Flavour}
use Rattle.astc_model.specs.declared.preset.Preset.{Preset}
use Rattle.astc_model.specs.declared.block.Block.{Block}
use Rattle.astc_model.specs.Blocks.{Legal, constant_of, mean_values}
use Rattle.astc_model.specs.Candidates.{candidate}
use Rattle.astc_model.specs.Recipes.{recipes}
use Rattle.astc_model.specs.Errors.{error}
use Rattle.astc_model.specs.Changes.{Changed}
use Rattle.astc_model.specs.Reading.{read, constant_block_bytes}

-- the void-extent block with the mean colour of a source
abbrev pub mean_block : List (Option Texel) → Block
mean_block places = constant_of (mean_values places)

-- the blocks that a preset lists for a source: the void-extent block of the mean, then the
-- candidate of each legal recipe, in order
unfoldable pub listed : ℕ → ℕ → Preset → List (Option Texel) → List Block
listed w h preset places = mean_block places ∷ filter_map (λ recipe. candidate w h recipe places)
    (recipes preset)

-- none of these blocks has an error under e
abbrev pub NoneUnder : ℕ → ℕ → Flavour → Weighting → List (Option Texel) → ℕ → List Block → Type 0
NoneUnder w h flavour weights places e blocks =
    AllByRecursion (λ other. e ≤ error w h flavour weights other places) blocks

-- the block is settled with the error e: the block is legal, its error is e, and neither a listed
-- block nor a change of one integer has a smaller error
pub record Settled (w h : ℕ) (flavour : Flavour) (weights : Weighting) (preset : Preset)
    (places : List (Option Texel)) (block : Block) (e : ℕ) : Type 0 where
  pub legal : Legal w h block
  pub exact : e ≡ error w h flavour weights block places
  pub none_listed : NoneUnder w h flavour weights places e (listed w h preset places)
  pub no_change : (changed : Block) → Changed block changed
      → e ≤ error w h flavour weights changed places

-- no listed block and no proposal has a smaller error than the void-extent block of the mean
abbrev pub NoneUnderMean : ℕ → ℕ → Flavour → Weighting → Preset → List (Option Texel) → List Block
    → Type 0
NoneUnderMean w h flavour weights preset places proposals =
    NoneUnder w h flavour weights places (error w h flavour weights (mean_block places) places)
    (listed w h preset places ++ proposals)

-- the bytes are a settled block for this source with the error e, and no proposal has a smaller
-- error. If neither a listed block nor a proposal has a smaller error than the void-extent block of
-- the mean, the bytes are those of that block.
pub record IsSettledBlock (w h : ℕ) (flavour : Flavour) (weights : Weighting) (preset : Preset)
    (places : List (Option Texel)) (proposals : List Block) (bytes : List ℕ) (e : ℕ) : Type 0 where
  pub block : Block
  pub reads : read w h bytes ≡ Ok block
  pub settled : Settled w h flavour weights preset places block e
  pub none_proposed : NoneUnder w h flavour weights places e proposals
  pub tie : NoneUnderMean w h flavour weights preset places proposals → bytes
      ≡ constant_block_bytes (mean_values places)
