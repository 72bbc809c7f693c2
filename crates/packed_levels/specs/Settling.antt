-- Blocks that are settled one after another.
use Rattle.std.specs.Prelude.{◌≡◌, ℕ, false, List, [], map, length, Option}
use Rattle.std.specs.List.{flat_map, AllByRecursion}
use Rattle.astc_model.specs.declared.footprint_name.FootprintName.{FootprintName}
use Rattle.astc_model.specs.FootprintNames.{sides_of}
use Rattle.astc_model.specs.Places.{Texel}
use Rattle.astc_model.specs.declared.block.Block.{Block}
use Rattle.encoder.specs.Encoders.{IsEncoded}
use Rattle.packed_levels.specs.declared.options.PackOptions.{PackOptions}

-- how blocks are made: the footprint's sides, and the options
pub record SettlingWay : Type 0 where
  pub w : ℕ
  pub h : ℕ
  pub options : PackOptions

-- the same for a footprint that is given by its name
abbrev pub way_of : FootprintName → PackOptions → SettlingWay
way_of name options = record { w = (sides_of name).0; h = (sides_of name).1; options = options }

-- the places of a block's source
abbrev pub Places : Type 0
Places = List (Option Texel)

-- what was settled for a source: the block's bytes and their error
pub record Settling : Type 0 where
  pub places : Places
  pub bytes : List ℕ
  pub error : ℕ

-- which blocks may be proposed: none without advisers
abbrev pub MayPropose : SettlingWay → List Block → Type 0
MayPropose way blocks = way.options.advised ≡ false → blocks ≡ []

-- a block is settled for these places, with this error, if these blocks are proposed, and fitted
-- ones if the options allow them; under the preset pairs no change of a pair is better
abbrev pub IsSettledFor : SettlingWay → Places → List Block → List ℕ → ℕ → Type 0
IsSettledFor way places proposals bytes e =
    IsEncoded way.w way.h way.options.settings places proposals bytes e

-- what was settled is 16 bytes for its source, with proposals that may be made
pub record IsSettled (way : SettlingWay) (settling : Settling) : Type 0 where
  pub size : length settling.bytes ≡ 16
  pub proposals : List Block
  pub proposed : MayPropose way proposals
  pub settled : IsSettledFor way settling.places proposals settling.bytes settling.error

abbrev pub sources_of : List Settling → List Places
sources_of done = map (λ settling. settling.places) done

abbrev pub blocks_of : List Settling → List (List ℕ)
blocks_of done = map (λ settling. settling.bytes) done

abbrev pub errors_of : List Settling → List ℕ
errors_of done = map (λ settling. settling.error) done

-- the bytes of the blocks, one after another
abbrev pub bytes_of : List Settling → List ℕ
bytes_of done = flat_map (λ block. block) (blocks_of done)

-- these are settled for these sources, in order
pub record AreSettled (way : SettlingWay) (sources : List Places)
    (done : List Settling) : Type 0 where
  pub sources_are : sources_of done ≡ sources
  pub each : AllByRecursion (IsSettled way) done
