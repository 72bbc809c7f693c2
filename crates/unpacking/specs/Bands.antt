-- The texels that the blocks of a row show together.
use Rattle.std.specs.Prelude.{◌≡◌, ◌<◌, ℕ, ◌+◌, ◌*◌, ◌/◌, ◌%◌, List, [], length, map, Result, Ok, Err, slice_index_or}
use Rattle.std.specs.List.{flat_map, range_with_len}
use Rattle.astc_model.specs.Shown.{shown}
use Rattle.astc_model.specs.Reading.{read}
use Rattle.astc_model.specs.declared.flavour.Flavour.{Flavour}
use Rattle.astc_model.specs.declared.block.Block.{Block}
use Rattle.astc_model.specs.declared.block.BlockFault.{BlockFault}

-- 1 for a block that can't be read
abbrev pub faults_in : Result Block BlockFault → ℕ
faults_in (Ok block) = 0
faults_in (Err fault) = 1

-- the same of the bytes of a block
unfoldable pub illegal : ℕ → ℕ → List ℕ → ℕ
illegal w h bytes = faults_in (read w h bytes)

-- 1 for each block that can't be read, 0 for each other
abbrev pub faults_of : ℕ → ℕ → List (List ℕ) → List ℕ
faults_of w h blocks = map (illegal w h) blocks

-- the first n blocks are decoded
pub record AreDecoded (w h : ℕ) (flavour : Flavour) (blocks : List (List ℕ)) (n : ℕ)
    (decoded : List (List (List ℕ))) : Type 0 where
  pub count : length decoded ≡ n
  pub each : (k p : ℕ) → k < n → p < w * h → slice_index_or (slice_index_or decoded k []) p []
      ≡ shown w h flavour (slice_index_or blocks k []) (p % w) (p / w)

-- the texels of row y from this number of decoded blocks
abbrev pub row_from : ℕ → List (List (List ℕ)) → ℕ → ℕ → List ℕ
row_from w decoded y width =
    flat_map (λ x. slice_index_or (slice_index_or decoded (x / w) []) (y * w + x % w) [])
    (range_with_len 0 width)

-- the first rows of texels from decoded blocks, one after another
abbrev pub rows_from : ℕ → List (List (List ℕ)) → ℕ → ℕ → List ℕ
rows_from w decoded width rows = flat_map (λ y. row_from w decoded y width) (range_with_len 0 rows)
