-- The sources of the blocks of images, in the order of the blocks.
use Rattle.std.specs.Prelude.{ℕ, List, map}
use Rattle.std.specs.List.{range_with_len}
use Rattle.images.specs.Pictures.{Pictures, source_of}
use Rattle.packed_levels.specs.Settling.{Places}

-- those of a row of blocks
unfoldable pub row_sources : ℕ → ℕ → Pictures → ℕ → ℕ → ℕ → List Places
row_sources w h images columns image row = map (λ column. source_of w h images image column row)
    (range_with_len 0 columns)
