-- Decoding of a block mode of 11 bits: the weight grid, the level of the weights and the number of
-- planes (Khronos Data Format Specification, ASTC, "Block Mode"). The letters A, B, R, H and D are
-- those of the standard's tables.
use Rattle.std.specs.Prelude.{◌≤◌, ℕ, ◌+◌, ◌-◌, ◌*◌, ◌==◌, if◌then◌else◌, List, [], ◌∷◌, Option, None, Some, option_map, slice_index_or}
use Rattle.std.specs.Int.{bit_at}
use Rattle.astc_model.specs.Sequences.{slice}
use Rattle.astc_model.specs.declared.level.Level.{Level}
use Rattle.astc_model.specs.Levels.{count_of}
use Rattle.astc_model.specs.declared.level.Level.TheVariants.{Two, Three, Four, Five, Six, Eight, Ten, Twelve, Sixteen, Twenty, TwentyFour, ThirtyTwo}
pub use Rattle.astc_model.specs.declared.mode.Mode.{Mode}

-- the ranges of a decoded mode: a grid of 2 by 2 to 12 by 12 points, one or two planes, a level of
-- at most 32
pub record IsInModeRange (mode : Mode) : Type 0 where
  pub some_columns : 2 ≤ mode.across
  pub columns : mode.across ≤ 12
  pub some_rows : 2 ≤ mode.down
  pub rows : mode.down ≤ 12
  pub levels : count_of mode.level ≤ 32
  pub some_plane : 1 ≤ mode.planes
  pub two_planes : mode.planes ≤ 2

-- the size of a grid: its numbers of columns and rows
abbrev pub Grid : Type 0
Grid = ℕ × ℕ

-- the standard's A, bits 6 and 5, and B, bits 8 and 7
abbrev pub bits_a : ℕ → ℕ
bits_a m = slice m 6 5

abbrev pub bits_b : ℕ → ℕ
bits_b m = slice m 8 7

-- the grids of the first table for bits 3 and 2 both 1, by bit 8
unfoldable pub last_grid : ℕ → Grid
last_grid m = if bit_at m 8 == 0 then (bits_a m + 2, bit_at m 7 + 6) else
    (bit_at m 7 + 2, bits_a m + 2)

-- the grids of the first table, for modes whose bits 1 and 0 are not both 0, by bits 3 and 2
unfoldable pub first_grid : ℕ → Grid
first_grid m =
    if slice m 3 2 == 0 then (bits_b m + 4, bits_a m + 2)
    else (if slice m 3 2 == 1 then (bits_b m + 8, bits_a m + 2)
    else (if slice m 3 2 == 2 then (bits_a m + 2, bits_b m + 8)
    else last_grid m))

-- the grids of the second table for bits 8 and 7 both 1, whose sizes are fixed; None if the mode is
-- reserved
unfoldable pub fixed_grid : ℕ → Option Grid
fixed_grid m = if bits_a m == 0 then Some (6, 10) else
    (if bits_a m == 1 then Some (10, 6) else None)

-- the grids of the second table, for modes whose bits 1 and 0 are both 0, by bits 8 and 7; None if
-- the mode is reserved
unfoldable pub second_grid : ℕ → Option Grid
second_grid m =
    if bits_b m == 0 then Some (12, bits_a m + 2)
    else (if bits_b m == 1 then Some (bits_a m + 2, 12)
    else (if bits_b m == 2 then Some (bits_a m + 6, slice m 10 9 + 6)
    else fixed_grid m))

-- the levels of weights for R from 2 to 7, first those with H = 0, then those with H = 1
abbrev pub weight_levels : List Level
weight_levels = Two ∷ Three ∷ Four ∷ Five ∷ Six ∷ Eight ∷ Ten ∷ Twelve ∷ Sixteen ∷ Twenty
    ∷ TwentyFour ∷ ThirtyTwo ∷ []

-- the level of weights for R, 2 to 7, and H
unfoldable pub weight_level : ℕ → ℕ → Level
weight_level r h = slice_index_or weight_levels (6 * h + (r - 2)) Two

-- the mode with this grid, R, H and D
abbrev pub mode_with : ℕ → ℕ → ℕ → Grid → Mode
mode_with r h d grid = record {
  across = grid.0;
  down = grid.1;
  level = weight_level r h;
  planes = d + 1;
}

-- a mode of the first table, where bit 10 is D and bit 9 is H
unfoldable pub first_mode : ℕ → Mode
first_mode m = mode_with (2 * slice m 1 0 + bit_at m 4) (bit_at m 9) (bit_at m 10) (first_grid m)

-- D or H of a mode of the second table; 0 in the modes whose bits 10 and 9 belong to the grid
unfoldable pub bit_beside_grid : ℕ → ℕ → ℕ
bit_beside_grid m place = if bits_b m == 2 then 0 else bit_at m place

-- a mode of the second table; None if it is reserved
unfoldable pub second_mode : ℕ → Option Mode
second_mode m = option_map (mode_with (2 * slice m 3 2 + bit_at m 4) (bit_beside_grid m 9)
    (bit_beside_grid m 10)) (second_grid m)

-- the decoded block mode with the number m; None if it is reserved or that of a void extent
unfoldable pub decoded_mode : ℕ → Option Mode
decoded_mode m =
    if slice m 8 0 == 0x1FC then None
    else (if slice m 3 0 == 0 then None
    else (if slice m 1 0 == 0 then second_mode m
    else Some (first_mode m)))
