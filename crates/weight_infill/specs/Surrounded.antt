-- A table of the four grid points around each texel (Khronos Data Format Specification, ASTC,
-- "Weight Infill").
use Rattle.std.specs.Prelude.{◌≡◌, ℕ, ◌/◌, ◌%◌, ◌<◌, ◌≤◌, List, [], length, slice_index_or, IsTrue}
use Rattle.astc_model.specs.Footprints.{is_footprint}
use Rattle.astc_model.specs.Infill.{factors}

-- the table is for a grid of n by m points in blocks of w by h texels, and has the points with
-- their factors for the first `places` places
pub record AreAround (w h n m places : ℕ) (around : List (List (ℕ × ℕ))) : Type 0 where
  pub sides : IsTrue (is_footprint w h)
  pub some_columns : 2 ≤ n
  pub columns : n ≤ w
  pub some_rows : 2 ≤ m
  pub rows : m ≤ h
  pub all : length around ≡ 144
  pub each : (p : ℕ) → p < places → slice_index_or around p [] ≡ factors w h n m (p % w) (p / w)
