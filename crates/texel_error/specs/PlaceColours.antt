-- The endpoints of each place, and the partition of each place, in arrays for vectors.
use Rattle.std.specs.Prelude.{◌≡◌, ℕ, ◌+◌, ◌*◌, ◌/◌, ◌<◌, List, [], length, slice_index, slice_index_or}
use Rattle.astc_model.specs.Places.{channel}
use Rattle.texel_error.specs.Shown.{Ends}
use Rattle.texel_error.specs.declared.colours.EndTables.{EndTables}
use Rattle.texel_error.specs.declared.colours.PartitionLanes.{PartitionLanes}
use Rattle.texel_error.specs.declared.colours.PlaceColours.{PlaceColours}

-- the endpoints of the partition of place p
abbrev pub place_ends : List ℕ → List Ends → ℕ → Ends
place_ends parts ends p = slice_index_or ends (slice_index parts p) ([], [])

-- each of n places has the two endpoints of its partition
pub record AreColoursTo (parts : List ℕ) (ends : List Ends) (n : ℕ)
    (colours : PlaceColours) : Type 0 where
  pub all_first : length colours.first ≡ 576
  pub all_second : length colours.second ≡ 576
  pub first : (p c : ℕ) → p < n → c < 4 → slice_index colours.first (4 * p + c)
      ≡ channel c (place_ends parts ends p).0
  pub second : (p c : ℕ) → p < n → c < 4 → slice_index colours.second (4 * p + c)
      ≡ channel c (place_ends parts ends p).1

-- the lanes of n places have the indices of their partitions in tables with four bytes for each
-- partition
pub record ArePartitionLanesTo (parts : List ℕ) (n : ℕ) (lanes : List ℕ) : Type 0 where
  pub all : length lanes ≡ 576
  pub each : (p c : ℕ) → p < n → c < 4
      → slice_index lanes (4 * p + c) ≡ 4 * slice_index parts p + c
  pub small : (k : ℕ) → slice_index lanes k < 16

-- the lanes of all places, and of those that fill up the last group of four, have the indices of
-- their partitions
abbrev pub ArePartitionLanes : (w h : ℕ) → (parts : List ℕ) → PartitionLanes → Type 0
ArePartitionLanes w h parts partitions =
    ArePartitionLanesTo parts (4 * ((w * h + 3) / 4)) partitions.lanes

-- the tables have the endpoints of the first n partitions
pub record AreEndTables (ends : List Ends) (n : ℕ) (tables : EndTables) : Type 0 where
  pub all_firsts : length tables.firsts ≡ 16
  pub all_seconds : length tables.seconds ≡ 16
  pub first : (part c : ℕ) → part < n → c < 4 → slice_index tables.firsts (4 * part + c)
      ≡ channel c (slice_index_or ends part ([], [])).0
  pub second : (part c : ℕ) → part < n → c < 4 → slice_index tables.seconds (4 * part + c)
      ≡ channel c (slice_index_or ends part ([], [])).1

-- in the first `groups` groups, each lane has the table entry at its index
pub record ArePicked (groups : ℕ) (table lanes bytes : List ℕ) : Type 0 where
  pub all : length bytes ≡ 576
  pub each : (k : ℕ) → k < 16 * groups
      → slice_index bytes k ≡ slice_index table (slice_index lanes k)
