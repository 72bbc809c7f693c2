-- The fields of a coded block whose bits are the number z (Khronos Data Format Specification, ASTC,
-- "Block Layout", "Partitioning" and "Color Endpoint Mode").
use Rattle.std.specs.Prelude.{ℕ, ◌+◌, ◌-◌, ◌*◌, ◌/◌, ◌^◌, ◌==◌, nat_lt, if◌then◌else◌, List, [], ◌∷◌}
use Rattle.std.specs.Int.{bit_at}
use Rattle.astc_model.specs.Bits.{field_of, top_field}
use Rattle.astc_model.specs.Modes.{Mode}
use Rattle.astc_model.specs.Shapes.{CodedFields, weight_count, weight_data_bits, colour_count, colour_start, high_mode_bits}
use Rattle.astc_model.specs.Sequences.{sequence}
use Rattle.astc_model.specs.declared.level.Level.{Level}

-- the block mode: the lowest 11 bits
abbrev pub mode_at : ℕ → ℕ
mode_at z = field_of z 0 11

-- the number of partitions, 1 to 4
abbrev pub parts_at : ℕ → ℕ
parts_at z = field_of z 11 2 + 1

-- the partition index; 0 for one partition
abbrev pub seed_at : ℕ → ℕ
seed_at z = if parts_at z == 1 then 0 else field_of z 13 10

-- the CEM selector; 0 for one partition
abbrev pub selector_at : ℕ → ℕ
selector_at z = if parts_at z == 1 then 0 else field_of z 23 2

-- ---- the endpoint modes

-- the position of the first endpoint mode bit below the weights
abbrev pub high_modes_start : Mode → ℕ → ℕ → ℕ
high_modes_start mode parts selector = 128 - weight_data_bits mode - high_mode_bits parts selector

-- the endpoint mode bits of several partitions, joined into one number, the code: six bits from bit
-- 23, and above them the bits below the weights
abbrev pub code_at : ℕ → Mode → ℕ → ℕ → ℕ
code_at z mode parts selector =
    field_of z 23 6 + 64 * field_of z (high_modes_start mode parts selector)
    (high_mode_bits parts selector)

-- the endpoint mode of a partition in the code. With the selector 0 all partitions have the same
-- mode; otherwise the code has a bit for each partition, which is added to the selector less one to
-- give the class of its mode, and then two bits for each, which select the mode in the class.
abbrev pub mode_in_code : ℕ → ℕ → ℕ → ℕ → ℕ
mode_in_code parts selector code part =
    if selector == 0 then field_of code 2 4
    else 4 * (selector - 1 + bit_at code (2 + part)) + field_of code (2 + parts + 2 * part) 2

-- a mode, or 0 if the block has no partition of this number
abbrev pub if_part : ℕ → ℕ → ℕ → ℕ
if_part parts part mode = if nat_lt part parts then mode else 0

-- the endpoint modes of the four partitions in the code; 0 for missing partitions
unfoldable pub modes_in_code : ℕ → ℕ → ℕ → List ℕ
modes_in_code parts selector code =
    if_part parts 0 (mode_in_code parts selector code 0) ∷ if_part parts 1
    (mode_in_code parts selector code 1)
    ∷ if_part parts 2 (mode_in_code parts selector code 2) ∷ if_part parts 3
    (mode_in_code parts selector code 3) ∷ []

-- the endpoint modes of the block; for one partition, the four bits after the number of partitions
unfoldable pub cems_at : ℕ → Mode → List ℕ
cems_at z mode =
    if parts_at z == 1 then field_of z 13 4 ∷ 0 ∷ 0 ∷ 0 ∷ []
    else modes_in_code (parts_at z) (selector_at z) (code_at z mode (parts_at z) (selector_at z))

-- ---- the second plane

-- the component of the second plane, which is stored below the endpoint mode bits: 1 to 4, and 0
-- for one plane
unfoldable pub plane_at : ℕ → Mode → ℕ → ℕ → ℕ
plane_at z mode parts selector =
    if mode.planes == 2 then field_of z (high_modes_start mode parts selector - 2) 2 + 1 else 0

-- ---- the sequences

-- the colour integers of all partitions
unfoldable pub colours_at : ℕ → ℕ → List ℕ → Level → List ℕ
colours_at z parts cems level = sequence (z / 2 ^ colour_start parts) level
    (colour_count parts cems)

-- the weights, whose sequence is stored in reverse bit order from the top of the block
unfoldable pub weights_at : ℕ → Mode → List ℕ
weights_at z mode = sequence (top_field z 0 (weight_data_bits mode)) mode.level (weight_count mode)

-- the contents of a coded block with this mode and this level of colour integers
unfoldable pub coded_at : ℕ → Mode → Level → CodedFields
coded_at z mode level = record {
  mode = mode_at z;
  parts = parts_at z;
  seed = seed_at z;
  selector = selector_at z;
  cems = cems_at z mode;
  colours = record { items = colours_at z (parts_at z) (cems_at z mode) level };
  weights = record { items = weights_at z mode };
  plane = plane_at z mode (parts_at z) (selector_at z);
}
