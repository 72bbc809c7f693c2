-- Blocks with given endpoints.
use Rattle.std.specs.Prelude.{◌≡◌, ℕ, ◌*◌, ◌/◌, ◌%◌, ◌<◌, List, slice_index, slice_index_or}
use Rattle.astc_model.specs.Partitions.{part_of}
use Rattle.astc_model.specs.Candidates.{Ends, no_ends}
use Rattle.astc_model.specs.CodedTexels.{part_colours}
use Rattle.astc_model.specs.declared.level.Level.{Level}
use Rattle.astc_model.specs.declared.mode.Mode.{Mode}
use Rattle.astc_model.specs.declared.block.Coded.{Coded as CodedFields}
use Rattle.texel_error.specs.Shaped.{IsShaped}

-- a legal block of w by h texels has these colours: `parts` has the partition of each place, `ends`
-- the two endpoints of each partition, and `component` is the channel of the second plane, 1 to 4,
-- or 0
pub record HasColours (w h component : ℕ) (parts : List ℕ) (ends : List Ends)
    (coded : CodedFields) : Type 0 where
  pub mode : Mode
  pub level : Level
  pub shaped : IsShaped w h coded mode level
  pub plane : coded.plane ≡ component
  pub map : (p : ℕ) → p < w * h → slice_index parts p ≡ part_of w h coded.parts coded.seed (p % w)
      (p / w)
  pub colours : (part : ℕ) → part < coded.parts → slice_index_or ends part no_ends
      ≡ part_colours coded level part
