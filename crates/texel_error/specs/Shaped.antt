-- A legal block with its decoded mode and its level of colour integers, and what follows for the
-- code.
use Rattle.std.specs.Prelude.{◌≡◌, ℕ, ◌*◌, ◌<◌, ◌≤◌, length, slice_index, IsTrue}
use Rattle.std.specs.List.{All}
use Rattle.astc_model.specs.Footprints.{is_footprint}
use Rattle.astc_model.specs.Levels.{count_of}
use Rattle.astc_model.specs.Endpoints.{is_ldr_mode}
use Rattle.astc_model.specs.Blocks.{IsLegalCoded}
use Rattle.astc_model.specs.declared.level.Level.{Level}
use Rattle.astc_model.specs.declared.mode.Mode.{Mode}
use Rattle.astc_model.specs.declared.block.Coded.{Coded as CodedFields}

pub record IsShaped (w h : ℕ) (coded : CodedFields) (mode : Mode) (level : Level) : Type 0 where
  pub sides : IsTrue (is_footprint w h)
  pub legal : IsLegalCoded w h coded mode level
  pub some_columns : 2 ≤ mode.across
  pub columns : mode.across ≤ w
  pub some_rows : 2 ≤ mode.down
  pub rows : mode.down ≤ h
  pub levels : count_of mode.level ≤ 32
  pub some_plane : 1 ≤ mode.planes
  pub two_planes : mode.planes ≤ 2
  pub few_weights : mode.across * mode.down * mode.planes ≤ 64
  pub all_weights : length coded.weights.items ≡ mode.across * mode.down * mode.planes
  pub weight_ranges : All (λ integer. integer < count_of mode.level) coded.weights.items
  pub some_part : 1 ≤ coded.parts
  pub four_parts : coded.parts ≤ 4
  pub seed_range : coded.seed < 1024
  pub four_modes : length coded.cems ≡ 4
  pub six : 6 ≤ count_of level
  pub few_colours : length coded.colours.items ≤ 18
  pub colour_ranges : All (λ integer. integer < count_of level) coded.colours.items
  pub ldr : (part : ℕ) → part < coded.parts → IsTrue (is_ldr_mode (slice_index coded.cems part))
