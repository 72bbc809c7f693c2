-- Blocks that are settled from a number on, if the blocks of another texture may be proposed.
use Rattle.std.specs.Prelude.{◌≡◌, ◌<◌, ◌≤◌, ℕ, false, ◌+◌, List, [], length, map, take, drop, slice_index, slice_index_or}
use Rattle.std.specs.List.{AllByRecursion}
use Rattle.astc_model.specs.declared.block.Block.{Block}
use Rattle.astc_model.specs.Limits.{most_block_error}
use Rattle.astc_model.specs.Shown.{error_shown}
use Rattle.encoder.specs.declared.settings.Settings.{Settings}
use Rattle.encoder.specs.Shown.{shown_block}
use Rattle.packed_levels.specs.declared.options.PackOptions.{PackOptions}
use Rattle.packed_levels.specs.Settling.{SettlingWay, Places, IsSettledFor}

-- the proposal for the block of a number: the texels' block of the bytes that another texture has
-- there, if it has some
abbrev pub proposed_at : SettlingWay → List (List ℕ) → ℕ → List Block
proposed_at way others number = map (shown_block way.w way.h) (take 1 (drop number others))

-- options without advisers
abbrev pub unadvised : Settings → PackOptions
unadvised settings = record { settings = settings; advised = false }

-- how blocks of these sides are made by settings, without advisers
abbrev pub way_by : ℕ → ℕ → Settings → SettlingWay
way_by w h settings = record { w = w; h = h; options = unadvised settings }

-- Blocks with their errors, from the number `start` on: each is settled for the source of its
-- number.
pub record AreSettledFrom (way : SettlingWay) (others : List (List ℕ)) (places : List Places)
    (start : ℕ) (blocks : List (List ℕ)) (errors : List ℕ) : Type 0 where
  pub errors_full : length errors ≡ length blocks
  pub sizes : AllByRecursion (λ block. length block ≡ 16) blocks
  pub small : AllByRecursion (λ error. error ≤ most_block_error) errors
  pub each : (k : ℕ) → k < length blocks
      → IsSettledFor way (slice_index_or places (start + k) []) (proposed_at way others (start + k))
      (slice_index_or blocks k []) (slice_index errors k)

-- no block has a greater error than the texels shown for the bytes of its number
abbrev pub AreNoWorse : SettlingWay → List (List ℕ) → List Places → List ℕ → Type 0
AreNoWorse way others places errors =
    (k : ℕ) → k < length others
    → slice_index errors k ≤ error_shown way.w way.h way.options.settings.flavour
    way.options.settings.weights (slice_index_or others k []) (slice_index_or places k [])
