-- The block modes that blocks of a kind can have.
use Rattle.std.specs.Prelude.{◌≡◌, ℕ, ◌<◌, ◌==◌, Bool, IsTrue, List, Option, None, Some}
use Rattle.std.specs.List.{All, list_any}
use Rattle.astc_model.specs.Modes.{decoded_mode}
use Rattle.astc_model.specs.Candidates.{recipe_level}
use Rattle.astc_model.specs.Recipes.{with_mode}
use Rattle.astc_model.specs.declared.level.Level.{Level}
use Rattle.astc_model.specs.declared.mode.Mode.{Mode}
use Rattle.astc_model.specs.declared.recipe.Recipe.{Recipe}
use Rattle.listed_walk.specs.declared.kinds.ModeEntry.{ModeEntry}

-- the level that a block mode leaves the colour integers, if blocks of a recipe can have the mode
abbrev pub level_under : (w h : ℕ) → Recipe → Option Mode → Option Level
level_under w h recipe None = None
level_under w h recipe (Some mode) = recipe_level w h recipe mode

-- the level that the mode of a number leaves for the colour integers of a shape's blocks, if they
-- can have it
unfoldable pub level_with : (w h : ℕ) → Recipe → ℕ → Option Level
level_with w h shape number = level_under w h (with_mode number shape) (decoded_mode number)

-- blocks of a shape can have this mode, and it leaves them this level
pub record IsEntry (w h : ℕ) (shape : Recipe) (entry : ModeEntry) : Type 0 where
  pub small : entry.number < 2048
  pub level : level_with w h shape entry.number ≡ Some entry.level
  pub known : decoded_mode entry.number ≡ Some entry.mode

-- its mode
pub record IsModeOf (w h : ℕ) (shape : Recipe) (entry : ModeEntry) (mode : Mode) : Type 0 where
  pub small : entry.number < 2048
  pub known : decoded_mode entry.number ≡ Some mode
  pub fits : recipe_level w h (with_mode entry.number shape) mode ≡ Some entry.level

-- one of them has this number
abbrev pub has_number : ℕ → List ModeEntry → Bool
has_number number entries = list_any (λ entry. entry.number == number) entries

-- these are the modes that blocks of a shape can have
pub record AreEntries (w h : ℕ) (shape : Recipe) (entries : List ModeEntry) : Type 0 where
  pub each : All (IsEntry w h shape) entries
  pub whole : (entry : ModeEntry) → IsEntry w h shape entry
      → IsTrue (has_number entry.number entries)

-- blocks of two shapes can have the same modes, with the same levels
pub record IsLike (a b : Recipe) : Type 0 where
  pub parts : a.parts ≡ b.parts
  pub cem : a.cem ≡ b.cem
  pub plane : (a.plane == 0) ≡ (b.plane == 0)
