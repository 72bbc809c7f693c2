-- The words that name presets.
use Rattle.std.specs.Prelude.{ℕ, List, codes}
pub use Rattle.astc_model.specs.declared.preset.Preset.{Preset}
use Rattle.astc_model.specs.declared.preset.Preset.TheVariants.{Flat, Quick, Medium, Thorough, Pairs}

-- the word for the preset on the command line
abbrev pub preset_word : Preset → List ℕ
preset_word Flat = codes "flat"
preset_word Quick = codes "quick"
preset_word Medium = codes "medium"
preset_word Thorough = codes "thorough"
preset_word Pairs = codes "pairs"
