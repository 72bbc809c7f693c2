-- The values of single words: numbers in a range, footprints, presets.
use Rattle.std.specs.Prelude.{ℕ, nat_le, ◌&&◌, if◌then◌else◌, List, [], ◌∷◌, Option, Some, None, Result, Ok, Err, find, ok_or, option_and_then}
use Rattle.std.specs.Str.{bytes_eq}
use Rattle.decimal_text.specs.Numbers.{number_in}
use Rattle.astc_model.specs.declared.footprint_name.FootprintName.{FootprintName}
use Rattle.astc_model.specs.FootprintNames.{footprint_word}
use Rattle.astc_model.specs.declared.preset.Preset.{Preset}
use Rattle.astc_model.specs.Presets.{preset_word}
use Rattle.astc_model.specs.declared.footprint_name.FootprintName.TheVariants.{F4x4, F5x4, F5x5, F6x5, F6x6, F8x5, F8x6, F8x8, F10x5, F10x6, F10x8, F10x10, F12x10, F12x12}
use Rattle.astc_model.specs.declared.preset.Preset.TheVariants.{Flat, Quick, Medium, Thorough, Pairs}
use Rattle.astc_words.specs.declared.fault.UsageFault.{UsageFault}
use Rattle.astc_words.specs.declared.fault.UsageFault.TheVariants.{BadNumber, BadFootprint, BadPreset}

-- a step, and the next with its value; the first fault is the answer
infixl 10 ◌>>=◌
abbrev pub ◌>>=◌ : {A B : Type 0} → Result A UsageFault → (A → Result B UsageFault)
    → Result B UsageFault
(Ok x) >>= f = f x
(Err fault) >>= f = Err fault

-- ---- numbers

-- the number, if it is within these
abbrev pub in_range : ℕ → ℕ → ℕ → Option ℕ
in_range least most n = if nat_le least n && nat_le n most then Some n else None

-- the decimal number of a word, if it is within these
abbrev pub number_within : ℕ → ℕ → List ℕ → Option ℕ
number_within least most word = option_and_then (in_range least most) (number_in word)

-- the number of the word at a place
abbrev pub number_at : ℕ → ℕ → ℕ → List ℕ → Result ℕ UsageFault
number_at place least most word = ok_or (number_within least most word) (BadNumber place)

-- ---- footprints and presets

-- all fourteen, in the order of the formats' numbers
abbrev pub footprint_names : List FootprintName
footprint_names = F4x4 ∷ F5x4 ∷ F5x5 ∷ F6x5 ∷ F6x6 ∷ F8x5 ∷ F8x6 ∷ F8x8 ∷ F10x5 ∷ F10x6 ∷ F10x8
    ∷ F10x10 ∷ F12x10 ∷ F12x12 ∷ []

-- the footprint that a word names
unfoldable pub footprint_of : List ℕ → Option FootprintName
footprint_of word = find (λ name. bytes_eq word (footprint_word name)) footprint_names

-- the footprint that the word at a place names
abbrev pub footprint_at : ℕ → List ℕ → Result FootprintName UsageFault
footprint_at place word = ok_or (footprint_of word) (BadFootprint place)

abbrev pub presets : List Preset
presets = Flat ∷ Quick ∷ Medium ∷ Thorough ∷ Pairs ∷ []

-- the preset that a word names
unfoldable pub preset_of : List ℕ → Option Preset
preset_of word = find (λ preset. bytes_eq word (preset_word preset)) presets

-- the preset that the word at a place names
abbrev pub preset_at : ℕ → List ℕ → Result Preset UsageFault
preset_at place word = ok_or (preset_of word) (BadPreset place)
