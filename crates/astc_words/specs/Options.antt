-- The options of commands: the words after the required ones.
use Rattle.std.specs.Prelude.{ℕ, ◌+◌, ◌==◌, ◌||◌, ◌&&◌, Bool, true, false, if◌then◌else◌, List, [], ◌∷◌, length, take, drop, Option, Some, None, Result, Ok, Err, codes, ok_or, option_map, is_some}
use Rattle.std.specs.List.{list_any}
use Rattle.std.specs.Option.{option_or}
use Rattle.std.specs.Str.{bytes_eq}
use Rattle.astc_words.specs.declared.job.Levels.{Levels}
use Rattle.astc_words.specs.declared.job.Levels.TheVariants.{Number, Full}
use Rattle.astc_words.specs.declared.options.OptionKind.{OptionKind}
use Rattle.astc_words.specs.declared.options.OptionKind.TheVariants.{Elements, Cube, MipLevels, Advised, Fitted, Srgb, Weights}
use Rattle.astc_words.specs.declared.options.OptionsSoFar.{OptionsSoFar}
use Rattle.astc_words.specs.declared.options.Taker.{Taker}
use Rattle.astc_words.specs.declared.options.Taker.TheVariants.{Pack, PackKtx, Import, Audit, Part}
use Rattle.astc_words.specs.declared.fault.UsageFault.{UsageFault}
use Rattle.astc_words.specs.declared.fault.UsageFault.TheVariants.{BadNumber, BadOption, RepeatedOption}
use Rattle.astc_words.specs.Values.{number_within, ◌>>=◌}
use Rattle.astc_words.specs.Weights.{weights_in}

abbrev pub is_same : Taker → Taker → Bool
is_same Pack Pack = true
is_same PackKtx PackKtx = true
is_same Import Import = true
is_same Audit Audit = true
is_same Part Part = true
is_same taker other = false

-- an option by its name, which is the whole word or precedes its value, and the commands that take
-- it
pub record OptionLine : Type 0 where
  pub name : List ℕ
  pub has_value : Bool
  pub kind : OptionKind
  pub takers : List Taker

-- all options, in the order in which a word is compared with them
abbrev pub option_lines : List OptionLine
option_lines =
    record {
      name = codes "elements=";
      has_value = true;
      kind = Elements;
      takers = Pack ∷ Part ∷ [];
    }
    ∷ record { name = codes "cube"; has_value = false; kind = Cube; takers = Pack ∷ Part ∷ [] }
    ∷ record {
      name = codes "levels=";
      has_value = true;
      kind = MipLevels;
      takers = Pack ∷ Part ∷ [];
    }
    ∷ record {
      name = codes "advised";
      has_value = false;
      kind = Advised;
      takers = Pack ∷ PackKtx ∷ [];
    }
    ∷ record {
      name = codes "fitted";
      has_value = false;
      kind = Fitted;
      takers = Pack ∷ PackKtx ∷ Part ∷ [];
    }
    ∷ record {
      name = codes "srgb";
      has_value = false;
      kind = Srgb;
      takers = Pack ∷ PackKtx ∷ Import
          ∷ Part ∷ [];
    }
    ∷ record {
      name = codes "weights=";
      has_value = true;
      kind = Weights;
      takers = Pack ∷ PackKtx ∷ Audit ∷ Part ∷ [];
    }
    ∷ []

-- an option by its kind, and the text after its name
abbrev pub OptionWord : Type 0
OptionWord = OptionKind × List ℕ

-- the text after the option's name in a word; None if the word is not this option, or the command
-- does not take the option
abbrev pub value_in : OptionLine → Taker → List ℕ → Option (List ℕ)
value_in line taker word =
    if list_any (λ one. is_same one taker) line.takers
    && (bytes_eq (take (length line.name) word) line.name
    && (line.has_value || length word == length line.name))
    then Some (drop (length line.name) word)
    else None

-- the option that a word is
abbrev pub option_in : List OptionLine → Taker → List ℕ → Option OptionWord
option_in [] taker word = None
option_in (line ∷ lines) taker word =
    option_or (option_map (λ value. (line.kind, value)) (value_in line taker word))
    (option_in lines taker word)

-- before the first option
abbrev pub no_options : OptionsSoFar
no_options = record {
  elements = None;
  cube = false;
  levels = None;
  advised = false;
  fitted = false;
  srgb = false;
  weights = None;
}

-- whether the option was given before
abbrev pub has : OptionsSoFar → OptionKind → Bool
has options Elements = is_some options.elements
has options Cube = options.cube
has options MipLevels = is_some options.levels
has options Advised = options.advised
has options Fitted = options.fitted
has options Srgb = options.srgb
has options Weights = is_some options.weights

-- `full`, or a number of 1 to 14
abbrev pub levels_in : List ℕ → Option Levels
levels_in value = if bytes_eq value (codes "full") then Some Full else option_map Number
    (number_within 1 14 value)

-- the options with this value of an option; None if the value is wrong
abbrev pub with_value : OptionsSoFar → OptionKind → List ℕ → Option OptionsSoFar
with_value options Elements value = option_map (λ n. record options { elements = Some n })
    (number_within 1 2048 value)
with_value options Cube value = Some (record options { cube = true })
with_value options MipLevels value = option_map (λ levels. record options { levels = Some levels })
    (levels_in value)
with_value options Advised value = Some (record options { advised = true })
with_value options Fitted value = Some (record options { fitted = true })
with_value options Srgb value = Some (record options { srgb = true })
with_value options Weights value = option_map (λ weights. record options { weights = Some weights })
    (weights_in value)

-- the options with one more, unless it was given before
abbrev pub with_new : ℕ → OptionsSoFar → OptionKind → List ℕ → Result OptionsSoFar UsageFault
with_new place options option value =
    if has options option then Err (RepeatedOption place) else ok_or
    (with_value options option value) (BadNumber place)

-- with the option that the word at a place is
abbrev pub with_option : ℕ → OptionsSoFar → Option OptionWord → Result OptionsSoFar UsageFault
with_option place options None = Err (BadOption place)
with_option place options (Some option) = with_new place options option.0 option.1

-- with the options that the words from a place on are
abbrev pub options_from : Taker → ℕ → OptionsSoFar → List (List ℕ) → Result OptionsSoFar UsageFault
options_from taker place options [] = Ok options
options_from taker place options (word ∷ words) =
    with_option place options (option_in option_lines taker word) >>= λ more.
    options_from taker (place + 1) more words
