-- The checked arguments of a call.
use Rattle.std.specs.Prelude.{◌≡◌, ◌≤◌, ℕ, ◌+◌, ◌-◌, ◌*◌, ◌/◌, ◌%◌, nat_le, Bool, not, ◌&&◌, ◌==◌, if◌then◌else◌, List, Option, None, Some, Result, Ok, Err}
use Rattle.astc_model.specs.Places.{Texel}
use Rattle.astc_model.specs.Weights.{Weighting, is_weighting}
use Rattle.astc_model.specs.FootprintNames.{sides_of}
use Rattle.astc_model.specs.declared.flavour.Flavour.{Flavour}
use Rattle.astc_model.specs.declared.footprint_name.FootprintName.{FootprintName}
use Rattle.astc_model.specs.declared.preset.Preset.{Preset}
use Rattle.astc_model.specs.Shown.{error_shown}
use Rattle.encoder.specs.declared.settings.Settings.{Settings}
use Rattle.images.specs.Pictures.{Pictures, source_of}
use Rattle.astc_rows.specs.declared.arguments.Rows.{Rows}
use Rattle.astc_rows.specs.declared.arguments.RowOptions.{RowOptions}
use Rattle.astc_rows.specs.declared.bands.CheckedRows.{CheckedRows}
use Rattle.astc_rows.specs.declared.bands.CheckedOptions.{CheckedOptions}
use Rattle.astc_rows.specs.declared.bands.CheckedCall.{CheckedCall}
use Rattle.astc_rows.specs.declared.arguments.Argument.{Argument}
use Rattle.astc_rows.specs.declared.arguments.Argument.TheVariants.{Width, Height, Format, First, Count, Preset as BadPreset, Weights, Texels, Blocks}
use Rattle.astc_rows.specs.Formats.{format_of, preset_of}

-- a side has 1 to 8192 texels
abbrev pub is_side : ℕ → Bool
is_side n = nat_le 1 n && nat_le n 8192

-- the number of lengths of unit texels that cover a side
abbrev pub covering : ℕ → ℕ → ℕ
covering side unit = (side + (unit - 1)) / unit

-- the rows lie within the picture
abbrev pub placed : Rows → FootprintName × Flavour → Result CheckedRows Argument
placed rows format =
    if nat_le rows.first (covering rows.height (sides_of format.0).1)
    then (if nat_le rows.count (covering rows.height (sides_of format.0).1 - rows.first)
    then Ok (record {
      width = rows.width;
      height = rows.height;
      name = format.0;
      flavour = format.1;
      first = rows.first;
      count = rows.count;
    })
    else Err Count)
    else Err First

-- the same in the format that a number names; a number of no format is the wrong argument
abbrev pub placed_in : Rows → Option (FootprintName × Flavour) → Result CheckedRows Argument
placed_in rows None = Err Format
placed_in rows (Some format) = placed rows format

-- the rows of blocks that these numbers say, or the first that is wrong
unfoldable pub checked_rows : Rows → Result CheckedRows Argument
checked_rows rows =
    if is_side rows.width
    then (if is_side rows.height
    then placed_in rows (format_of rows.format)
    else Err Height)
    else Err Width

-- how blocks are settled, if there is such a preset and the weights are right, judged in this order
abbrev pub weighted : Weighting → Bool → Option Preset → Result CheckedOptions Argument
weighted weights fits None = Err BadPreset
weighted weights fits (Some preset) = if is_weighting weights
    then Ok (record { preset = preset; weights = weights; fits = fits }) else Err Weights

-- the preset, the weights and the fits that these numbers say, or the first that is wrong
unfoldable pub checked_options : RowOptions → Result CheckedOptions Argument
checked_options options =
    weighted options.weights (not (options.fitted == 0)) (preset_of options.preset)

-- how the blocks of rows are compressed
abbrev pub settings_in : CheckedRows → CheckedOptions → Settings
settings_in band way = record {
  preset = way.preset;
  flavour = band.flavour;
  weights = way.weights;
  fits = way.fits;
}

-- the number of blocks in a row
abbrev pub columns : ℕ → CheckedRows → ℕ
columns w band = covering band.width w

-- the number of blocks of the rows
abbrev pub block_count : ℕ → CheckedRows → ℕ
block_count w band = band.count * columns w band

-- what holds of the numbers of a call without a wrong one, whose blocks have h rows of texels
pub record AreCheckedRows (h : ℕ) (band : CheckedRows) : Type 0 where
  pub width_some : 1 ≤ band.width
  pub width_most : band.width ≤ 8192
  pub height_some : 1 ≤ band.height
  pub height_most : band.height ≤ 8192
  pub within : band.first + band.count ≤ covering band.height h

-- the two slices have a texel for each place of the picture, and a block for each place of the rows
abbrev pub sized : CheckedRows → CheckedOptions → (texels blocks : ℕ) → Result CheckedCall Argument
sized band way texels blocks =
    if texels == band.width * band.height
    then (if blocks == block_count (sides_of band.name).0 band
    then Ok (record { band = band; way = way })
    else Err Blocks)
    else Err Texels

-- the wrong argument of the rows, else that of the options, else the checked lengths of the slices
abbrev pub sized_by : Result CheckedRows Argument → Result CheckedOptions Argument
    → (texels blocks : ℕ) → Result CheckedCall Argument
sized_by (Err argument) way texels blocks = Err argument
sized_by (Ok band) (Err argument) texels blocks = Err argument
sized_by (Ok band) (Ok way) texels blocks = sized band way texels blocks

-- the checked arguments of a call with slices of this number of texels and blocks, or the first
-- wrong argument
unfoldable pub checked_call : Rows → RowOptions → (texels blocks : ℕ) → Result CheckedCall Argument
checked_call rows options texels blocks =
    sized_by (checked_rows rows) (checked_options options) texels blocks

-- what holds of a call without a wrong argument
pub record IsCheckedCall (call : CheckedCall) (texels blocks : ℕ) : Type 0 where
  pub band : AreCheckedRows (sides_of call.band.name).1 call.band
  pub full : texels ≡ call.band.width * call.band.height
  pub whole : blocks ≡ block_count (sides_of call.band.name).0 call.band

-- the one picture of these texels
abbrev pub picture : CheckedRows → List Texel → Pictures
picture band texels = record {
  width = band.width;
  height = band.height;
  count = 1;
  texels = texels;
}

-- the source of block k of the rows
abbrev pub source_at : (w h : ℕ) → CheckedRows → List Texel → ℕ → List (Option Texel)
source_at w h band texels k = source_of w h (picture band texels) 0 (k % columns w band)
    (band.first + k / columns w band)

-- the distance of any 16 bytes from their source
abbrev pub error_at : (w h : ℕ) → CheckedRows → Weighting → List Texel → List ℕ → ℕ → ℕ
error_at w h band weights texels bytes k = error_shown w h band.flavour weights bytes
    (source_at w h band texels k)
