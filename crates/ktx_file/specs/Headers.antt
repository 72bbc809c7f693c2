-- The meaning of a header, or its first fault (Khronos KTX file format, version 1).
use Rattle.std.specs.Prelude.{ℕ, ◌==◌, ◌&&◌, if◌then◌else◌, List, ◌++◌, map, Option, None, Some, Result, Ok, Err, find}
use Rattle.astc_model.specs.FootprintNames.{gl_of}
use Rattle.astc_model.specs.declared.footprint_name.FootprintName.{FootprintName}
use Rattle.astc_model.specs.declared.flavour.Flavour.{Flavour}
use Rattle.astc_model.specs.declared.flavour.Flavour.TheVariants.{Linear, Srgb}
use Rattle.ktx_header.specs.declared.words.HeaderWords.{HeaderWords}
use Rattle.texture.specs.declared.extent.Extent.{Extent}
use Rattle.ktx_header.specs.Footprints.{footprint_names}
use Rattle.ktx_header.specs.Chaining.{◌>>=◌}
use Rattle.ktx_header.specs.Words.{words_of}
use Rattle.ktx_header.specs.Extents.{extent_of}
use Rattle.ktx_file.specs.declared.fault.KtxFault.TheVariants.{NotCompressed, UnknownFormat}
use Rattle.ktx_file.specs.Faults.{KtxFault, in_file}
use Rattle.texture.specs.declared.shape.Shape.{Shape}
pub use Rattle.ktx_file.specs.declared.front.KtxHeader.{KtxHeader}

-- every footprint in both flavours
abbrev pub formats : List (FootprintName × Flavour)
formats = map (λ name. (name, Linear)) footprint_names ++ map (λ name. (name, Srgb)) footprint_names

-- the footprint and the flavour of a format's number
unfoldable pub format_at : ℕ → Option (FootprintName × Flavour)
format_at n = find (λ (format : FootprintName × Flavour). gl_of format.0 format.1 == n) formats

-- the format that was found, or the fault of this glInternalFormat, which is none of ASTC's
abbrev pub known : Option (FootprintName × Flavour) → ℕ → Result (FootprintName × Flavour) KtxFault
known None n = Err (UnknownFormat n)
known (Some format) n = Ok format

-- glType and glFormat are 0 for compressed texels
abbrev pub format_in : HeaderWords → Result (FootprintName × Flavour) KtxFault
format_in words =
    if words.kind == 0 && words.format == 0 then known (format_at words.internal) words.internal
    else Err (NotCompressed words.kind words.format)

-- the shape with this format and these sides, array elements, faces and levels
abbrev pub shape_with : FootprintName × Flavour → Extent → Shape
shape_with format extent = record {
  name = format.0;
  flavour = format.1;
  width = extent.width;
  height = extent.height;
  elements = extent.elements;
  faces = extent.faces;
  levels = extent.levels;
}

-- the header of a file whose first bytes, 64 at most, these are
unfoldable pub header_in : List ℕ → Result KtxHeader KtxFault
header_in front = do
  words ← in_file (words_of front)
  format ← format_in words
  extent ← in_file (extent_of words)
  Ok (record {
    order = words.order;
    layout = shape_with format extent;
    key_bytes = words.key_bytes;
  })
