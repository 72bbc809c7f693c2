-- The meaning of a header, or its first fault (Khronos KTX file format, version 1; formats as
-- OpenGL names them).
use Rattle.std.specs.Prelude.{ℕ, ◌==◌, ◌&&◌, ◌||◌, Bool, if◌then◌else◌, List, Option, None, Some, Result, Ok, Err}
use Rattle.ktx_header.specs.declared.words.HeaderWords.{HeaderWords}
use Rattle.ktx_header.specs.Chaining.{◌>>=◌}
use Rattle.ktx_header.specs.Words.{words_of}
use Rattle.ktx_header.specs.Extents.{extent_of}
use Rattle.ktx_source.specs.declared.fault.SourceFault.TheVariants.{WrongFormat}
pub use Rattle.ktx_source.specs.declared.format.Format.{Format}
use Rattle.ktx_source.specs.declared.format.Format.TheVariants.{Rgb8, Rgba8}
use Rattle.ktx_source.specs.Faults.{SourceFault, in_header}
pub use Rattle.ktx_source.specs.declared.front.SourceHeader.{SourceHeader}

-- glType GL_UNSIGNED_BYTE
abbrev pub is_byte : ℕ → Bool
is_byte kind = kind == 0x1401

-- glFormat GL_RGBA, and its name with sizes, without and for sRGB texels
abbrev pub is_rgba8 : ℕ → ℕ → Bool
is_rgba8 format internal = format == 0x1908
    && (internal == 0x8058 || internal == 0x1908 || internal == 0x8C43)

-- glFormat GL_RGB, and its name with sizes, without and for sRGB texels
abbrev pub is_rgb8 : ℕ → ℕ → Bool
is_rgb8 format internal = format == 0x1907
    && (internal == 0x8051 || internal == 0x1907 || internal == 0x8C41)

-- the format of glType, glFormat and glInternalFormat, if they are one of the six supported ones
abbrev pub format_named : ℕ → ℕ → ℕ → Option Format
format_named kind format internal =
    if is_byte kind && is_rgba8 format internal then Some Rgba8
    else (if is_byte kind && is_rgb8 format internal then Some Rgb8 else None)

-- the format that was found, or the fault of the three words, which name none
abbrev pub known : Option Format → HeaderWords → Result Format SourceFault
known None words = Err (WrongFormat words.kind words.format words.internal)
known (Some format) words = Ok format

-- the format that glType, glFormat and glInternalFormat name, or their fault
abbrev pub format_in : HeaderWords → Result Format SourceFault
format_in words = known (format_named words.kind words.format words.internal) words

-- the header of a file whose first bytes, 64 at most, these are
unfoldable pub header_in : List ℕ → Result SourceHeader SourceFault
header_in front = do
  words ← in_header (words_of front)
  format ← format_in words
  extent ← in_header (extent_of words)
  Ok (record { order = words.order; format = format; extent = extent; key_bytes = words.key_bytes })
