-- The length of a KTX file by its header (Khronos KTX file format, version 1).
use Rattle.std.specs.Prelude.{ℕ, ◌+◌, ◌-◌, ◌*◌, List, ◌++◌, length, take, Option, None, Some, Result, Ok, Err}
use Rattle.astc_model.specs.Sums.{sum_to}
use Rattle.ktx_file.specs.declared.fault.KtxFault.{KtxFault}
use Rattle.ktx_file.specs.declared.front.KtxHeader.{KtxHeader}
use Rattle.texture.specs.declared.shape.Shape.{Shape}
use Rattle.texture.specs.Shapes.{level_blocks}
use Rattle.ktx_file.specs.Headers.{header_in}

-- the bytes of a level: its size, and its blocks
abbrev pub level_length : Shape → ℕ → ℕ
level_length shape level = 4 + 16 * level_blocks shape level

-- 64 bytes of identifier and words, the keys, and the levels
unfoldable pub file_length : Shape → ℕ → ℕ
file_length shape key_bytes = 64 + key_bytes + sum_to (level_length shape) shape.levels

-- the length of the file that begins with this header; None for a header with a fault
abbrev pub length_by : Result KtxHeader KtxFault → Option ℕ
length_by (Ok header) = Some (file_length header.layout header.key_bytes)
length_by (Err fault) = None

-- the length of the file whose first bytes, 64 at most, these are, if they are a header
abbrev pub length_in : List ℕ → Option ℕ
length_in front = length_by (header_in front)

-- the first bytes, 64 at most, after these were appended to them
abbrev pub front_with : List ℕ → List ℕ → List ℕ
front_with front more = front ++ take (64 - length front) more
