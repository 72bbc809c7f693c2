-- The framing of a KTX file around its blocks (Khronos KTX file format, version 1).
use Rattle.std.specs.Prelude.{ℕ, ◌*◌, ◌==◌, if◌then◌else◌, List, [], ◌∷◌, ◌++◌, codes}
use Rattle.std.specs.List.{flat_map}
use Rattle.std.specs.Int.{w32, to_le_bytes}
use Rattle.astc_model.specs.FootprintNames.{gl_of}
use Rattle.texture.specs.declared.shape.Shape.{Shape}
use Rattle.texture.specs.Shapes.{image_blocks, level_blocks}
use Rattle.ktx_header.specs.Words.{identifier}

-- the imageSize of a level: one face without an array, else the whole level
unfoldable pub level_size_of : Shape → ℕ → ℕ
level_size_of shape level =
    if shape.elements == 0 then 16 * image_blocks shape level else 16 * level_blocks shape level

-- endianness, glType, glTypeSize, glFormat, glInternalFormat, glBaseInternalFormat (RGBA), the
-- sides, the depth, the array elements, the faces, the levels, the size of the keys
abbrev pub words_of : Shape → List ℕ
words_of shape =
    0x04030201 ∷ 0 ∷ 1 ∷ 0 ∷ gl_of shape.name shape.flavour ∷ 0x1908 ∷ shape.width ∷ shape.height
    ∷ 0
    ∷ shape.elements ∷ shape.faces ∷ shape.levels ∷ 28 ∷ []

-- one key: rows run down and columns to the right; its size, the key, its value and one byte of
-- padding
abbrev pub keys : List ℕ
keys = 23 ∷ 0 ∷ 0 ∷ 0 ∷ (codes "KTXorientation" ++ 0 ∷ codes "S=r,T=d") ++ 0 ∷ 0 ∷ []

-- the 92 bytes in front of the first level
abbrev pub header_of : Shape → List ℕ
header_of shape = identifier ++ flat_map (to_le_bytes w32) (words_of shape) ++ keys
