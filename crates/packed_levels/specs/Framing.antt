-- The file that is made of existing blocks.
use Rattle.std.specs.Prelude.{◌≡◌, ℕ, List}
use Rattle.texture.specs.declared.shape.Shape.{Shape}
use Rattle.ktx_file.specs.Files.{ktx}
use Rattle.packed_levels.specs.Reports.{range_lines}

-- the texture of blocks, and the lines that report their errors
pub record FramesTexture (shape : Shape) (blocks : List (List ℕ)) (errors : List ℕ) (file : List ℕ)
    (lines : List (List ℕ)) : Type 0 where
  pub framed : file ≡ ktx shape blocks
  pub told : lines ≡ range_lines shape 0 errors

-- a prefix of k bytes of the file: all blocks exist before it begins
abbrev pub BeginsTexture : Shape → List (List ℕ) → List ℕ → ℕ → List ℕ → Type 0
BeginsTexture shape blocks errors k file = (lines : List (List ℕ))
    × FramesTexture shape blocks errors file lines
