-- The file that an import makes of an image in blocks: a texture of one level.
use Rattle.std.specs.Prelude.{◌≡◌, ℕ, List, [], ◌∷◌, length}
use Rattle.astc_model.specs.declared.flavour.Flavour.{Flavour}
use Rattle.astc_file.specs.Files.{Image}
use Rattle.texture.specs.declared.shape.Shape.{Shape}
use Rattle.ktx_file.specs.Files.{ktx}
use Rattle.exchange.specs.Reports.{blocks_line}

-- the texture's shape: no array, one face, one level
abbrev pub shape_of : Flavour → Image → Shape
shape_of flavour image = record {
  name = image.name;
  flavour = flavour;
  width = image.width;
  height = image.height;
  elements = 0;
  faces = 1;
  levels = 1;
}

-- the file of an import, and the one line of its report: the number of blocks of the image
pub record Imports (flavour : Flavour) (image : Image) (file : List ℕ)
    (lines : List (List ℕ)) : Type 0 where
  pub framed : file ≡ ktx (shape_of flavour image) image.blocks
  pub told : lines ≡ blocks_line (length image.blocks) ∷ []

-- the file that k bytes are a prefix of
abbrev pub BeginsImport : Flavour → Image → ℕ → List ℕ → Type 0
BeginsImport flavour image k file = file ≡ ktx (shape_of flavour image) image.blocks
