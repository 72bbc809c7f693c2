-- The places of the images and the blocks of a texture.
use Rattle.std.specs.Prelude.{◌≡◌, ℕ, ◌<◌, ◌+◌, ◌*◌, ◌/◌, ◌%◌, max}
use Rattle.astc_model.specs.Sums.{sum_to}
use Rattle.texture.specs.Shapes.{Shape, rows_of, columns_of, image_blocks, level_blocks}
pub use Rattle.texture.specs.declared.places.ImagePlace.{ImagePlace}
pub use Rattle.texture.specs.declared.places.BlockPlace.{BlockPlace}

-- the place of an image of a level, if each element has this number of faces
abbrev pub image_place : ℕ → ℕ → ℕ → ImagePlace
image_place faces level image = record {
  level = level;
  element = image / faces;
  face = image % faces;
}

-- the texture has an image there
pub record HasPlace (shape : Shape) (place : ImagePlace) : Type 0 where
  pub level : place.level < shape.levels
  pub element : place.element < max 1 shape.elements
  pub face : place.face < shape.faces

-- the texture has a block there
pub record HasBlock (shape : Shape) (level element face row column : ℕ) : Type 0 where
  pub level_in : level < shape.levels
  pub element_in : element < max 1 shape.elements
  pub face_in : face < shape.faces
  pub row_in : row < rows_of shape level
  pub column_in : column < columns_of shape level

-- the number of the first block of an image: blocks are counted level by level, element by element,
-- face by face, row by row
abbrev pub first_block : Shape → ℕ → ℕ → ℕ
first_block shape level image = sum_to (level_blocks shape) level + image * image_blocks shape level

-- the number of a block
abbrev pub place_of : Shape → ℕ → ℕ → ℕ → ℕ → ℕ → ℕ
place_of shape level element face row column =
    sum_to (level_blocks shape) level
    + ((element * shape.faces + face) * rows_of shape level + row) * columns_of shape level + column

-- the texture has a block there, and it has this number
pub record IsPlaceOf (shape : Shape) (number : ℕ) (place : BlockPlace) : Type 0 where
  pub there : HasBlock shape place.image.level place.image.element place.image.face place.row
      place.column
  pub numbered : place_of shape place.image.level place.image.element place.image.face place.row
      place.column ≡ number
