-- Sizes of levels, and numbers of blocks.
use Rattle.std.proofs.Common.{◌≡◌, ℕ, zero, suc, ◌+◌, ◌-◌, ◌*◌, ◌^◌, ◌<◌, ◌≤◌, ◌⊎◌, inl, inr, max, refl, ap, arith, le_refl}
use Rattle.std.proofs.Math.Nat.{mul_comm, add-div_left, div-le_self, div-le_of_le-mul, one-le-mul}
use Rattle.std.proofs.lemmas.Nat.{mul-le, mul-add-lt}
use Rattle.astc_model.specs.Chains.{side_at_level}
use Rattle.astc_model.specs.FootprintNames.{sides_of}
use Rattle.astc_model.specs.Limits.{most_texels}
use Rattle.astc_model.specs.Sums.{sum_to}
use Rattle.astc_model.proofs.SumLaws.{sum_to-more, sum_to-≤}
use Rattle.astc_model.specs.declared.footprint_name.FootprintName.{FootprintName}
use Rattle.astc_model.specs.declared.footprint_name.FootprintName.TheVariants.{F4x4, F5x4, F5x5, F6x5, F6x6, F8x5, F8x6, F8x8, F10x5, F10x6, F10x8, F10x10, F12x10, F12x12}
use Rattle.texture.specs.Extents.{covering}
use Rattle.texture.specs.Shapes.{Shape, IsValid, rows_of, columns_of, image_count, image_blocks, level_blocks, all_blocks, most_blocks}

pub sides-some : (name : FootprintName) → (1 ≤ (sides_of name).0) × (1 ≤ (sides_of name).1)
sides-some F4x4 = (omega arith, omega arith)
sides-some F5x4 = (omega arith, omega arith)
sides-some F5x5 = (omega arith, omega arith)
sides-some F6x5 = (omega arith, omega arith)
sides-some F6x6 = (omega arith, omega arith)
sides-some F8x5 = (omega arith, omega arith)
sides-some F8x6 = (omega arith, omega arith)
sides-some F8x8 = (omega arith, omega arith)
sides-some F10x5 = (omega arith, omega arith)
sides-some F10x6 = (omega arith, omega arith)
sides-some F10x8 = (omega arith, omega arith)
sides-some F10x10 = (omega arith, omega arith)
sides-some F12x10 = (omega arith, omega arith)
sides-some F12x12 = (omega arith, omega arith)

pub covering-some : (side unit : ℕ) → 1 ≤ side → 1 ≤ unit → 1 ≤ covering side unit
covering-some side unit long some =
    let same : side + unit - 1 ≡ unit + (side - 1) = omega arith in
    rw (same, add-div_left (side - 1) some) (omega arith)

product-more : (a b : ℕ) → (a + 1) + (b + 1) - 1 ≤ (b + 1) * (a + 1)
product-more a b = omega arith

pub covering-most : (side unit : ℕ) → 1 ≤ side → 1 ≤ unit → covering side unit ≤ side
covering-most side unit long some =
    let side_is : side - 1 + 1 ≡ side = omega (arith, long) in
    let unit_is : unit - 1 + 1 ≡ unit = omega (arith, some) in
    div-le_of_le-mul unit (rw (side_is, unit_is) at (product-more (side - 1) (unit - 1)))

pub side-most : (side level : ℕ) → 1 ≤ side → side_at_level side level ≤ side
side-most side level some = omega (arith, some, div-le_self side (2 ^ level))

-- ---- images of a level

pub face_small : (w h r c : ℕ) → r ≤ h → c ≤ w → r * c ≤ w * h
face_small w h r c high wide = omega (arith, mul-le r c h w high wide, mul_comm h w)

pub faces_small : (f area images most : ℕ) → f ≤ area → area * images ≤ most → images * f ≤ most
faces_small f area images most few all =
    omega (arith, mul-le f images area images few (omega arith), mul_comm images f)

pub images-some : (shape : Shape) → IsValid shape → 1 ≤ image_count shape
images-some shape valid = some shape.elements shape.faces valid.faces_known
  where
    some : (elements faces : ℕ) → (faces ≡ 1) ⊎ (faces ≡ 6) → 1 ≤ max 1 elements * faces
    some elements faces (inl one) = rw one (omega arith)
    some elements faces (inr six) = rw six (omega arith)

pub rows-some : (shape : Shape) (level : ℕ) → 1 ≤ rows_of shape level
rows-some shape level = covering-some (side_at_level shape.height level) (sides_of shape.name).1
    (omega arith) (sides-some shape.name).1

pub columns-some : (shape : Shape) (level : ℕ) → 1 ≤ columns_of shape level
columns-some shape level = covering-some (side_at_level shape.width level) (sides_of shape.name).0
    (omega arith) (sides-some shape.name).0

pub image-some : (shape : Shape) (level : ℕ) → 1 ≤ image_blocks shape level
image-some shape level = one-le-mul (rows-some shape level) (columns-some shape level)

-- an image of a level is no larger than one of level 0
pub image-most : (shape : Shape) (level : ℕ) → IsValid shape
    → image_blocks shape level ≤ shape.width * shape.height
image-most shape level valid =
    let sides = sides-some shape.name in
    let rows : rows_of shape level ≤ shape.height =
    omega (
      arith,
      covering-most (side_at_level shape.height level) (sides_of shape.name).1
          (omega arith) sides.1,
      side-most shape.height level valid.height_some,
    ) in
    let columns : columns_of shape level ≤ shape.width =
    omega (
      arith,
      covering-most (side_at_level shape.width level) (sides_of shape.name).0
          (omega arith) sides.0,
      side-most shape.width level valid.width_some,
    ) in
    face_small shape.width shape.height (rows_of shape level) (columns_of shape level) rows columns

-- ---- blocks of a level

pub level_blocks-is : (shape : Shape) (level : ℕ) → level_blocks shape level
    ≡ image_count shape * image_blocks shape level
unfolding level_blocks
level_blocks-is shape level = refl

-- a level lacks too many
pub level-most : (shape : Shape) (level : ℕ) → IsValid shape
    → level_blocks shape level ≤ most_texels
level-most shape level valid =
    omega (
      arith,
      level_blocks-is shape level,
      faces_small (image_blocks shape level)
          (shape.width * shape.height) (image_count shape) most_texels
          (image-most shape level valid) valid.not_too_large,
    )

-- an image's blocks are among its level's
pub image-within : (shape : Shape) (level image : ℕ) → image < image_count shape
    → (image + 1) * image_blocks shape level ≤ level_blocks shape level
image-within shape level image below =
    omega (
      arith,
      level_blocks-is shape level,
      mul-le (image + 1) (image_blocks shape level)
          (image_count shape) (image_blocks shape level) (omega (arith, below))
          (le_refl (image_blocks shape level)),
    )

-- ---- blocks of all levels

-- all sums before this one
pub sum_grows : (f : ℕ → ℕ) (n k : ℕ) → sum_to f n ≤ sum_to f (n + k)
sum_grows f n zero = omega (arith, ap (sum_to f) (plus_zero n))
  where
    plus_zero : (n : ℕ) → n + 0 ≡ n
    plus_zero n = omega arith
sum_grows f n (suc k) =
    let place : n + suc k ≡ (n + k) + 1 = omega arith in
    omega (arith, sum_grows f n k, sum_to-more f (n + k), ap (sum_to f) place)

pub level-within : (shape : Shape) (level : ℕ) → level < shape.levels
    → sum_to (level_blocks shape) level + level_blocks shape level ≤ all_blocks shape
level-within shape level inside =
    let more : ℕ = shape.levels - (level + 1) in
    let all : (level + 1) + more ≡ shape.levels = omega (arith, inside) in
    omega (
      arith,
      sum_to-more (level_blocks shape) level,
      sum_grows (level_blocks shape)
          (level + 1) more,
      ap (sum_to (level_blocks shape)) all,
    )

pub all-most : (shape : Shape) → IsValid shape → all_blocks shape ≤ most_blocks
all-most shape valid = omega (
  arith,
  sum_to-≤ (level_blocks shape) most_texels shape.levels
      (λ level below. level-most shape level valid),
  valid.levels_few,
)

-- a place within a level
pub place_in_level : (e f r c elements faces rows columns : ℕ) → e < elements → f < faces → r < rows
    → c < columns
    → ((e * faces + f) * rows + r) * columns + c < elements * faces * (rows * columns)
place_in_level e f r c elements faces rows columns in_elements in_faces in_rows in_columns =
    let image : e * faces + f < faces * elements =
    mul-add-lt e faces f elements in_elements in_faces in
    let row : (e * faces + f) * rows + r < rows * (faces * elements) =
    mul-add-lt (e * faces + f) rows r (faces * elements) image in_rows in
    let column : ((e * faces + f) * rows + r) * columns + c < columns
    * (rows * (faces * elements)) = mul-add-lt ((e * faces + f) * rows + r) columns c
    (rows * (faces * elements)) row in_columns in
    let same : columns * (rows * (faces * elements)) ≡ elements * faces * (rows * columns) =
    omega arith in
    rw same at column

-- and within all of them
pub place_in_all : (f : ℕ → ℕ) (level levels place : ℕ) → level < levels → place < f level
    → sum_to f level + place < sum_to f levels
place_in_all f level levels place below within =
    let more : ℕ = levels - (level + 1) in
    let all : (level + 1) + more ≡ levels = omega arith in
    omega (arith, within, sum_to-more f level, sum_grows f (level + 1) more, ap (sum_to f) all)
