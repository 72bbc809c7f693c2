-- The place of the block with a number.
use Rattle.std.proofs.Common.{◌≡◌, ℕ, ◌+◌, ◌*◌, ◌/◌, ◌%◌, ◌<◌, ◌≤◌, sym, ◌∙◌, ap, subst, arith}
use Rattle.std.proofs.Math.Nat.{div-lt_iff_lt-mul, mod-lt, div-add-mod, mul_comm}
use Rattle.astc_model.specs.Sums.{sum_to}
use Rattle.texture.specs.Shapes.{Shape, rows_of, columns_of, image_count, level_blocks}
use Rattle.texture.specs.Places.{ImagePlace, image_place, HasPlace, IsPlaceOf}
use Rattle.texture.proofs.ShapeLaws.{level_blocks-is}

-- a number again from its quotient and its rest
again : (n m : ℕ) → n / m * m + n % m ≡ n
again n m = omega (arith, div-add-mod n m, mul_comm m (n / m))

-- the image of a number within a level
image-in : (within rows columns images : ℕ) → 1 ≤ rows → 1 ≤ columns
    → within < images * (rows * columns) → within / columns / rows < images
image-in within rows columns images some_rows some_columns inside =
    let same : images * rows * columns ≡ images * (rows * columns) = omega arith in
    let row : within / columns < images * rows =
    (div-lt_iff_lt-mul {k = columns} {x = within} {y = images * rows} some_columns).1
    (rw same inside) in
    (div-lt_iff_lt-mul {k = rows} {x = within / columns} {y = images} some_rows).1 row

pub image-in-level : (shape : Shape) (level within rows columns : ℕ) → 1 ≤ rows → 1 ≤ columns → rows
    ≡ rows_of shape level → columns ≡ columns_of shape level → within < level_blocks shape level
    → within / columns / rows < image_count shape
image-in-level shape level within rows columns some_rows some_columns rows_are columns_are inside =
    image-in within rows columns (image_count shape) some_rows some_columns
    (subst (λ n. within < n) (level_blocks-is shape level
    ∙ ap (λ r. image_count shape * (r * columns_of shape level)) (sym rows_are)
    ∙ ap (λ k. image_count shape * (rows * k)) (sym columns_are)) inside)

numbered : (base element faces face rows row columns column image place within number : ℕ)
    → element * faces + face ≡ image → image * rows + row ≡ place → place * columns + column
    ≡ within → base + within ≡ number
    → base + ((element * faces + face) * rows + row) * columns + column ≡ number
numbered base element faces face rows row columns column image place within number first second
    third whole =
    ap (λ i. base + (i * rows + row) * columns + column) first
    ∙ ap (λ p. base + p * columns + column) second ∙ omega (arith, third, whole)

-- the place of a number, from its level and its number within that
pub place-is : (shape : Shape) (level within number rows columns : ℕ) (image : ImagePlace)
    → 1 ≤ rows → 1 ≤ columns → rows ≡ rows_of shape level → columns ≡ columns_of shape level
    → image ≡ image_place shape.faces level (within / columns / rows) → HasPlace shape image
    → sum_to (level_blocks shape) level + within ≡ number
    → IsPlaceOf shape number
    (record { image = image; row = within / columns % rows; column = within % columns })
place-is shape level within number rows columns image some_rows some_columns rows_are columns_are is
    has whole =
    let at : ImagePlace = image_place shape.faces level (within / columns / rows) in
    let there : HasPlace shape at = subst (HasPlace shape) is has in
    let row : within / columns % rows < rows = mod-lt (within / columns) {m = rows} some_rows in
    let column : within % columns < columns = mod-lt within {m = columns} some_columns in
    let inside : IsPlaceOf shape number
    (record { image = at; row = within / columns % rows; column = within % columns }) =
    record {
      there = record {
        level_in = there.level;
        element_in = there.element;
        face_in = there.face;
        row_in = subst (λ n. within / columns % rows < n) rows_are row;
        column_in = subst (λ n. within % columns < n) columns_are column;
      };
      numbered = ap (λ r. sum_to
          (level_blocks shape) level
          + ((within / columns / rows / shape.faces * shape.faces + within / columns / rows
          % shape.faces) * r + within / columns % rows) * columns_of shape
          level + within % columns) (sym rows_are)
          ∙ ap (λ k. sum_to (level_blocks shape)
          level + ((within / columns / rows / shape.faces * shape.faces + within / columns
          / rows % shape.faces) * rows + within / columns % rows) * k + within
          % columns) (sym columns_are)
          ∙ numbered (sum_to (level_blocks shape) level) (within / columns / rows / shape.faces)
          shape.faces (within / columns / rows % shape.faces) rows
          (within / columns % rows) columns (within % columns)
          (within / columns / rows) (within / columns) within number
          (again (within / columns / rows) shape.faces) (again (within / columns) rows)
          (again within columns) whole;
    } in
    subst (λ i. IsPlaceOf shape number
    (record { image = i; row = within / columns % rows; column = within % columns }))
    (sym is) inside
