-- From the blocks of a row to the texels of an image.
use Rattle.std.proofs.Common.{◌≡◌, ℕ, zero, suc, ◌+◌, ◌-◌, ◌*◌, ◌/◌, ◌%◌, ◌<◌, ◌≤◌, min, List, [], ◌++◌, take, drop, length, sym, ◌∙◌, ap, subst, arith, zero-add}
use Rattle.std.specs.Prelude.{slice_index_or, sum}
use Rattle.std.specs.List.{flat_map, range_with_len}
use Rattle.std.proofs.lemmas.List.{get_or-take, get_or-drop, length-take-le, length-drop}
use Rattle.std.proofs.lemmas.Nat.{div-mul-add, mod-mul-add, mul-add-lt, div-add-mod'}
use Rattle.std.proofs.Math.Nat.{div-lt_iff_lt-mul, le-div_iff_mul-le, lt-mul-div-succ, mod-lt}
use Rattle.astc_model.specs.Sums.{sum_to}
use Rattle.astc_model.specs.Chains.{side_at_level}
use Rattle.astc_model.specs.FootprintNames.{sides_of}
use Rattle.astc_model.specs.Shown.{shown}
use Rattle.texture.specs.Extents.{covering}
use Rattle.texture.specs.Shapes.{rows_of, columns_of, level_blocks, image_blocks}
use Rattle.texture.specs.Places.{place_of, first_block}
use Rattle.texture.specs.Rows.{IsRowOf, row_start}
use Rattle.texture.specs.declared.shape.Shape.{Shape}
use Rattle.texture.specs.declared.places.ImagePlace.{ImagePlace}
use Rattle.texture.specs.declared.rows.BlockRow.{BlockRow}
use Rattle.texture.proofs.ShapeLaws.{sides-some}
use Rattle.texture.proofs.RowLaws.{row-within}
use Rattle.ktx_file.specs.Files.{File, AreBlocks}
use Rattle.outcomes.proofs.PieceLaws.{pieces-more, pieces-same, pieces-split}
use Rattle.unpacking.specs.Bands.{AreDecoded, row_from, rows_from}
use Rattle.unpacking.specs.Unpacked.{block_at, row_of, rows_in, band_of, raster_of, place_in, header_before, piece_of, all_faults, illegal_in, told_of}
use Rattle.unpacking.specs.declared.unpacked_image.UnpackedImage.{UnpackedImage}

-- units that cover a length: as many as begin within it, and no fewer
covers : (a unit : ℕ) → 1 ≤ a → 0 < unit → a ≤ covering a unit * unit
covers a unit some positive = omega (arith, lt-mul-div-succ (a + unit - 1) positive)

pub begins : (a unit n : ℕ) → 1 ≤ a → 0 < unit → n < covering a unit → n * unit < a
begins a unit n some positive below =
    let reaches : suc n * unit ≤ a + unit - 1 = (le-div_iff_mul-le positive).0 below in
    omega (arith, reaches)

-- the number of the first block of a row
pub row-begins : (shape : Shape) (level image row : ℕ) → row_start shape level image row
    ≡ place_of shape level (image / shape.faces) (image % shape.faces) row 0
row-begins shape level image row =
    let place : row_start shape level image row
    ≡ sum_to (level_blocks shape) level + (image * rows_of shape level + row) * columns_of shape
    level + 0 = omega arith in
    place ∙ ap (λ i. sum_to
    (level_blocks shape) level + (i * rows_of shape level + row) * columns_of shape
    level + 0) (sym (div-add-mod' image shape.faces))

module _ (file : File) (image : ImagePlace) where
  abbrev w : ℕ
  w = (sides_of file.shape.name).0

  abbrev h : ℕ
  h = (sides_of file.shape.name).1

  abbrev width : ℕ
  width = side_at_level file.shape.width image.level

  abbrev height : ℕ
  height = side_at_level file.shape.height image.level

  pub wide-enough : width ≤ columns_of file.shape image.level * w
  wide-enough = covers width w (omega arith) (sides-some file.shape.name).0

  module _ (row first : ℕ) (decoded : List (List (List ℕ))) (first_is : first
      ≡ place_of file.shape image.level image.element image.face row 0)
      (are : AreDecoded w h file.shape.flavour
      (take (columns_of file.shape image.level) (drop first file.blocks))
      (columns_of file.shape image.level) decoded) where
    -- the blocks of the row
    block-is : (column : ℕ) → column < columns_of file.shape image.level
        → slice_index_or (take (columns_of file.shape image.level) (drop first file.blocks)) column
        [] ≡ block_at file image row column
    block-is column below =
        let place : first + column
        ≡ place_of file.shape image.level image.element image.face row column =
        omega (arith, first_is) in
        get_or-take (columns_of file.shape image.level) (drop first file.blocks) column [] below
        ∙ get_or-drop first file.blocks column []
        ∙ ap (λ p. slice_index_or file.blocks p []) place

    -- a row of their texels
    row-is : (y : ℕ) → y < h → row_from w decoded y width ≡ row_of file image (row * h + y)
    unfolding row_of
    row-is y inside = pieces-same _ _ 0 0 width (λ x below.
        let some : 0 < w = (sides-some file.shape.name).0 in
        let column : x % w < w = mod-lt x some in
        let block : x / w < columns_of file.shape image.level =
        (div-lt_iff_lt-mul some).1 (omega (arith, wide-enough)) in
        let place : y * w + x % w < w * h = omega (arith, mul-add-lt y w (x % w) h inside column) in
        rw (zero-add x) (are.each (x / w) (y * w + x % w) block place
        ∙ ap (λ b. shown w h file.shape.flavour b ((y * w + x % w) % w) ((y * w + x % w) / w))
        (block-is (x / w) block)
        ∙ ap (λ c. shown w h file.shape.flavour (block_at file image row (x / w)) c
        ((y * w + x % w) / w)) (mod-mul-add y w (x % w) column)
        ∙ ap (λ r. shown w h file.shape.flavour (block_at file image row (x / w)) (x % w) r)
        (div-mul-add y w (x % w) column)
        ∙ ap (λ r. shown w h file.shape.flavour (block_at file image r (x / w)) (x % w) y)
        (sym (div-mul-add row h y inside))
        ∙ ap (λ r. shown w h file.shape.flavour (block_at file image ((row * h + y) / h) (x / w))
        (x % w) r) (sym (mod-mul-add row h y inside))))

    -- and all rows of them that the image has
    pub band-is : (rows : ℕ) → rows ≡ rows_in file image row → rows_from w decoded width rows
        ≡ band_of file image row
    unfolding band_of
    band-is rows rows_are =
        pieces-same (λ y. row_from w decoded y width) (row_of file image) 0 (row * h) rows
        (λ y below.
        ap (λ r. row_from w decoded r width) (zero-add y) ∙ row-is y (omega (arith, rows_are)))
        ∙ ap (λ n. flat_map (row_of file image) (range_with_len (row * h) n)) rows_are

  -- the bands one after another are the rows that begin within them
  bands_so_far : (n : ℕ) → 0 < h → 1 ≤ height → n ≤ rows_of file.shape image.level
      → flat_map (band_of file image) (range_with_len 0 n) ≡ flat_map (row_of file image)
      (range_with_len 0 (min height (n * h)))
  unfolding band_of
  bands_so_far zero positive some within =
      let none : 0 ≡ min height (0 * h) = omega arith in
      ap (λ k. flat_map (row_of file image) (range_with_len 0 k)) none
  bands_so_far (suc n) positive some within =
      let below : n < covering height h = omega arith in
      let begun : n * h < height = begins height h n some positive below in
      let so_far : flat_map (band_of file image) (range_with_len 0 n) ≡ flat_map (row_of file image)
      (range_with_len 0 (n * h)) =
      let all : min height (n * h) ≡ n * h = omega (arith, begun) in
      bands_so_far n positive some (omega arith)
      ∙ ap (λ k. flat_map (row_of file image) (range_with_len 0 k)) all
      in
      let longer : suc n ≡ n + 1 = omega arith in
      let rows : n * h + rows_in file image n ≡ min height (suc n * h) = omega (arith, begun) in
      ap (λ k. flat_map (band_of file image) (range_with_len 0 k)) longer
      ∙ pieces-more (band_of file image) 0 n
      ∙ ap (λ xs. xs ++ band_of file image (0 + n)) so_far
      ∙ ap (λ k. flat_map (row_of file image) (range_with_len 0 (n * h))
      ++ band_of file image k) (zero-add n)
      ∙ ap (λ k. flat_map (row_of file image) (range_with_len 0 (n * h)) ++ flat_map
      (row_of file image) (range_with_len k (rows_in file image n)))
      (sym (zero-add (n * h)))
      ∙ sym (pieces-split (row_of file image) 0 (n * h) (rows_in file image n))
      ∙ ap (λ k. flat_map (row_of file image) (range_with_len 0 k)) rows

  -- the texels of an image are its bands
  pub bands : raster_of file image ≡ flat_map (band_of file image)
      (range_with_len 0 (rows_of file.shape image.level))
  unfolding raster_of
  bands =
      let positive : 0 < h = (sides-some file.shape.name).1 in
      let some : 1 ≤ height = omega arith in
      let all : min height (rows_of file.shape image.level * h) ≡ height =
      omega (arith, covers height h some positive) in
      sym (bands_so_far (rows_of file.shape image.level) positive some (omega arith)
      ∙ ap (λ k. flat_map (row_of file image) (range_with_len 0 k)) all)

-- a row of a texture, and how many blocks and texels it has
module _ (file : File) (row : BlockRow) (there : IsRowOf file.shape row) where
  abbrev place : ImagePlace
  place = place_in file row.level row.image

  pub first-is : row.first ≡ row_start file.shape row.level row.image row.row
  first-is = ap (λ r. r.first) there.is

  pub columns-is : row.columns ≡ columns_of file.shape row.level
  columns-is = ap (λ r. r.columns) there.is

  -- its blocks are some of those of the file
  pub blocks-within : (blocks : List (List ℕ)) → AreBlocks file.shape blocks
      → row.first + row.columns ≤ length blocks
  blocks-within blocks full =
      omega (
        arith,
        first-is,
        columns-is,
        row-within file.shape row.level row.image row.row
            there.level_in there.image_in there.row_in,
        full.count,
      )

  -- what is put for it, from its blocks decoded
  pub piece-is : (sides : ℕ × ℕ) (shape : Shape) (blocks : List (List ℕ))
      (decoded : List (List (List ℕ))) (wide high rows : ℕ) (header bytes : List ℕ)
      → sides_of file.shape.name ≡ sides → shape ≡ file.shape → blocks ≡ file.blocks
      → AreBlocks file.shape blocks
      → AreDecoded sides.0 sides.1 shape.flavour
      (take (row.first + row.columns - row.first) (drop row.first blocks))
      (length (take (row.first + row.columns - row.first) (drop row.first blocks))) decoded
      → wide ≡ side_at_level shape.width row.level → high ≡ side_at_level shape.height row.level
      → rows ≡ rows_in file place row.row
      → header ≡ header_before row wide high → bytes ≡ header ++ rows_from sides.0 decoded wide rows
      → bytes ≡ piece_of file row
  unfolding piece_of
  piece-is sides shape blocks decoded wide high rows header bytes sides_are same blocks_are full are
      wide_is high_is rows_are header_is bytes_are =
      let count : row.first + row.columns - row.first ≡ columns_of file.shape row.level =
      omega (arith, columns-is) in
      let whole : length (take (row.first + row.columns - row.first) (drop row.first blocks))
      ≡ columns_of file.shape row.level =
      length-take-le (row.first + row.columns - row.first) (drop row.first blocks)
      (omega (arith, length-drop row.first blocks, blocks-within blocks full)) ∙ count in
      let begins_at : row.first ≡ place_of file.shape row.level place.element place.face row.row 0 =
      first-is ∙ row-begins file.shape row.level row.image row.row in
      let decoded_are : AreDecoded sides.0 sides.1 file.shape.flavour
      (take (columns_of file.shape row.level) (drop row.first file.blocks))
      (columns_of file.shape row.level) decoded =
      subst (λ bs. AreDecoded sides.0 sides.1 file.shape.flavour
      (take (columns_of file.shape row.level) (drop row.first bs))
      (columns_of file.shape row.level) decoded) blocks_are
      (subst (λ n. AreDecoded sides.0 sides.1 file.shape.flavour (take n (drop row.first blocks))
      (columns_of file.shape row.level) decoded) count
      (subst (λ n. AreDecoded sides.0 sides.1 file.shape.flavour
      (take (row.first + row.columns - row.first) (drop row.first blocks)) n decoded)
      whole
      (subst (λ s. AreDecoded sides.0 sides.1 s.flavour
      (take (row.first + row.columns - row.first) (drop row.first blocks))
      (length (take (row.first + row.columns - row.first) (drop row.first blocks)))
      decoded) same are)))
      in
      let named : AreDecoded (w file place) (h file place) file.shape.flavour
      (take (columns_of file.shape row.level) (drop row.first file.blocks))
      (columns_of file.shape row.level) decoded =
      subst (λ s. AreDecoded s.0 s.1 file.shape.flavour
      (take (columns_of file.shape row.level) (drop row.first file.blocks))
      (columns_of file.shape row.level) decoded) (sym sides_are) decoded_are
      in
      let wide_of : wide ≡ side_at_level file.shape.width row.level = wide_is
      ∙ ap (λ s. side_at_level s.width row.level) same in
      let high_of : high ≡ side_at_level file.shape.height row.level = high_is
      ∙ ap (λ s. side_at_level s.height row.level) same in
      bytes_are
      ∙ ap (λ xs. xs ++ rows_from sides.0 decoded wide rows)
      (header_is ∙ ap (λ n. header_before row n high) wide_of
      ∙ ap (header_before row (side_at_level file.shape.width row.level)) high_of)
      ∙ ap (λ xs. header_before row (side_at_level file.shape.width row.level)
      (side_at_level file.shape.height row.level) ++ xs)
      (ap (λ s. rows_from s.0 decoded wide rows) (sym sides_are)
      ∙ ap (λ n. rows_from (w file place) decoded n rows) wide_of
      ∙ band-is file place row.row row.first decoded begins_at named rows rows_are)

-- the report on an image
pub told-is : (file : File) (level image first blocks n : ℕ) (place : ImagePlace) (faults : List ℕ)
    → place ≡ place_in file level image → blocks ≡ image_blocks file.shape level → first
    ≡ first_block file.shape level image
    → faults ≡ all_faults file → n ≡ sum (take (first + blocks - first) (drop first faults))
    → ◌≡◌ {A = UnpackedImage} (record { place = place; blocks = blocks; illegal = n })
    (told_of file (place_in file level image))
unfolding told_of illegal_in
told-is file level image first blocks n place faults place_is blocks_are first_is faults_are
    counted =
    let count : first + blocks - first ≡ image_blocks file.shape level =
    omega (arith, blocks_are) in
    let at : first ≡ place_of file.shape level (image / file.shape.faces)
    (image % file.shape.faces) 0 0 =
    let same : first ≡ row_start file.shape level image 0 = omega (arith, first_is) in
    same ∙ row-begins file.shape level image 0
    in
    ap (λ p. record { place = p; blocks = blocks; illegal = n }) place_is
    ∙ ap (λ k. record { place = place_in file level image; blocks = k; illegal = n }) blocks_are
    ∙ ap (λ k. record {
      place = place_in file level image;
      blocks = image_blocks file.shape level;
      illegal = k;
    })
    (counted ∙ ap (λ k. sum (take k (drop first faults))) count
    ∙ ap (λ xs. sum (take (image_blocks file.shape level) (drop first xs))) faults_are
    ∙ ap (λ k. sum (take (image_blocks file.shape level) (drop k (all_faults file)))) at)
