-- The sources of a texture's blocks: their number, and the source at each place.
use Rattle.std.proofs.Common.{◌≡◌, ℕ, zero, suc, ◌+◌, ◌-◌, ◌*◌, ◌<◌, ◌≤◌, max, List, [], ◌∷◌, ◌++◌, length, map, get_or, refl, sym, ◌∙◌, ap, arith, append_assoc, length-append}
use Rattle.std.specs.List.{flat_map, range_with_len}
use Rattle.std.proofs.lemmas.List.{length-map, get_or_default, get_or_append_left}
use Rattle.std.proofs.lemmas.List.FromFn.{length-map-range_with_len, get_or-map-range_with_len}
use Rattle.std.proofs.lemmas.Grind.{flat_map-append}
use Rattle.std.proofs.lemmas.Nat.{mul-add-lt}
use Rattle.std.proofs.Math.Seq.{get_or-append-add}
use Rattle.astc_model.specs.Chains.{side_at_level}
use Rattle.astc_model.specs.FootprintNames.{sides_of}
use Rattle.images.specs.Pictures.{Pictures, IsValid, source_of}
use Rattle.images.specs.Chains.{chain_of, images_at_level}
use Rattle.images.proofs.LevelLaws.{level_sides}
use Rattle.texture.specs.declared.shape.Shape.{Shape}
use Rattle.texture.specs.Shapes.{rows_of, columns_of, image_count, level_blocks, all_blocks}
use Rattle.texture.specs.Places.{place_of, HasBlock}
use Rattle.texture.specs.declared.rows.BlockRow.{BlockRow}
use Rattle.texture.specs.Rows.{row_at, image_rows, level_rows, block_rows}
use Rattle.texture.specs.Walks.{blocks_in}
use Rattle.texture.proofs.ShapeLaws.{place_in_level, level_blocks-is}
use Rattle.texture.proofs.RowLaws.{image_rows-is, level_rows-is}
use Rattle.texture.proofs.WalkLaws.{row-behind, blocks-all}
use Rattle.adviser_pool.specs.Advisers.{AdviserState}
use Rattle.packed_levels.specs.declared.options.PackOptions.{PackOptions}
use Rattle.packed_levels.specs.Settling.{SettlingWay, Places, Settling, AreSettled, blocks_of, way_of}
use Rattle.packed_levels.specs.Serving.{Settles}
use Rattle.packed_levels.specs.RowSources.{row_sources}
use Rattle.packed_levels.specs.Sources.{ArePackedLevels, sources_of_row, sources, images_in, no_pictures}

pub sources-are : (shape : Shape) (levels : List Pictures) → sources shape levels
    ≡ flat_map (sources_of_row shape levels) (block_rows shape)
unfolding sources
sources-are shape levels = refl

-- a level's images, read with any other default
pub images-there : {shape : Shape} {levels : List Pictures} {images : Pictures} (level : ℕ)
    → ArePackedLevels shape levels → level < shape.levels → images ≡ get_or levels level images
    → images ≡ images_in levels level
images-there {levels = levels} {images = images} level packed inside is = is
    ∙ get_or_default levels level images no_pictures (omega (arith, inside, packed.count))

-- the levels of the mip chain of images that a texture is made of
pub chain-levels : (shape : Shape) (images : Pictures) (chain : List Pictures) → IsValid images
    → images.width ≡ shape.width → images.height ≡ shape.height → images.count ≡ image_count shape
    → chain ≡ chain_of images shape.levels → ArePackedLevels shape chain
unfolding chain_of
chain-levels shape images chain valid wide high count is =
    let there : (level : ℕ) → level < shape.levels → images_in chain level
    ≡ images_at_level images level = λ level below. ap (λ xs. images_in xs level) is
    ∙ get_or-map-range_with_len (images_at_level images) 0 shape.levels level level no_pictures
    below (omega arith) in
    let sides = λ (level : ℕ). level_sides images level valid.width_some valid.height_some in
    record {
      count = ap length is ∙ length-map-range_with_len (images_at_level images) 0 shape.levels;
      widths = λ level below. ap (λ i. i.width) (there level below) ∙ (sides level).width
          ∙ ap (λ side. side_at_level side level) wide;
      heights = λ level below. ap (λ i. i.height) (there level below) ∙ (sides level).height
          ∙ ap (λ side. side_at_level side level) high;
      counts = λ level below. ap (λ i. i.count) (there level below) ∙ (sides level).count ∙ count;
    }

-- ---- how many

pub row-length : (shape : Shape) (levels : List Pictures) (row : BlockRow)
    → length (sources_of_row shape levels row) ≡ row.columns
unfolding row_sources
row-length shape levels row =
    length-map-range_with_len (λ column. source_of (sides_of shape.name).0 (sides_of shape.name).1
    (images_in levels row.level) row.image column row.row) 0 row.columns

pub rows-count : (shape : Shape) (levels : List Pictures) (rows : List BlockRow)
    → length (flat_map (sources_of_row shape levels) rows) ≡ blocks_in rows
rows-count shape levels [] = refl
rows-count shape levels (row ∷ rows) =
    omega (
      arith,
      length-append (sources_of_row shape levels row)
          (flat_map (sources_of_row shape levels) rows),
      row-length shape levels row,
      rows-count
          shape levels rows,
    )

pub sources-count : (shape : Shape) (levels : List Pictures) → 1 ≤ image_count shape
    → length (sources shape levels) ≡ all_blocks shape
sources-count shape levels some = ap length (sources-are shape levels)
    ∙ rows-count shape levels (block_rows shape) ∙ blocks-all shape some

-- as many as were settled
pub settled-length : (way : SettlingWay) (places : List Places) (done : List Settling)
    → AreSettled way places done → length done ≡ length places
settled-length way places done are = sym (length-map done (λ d. d.places))
    ∙ ap length are.sources_are

pub blocks-length : (way : SettlingWay) (places : List Places) (done : List Settling)
    → AreSettled way places done → length (blocks_of done) ≡ length places
blocks-length way places done are = length-map done (λ d. d.bytes)
    ∙ settled-length way places done are

-- a row of blocks of a footprint's sides, whose images are those of its level
pub settles-named : (w h : ℕ) (shape : Shape) (options : PackOptions) (levels : List Pictures)
    (images : Pictures) (row : BlockRow) (before after : List AdviserState)
    (bytes errors now : List ℕ) → sides_of shape.name ≡ (w, h)
    → images ≡ images_in levels row.level → Settles (record { w = w; h = h; options = options })
    (row_sources w h images row.columns row.image row.row) before after bytes errors now
    → Settles (way_of shape.name options) (sources_of_row shape levels row) before after bytes
    errors now
settles-named w h shape options levels images row before after bytes errors now sides is settles =
    rw (sides, ← is) settles

-- ---- which one

-- pieces by numbers: those of m numbers, then those of the others
pieces-apart : {A : Type 0} (f : ℕ → List A) (a m n : ℕ) → flat_map f (range_with_len a (m + n))
    ≡ flat_map f (range_with_len a m) ++ flat_map f (range_with_len (a + m) n)
pieces-apart f a zero n = ap (λ k. flat_map f (range_with_len a k)) (omega arith)
    ∙ ap (λ k. flat_map f (range_with_len k n)) (sym (omega arith))
pieces-apart f a (suc m) n =
    let longer : suc m + n ≡ suc (m + n) = omega arith in
    ap (λ k. flat_map f (range_with_len a k)) longer
    ∙ ap (λ xs. f a ++ xs) (pieces-apart f (a + 1) m n)
    ∙ sym (append_assoc (f a) (flat_map f (range_with_len (a + 1) m))
    (flat_map f (range_with_len (a + 1 + m) n)))
    ∙ ap (λ k. f a ++ flat_map f (range_with_len (a + 1) m) ++ flat_map f (range_with_len k n))
    (omega arith)

-- piece i after the pieces before it, and before the pieces after it
around : {A : Type 0} (f : ℕ → List A) (i n : ℕ) → i < n → flat_map f (range_with_len 0 n)
    ≡ flat_map f (range_with_len 0 i) ++ (f i ++ flat_map f (range_with_len (i + 1) (n - (i + 1))))
around f i n inside =
    let parts : n ≡ i + suc (n - (i + 1)) = omega (arith, inside) in
    let start : 0 + i ≡ i = omega arith in
    ap (λ k. flat_map f (range_with_len 0 k)) parts ∙ pieces-apart f 0 i (suc (n - (i + 1)))
    ∙ ap (λ k. flat_map f (range_with_len 0 i) ++ flat_map f (range_with_len k (suc (n - (i + 1)))))
    start

map-apart : (g : ℕ → BlockRow) (a m n : ℕ) → map g (range_with_len a (m + n))
    ≡ map g (range_with_len a m) ++ map g (range_with_len (a + m) n)
map-apart g a zero n = ap (λ k. map g (range_with_len a k)) (omega arith)
    ∙ ap (λ k. map g (range_with_len k n)) (sym (omega arith))
map-apart g a (suc m) n =
    let longer : suc m + n ≡ suc (m + n) = omega arith in
    ap (λ k. map g (range_with_len a k)) longer ∙ ap (λ xs. g a ∷ xs) (map-apart g (a + 1) m n)
    ∙ ap (λ k. g a ∷ map g (range_with_len (a + 1) m) ++ map g (range_with_len k n))
    (omega arith)

-- a row of a texture is one of its rows
pub row-there : (shape : Shape) (level image row : ℕ) → level < shape.levels
    → image < image_count shape → row < rows_of shape level
    → (before : List BlockRow) × (later : List BlockRow)
    × (before ++ row_at shape level image row ∷ later ≡ block_rows shape)
unfolding block_rows
row-there shape level image row in_level in_image in_row =
    let one : BlockRow = row_at shape level image row in
    let levels_before : List BlockRow = flat_map (level_rows shape) (range_with_len 0 level) in
    let levels_later : List BlockRow =
    flat_map (level_rows shape) (range_with_len (level + 1) (shape.levels - (level + 1))) in
    let images_before : List BlockRow = flat_map (image_rows shape level)
    (range_with_len 0 image) in
    let images_later : List BlockRow = flat_map (image_rows shape level)
    (range_with_len (image + 1) (image_count shape - (image + 1))) in
    let rows_before : List BlockRow = map (row_at shape level image) (range_with_len 0 row) in
    let rows_later : List BlockRow = map (row_at shape level image)
    (range_with_len (row + 1) (rows_of shape level - (row + 1))) in
    let count : rows_of shape level ≡ row + suc (rows_of shape level - (row + 1)) =
    omega (arith, in_row) in
    let start : 0 + row ≡ row = omega arith in
    let rows : image_rows shape level image ≡ rows_before ++ one ∷ rows_later =
    image_rows-is shape level image
    ∙ ap (λ k. map (row_at shape level image) (range_with_len 0 k)) count
    ∙ map-apart (row_at shape level image) 0 row (suc (rows_of shape level - (row + 1)))
    ∙ ap (λ k. rows_before ++ map (row_at shape level image)
    (range_with_len k (suc (rows_of shape level - (row + 1))))) start in
    let images : level_rows shape level
    ≡ images_before ++ ((rows_before ++ one ∷ rows_later) ++ images_later) =
    level_rows-is shape level ∙ around (image_rows shape level) image (image_count shape) in_image
    ∙ ap (λ xs. images_before ++ (xs ++ images_later)) rows in
    let whole : block_rows shape
    ≡ levels_before ++ ((images_before ++ ((rows_before ++ one ∷ rows_later) ++ images_later))
    ++ levels_later) =
    around (level_rows shape) level shape.levels in_level
    ∙ ap (λ xs. levels_before ++ (xs ++ levels_later)) images in (
      levels_before ++ (images_before ++ rows_before),
      rows_later ++ (images_later ++ levels_later),
      append_assoc levels_before (images_before ++ rows_before)
          (one ∷ rows_later ++ (images_later ++ levels_later))
          ∙ ap (λ xs. levels_before ++ xs) (
          append_assoc images_before rows_before
          (one ∷ rows_later ++ (images_later ++ levels_later))
          ∙ ap (λ xs. images_before ++ xs) (
          sym (append_assoc rows_before (one ∷ rows_later) (images_later ++ levels_later))
          ∙ sym (append_assoc (rows_before ++ one ∷ rows_later) images_later levels_later)
          )
          ∙ sym (append_assoc images_before ((rows_before ++ one ∷ rows_later) ++ images_later)
          levels_later)
          )
          ∙ sym whole,
    )

-- the place of a block in its level
pub in-level : (shape : Shape) (level element face row column : ℕ)
    → HasBlock shape level element face row column
    → ((element * shape.faces + face) * rows_of shape level + row) * columns_of shape
    level + column < level_blocks shape level
in-level shape level element face row column has =
    rw (level_blocks-is shape level)
    (place_in_level element face row column (max 1 shape.elements) shape.faces
    (rows_of shape level) (columns_of shape level) has.element_in has.face_in has.row_in
    has.column_in)

-- a block of a texture
pub sources-at : (shape : Shape) (levels : List Pictures) (level element face row column : ℕ)
    → HasBlock shape level element face row column
    → get_or (sources shape levels) (place_of shape level element face row column) []
    ≡ source_of (sides_of shape.name).0 (sides_of shape.name).1 (images_in levels level)
    (element * shape.faces + face) column row
unfolding row_sources
sources-at shape levels level element face row column has =
    let image : ℕ = element * shape.faces + face in
    let in_image : image < image_count shape =
    omega (
      arith,
      mul-add-lt element shape.faces face (max 1 shape.elements) has.element_in
          has.face_in,
    ) in
    let f : BlockRow → List Places = sources_of_row shape levels in
    let one : BlockRow = row_at shape level image row in
    let split = row-there shape level image row has.level_in in_image has.row_in in
    let before : List Places = flat_map f split.0 in
    let behind = row-behind shape split.0 one split.1 (omega (arith, in_image)) split.2 in
    let place : place_of shape level element face row column ≡ length before + column =
    omega (arith, behind.first_is, rows-count shape levels split.0) in
    let whole : sources shape levels ≡ before ++ (f one ++ flat_map f split.1) =
    sources-are shape levels ∙ ap (flat_map f) (sym split.2)
    ∙ flat_map-append f split.0 (one ∷ split.1) in
    ap (λ xs. get_or xs (place_of shape level element face row column) []) whole
    ∙ ap (λ k. get_or (before ++ (f one ++ flat_map f split.1)) k []) place
    ∙ get_or-append-add before (f one ++ flat_map f split.1) column []
    ∙ get_or_append_left (f one) (flat_map f split.1) [] column
    (omega (arith, has.column_in, row-length shape levels one))
    ∙ get_or-map-range_with_len (λ c. source_of (sides_of shape.name).0 (sides_of shape.name).1
    (images_in levels level) image c row) 0 (columns_of shape level) column column []
    has.column_in (omega arith)
