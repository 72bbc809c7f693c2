-- The file of the images is the bytes put for each row of blocks, one after another.
use Rattle.std.proofs.Common.{◌≡◌, ℕ, suc, ◌+◌, ◌-◌, List, [], ◌∷◌, ◌++◌, length, take, Option, ne_eqb, sym, ◌∙◌, ap, subst, arith, append_assoc}
use Rattle.std.specs.Prelude.{if◌then◌else◌}
use Rattle.std.specs.List.{flat_map, range_with_len}
use Rattle.std.proofs.lemmas.List.{append-nil, take_all}
use Rattle.std.proofs.lemmas.List.Concat.{flat_map-append}
use Rattle.astc_model.specs.FootprintNames.{sides_of}
use Rattle.astc_model.specs.Chains.{side_at_level}
use Rattle.pam_header.specs.Written.{header_text}
use Rattle.texture.specs.Shapes.{IsValid, rows_of, image_count, all_blocks}
use Rattle.texture.specs.Rows.{row_at, image_rows, block_rows}
use Rattle.texture.specs.declared.shape.Shape.{Shape}
use Rattle.texture.specs.declared.places.ImagePlace.{ImagePlace}
use Rattle.texture.specs.declared.rows.BlockRow.{BlockRow}
use Rattle.texture.specs.Walks.{blocks_in}
use Rattle.texture.proofs.ShapeLaws.{rows-some, images-some}
use Rattle.texture.proofs.WalkLaws.{blocks-all, all-made, level-made, image-made, flat_map-same}
use Rattle.ktx_file.specs.Files.{File}
use Rattle.tex_shelf.specs.Files.{Files, with_more}
use Rattle.outcomes.specs.Causes.{IsPartlyPut}
use Rattle.outcomes.proofs.PieceLaws.{pieces-same, partly-done}
use Rattle.unpacking.specs.Bands.{faults_of}
use Rattle.unpacking.specs.Unpacked.{all_faults, place_in, band_of, image_of, level_of, piece_of, unpacked}
use Rattle.unpacking.proofs.ImageLaws.{bands}

-- the row that a step of the walk gives, after the rows before it
pub next-rows : {left later : List BlockRow} {row : BlockRow} (shape : Shape) (done : List BlockRow)
    → done ++ left ≡ block_rows shape → left ≡ row ∷ later → done ++ row ∷ later ≡ block_rows shape
next-rows shape done walk step = ap (λ xs. done ++ xs) (sym step) ∙ walk

-- no row is left
pub all-rows : {left : List BlockRow} (shape : Shape) (done : List BlockRow)
    → done ++ left ≡ block_rows shape → left ≡ [] → done ≡ block_rows shape
all-rows shape done walk step = sym (append-nil done) ∙ ap (λ xs. done ++ xs) (sym step) ∙ walk

-- one row more
pub blocks_in-more : (rows : List BlockRow) (row : BlockRow) → blocks_in (rows ++ row ∷ [])
    ≡ blocks_in rows + row.columns
blocks_in-more [] row = omega arith
blocks_in-more (first ∷ rows) row = omega (arith, blocks_in-more rows row)

module _ (file : File) where
  image-pieces : (level image : ℕ) → flat_map (piece_of file) (image_rows file.shape level image)
      ≡ image_of file (place_in file level image)
  unfolding piece_of image_of
  image-pieces level image =
      let place : ImagePlace = place_in file level image in
      let header : List ℕ = header_text (side_at_level file.shape.width level)
      (side_at_level file.shape.height level) in
      let others : ℕ = rows_of file.shape level - 1 in
      let all : rows_of file.shape level ≡ suc others = omega (arith, rows-some file.shape level) in
      let rest : flat_map (λ row. piece_of file (row_at file.shape level image row))
      (range_with_len 1 others) ≡ flat_map (band_of file place) (range_with_len 1 others) =
      pieces-same _ _ 1 1 others
      (λ k below. ap (λ first. (if first then header else []) ++ band_of file place (1 + k))
      (ne_eqb (1 + k) 0 (λ none. absurd (omega (arith, none))))) in
      image-made (piece_of file) file.shape level image
      ∙ ap (λ n. flat_map (λ row. piece_of file (row_at file.shape level image row))
      (range_with_len 0 n)) all
      ∙ ap (λ xs. header ++ band_of file place 0 ++ xs) rest
      ∙ append_assoc header (band_of file place 0)
      (flat_map (band_of file place) (range_with_len 1 others))
      ∙ ap (λ n. header ++ flat_map (band_of file place) (range_with_len 0 n)) (sym all)
      ∙ ap (λ xs. header ++ xs) (sym (bands file place))

  pub file-pieces : flat_map (piece_of file) (block_rows file.shape) ≡ unpacked file
  unfolding unpacked level_of
  file-pieces =
      all-made (piece_of file) file.shape
      ∙ flat_map-same _ _ (range_with_len 0 file.shape.levels) (λ level.
      level-made (piece_of file) file.shape level
      ∙ flat_map-same _ _ (range_with_len 0 (image_count file.shape)) (image-pieces level))

  -- what was put for some rows, and what is put for those left
  pub pieces-both : (rows left : List BlockRow) → rows ++ left ≡ block_rows file.shape
      → flat_map (piece_of file) rows ++ flat_map (piece_of file) left ≡ unpacked file
  pieces-both rows left split = sym (flat_map-append (piece_of file) rows left)
      ∙ ap (flat_map (piece_of file)) split ∙ file-pieces

  -- some of the rows were put
  pub part-put : (rows left : List BlockRow) (f h : Option Files) (t : Option (List ℕ))
      → rows ++ left ≡ block_rows file.shape → h ≡ with_more f t (flat_map (piece_of file) rows)
      → IsPartlyPut f t (unpacked file) h
  part-put rows left f h t split put = subst (λ bytes. IsPartlyPut f t bytes h)
      (pieces-both rows left split)
      (partly-done f h t (flat_map (piece_of file) rows) (flat_map (piece_of file) left) put)

  pub faults-all : (rows : List BlockRow) → IsValid file.shape → length file.blocks
      ≡ all_blocks file.shape → rows ≡ block_rows file.shape
      → faults_of (sides_of file.shape.name).0 (sides_of file.shape.name).1
      (take (blocks_in rows) file.blocks) ≡ all_faults file
  faults-all rows valid full all =
      let count : blocks_in rows ≡ all_blocks file.shape =
      ap blocks_in all
      ∙ blocks-all file.shape (images-some file.shape valid) in
      ap (faults_of (sides_of file.shape.name).0 (sides_of file.shape.name).1)
      (take_all (blocks_in rows) file.blocks (omega (arith, count, full)))
