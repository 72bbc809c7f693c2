-- From rows of blocks that were settled and put to the file and its prefixes.
use Rattle.std.proofs.Common.{◌≡◌, ℕ, zero, suc, ◌+◌, ◌-◌, ◌≤◌, List, [], ◌∷◌, ◌++◌, length, take, drop, replicate, Option, refl, sym, ◌∙◌, ap, subst, arith, append_assoc, length-append}
use Rattle.std.specs.List.{flat_map, AllByRecursion}
use Rattle.std.proofs.lemmas.List.{append-nil, take-append-le, take_all, length-map, length-replicate}
use Rattle.std.proofs.lemmas.Grind.{flat_map-append}
use Rattle.std.proofs.Math.Seq.{take-append-add}
use Rattle.tex_shelf.specs.Files.{Files, with_more}
use Rattle.tex_shelf.specs.declared.stop.ShelfStop.{ShelfStop}
use Rattle.tex_shelf.specs.declared.stop.ShelfStop.TheVariants.{Failed, NoMemory}
use Rattle.astc_model.specs.Sums.{sum_to}
use Rattle.astc_model.proofs.SumLaws.{sum_to-zero}
use Rattle.images.specs.Pictures.{Pictures}
use Rattle.texture.specs.declared.shape.Shape.{Shape}
use Rattle.texture.specs.Shapes.{image_count, level_blocks, all_blocks}
use Rattle.texture.specs.declared.rows.BlockRow.{BlockRow}
use Rattle.texture.specs.Rows.{block_rows}
use Rattle.texture.specs.Walks.{level_begun, blocks_in, levels_in}
use Rattle.texture.proofs.WalkLaws.{blocks-all}
use Rattle.ktx_file.specs.Framing.{header_of}
use Rattle.ktx_file.specs.Files.{ktx}
use Rattle.adviser_pool.specs.Advisers.{AdviserState}
use Rattle.outcomes.specs.Causes.{IsPartlyPut, Stopped}
use Rattle.tex_shelf.proofs.FaultsLemmas.{rose_since}
use Rattle.outcomes.proofs.PieceLaws.{put-more}
use Rattle.packed_levels.specs.declared.options.PackOptions.{PackOptions}
use Rattle.packed_levels.specs.Settling.{Places, Settling, AreSettled, blocks_of, bytes_of, errors_of, way_of}
use Rattle.packed_levels.specs.Serving.{ServesIf, Settles}
use Rattle.packed_levels.proofs.ServingLaws.{serves_if-none, serves_if-append}
use Rattle.packed_levels.proofs.SettlingLaws.{settled-none, settled-append, each-append, errors-append, blocks-append}
use Rattle.packed_levels.specs.Rows.{row_bytes, rows_bytes}
use Rattle.packed_levels.specs.Sources.{sources_of_row, sources}
use Rattle.packed_levels.specs.Putting.{AreFramed, IsPackFront}
use Rattle.packed_levels.proofs.RowsLaws.{rows-both, rows-enough, rows-more, rows-length, rows-written}
use Rattle.packed_levels.proofs.SourceLaws.{row-length, rows-count, sources-are, blocks-length}
use Rattle.packed_levels.proofs.PackedLaws.{settled-sizes, front-of}
use Rattle.packed_levels.proofs.RowSteps.{IsNext, blocks-both}
use Rattle.packed_levels.proofs.StoredLaws.{ktx-is, ktx-all}

-- Rows of blocks were settled and put after the header, and these are their errors.
pub record ArePut (shape : Shape) (options : PackOptions) (levels : List Pictures)
    (rows : List BlockRow) (before after : List AdviserState) (files : Option Files)
    (target : Option (List ℕ)) (now : Option Files) (errors : List ℕ) : Type 0 where
  pub done : List Settling
  pub are : AreSettled (way_of shape.name options) (flat_map (sources_of_row shape levels) rows)
      done
  pub serves : ServesIf options.advised (way_of shape.name options) before after done
  pub put : now ≡ with_more files target (header_of shape ++ rows_bytes shape rows (blocks_of done))
  pub errors_are : errors ≡ errors_of done

pub blank : List ℕ
blank = 0 ∷ 0 ∷ 0 ∷ 0 ∷ 0 ∷ 0 ∷ 0 ∷ 0 ∷ 0 ∷ 0 ∷ 0 ∷ 0 ∷ 0 ∷ 0 ∷ 0 ∷ 0 ∷ []

blanks : (n : ℕ) → AllByRecursion (λ block. length block ≡ 16) (replicate n blank)
unfolding blank
blanks zero = tt
blanks (suc n) = (refl, blanks n)

pub header-length : (shape : Shape) → length (header_of shape) ≡ 92
header-length shape = refl

-- prefixes

-- a prefix of the header and of rows whose blocks are settled; other rows follow
module _ (shape : Shape) (options : PackOptions) (levels : List Pictures)
    (rows later : List BlockRow) (done : List Settling) (some : 1 ≤ image_count shape)
    (all : rows ++ later ≡ block_rows shape)
    (are : AreSettled (way_of shape.name options) (flat_map (sources_of_row shape levels) rows)
    done) where
  abbrev left : ℕ
  left = all_blocks shape - blocks_in rows

  abbrev blocks : List (List ℕ)
  blocks = blocks_of done ++ replicate left blank

  count : length (blocks_of done) ≡ blocks_in rows
  count = blocks-length (way_of shape.name options) (flat_map (sources_of_row shape levels) rows)
      done are ∙ rows-count shape levels rows

  file-is : ktx shape blocks ≡ (header_of shape ++ rows_bytes shape rows (blocks_of done))
      ++ rows_bytes shape later (drop (blocks_in rows) blocks)
  file-is =
      ktx-is shape blocks ∙ ap (λ bytes. header_of shape ++ bytes) (
      sym (rows-written shape blocks some) ∙ ap (λ xs. rows_bytes shape xs blocks) (sym all)
      ∙ rows-both shape rows later blocks
      ∙ ap (λ bytes. bytes ++ rows_bytes shape later (drop (blocks_in rows) blocks))
      (rows-enough shape rows (blocks_of done) (replicate left blank) (omega (arith, count)))
      )
      ∙ sym (append_assoc (header_of shape) (rows_bytes shape rows (blocks_of done))
      (rows_bytes shape later (drop (blocks_in rows) blocks)))

  pub front-is : (level n : ℕ) → sum_to (level_blocks shape) level ≤ blocks_in rows
      → levels_in rows ≤ level + 1
      → n ≤ length (header_of shape ++ rows_bytes shape rows (blocks_of done))
      → IsPackFront shape options levels
      (take n (header_of shape ++ rows_bytes shape rows (blocks_of done)))
  front-is level n reached begun within =
      let f : BlockRow → List Places = sources_of_row shape levels in
      let sizes : AllByRecursion (λ block. length block ≡ 16) (blocks_of done) =
      settled-sizes (way_of shape.name options) done are.each in
      let whole : sources shape levels ≡ flat_map f rows ++ flat_map f later =
      sources-are shape levels ∙ ap (flat_map f) (sym all) ∙ flat_map-append f rows later in
      let most : blocks_in rows + blocks_in later ≡ all_blocks shape = sym (blocks-both rows later)
      ∙ ap blocks_in all ∙ blocks-all shape some in
      record {
        file = ktx shape blocks;
        k = n;
        begun = front-of shape options levels n level done (replicate left blank) (flat_map f rows)
            (flat_map f later)
            (record {
              count = length-append (blocks_of done) (replicate left blank)
                  ∙ omega (arith, count, length-replicate left blank, most);
              sizes = each-append (λ block. length block ≡ 16) (blocks_of done)
                  (replicate left blank) sizes (blanks left);
            })
            whole are (omega (arith, reached, count, length-map done (λ d. d.bytes)))
            (omega (
              arith,
              length-map done (λ d. d.bytes),
              within,
              length-append (header_of shape)
                  (rows_bytes shape rows (blocks_of done)),
              header-length shape,
              rows-length
                  shape rows (blocks_of done) (omega (arith, count)) sizes,
              begun,
              count,
            ));
        front_is = sym (take-append-le n (header_of shape ++ rows_bytes shape rows (blocks_of done))
            (rows_bytes shape later (drop (blocks_in rows) blocks)) within)
            ∙ ap (take n) (sym file-is);
      }

-- before any row
pub front-none : (shape : Shape) (options : PackOptions) (levels : List Pictures)
    → 1 ≤ image_count shape → (n : ℕ) → n ≤ 92 → IsPackFront shape options levels
    (take n (header_of shape))
front-none shape options levels some n within =
    subst (λ bytes. IsPackFront shape options levels (take n bytes)) (append-nil (header_of shape))
    (front-is shape options levels [] (block_rows shape) [] some refl
    (settled-none (way_of shape.name options)) 0 n
    (omega (arith, sum_to-zero (level_blocks shape))) (omega arith)
    (omega (arith, within, header-length shape, length-append (header_of shape) [])))

-- ---- rows that are put

pub put-first : (shape : Shape) (options : PackOptions) (levels : List Pictures)
    (before : List AdviserState) (f g : Option Files) (t : Option (List ℕ)) (header : List ℕ)
    → header ≡ header_of shape → g ≡ with_more f t header
    → ArePut shape options levels [] before before f t g []
put-first shape options levels before f g t header is put = record {
  done = [];
  are = settled-none (way_of shape.name options);
  serves = serves_if-none (way_of shape.name options) options.advised before;
  put = put ∙ ap (with_more f t) (is ∙ sym (append-nil (header_of shape)));
  errors_are = refl;
}

-- the blocks of a row, settled and put after those of other rows
module _ (shape : Shape) (options : PackOptions) (levels : List Pictures) (rows : List BlockRow)
    (row : BlockRow) (xs ys : List Settling)
    (first : AreSettled (way_of shape.name options) (flat_map (sources_of_row shape levels) rows)
    xs) (second : AreSettled (way_of shape.name options)
    (sources_of_row shape levels row) ys) where
  are-next : AreSettled (way_of shape.name options)
      (flat_map (sources_of_row shape levels) (rows ++ row ∷ [])) (xs ++ ys)
  are-next =
      let f : BlockRow → List Places = sources_of_row shape levels in
      let rows_are : flat_map f rows ++ f row ≡ flat_map f (rows ++ row ∷ []) =
      ap (λ zs. flat_map f rows ++ zs) (sym (append-nil (f row)))
      ∙ sym (flat_map-append f rows (row ∷ [])) in
      subst (λ places. AreSettled (way_of shape.name options) places (xs ++ ys)) rows_are
      (settled-append (way_of shape.name options) (flat_map f rows) (f row) xs ys first second)

  front-next : (bytes : List ℕ) → bytes ≡ bytes_of ys
      → header_of shape ++ rows_bytes shape (rows ++ row ∷ []) (blocks_of (xs ++ ys))
      ≡ (header_of shape ++ rows_bytes shape rows (blocks_of xs)) ++ row_bytes shape row bytes
  front-next bytes is =
      let long : length (blocks_of xs) ≡ blocks_in rows = blocks-length (way_of shape.name options)
      (flat_map (sources_of_row shape levels) rows) xs first ∙ rows-count shape levels rows in
      let whole : length (blocks_of ys) ≡ row.columns = blocks-length (way_of shape.name options)
      (sources_of_row shape levels row) ys second ∙ row-length shape levels row in
      ap (λ zs. header_of shape ++ rows_bytes shape (rows ++ row ∷ []) zs) (blocks-append xs ys)
      ∙ ap (λ zs. header_of shape ++ zs)
      (rows-more shape rows row (blocks_of xs) (blocks_of ys) long whole)
      ∙ ap (λ zs. header_of shape
      ++ (rows_bytes shape rows (blocks_of xs) ++ row_bytes shape row zs)) (sym is)
      ∙ sym (append_assoc (header_of shape) (rows_bytes shape rows (blocks_of xs))
      (row_bytes shape row bytes))

-- a row more, whose blocks have these bytes
pub put-next : (shape : Shape) (options : PackOptions) (levels : List Pictures)
    (rows : List BlockRow) (row : BlockRow) (before between after : List AdviserState)
    (f g h : Option Files) (t t' : Option (List ℕ)) (bytes errors now : List ℕ)
    → ArePut shape options levels rows before between f t g errors → t' ≡ t
    → Settles (way_of shape.name options) (sources_of_row shape levels row) between after bytes
    errors now
    → h ≡ with_more g t' (row_bytes shape row bytes)
    → ArePut shape options levels (rows ++ row ∷ []) before after f t h now
put-next shape options levels rows row before between after f g h t t' bytes errors now first target
    second put = record {
      done = first.done ++ second.done;
      are = are-next shape options levels rows row first.done second.done first.are second.are;
      serves = serves_if-append (way_of shape.name options) options.advised before between after
          first.done second.done first.serves second.serves;
      put = put-more f g h t t' (header_of shape ++ rows_bytes shape rows (blocks_of first.done))
          (row_bytes shape row bytes) first.put target put
          ∙ ap (with_more f t) (sym
          (front-next shape options levels rows row first.done second.done first.are second.are
          bytes second.bytes_are));
      errors_are = second.errors_are ∙ ap (λ zs. zs ++ errors_of second.done) first.errors_are
          ∙ sym (errors-append first.done second.done);
    }

-- all of them
pub framed-all : (shape : Shape) (options : PackOptions) (levels : List Pictures)
    (rows : List BlockRow) (before after : List AdviserState) (f g : Option Files)
    (t : Option (List ℕ)) (errors : List ℕ) → 1 ≤ image_count shape
    → rows ≡ block_rows shape → ArePut shape options levels rows before after f t g errors
    → (file : List ℕ) × AreFramed shape options levels before after file errors
    × (g ≡ with_more f t file)
framed-all shape options levels rows before after f g t errors some all put =
    let blocks : List (List ℕ) = blocks_of put.done in (
      ktx shape blocks,
      record {
        done = put.done;
        are = subst (λ places. AreSettled (way_of shape.name options) places put.done)
            (ap (flat_map (sources_of_row shape levels)) all ∙ sym (sources-are shape levels))
            put.are;
        serves = put.serves;
        framed = refl;
        errors_are = put.errors_are;
      },
      put.put ∙ ap (with_more f t) (ktx-all shape blocks rows some all),
    )

-- the state after a stop in the header

-- within the header
pub header-stopped : (shape : Shape) (options : PackOptions) (levels : List Pictures)
    (header : List ℕ) (f g : Option Files) (t : Option (List ℕ)) (count now : ℕ) (stop : ShelfStop)
    → 1 ≤ image_count shape
    → header ≡ header_of shape → Stopped count now (IsPartlyPut f t header g) stop
    → Stopped count now ((front : List ℕ) × IsPackFront shape options levels front
    × (g ≡ with_more f t front)) stop
header-stopped shape options levels header f g t count now stop some is stopped =
    stopped-on stop stopped
  where
    as_front : IsPartlyPut f t header g → (front : List ℕ) × IsPackFront shape options levels front
        × (g ≡ with_more f t front)
    as_front part = (
      take part.0 (header_of shape),
      front-none shape options levels some part.0
          (omega (arith, part.1, ap length is, header-length shape)),
      part.2 ∙ ap (λ bytes. with_more f t (take part.0 bytes)) is,
    )

    stopped-on : (stop : ShelfStop) → Stopped count now (IsPartlyPut f t header g) stop
        → Stopped count now ((front : List ℕ) × IsPackFront shape options levels front
        × (g ≡ with_more f t front)) stop
    stopped-on Failed stopped = (stopped.0, as_front stopped.1)
    stopped-on NoMemory stopped = as_front stopped

levels-more : (rows : List BlockRow) (row : BlockRow) → levels_in (rows ++ row ∷ [])
    ≡ levels_in rows + level_begun row
levels-more [] row = omega arith
levels-more (first ∷ rows) row = omega (arith, levels-more rows row)

module _ (shape : Shape) (options : PackOptions) (levels : List Pictures)
    (rows later : List BlockRow) (row : BlockRow) (next : IsNext shape rows row later)
    (before between : List AdviserState)
    (f g : Option Files) (t : Option (List ℕ)) (errors : List ℕ)
    (first : ArePut shape options levels rows before between f t g errors) where
  -- before a row
  pub stopped-between : (front : List ℕ) × IsPackFront shape options levels front
      × (g ≡ with_more f t front)
  stopped-between =
      let front : List ℕ = header_of shape ++ rows_bytes shape rows (blocks_of first.done) in
      let whole : take (length front) front ≡ front = take_all (length front) front (omega arith)
      in (
        take (length front) front,
        front-is shape options levels rows (row ∷ later) first.done next.some next.rows first.are
            row.level (length front)
            (omega (arith, next.behind.first_is, ap (λ r. r.first) next.behind.there.is))
            (omega (arith, next.behind.level_is)) (omega arith),
        first.put ∙ ap (with_more f t) (sym whole),
      )

  -- within a row
  pub stopped-within : (after : List AdviserState) (h : Option Files) (t' : Option (List ℕ))
      (bytes now : List ℕ) (count middle last : ℕ) (stop : ShelfStop) → t' ≡ t → count ≤ middle
      → Settles (way_of shape.name options) (sources_of_row shape levels row) between after bytes
      errors now → Stopped middle last (IsPartlyPut g t' (row_bytes shape row bytes) h) stop
      → Stopped count last ((front : List ℕ) × IsPackFront shape options levels front
      × (h ≡ with_more f t front)) stop
  stopped-within after h t' bytes now count middle last stop target later_count settles stopped =
      stopped-on stop stopped
    where
      as_front : IsPartlyPut g t' (row_bytes shape row bytes) h → (front : List ℕ)
          × IsPackFront shape options levels front × (h ≡ with_more f t front)
      as_front part =
          let piece : List ℕ = row_bytes shape row bytes in
          let start : List ℕ = header_of shape ++ rows_bytes shape rows (blocks_of first.done) in
          let done : List Settling = first.done ++ settles.done in
          let front : List ℕ = header_of shape ++ rows_bytes shape (rows ++ row ∷ [])
          (blocks_of done) in
          let split : front ≡ start ++ piece =
          front-next shape options levels rows row first.done settles.done first.are settles.are
          bytes settles.bytes_are in
          let n : ℕ = length start + part.0 in
          let taken : take n front ≡ start ++ take part.0 piece = ap (take n) split
          ∙ take-append-add start piece part.0 in (
            take n front,
            front-is shape options levels (rows ++ row ∷ []) later done next.some next.rows_on
                (are-next shape options levels rows row first.done settles.done first.are
                settles.are) row.level n
                (omega (
                  arith,
                  next.behind.first_is,
                  ap (λ r. r.first) next.behind.there.is,
                  blocks-both rows
                      (row ∷ []),
                )) (omega (arith, next.behind.level_is, levels-more rows row))
                (omega (arith, part.1, ap length split, length-append start piece)),
            put-more f g h t t' start (take part.0 piece) first.put target part.2
                ∙ ap (with_more f t) (sym taken),
          )

      stopped-on : (stop : ShelfStop)
          → Stopped middle last (IsPartlyPut g t' (row_bytes shape row bytes) h) stop
          → Stopped count last ((front : List ℕ) × IsPackFront shape options levels front
          × (h ≡ with_more f t front)) stop
      stopped-on Failed stopped =
          (rose_since count middle last later_count stopped.0, as_front stopped.1)
      stopped-on NoMemory stopped = as_front stopped
