-- Parts that were made of the same images, together.
use Rattle.std.proofs.Common.{◌≡◌, ℕ, zero, suc, ◌+◌, ◌-◌, ◌*◌, ◌^◌, ◌<◌, ◌≤◌, replicate, Option, None, max, if◌then◌else◌, Bool, true, false, List, [], ◌∷◌, ◌++◌, length, map, Result, Ok, refl, sym, ◌∙◌, ap, subst, arith, length-append}
use Rattle.std.specs.List.{AllByRecursion, flat_map}
use lib.Pointwise.{bytes_decides}
use Rattle.std.specs.Int.{w32, w64, to_le_bytes}
use Rattle.std.proofs.lemmas.Bool.{eq-eqb}
use Rattle.std.proofs.lemmas.List.{length-replicate}
use Rattle.astc_model.specs.Limits.{most_block_error}
use Rattle.astc_model.specs.FootprintNames.{gl_of}
use Rattle.astc_model.specs.declared.preset.Preset.{Preset}
use Rattle.astc_model.specs.declared.preset.Preset.TheVariants.{Flat, Quick, Medium, Thorough, Pairs}
use Rattle.astc_words.specs.declared.job.PackJob.{PackJob}
use Rattle.astc_words.specs.declared.job.Levels.{Levels}
use Rattle.astc_words.specs.declared.job.Levels.TheVariants.{Number, Full}
use Rattle.images.specs.Pictures.{Pictures, IsValid as AreImages}
use Rattle.images.specs.Chains.{chain_of}
use Rattle.parting.proofs.DigestLemmas.{digest_fits}
use Rattle.pam_image.specs.Reading.{IsWanted}
use Rattle.texture.specs.declared.shape.Shape.{Shape}
use Rattle.texture.specs.Shapes.{IsValid, all_blocks}
use Rattle.ktx_file.specs.Files.{ktx}
use Rattle.packed_levels.specs.Settling.{SettlingWay, way_of}
use Rattle.packed_levels.specs.Reports.{report_lines}
use Rattle.packing.specs.Packed.{Packs, want_of, shape_of, settings_of, levels_of, faces_of}
use Rattle.part_file.specs.declared.fault.PartFault.{PartFault}
use Rattle.part_file.specs.Ranges.{IsPlace, part_start, part_count}
use Rattle.part_file.specs.declared.mark.JobMark.{JobMark}
use Rattle.part_file.specs.Marks.{preset_number, mark_bytes}
use Rattle.part_file.specs.declared.front.Front.{Front}
use Rattle.part_file.specs.Fronts.{front_of}
use Rattle.tex_shelf.specs.Pieces.{ArePieces}
use Rattle.part_file.specs.Pieces.{piece_of, block_of, error_of}
use Rattle.part_file.specs.Files.{PartFile, IsPart, count_of, part_bytes, part_of}
use Rattle.part_file.proofs.RangeLemmas.{start_first, start_next}
use Rattle.part_file.proofs.WrittenLemmas.{part_reads_back, block_again, error_again}
use Rattle.tex_shelf.proofs.PieceLemmas.{length-flat}
use Rattle.packed_levels.specs.Settled.{AreSettledFrom, unadvised}
use Rattle.packed_levels.proofs.SettledLaws.{from-none, from-append, packed-from}
use Rattle.parting.specs.Numbered.{EachFrom}
use Rattle.parting.specs.Joins.{IsPartAt, Joins, blocks_in, errors_in, is_same_shape, is_same_mark, is_of, gathered_none}
use Rattle.parting.specs.Parts.{MakesPart, pieces_of, pack_sources, front_for}
use Rattle.parting.specs.Together.{IsMadeOf, AreMadeOf}
use Rattle.parting.proofs.SameLaws.{HaveWords, valid-fits, few-levels, shapes-same}
use Rattle.parting.proofs.JoinLaws.{blocks-length}

-- ---- blocks with their errors

pieces-length : (blocks : List (List ℕ)) (errors : List ℕ) → length errors ≡ length blocks
    → length (pieces_of blocks errors) ≡ length blocks
pieces-length [] errors long = refl
pieces-length (b ∷ blocks) [] long = absurd (omega arith)
pieces-length (b ∷ blocks) (e ∷ errors) long = ap suc (pieces-length blocks errors (omega arith))

piece-length : (block : List ℕ) (error : ℕ) → length block ≡ 16 → length (piece_of block error) ≡ 20
piece-length block error size = omega (arith, length-append block (to_le_bytes w32 error), size)

pieces-sizes : (blocks : List (List ℕ)) (errors : List ℕ)
    → AllByRecursion (λ block. length block ≡ 16) blocks
    → AllByRecursion (λ piece. length piece ≡ 20) (pieces_of blocks errors)
pieces-sizes [] errors sizes = tt
pieces-sizes (b ∷ blocks) [] sizes = tt
pieces-sizes (b ∷ blocks) (e ∷ errors) sizes =
    (piece-length b e sizes.0, pieces-sizes blocks errors sizes.1)

blocks-again : (blocks : List (List ℕ)) (errors : List ℕ) → length errors ≡ length blocks
    → AllByRecursion (λ block. length block ≡ 16) blocks → map block_of (pieces_of blocks errors)
    ≡ blocks
blocks-again [] errors long sizes = refl
blocks-again (b ∷ blocks) [] long sizes = absurd (omega arith)
blocks-again (b ∷ blocks) (e ∷ errors) long sizes =
    ap (λ x. x ∷ map block_of (pieces_of blocks errors)) (block_again b e sizes.0)
    ∙ ap (λ xs. b ∷ xs) (blocks-again blocks errors (omega arith) sizes.1)

errors-again : (blocks : List (List ℕ)) (errors : List ℕ) → length errors ≡ length blocks
    → AllByRecursion (λ block. length block ≡ 16) blocks
    → AllByRecursion (λ error. error ≤ most_block_error) errors
    → map error_of (pieces_of blocks errors) ≡ errors
errors-again [] [] long sizes small = refl
errors-again [] (e ∷ errors) long sizes small = absurd (omega arith)
errors-again (b ∷ blocks) [] long sizes small = absurd (omega arith)
errors-again (b ∷ blocks) (e ∷ errors) long sizes small =
    ap (λ x. x ∷ map error_of (pieces_of blocks errors))
    (error_again b e sizes.0 (omega (arith, small.0)))
    ∙ ap (λ xs. e ∷ xs) (errors-again blocks errors (omega arith) sizes.1 small.1)

-- how the blocks of a pack's parts are settled
abbrev way_for : PackJob → SettlingWay
way_for job = way_of job.name (unadvised (settings_of job job.fitted))

-- ---- one part

levels-few : (levels : Levels) (width height : ℕ) → levels_of levels width height ≤ 14
levels-few (Number n) width height = omega (arith, few-levels width height)
levels-few Full width height = few-levels width height

faces-few : (cube : Bool) (n : ℕ) → n ≡ (if cube then 6 else 1) → (1 ≤ n) × (n ≤ 6)
faces-few true n is = (omega arith, omega arith)
faces-few false n is = (omega arith, omega arith)

grows : (a n : ℕ) → 1 ≤ a → n ≤ a * n
grows zero n some = absurd (omega arith)
grows (suc a) n some = omega arith

-- the shape of a pack's texture has numbers that fit words
wanted-fits : (job : PackJob) (images : Pictures) → AreImages images → IsWanted (want_of job) images
    → HaveWords (shape_of job images)
wanted-fits job images are wanted =
    let faces = faces-few job.cube (faces_of job) refl in
    let each : max 1 job.elements ≤ faces_of job * max 1 job.elements =
    grows (faces_of job) (max 1 job.elements) faces.0 in
    let sides : images.height ≤ images.width * images.height =
    grows images.width images.height are.width_some in
    let all : images.count ≤ images.width * images.height * images.count =
    grows (images.width * images.height) images.count (omega (arith, sides, are.height_some)) in
    let count : images.count ≡ faces_of job * max 1 job.elements = omega (arith, wanted.count) in
    record {
      width = omega (arith, are.width_most);
      height = omega (arith, are.height_most);
      elements = omega (arith, each, count, all, wanted.not_too_large);
      faces = omega (arith, faces.1);
      levels = omega (arith, levels-few job.levels images.width images.height);
    }

-- the prefix of the parts of a pack
abbrev pub pack_front : PackJob → Pictures → ℕ → ℕ → Front
pack_front job images place parts =
    front_for (record { at = record { place = place; parts = parts }; pack = job })
    (shape_of job images) (chain_of images (shape_of job images).levels)

-- a part is of the texture that a pack makes of these images, and its blocks are settled as those
-- of that are
record IsOf (job : PackJob) (images : Pictures) (parts place : ℕ)
    (part : PartFile) : Type 0 where
  front : part.front ≡ pack_front job images place parts
  count : length (map block_of part.pieces) ≡ part_count (shape_of job images) place parts
  settled : AreSettledFrom (way_for job) [] (pack_sources job images)
      (part_start (shape_of job images) place parts) (map block_of part.pieces)
      (map error_of part.pieces)

ok-same : (a b : PartFile) (read : Result PartFile PartFault) → read ≡ Ok a → read ≡ Ok b → a ≡ b
ok-same a b read first second = (cc)

preset-few : (preset : Preset) → preset_number preset ≤ 4
preset-few Flat = omega arith
preset-few Quick = omega arith
preset-few Medium = omega arith
preset-few Thorough = omega arith
preset-few Pairs = omega arith

preset-small : (preset : Preset) (fitted : Bool)
    → preset_number preset + (if fitted then 16 else 0) < 2 ^ 32
preset-small preset true = omega (arith, preset-few preset)
preset-small preset false = omega (arith, preset-few preset)

-- the bytes of a file are those before the weights, the weights, and the bytes after them
file-length : (front : Front) (pieces : List (List ℕ))
    → AllByRecursion (λ piece. length piece ≡ 20) pieces
    → length (part_bytes (record { front = front; pieces = pieces }))
    ≡ 128 + length front.mark.weights + 20 * length pieces
unfolding part_bytes front_of mark_bytes
file-length front pieces sizes =
    let flat : List ℕ = flat_map (λ piece. piece) pieces in
    let digest : List ℕ = to_le_bytes w64 front.mark.digest in
    omega (
      arith,
      length-append (front.mark.weights ++ digest) flat,
      length-append
          front.mark.weights digest,
      length-flat 20 pieces sizes,
    )

module _ (job : PackJob) (images : Pictures)
    (fits : HaveWords (shape_of job images)) (shape : Shape) (mark : JobMark) (parts place : ℕ)
    (part : PartFile) (at : IsPartAt shape mark parts place part) (lines : List (List ℕ))
    (made : MakesPart (record { at = record { place = place; parts = parts }; pack = job }) images
    (part_bytes part) lines) where
  abbrev other : PartFile
  other = record {
    front = pack_front job images place parts;
    pieces = pieces_of made.blocks made.errors;
  }

  same-shape : shape_of job images ≡ part.front.layout
  unfolding part_bytes
  same-shape =
      shapes-same part.front other.front (flat_map (λ piece. piece) part.pieces)
      (flat_map (λ piece. piece) other.pieces) (valid-fits part.front.layout at.is.front.valid)
      fits made.framed.framed

  are-pieces : ArePieces 20 (count_of other.front) other.pieces
  are-pieces = record {
    count_is = pieces-length made.blocks made.errors made.settled.settled.errors_full
        ∙ made.settled.full;
    sizes = pieces-sizes made.blocks made.errors made.settled.settled.sizes;
  }

  same-count : count_of part.front ≡ count_of other.front
  same-count = ap count_of at.front ∙ ap (λ s. part_count s place parts)
      (sym (ap (λ f. f.layout) at.front) ∙ sym same-shape)

  four-weights : length job.weights ≡ 4
  four-weights =
      omega (
        arith,
        ap length made.framed.framed,
        file-length part.front part.pieces at.is.full.sizes,
        file-length other.front other.pieces are-pieces.sizes,
        at.is.front.mark.weights,
        at.is.full.count_is,
        are-pieces.count_is,
        same-count,
      )

  is-part : IsPart other
  is-part = record {
    front = record {
      valid = subst IsValid (sym same-shape) at.is.front.valid;
      placed = subst (λ f. IsPlace f.place f.count) at.front at.is.front.placed;
      mark = record {
        preset = preset-small job.preset job.fitted;
        weights = four-weights;
        digest = digest_fits (chain_of images (shape_of job images).levels);
      };
    };
    full = are-pieces;
  }

  same-part : part ≡ other
  same-part = ok-same part other (part_of (part_bytes part)) (part_reads_back part at.is)
      (ap part_of made.framed.framed ∙ part_reads_back other is-part)

  is-of : IsOf job images parts place part
  is-of =
      let pieces : part.pieces ≡ pieces_of made.blocks made.errors = ap (λ p. p.pieces) same-part in
      let blocks : map block_of part.pieces ≡ made.blocks = ap (map block_of) pieces
      ∙ blocks-again made.blocks made.errors made.settled.settled.errors_full
      made.settled.settled.sizes in
      let errors : map error_of part.pieces ≡ made.errors = ap (map error_of) pieces
      ∙ errors-again made.blocks made.errors made.settled.settled.errors_full
      made.settled.settled.sizes made.settled.settled.small in
      let start : ℕ = part_start (shape_of job images) place parts in
      let way : SettlingWay = way_for job in
      let first : AreSettledFrom way [] (pack_sources job images) start
      (map block_of part.pieces) made.errors =
      subst (λ bs. AreSettledFrom way [] (pack_sources job images) start bs made.errors)
      (sym blocks) made.settled.settled in
      record {
        front = ap (λ p. p.front) same-part;
        count = ap length blocks ∙ made.settled.full;
        settled = subst (λ es. AreSettledFrom way [] (pack_sources job images) start
            (map block_of part.pieces) es) (sym errors) first;
      }

-- ---- two parts of one pack

same-is : (shape : Shape) → is_same_shape shape shape ≡ true
same-is shape =
    rw (
      eq-eqb (gl_of shape.name shape.flavour) (gl_of shape.name shape.flavour) refl,
      eq-eqb
          shape.width shape.width refl,
      eq-eqb shape.height shape.height refl,
      eq-eqb
          shape.elements shape.elements refl,
      eq-eqb shape.faces shape.faces refl,
      eq-eqb
          shape.levels shape.levels refl,
    ) refl

mark-same : (mark : JobMark) → is_same_mark mark mark ≡ true
mark-same mark = rw (
  eq-eqb mark.preset mark.preset refl,
  (bytes_decides mark.weights mark.weights).1 refl,
  eq-eqb mark.digest mark.digest refl,
) refl

of-one : (shape : Shape) (mark : JobMark) (place behind count : ℕ)
    → is_of (gathered_none (record { layout = shape; mark = mark; place = place; count = count }))
    (record { layout = shape; mark = mark; place = behind; count = count }) ≡ true
of-one shape mark place behind count =
    rw (
      same-is shape,
      mark-same mark,
      eq-eqb (length (replicate {A = Option PartFile} count None))
          count (length-replicate {A = Option PartFile} count None),
    ) refl

-- the parts of one pack are of one job
pub agree : (job : PackJob) (images : Pictures) (one another : PartFile)
    → AreImages images → IsWanted (want_of job) images → IsPart one → IsPart another
    → another.front.count ≡ one.front.count
    → IsMadeOf job images one.front.count one.front.place one
    → IsMadeOf job images another.front.count another.front.place another
    → is_of (gathered_none one.front) another.front ≡ true
agree job images one another are wanted first second count made also =
    let fits = wanted-fits job images are wanted in
    let a = is-of job images fits one.front.layout one.front.mark one.front.count
    one.front.place one (record { is = first; front = refl }) made.0 made.1 in
    let b = is-of job images fits another.front.layout another.front.mark another.front.count
    another.front.place another (record { is = second; front = refl }) also.0 also.1 in
    let mark : JobMark = (pack_front job images 0 0).mark in
    subst (λ front. is_of (gathered_none one.front) front ≡ true)
    (sym (b.front ∙ ap (λ n. pack_front job images another.front.place n) count))
    (subst (λ front. is_of (gathered_none front)
    (pack_front job images another.front.place one.front.count) ≡ true)
    (sym a.front) (of-one (shape_of job images) mark one.front.place another.front.place
    one.front.count))

-- ---- all parts

settled-from : (job : PackJob) (images : Pictures)
    (fits : HaveWords (shape_of job images)) (shape : Shape) (mark : JobMark) (count place : ℕ)
    (parts : List PartFile) → EachFrom (IsPartAt shape mark count) place parts
    → EachFrom (IsMadeOf job images count) place parts
    → AreSettledFrom (way_for job) [] (pack_sources job images)
    (part_start (shape_of job images) place count) (blocks_in parts) (errors_in parts)
settled-from job images fits shape mark count place [] at made =
    from-none (way_for job) [] (pack_sources job images)
    (part_start (shape_of job images) place count)
settled-from job images fits shape mark count place (part ∷ parts) at made =
    let one = is-of job images fits shape mark count place part at.0 made.0.0 made.0.1 in
    let whole : ℕ = part_start (shape_of job images) place count in
    let seam : whole + length (map block_of part.pieces) ≡ part_start (shape_of job images)
    (place + 1) count = omega (arith, one.count, start_next (shape_of job images) place count)
    in
    from-append (way_for job) [] (pack_sources job images) whole (length (map block_of part.pieces))
    (map block_of part.pieces) (blocks_in parts) (map error_of part.pieces) (errors_in parts) refl
    one.settled (subst (λ start. AreSettledFrom (way_for job) [] (pack_sources job images) start
    (blocks_in parts) (errors_in parts)) (sym seam)
    (settled-from job images fits shape mark count (place + 1) parts at.1 made.1))

shape-of-all : (job : PackJob) (images : Pictures)
    (fits : HaveWords (shape_of job images)) (shape : Shape) (mark : JobMark) (count : ℕ)
    (parts : List PartFile) → 1 ≤ length parts → EachFrom (IsPartAt shape mark count) 0 parts
    → EachFrom (IsMadeOf job images count) 0 parts
    → shape ≡ shape_of job images
shape-of-all job images fits shape mark count [] some at made = absurd (omega arith)
shape-of-all job images fits shape mark count (part ∷ parts) some at made =
    let one = is-of job images fits shape mark count 0 part at.0 made.0.0 made.0.1 in
    sym (ap (λ f. f.layout) at.0.front) ∙ ap (λ f. f.layout) one.front

pub together : (job : PackJob) (images : Pictures) (parts : List PartFile)
    (file : List ℕ) (lines : List (List ℕ)) → AreImages images → IsWanted (want_of job) images
    → AreMadeOf job images parts → Joins parts file lines
    → Packs (record job { advised = false }) false [] [] images file lines
together job images parts file lines are wanted made joins =
    let fits = wanted-fits job images are wanted in
    let shape : Shape = shape_of job images in
    let levels : List Pictures = chain_of images shape.levels in
    let same : joins.shape ≡ shape = shape-of-all job images fits joins.shape joins.mark
    (length parts) parts joins.are.some joins.are.each made in
    let settled : AreSettledFrom (way_for job) [] (pack_sources job images) 0 (blocks_in parts)
    (errors_in parts) =
    subst (λ s. AreSettledFrom (way_for job) [] (pack_sources job images) s (blocks_in parts)
    (errors_in parts))
    (start_first shape (length parts))
    (settled-from job images fits joins.shape joins.mark
    (length parts) 0 parts joins.are.each made) in
    let count : length (blocks_in parts) ≡ all_blocks shape =
    blocks-length joins.shape joins.mark parts joins.are ∙ ap all_blocks same in
    record {
      blocks = blocks_in parts;
      errors = errors_in parts;
      packed = packed-from shape (settings_of job job.fitted) levels (blocks_in parts)
          (errors_in parts) settled count;
      framed = joins.framed ∙ ap (λ s. ktx s (blocks_in parts)) same;
      cut = joins.cut ∙ ap (λ s. Ok (record { shape = s; blocks = blocks_in parts })) same;
      told = joins.told ∙ ap (λ s. report_lines s (errors_in parts)) same;
      served = λ asked. absurd (cc);
    }
