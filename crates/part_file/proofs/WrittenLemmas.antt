-- A part that is written is read.
use Rattle.std.proofs.Common.{◌≡◌, ℕ, zero, suc, ◌+◌, ◌^◌, ◌<◌, List, [], ◌∷◌, ◌++◌, length, take, drop, Result, Ok, Err, None, refl, sym, ◌∙◌, ap, arith, append_assoc, length-append, append-nil}
use Rattle.std.specs.Prelude.{replicate}
use Rattle.std.specs.List.{AllByRecursion, flat_map}
use Rattle.std.specs.Int.{w32, w64, to_le_bytes, from_le_bytes}
use Rattle.std.proofs.lemmas.Bool.{le-leb, lt-ltb, eq-eqb}
use Rattle.std.proofs.lemmas.Nat.{from_le_bytes-to_le_bytes_8}
use Rattle.std.proofs.Math.Seq.{take-append_seam, drop-append_seam}
use Rattle.byteorder.specs.Numbers.{little_number-reads_back}
use Rattle.ktx_header.specs.Chaining.{◌>>=◌}
use Rattle.ktx_header.specs.Levels.{data_of}
use Rattle.ktx_header.specs.Orders.{number}
use Rattle.ktx_header.specs.Words.{identifier, first_difference}
use Rattle.ktx_header.specs.declared.order.WordOrder.TheVariants.{Little}
use Rattle.texture.specs.declared.shape.Shape.{Shape}
use Rattle.ktx_file.specs.declared.fault.KtxFault.{KtxFault}
use Rattle.ktx_file.specs.declared.front.KtxHeader.{KtxHeader}
use Rattle.texture.specs.Shapes.{IsValid, all_blocks}
use Rattle.ktx_file.specs.Framing.{header_of, words_of, keys}
use Rattle.ktx_file.specs.Headers.{header_in}
use Rattle.ktx_file.specs.Faults.{in_data}
use Rattle.ktx_file.specs.Files.{AreBlocks, File, ktx, ktx_of, levels_in, written_levels}
use Rattle.ktx_file.proofs.WrittenLemmas.{file_reads_back}
use Rattle.part_file.specs.Pieces.{piece_of, block_of, error_of}
use Rattle.tex_shelf.specs.Pieces.{pieces_of}
use Rattle.tex_shelf.proofs.PieceLemmas.{pieces_again}
use Rattle.part_file.specs.Marks.{JobMark, IsMark, mark_bytes, mark_in}
use Rattle.part_file.specs.Fronts.{Front, IsFront, own_identifier, front_of, front_in, shape_in, long_enough, place_fits}
use Rattle.part_file.specs.Files.{PartFile, IsPart, count_of, part_bytes, part_of}
use Rattle.part_file.proofs.FileLemmas.{file_is}

front_is : (front rest : List ℕ) (n : ℕ) → length front ≡ n → take n (front ++ rest) ≡ front
front_is front rest n long = ap (λ k. take k (front ++ rest)) (sym long)
    ∙ take-append_seam front rest

rest_is : (front rest : List ℕ) (n : ℕ) → length front ≡ n → drop n (front ++ rest) ≡ rest
rest_is front rest n long = ap (λ k. drop k (front ++ rest)) (sym long)
    ∙ drop-append_seam front rest

-- a word that is written is read
word_again : (n : ℕ) (rest : List ℕ) → n < 2 ^ 32 → number Little (to_le_bytes w32 n ++ rest) ≡ n
unfolding number
word_again n rest fits = little_number-reads_back 4 n rest fits

-- a piece has the block and the error that it was made of
pub block_again : (block : List ℕ) (error : ℕ) → length block ≡ 16 → block_of (piece_of block error)
    ≡ block
block_again block error long = front_is block (to_le_bytes w32 error) 16 long

pub error_again : (block : List ℕ) (error : ℕ) → length block ≡ 16 → error < 2 ^ 32
    → error_of (piece_of block error) ≡ error
error_again block error long fits =
    ap (number Little) (rest_is block (to_le_bytes w32 error) 16 long
    ∙ sym (append-nil (to_le_bytes w32 error))) ∙ word_again error [] fits

-- blocks of 16 bytes, as many as one likes
blank : ℕ → List (List ℕ)
blank zero = []
blank (suc n) = replicate 16 0 ∷ blank n

length-blank : (n : ℕ) → length (blank n) ≡ n
unfolding blank
length-blank zero = refl
length-blank (suc n) = ap suc (length-blank n)

all-blank : (n : ℕ) → AllByRecursion (λ block. length block ≡ 16) (blank n)
unfolding blank
all-blank zero = tt
all-blank (suc n) = (refl, all-blank n)

abbrev shape_read : Shape → Result File KtxFault → Shape
shape_read otherwise (Ok file) = file.shape
shape_read otherwise (Err fault) = otherwise

shape_from : (header : KtxHeader) (read : Result (List (List ℕ)) KtxFault) (file : File)
    → (read >>= λ blocks. Ok (record { shape = header.layout; blocks = blocks })) ≡ Ok file
    → header.layout ≡ file.shape
shape_from header (Err fault) file e = absurd (cc)
shape_from header (Ok blocks) file e = ap (shape_read header.layout) e

-- a file whose reading gives a shape has a header that says it
header_from : (read : Result KtxHeader KtxFault) (bytes : List ℕ) (file : File)
    → header_in (take 64 bytes) ≡ read → ktx_of bytes ≡ Ok file → (header : KtxHeader)
    × (read ≡ Ok header) × (header.layout ≡ file.shape)
unfolding ktx_of
header_from (Err fault) bytes file e whole = absurd (cc (rw e at whole))
header_from (Ok header) bytes file e whole = (
  header,
  refl,
  shape_from header
      (in_data (data_of header.order (levels_in header.layout) header.layout.levels
      header.key_bytes (drop 64 bytes))) file (rw e at whole),
)

-- the header that is written for a shape is read as one of this shape
header_again : (shape : Shape) (rest : List ℕ) → IsValid shape → (header : KtxHeader)
    × (header_in (take 64 (header_of shape ++ rest)) ≡ Ok header) × (header.layout ≡ shape)
unfolding ktx
header_again shape rest valid =
    let blocks : List (List ℕ) = blank (all_blocks shape) in
    let full : AreBlocks shape blocks = record {
      count = length-blank (all_blocks shape);
      sizes = all-blank (all_blocks shape);
    } in
    let behind : List ℕ = written_levels shape 0 shape.levels blocks in
    let words : List ℕ = identifier ++ flat_map (to_le_bytes w32) (words_of shape) in
    let same : (rest : List ℕ) → take 64 (header_of shape ++ rest) ≡ words = λ rest.
    ap (take 64) (append_assoc words keys rest) ∙ front_is words (keys ++ rest) 64 refl in
    let found = header_from (header_in words) (header_of shape ++ behind)
    (record { shape = shape; blocks = blocks }) (ap header_in (same behind))
    (file_reads_back shape blocks valid full) in
    (found.0, ap header_in (same rest) ∙ found.1, found.2)

-- a text is found in front of what follows it
no_difference : (at : ℕ) (text rest : List ℕ) → first_difference at text (text ++ rest) ≡ None
no_difference at [] rest = refl
no_difference at (c ∷ text) rest = rw (eq-eqb c c refl) (no_difference (at + 1) text rest)

-- a mark that is written is read
mark_again : (mark : JobMark) → IsMark mark → mark_in (mark_bytes mark) ≡ mark
unfolding mark_in mark_bytes
mark_again mark is =
    let preset : List ℕ = to_le_bytes w32 mark.preset in
    let digest : List ℕ = to_le_bytes w64 mark.digest in
    let first : number Little (preset ++ mark.weights ++ digest) ≡ mark.preset =
    word_again mark.preset (mark.weights ++ digest) is.preset in
    let second : take 4 (drop 4 (preset ++ mark.weights ++ digest)) ≡ mark.weights =
    front_is mark.weights digest 4 is.weights in
    let behind : drop 8 (preset ++ mark.weights ++ digest) ≡ digest =
    rest_is mark.weights digest 4 is.weights in
    let third : from_le_bytes w64 (take 8 (drop 8 (preset ++ mark.weights ++ digest)))
    ≡ mark.digest = ap (λ bytes. from_le_bytes w64 (take 8 bytes)) behind
    ∙ from_le_bytes-to_le_bytes_8 mark.digest is.digest in
    ap (λ p. record {
      preset = p;
      weights = take 4 (drop 4 (preset ++ mark.weights ++ digest));
      digest = from_le_bytes w64 (take 8 (drop 8 (preset ++ mark.weights ++ digest)));
    })
    first
    ∙ ap (λ w. record {
      preset = mark.preset;
      weights = w;
      digest = from_le_bytes w64 (take 8 (drop 8 (preset ++ mark.weights ++ digest)));
    })
    second
    ∙ ap (λ d. record { preset = mark.preset; weights = mark.weights; digest = d }) third

length-mark : (mark : JobMark) → IsMark mark → length (mark_bytes mark) ≡ 16
unfolding mark_bytes
length-mark mark is = omega
    (arith, length-append mark.weights (to_le_bytes w64 mark.digest), is.weights)

-- the bytes in front of the mark
abbrev before_mark : Front → List ℕ
before_mark front = own_identifier ++ header_of front.layout ++ to_le_bytes w32 front.place
    ++ to_le_bytes w32 front.count

pub length-front : (front : Front) → IsFront front → length (front_of front) ≡ 132
unfolding front_of
length-front front is =
    let long : length (before_mark front) ≡ 116 = refl in
    omega (
      arith,
      length-append (before_mark front) (mark_bytes front.mark),
      length-mark front.mark
          is.mark,
    )

-- reading a written prefix gives it again
front_again : (front : Front) → IsFront front → front_in (front_of front) ≡ Ok front
unfolding front_in shape_in front_of
front_again front is =
    let mark : List ℕ = mark_bytes front.mark in
    let bytes : List ℕ = before_mark front ++ mark in
    let places : List ℕ = to_le_bytes w32 front.place ++ to_le_bytes w32 front.count ++ mark in
    let found = header_again front.layout places is.valid in
    let long : long_enough bytes ≡ Ok tt = rw (length-front front is) refl in
    let first : number Little (drop 108 bytes) ≡ front.place =
    word_again front.place (to_le_bytes w32 front.count ++ mark)
    (omega (arith, is.placed.below, is.placed.most)) in
    let second : number Little (drop 112 bytes) ≡ front.count =
    word_again front.count mark (omega (arith, is.placed.most)) in
    let fits : place_fits front.place front.count ≡ Ok tt =
    rw (lt-ltb front.place front.count is.placed.below, le-leb front.count 65536 is.placed.most)
    refl in
    let third : mark_in (drop 116 bytes) ≡ front.mark = mark_again front.mark is.mark in
    rw (
      long,
      found.1,
      found.2,
      no_difference 16 (header_of front.layout) places,
      first,
      second,
      fits,
      third,
    ) refl

-- the law: reading the bytes written for a part gives the part
pub part_reads_back : (part : PartFile) → IsPart part → part_of (part_bytes part) ≡ Ok part
unfolding part_bytes
part_reads_back part is =
    let front : List ℕ = front_of part.front in
    let flat : List ℕ = flat_map (λ p. p) part.pieces in
    let long : length front ≡ 132 = length-front part.front is.front in
    file_is (front ++ flat) part.front (count_of part.front) part.pieces
    (ap front_in (front_is front flat 132 long) ∙ front_again part.front is.front) refl
    (ap (pieces_of 20 (count_of part.front) 132) (rest_is front flat 132 long)
    ∙ pieces_again 20 (count_of part.front) 132 part.pieces is.full)
