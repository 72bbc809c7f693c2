-- The texture of parts.
use Rattle.std.proofs.Common.{◌≡◌, ℕ, ◌+◌, ◌-◌, List, [], ◌∷◌, length, map, refl, ◌∙◌, ap, arith, length-append}
use Rattle.std.specs.List.{AllByRecursion}
use Rattle.std.proofs.lemmas.List.{length-map, length-take-le}
use Rattle.texture.specs.declared.shape.Shape.{Shape}
use Rattle.texture.specs.Shapes.{all_blocks}
use Rattle.ktx_file.specs.Files.{AreBlocks, ktx, ktx_of}
use Rattle.ktx_file.proofs.WrittenLemmas.{file_reads_back}
use Rattle.part_file.specs.Ranges.{part_start, part_count}
use Rattle.part_file.specs.Pieces.{block_of, error_of}
use Rattle.part_file.specs.declared.mark.JobMark.{JobMark}
use Rattle.part_file.specs.Files.{PartFile, count_of}
use Rattle.part_file.proofs.RangeLemmas.{start_first, start_next, start_last}
use Rattle.packed_levels.specs.Reports.{report_lines}
use Rattle.packed_levels.proofs.SettlingLaws.{each-append}
use Rattle.parting.specs.Numbered.{EachFrom}
use Rattle.parting.specs.Joins.{IsPartAt, AreParts, Joins, blocks_in, errors_in}
use Rattle.packed_levels.specs.Framing.{FramesTexture}

-- ---- the blocks of all parts

count-is : (shape : Shape) (mark : JobMark) (parts place : ℕ) (part : PartFile)
    → IsPartAt shape mark parts place part → length part.pieces ≡ part_count shape place parts
count-is shape mark parts place part is = is.is.full.count_is ∙ ap count_of is.front

blocks-from : (shape : Shape) (mark : JobMark) (count place : ℕ) (parts : List PartFile)
    → EachFrom (IsPartAt shape mark count) place parts → part_start shape place count + length
    (blocks_in parts) ≡ part_start shape (place + length parts) count
blocks-from shape mark count place [] each =
    let same : place + 0 ≡ place = omega arith in
    omega (arith, ap (λ p. part_start shape p count) same)
blocks-from shape mark count place (part ∷ parts) each =
    let same : place + 1 + length parts ≡ place + length (part ∷ parts) = omega arith in
    omega (
      arith,
      length-append (map block_of part.pieces) (blocks_in parts),
      length-map part.pieces block_of,
      count-is shape mark count place part each.0,
      start_next shape place count,
      blocks-from shape mark count (place + 1) parts each.1,
      ap (λ p. part_start shape p count) same,
    )

pub blocks-length : (shape : Shape) (mark : JobMark) (parts : List PartFile)
    → AreParts shape mark parts → length (blocks_in parts) ≡ all_blocks shape
blocks-length shape mark parts are =
    let n : ℕ = length parts in
    let whole : 0 + n ≡ n = omega arith in
    omega (
      arith,
      blocks-from shape mark n 0 parts are.each,
      start_first shape n,
      start_last shape n
          are.some,
      ap (λ p. part_start shape p n) whole,
    )

pub errors-length : (parts : List PartFile) → length (errors_in parts) ≡ length (blocks_in parts)
errors-length [] = refl
errors-length (part ∷ parts) =
    omega (
      arith,
      length-append (map block_of part.pieces) (blocks_in parts),
      length-append
          (map error_of part.pieces) (errors_in parts),
      length-map part.pieces block_of,
      length-map part.pieces error_of,
      errors-length parts,
    )

piece-sizes : (pieces : List (List ℕ)) → AllByRecursion (λ piece. length piece ≡ 20) pieces
    → AllByRecursion (λ block. length block ≡ 16) (map block_of pieces)
piece-sizes [] sizes = tt
piece-sizes (piece ∷ pieces) sizes =
    (length-take-le 16 piece (omega (arith, sizes.0)), piece-sizes pieces sizes.1)

block-sizes : (shape : Shape) (mark : JobMark) (count place : ℕ) (parts : List PartFile)
    → EachFrom (IsPartAt shape mark count) place parts → AllByRecursion (λ block. length block ≡ 16)
    (blocks_in parts)
block-sizes shape mark count place [] each = tt
block-sizes shape mark count place (part ∷ parts) each =
    each-append (λ block. length block ≡ 16) (map block_of part.pieces) (blocks_in parts)
    (piece-sizes part.pieces each.0.is.full.sizes)
    (block-sizes shape mark count (place + 1) parts each.1)

pub are-blocks : (shape : Shape) (mark : JobMark) (parts : List PartFile)
    → AreParts shape mark parts → AreBlocks shape (blocks_in parts)
are-blocks shape mark parts are = record {
  count = blocks-length shape mark parts are;
  sizes = block-sizes shape mark (length parts) 0 parts are.each;
}

-- ---- their texture

pub joins-of : (shape : Shape) (mark : JobMark) (parts : List PartFile) (blocks : List (List ℕ))
    (errors : List ℕ) (file : List ℕ) (lines : List (List ℕ)) → AreParts shape mark parts → blocks
    ≡ blocks_in parts → errors ≡ errors_in parts
    → FramesTexture shape blocks errors file lines → Joins parts file lines
joins-of shape mark parts blocks errors file lines are blocks_are errors_are frames =
    let framed : file ≡ ktx shape (blocks_in parts) = frames.framed ∙ ap (ktx shape) blocks_are in
    record {
      shape = shape;
      mark = mark;
      are = are;
      framed = framed;
      cut = ap ktx_of framed ∙ file_reads_back shape (blocks_in parts) are.valid
          (are-blocks shape mark parts are);
      told = frames.told ∙ ap (report_lines shape) errors_are;
    }
