-- The length of a file that is written.
use Rattle.std.proofs.Common.{◌≡◌, ℕ, zero, suc, ◌+◌, ◌*◌, List, [], ◌∷◌, ◌++◌, length, take, drop, refl, ap, arith, length-append, length-drop}
use Rattle.std.specs.List.{AllByRecursion, flat_map}
use Rattle.std.specs.Int.{w32, to_le_bytes}
use Rattle.std.proofs.lemmas.Bool.{ne_eqb}
use Rattle.std.proofs.lemmas.List.{length-take-le}
use Rattle.astc_model.specs.Sums.{sum_to}
use Rattle.astc_model.proofs.SumLaws.{sum_to-more, sum_to-zero}
use Rattle.tex_shelf.proofs.PieceLemmas.{length-flat, all-take, all-drop}
use Rattle.texture.specs.declared.shape.Shape.{Shape}
use Rattle.texture.specs.Shapes.{level_blocks, rows_of, columns_of}
use Rattle.ktx_file.specs.Framing.{level_size_of, header_of}
use Rattle.ktx_file.specs.Files.{AreBlocks, written_levels, ktx}
use Rattle.watched_shelf.specs.Lengths.{level_length, file_length}

-- the size of a level without an array is that of one face
pub level_length-faces : (shape : Shape) (level : ℕ) → shape.elements ≡ 0
    → 4 + shape.faces * level_size_of shape level ≡ level_length shape level
unfolding level_size_of level_blocks
level_length-faces shape level none =
    rw none (all_faces shape.faces (rows_of shape level * columns_of shape level))
  where
    all_faces : (faces area : ℕ) → 4 + faces * (16 * area) ≡ 4 + 16 * (1 * faces * area)
    all_faces faces area = omega arith

-- with one that of the level
pub level_length-array : (shape : Shape) (level : ℕ) → ¬ (shape.elements ≡ 0)
    → 4 + level_size_of shape level ≡ level_length shape level
unfolding level_size_of
level_length-array shape level some = rw (ne_eqb shape.elements 0 some) refl

-- the sum of f over n numbers from this one on
sum_from : (ℕ → ℕ) → ℕ → ℕ → ℕ
sum_from f level zero = 0
sum_from f level (suc n) = f level + sum_from f (level + 1) n

sum_from-is : (f : ℕ → ℕ) (level n : ℕ) → sum_to f level + sum_from f level n ≡ sum_to f (level + n)
unfolding sum_from
sum_from-is f level zero = omega (arith, ap (sum_to f) (plus_zero level))
  where
    plus_zero : (n : ℕ) → n + 0 ≡ n
    plus_zero n = omega arith
sum_from-is f level (suc n) =
    let place : level + 1 + n ≡ level + suc n = omega arith in
    omega (arith, sum_from-is f (level + 1) n, sum_to-more f level, ap (sum_to f) place)

length-written : (shape : Shape) (level n : ℕ) (blocks : List (List ℕ)) → length blocks
    ≡ sum_from (level_blocks shape) level n → AllByRecursion (λ block. length block ≡ 16) blocks
    → length (written_levels shape level n blocks) ≡ sum_from (level_length shape) level n
unfolding sum_from
length-written shape level zero blocks count sizes = refl
length-written shape level (suc n) blocks count sizes =
    let here : ℕ = level_blocks shape level in
    let size : List ℕ = to_le_bytes w32 (level_size_of shape level) in
    let flat : List ℕ = flat_map (λ block. block) (take here blocks) in
    let behind : List ℕ = written_levels shape (level + 1) n (drop here blocks) in
    let rest : length (drop here blocks) ≡ sum_from (level_blocks shape) (level + 1) n =
    omega (arith, count, length-drop here blocks) in
    omega (
      arith,
      length-append size (flat ++ behind),
      length-append flat behind,
      length-flat 16 (take here blocks) (all-take _ here blocks sizes),
      length-take-le here blocks (omega (arith, count)),
      length-written shape (level + 1) n (drop here blocks) rest (all-drop _ here blocks sizes),
    )

from_zero : (f : ℕ → ℕ) (n : ℕ) → sum_from f 0 n ≡ sum_to f n
from_zero f n =
    let place : 0 + n ≡ n = omega arith in
    omega (arith, sum_from-is f 0 n, sum_to-zero f, ap (sum_to f) place)

-- the law: a file that is written has the length by its header
pub length-ktx : (shape : Shape) (blocks : List (List ℕ)) → AreBlocks shape blocks
    → length (ktx shape blocks) ≡ file_length shape 28
unfolding ktx file_length
length-ktx shape blocks all =
    let count : length blocks ≡ sum_from (level_blocks shape) 0 shape.levels =
    omega (arith, all.count, from_zero (level_blocks shape) shape.levels) in
    let front : length (header_of shape) ≡ 92 = refl in
    omega (
      arith,
      front,
      length-append (header_of shape) (written_levels shape 0 shape.levels blocks),
      length-written shape 0 shape.levels blocks count all.sizes,
      from_zero (level_length shape) shape.levels,
    )
