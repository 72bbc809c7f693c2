-- Parts of a file's blocks.
use Rattle.std.proofs.Common.{◌≡◌, ℕ, zero, suc, ◌+◌, ◌*◌, ◌/◌, ◌≤◌, ◌∙◌, ap, arith, le_refl, sym}
use Rattle.std.proofs.Math.Nat.{div-mul-le_self, div-zero, div-le_of_le-mul, mul-div_cancel_left, zero-div}
use Rattle.std.proofs.lemmas.Nat.{le-div, mul-le}
use Rattle.astc_model.specs.Sums.{sum_to}
use Rattle.astc_model.proofs.SumLaws.{sum_to-more, sum_to-zero}
use Rattle.texture.specs.declared.shape.Shape.{Shape}
use Rattle.texture.specs.Shapes.{all_blocks}
use Rattle.part_file.specs.Ranges.{part_start, part_count}

-- a greater number has no smaller quotient
quotients : (x y k : ℕ) → x ≤ y → x / k ≤ y / k
quotients x y zero less = rw (div-zero x, div-zero y) (omega arith)
quotients x y (suc k) less = le-div (x / suc k) y (suc k) (omega arith)
    (omega (arith, div-mul-le_self x (suc k)))

pub starts_rise : (shape : Shape) (place count : ℕ)
    → part_start shape place count ≤ part_start shape (place + 1) count
unfolding part_start
starts_rise shape place count = quotients (place * all_blocks shape)
    ((place + 1) * all_blocks shape) count (omega arith)

pub start_most : (shape : Shape) (place count : ℕ) → place ≤ count
    → part_start shape place count ≤ all_blocks shape
unfolding part_start
start_most shape place count few =
    div-le_of_le-mul count (mul-le place (all_blocks shape) count (all_blocks shape) few
    (le_refl (all_blocks shape)))

pub start_first : (shape : Shape) (count : ℕ) → part_start shape 0 count ≡ 0
unfolding part_start
start_first shape count = ap (λ n. n / count) none ∙ zero-div count
  where
    none : 0 * all_blocks shape ≡ 0
    none = omega arith

pub start_last : (shape : Shape) (count : ℕ) → 1 ≤ count → part_start shape count count
    ≡ all_blocks shape
unfolding part_start
start_last shape count some = mul-div_cancel_left (all_blocks shape) {n = count} some

pub start_next : (shape : Shape) (place count : ℕ)
    → part_start shape place count + part_count shape place count
    ≡ part_start shape (place + 1) count
unfolding part_count
start_next shape place count = omega (arith, starts_rise shape place count)

-- the parts before a place have the blocks before its own
pub counts_together : (shape : Shape) (place count : ℕ)
    → sum_to (λ before. part_count shape before count) place ≡ part_start shape place count
counts_together shape zero count = sum_to-zero (λ before. part_count shape before count)
    ∙ sym (start_first shape count)
counts_together shape (suc place) count =
    let next : suc place ≡ place + 1 = omega arith in
    rw next (sum_to-more (λ before. part_count shape before count) place
    ∙ ap (λ n. n + part_count shape place count) (counts_together shape place count)
    ∙ start_next shape place count)
