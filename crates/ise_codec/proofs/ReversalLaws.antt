-- A field of the reversed block is a field of the block in reverse bit order, counted from the top.
use Rattle.std.proofs.Common.{◌≡◌, ℕ, zero, suc, ◌+◌, ◌-◌, ◌<◌, ◌≤◌, refl, ◌∙◌, ap, arith}
use Rattle.std.specs.Int.{bit_at}
use Rattle.astc_model.specs.Bits.{field_of, top_field}

-- r is the block with its bits in reverse order
abbrev pub IsReversed : ℕ → ℕ → Type 0
IsReversed block r = (i : ℕ) → i < 128 → bit_at r i ≡ bit_at block (127 - i)

pub field_of-reversed : (block r k n : ℕ) → IsReversed block r → k + n ≤ 128 → field_of r k n
    ≡ top_field block k n
unfolding field_of top_field
field_of-reversed block r k zero reversed within = refl
field_of-reversed block r k (suc n) reversed within =
    omega (
      arith,
      reversed k (omega arith),
      field_of-reversed block r (k + 1) n reversed
          (omega arith),
    )

pub top_field-reversed : (block r k n : ℕ) → IsReversed block r → k + n ≤ 128 → top_field r k n
    ≡ field_of block k n
unfolding field_of top_field
top_field-reversed block r k zero reversed within = refl
top_field-reversed block r k (suc n) reversed within =
    let back : 127 - (127 - k) ≡ k = omega arith in
    let first : bit_at r (127 - k) ≡ bit_at block k = reversed (127 - k) (omega arith)
    ∙ ap (bit_at block) back in
    omega (arith, first, top_field-reversed block r (k + 1) n reversed (omega arith))
