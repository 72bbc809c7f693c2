-- The weights are stored in reverse bit order from the top of the block.
use Rattle.std.proofs.Common.{◌≡◌, ℕ, zero, suc, ◌+◌, ◌-◌, ◌^◌, ◌<◌, ◌≤◌, refl, sym, ◌∙◌, ap, arith}
use Rattle.std.specs.Int.{bit_at}
use Rattle.std.proofs.Math.Nat.{div-one, mod-eq_of_lt}
use Rattle.astc_model.specs.Bits.{field_of, top_field}
use Rattle.astc_model.proofs.BitLaws.{field_of-is, bit_at-field_of}
use Rattle.ise_codec.proofs.ReversalLaws.{IsReversed}

-- bit i of the sequence, counted from the top of the reversed sequence
pub turned-bit : (sequence r width i : ℕ) → IsReversed sequence r → width ≤ 128 → i < width
    → bit_at (field_of r (128 - width) width) (width - 1 - i) ≡ bit_at sequence i
turned-bit sequence r width i reversed short below =
    let place : 128 - width + (width - 1 - i) ≡ 127 - i = omega arith in
    let back : 127 - (127 - i) ≡ i = omega arith in
    bit_at-field_of r (128 - width) width (width - 1 - i) (omega arith) ∙ ap (bit_at r) place
    ∙ reversed (127 - i) (omega arith) ∙ ap (bit_at sequence) back

-- a number that has the bits of the sequence in reverse order from the top has the sequence there
top_field-same : (z sequence k n : ℕ) → ((i : ℕ) → k ≤ i → i < k + n → bit_at z (127 - i)
    ≡ bit_at sequence i) → top_field z k n ≡ field_of sequence k n
unfolding field_of top_field
top_field-same z sequence k zero same = refl
top_field-same z sequence k (suc n) same =
    omega (
      arith,
      same k (omega arith) (omega arith),
      top_field-same z sequence (k + 1) n
          (λ i above below. same i (omega arith) (omega arith)),
    )

pub top_field-turned : (z sequence weights width : ℕ)
    → ((i : ℕ) → i < width → bit_at weights (width - 1 - i) ≡ bit_at sequence i) → width ≤ 128
    → sequence < 2 ^ width → field_of z (128 - width) width ≡ weights → top_field z 0 width
    ≡ sequence
top_field-turned z sequence weights width turned short small field =
    top_field-same z sequence 0 width
    (λ i above below. let place : 128 - width + (width - 1 - i) ≡ 127 - i = omega arith in
    ap (bit_at z) (sym place)
    ∙ sym (bit_at-field_of z (128 - width) width (width - 1 - i) (omega arith))
    ∙ ap (λ x. bit_at x (width - 1 - i)) field ∙ turned i (omega arith))
    ∙ field_of-is sequence 0 width ∙ rw div-one (mod-eq_of_lt small)
