-- Laws of the fields of a block.
use Rattle.std.proofs.Common.{◌≡◌, ℕ, zero, suc, ◌+◌, ◌*◌, ◌/◌, ◌%◌, ◌^◌, ◌<◌, ◌≤◌, refl, sym, ◌∙◌, ap, arith, add-one, add-zero, add_assoc}
use Rattle.std.specs.Int.{bit_at}
use Rattle.std.proofs.lemmas.Nat.{pow_pos, mod-pow-add, shr-shr, mod_below}
use Rattle.std.proofs.lemmas.Nat.Bits.{bit_at_lowest, bit_at-suc, bit_at-lt}
use Rattle.astc_model.specs.Bits.{field_of}

-- the low n + 1 bits of a number are its lowest bit and the low n bits of its half
low_bits-suc : (b n : ℕ) → b % 2 ^ suc n ≡ b % 2 + 2 * (b / 2 % 2 ^ n)
low_bits-suc b n = rw (← add-one n) (omega (arith, mod-pow-add b n 1))

-- a field is the remainder of a quotient: b / 2 ^ k modulo 2 ^ n
pub field_of-is : (b k n : ℕ) → field_of b k n ≡ b / 2 ^ k % 2 ^ n
unfolding field_of
field_of-is b k zero = omega arith
field_of-is b k (suc n) =
    omega (
      arith,
      field_of-is b (k + 1) n,
      low_bits-suc (b / 2 ^ k) n,
      ap (λ x. x % 2 ^ n)
          (shr-shr b k 1),
    )

pub field_of-lt : (b k n : ℕ) → field_of b k n < 2 ^ n
field_of-lt b k n = rw (field_of-is b k n) (mod_below (b / 2 ^ k) (2 ^ n) (pow_pos n))

-- two numbers with the same bits at two positions have the same field there
pub field_of-same : (a b j k n : ℕ) → ((i : ℕ) → i < n → bit_at a (j + i) ≡ bit_at b (k + i))
    → field_of a j n ≡ field_of b k n
unfolding field_of
field_of-same a b j k zero h = refl
field_of-same a b j k (suc n) h =
    let first : bit_at a j ≡ bit_at b k = rw (add-zero, add-zero) at (h 0 (omega arith)) in
    let rest : field_of a (j + 1) n ≡ field_of b (k + 1) n =
    field_of-same a b (j + 1) (k + 1) n (λ i lt. rw (add_assoc j 1 i, add_assoc k 1 i)
    (h (1 + i) (omega arith)))
    in
    omega (arith, first, rest)

-- bit i of a field is bit k + i of the block
pub bit_at-field_of : (b k n i : ℕ) → i < n → bit_at (field_of b k n) i ≡ bit_at b (k + i)
unfolding field_of
bit_at-field_of b k zero i lt = absurd (omega arith)
bit_at-field_of b k (suc n) zero lt =
    let rest : ℕ = field_of b (k + 1) n in
    let low : (bit_at b k + 2 * rest) % 2 ≡ bit_at b k = omega (arith, bit_at-lt b k) in
    bit_at_lowest (bit_at b k + 2 * rest) ∙ low ∙ ap (λ x. bit_at b x) (sym (add-zero k))
bit_at-field_of b k (suc n) (suc i) lt =
    let rest : ℕ = field_of b (k + 1) n in
    let half : (bit_at b k + 2 * rest) / 2 ≡ rest = omega (arith, bit_at-lt b k) in
    let place : k + 1 + i ≡ k + suc i = omega arith in
    bit_at-suc (bit_at b k + 2 * rest) i ∙ ap (λ x. bit_at x i) half ∙ bit_at-field_of b (k + 1) n i
    (omega arith)
    ∙ ap (λ x. bit_at b x) place

-- a field of a field of a block is a field of the block
pub field_of-field_of : (b k m j n : ℕ) → j + n ≤ m → field_of (field_of b k m) j n
    ≡ field_of b (k + j) n
field_of-field_of b k m j n within =
    field_of-same (field_of b k m) b j (k + j) n
    (λ i lt. bit_at-field_of b k m (j + i) (omega arith)
    ∙ ap (λ x. bit_at b x) (sym (add_assoc k j i)))
