-- The effect of shifts and masks on the bits of a field.
use Rattle.std.proofs.Common.{◌≡◌, ℕ, ◌+◌, ◌-◌, ◌*◌, ◌/◌, ◌%◌, ◌^◌, ◌<◌, ◌≤◌, refl, sym, ◌∙◌, ap, arith, bit_and, bit_or, bit_xor, zero-add, ◌⊎◌, inl, inr, min, Bool, true, false, IsTrue, ◌==◌, ◌&&◌, ◌||◌, nat_lt, nat_le, if◌then◌else◌}
use Rattle.std.specs.Int.{bit_at}
use Rattle.std.proofs.lemmas.Bool.{cases_lt, and_parts, or_cases, eqb-true, ltb-true, leb-true}
use Rattle.std.proofs.lemmas.Nat.{and_mask, shr_split, shl-shr, shr-shr, xor_lt, shl_below, shl_whole, one_shl}
use Rattle.std.proofs.lemmas.Nat.Bits.{ones_shr, bit_at_and, bit_at_or, bit_at_xor, bit_at_above, bit_at_cat_low, bit_at-zero, bit_at-lt}
use Rattle.std.proofs.Math.Nat.{div-one, mod-eq_of_lt}
use Rattle.astc_model.specs.Bits.{field_of}
use Rattle.astc_model.specs.Sums.{all_below}
use Rattle.ise_codec.specs.Runs.{partner, is_split_at, is_lower_runs}
use Rattle.astc_model.proofs.SumLaws.{every_below}
use Rattle.astc_model.proofs.BitLaws.{field_of-is, field_of-lt, field_of-same, bit_at-field_of}

no_field : (b k : ℕ) → 0 ≡ field_of b k 0
unfolding field_of
no_field b k = refl

pub field_of-none : (b k n : ℕ) → n ≡ 0 → 0 ≡ field_of b k n
field_of-none b k n none = rw none (no_field b k)

-- a shift and a mask of n ones give a field
pub field_by_mask : (b k n : ℕ) → n ≤ 128 → bit_and (b / 2 ^ k) ((2 ^ 128 - 1) / 2 ^ (128 - n))
    ≡ field_of b k n
field_by_mask b k n within =
    let back : 128 - (128 - n) ≡ n = omega arith in
    let mask : (2 ^ 128 - 1) / 2 ^ (128 - n) ≡ 2 ^ n - 1 = ones_shr 128 (128 - n) (omega arith)
    ∙ ap (λ x. 2 ^ x - 1) back in
    ap (bit_and (b / 2 ^ k)) mask ∙ and_mask (b / 2 ^ k) n ∙ sym (field_of-is b k n)

-- a mask of n ones gives the low n bits of a 64-bit number
pub low_by_mask : (x n : ℕ) → n < 64 → bit_and x (1 * 2 ^ n % 2 ^ 64 - 1) ≡ x % 2 ^ n
low_by_mask x n within = ap (λ m. bit_and x (m - 1)) (one_shl n 64 within) ∙ and_mask x n

pub small_by_mask : (b k n : ℕ) → n < 64 → bit_and (b / 2 ^ k) (1 * 2 ^ n % 2 ^ 64 - 1)
    ≡ field_of b k n
small_by_mask b k n within = low_by_mask (b / 2 ^ k) n within ∙ sym (field_of-is b k n)

-- ---- the field that `set_field` writes

-- bit i of a number is bit k + i after a shift to the left by k
shifted : (x k i : ℕ) → bit_at (x * 2 ^ k) (k + i) ≡ bit_at x i
shifted x k i = ap (λ y. y % 2) (sym (shr-shr (x * 2 ^ k) k i) ∙ ap (λ y. y / 2 ^ i) (shl-shr x k))

shifted_below : (x k i : ℕ) → i < k → bit_at (x * 2 ^ k) i ≡ 0
shifted_below x k i lt =
    let plus : x * 2 ^ k + 0 ≡ x * 2 ^ k = omega arith in
    ap (λ y. bit_at y i) (sym plus) ∙ bit_at_cat_low x k 0 i lt ∙ bit_at-zero i

change-lt : (b k n v : ℕ) → v < 2 ^ n → bit_xor (field_of b k n) v < 2 ^ n
change-lt b k n v fits = xor_lt n (field_of b k n) v (field_of-lt b k n) fits

change_fits : (b k n v : ℕ) → k + n ≤ 128 → v < 2 ^ n → bit_xor (field_of b k n) v * 2 ^ k % 2 ^ 128
    ≡ bit_xor (field_of b k n) v * 2 ^ k
change_fits b k n v within fits = shl_whole (bit_xor (field_of b k n) v) n k 128
    (change-lt b k n v fits) (omega arith)

abbrev changed : ℕ → ℕ → ℕ → ℕ → ℕ
changed b k n v = bit_xor b (bit_xor (field_of b k n) v * 2 ^ k % 2 ^ 128)

twice : (p v x : ℕ) → p < 2 → v < 2 → x ≡ (p + v) % 2 → (p + x) % 2 ≡ v
twice p v x lp lv e = omega arith

changed_inside : (b k n v i : ℕ) → k + n ≤ 128 → v < 2 ^ n → i < n
    → bit_at (changed b k n v) (k + i) ≡ bit_at v i
changed_inside b k n v i within fits lt =
    let x : ℕ = bit_xor (field_of b k n) v in
    let moved : bit_at (x * 2 ^ k % 2 ^ 128) (k + i) ≡ bit_at x i =
    ap (λ y. bit_at y (k + i)) (change_fits b k n v within fits) ∙ shifted x k i in
    let both : bit_at x i ≡ (bit_at (field_of b k n) i + bit_at v i) % 2 =
    bit_at_xor (field_of b k n) v i in
    let old : bit_at (field_of b k n) i ≡ bit_at b (k + i) = bit_at-field_of b k n i lt in
    let whole : bit_at (changed b k n v) (k + i)
    ≡ (bit_at b (k + i) + bit_at (x * 2 ^ k % 2 ^ 128) (k + i)) % 2 =
    bit_at_xor b (x * 2 ^ k % 2 ^ 128) (k + i) in
    whole ∙ twice (bit_at b (k + i)) (bit_at v i) (bit_at (x * 2 ^ k % 2 ^ 128) (k + i))
    (bit_at-lt b (k + i)) (bit_at-lt v i) (moved ∙ both ∙ ap (λ y. (y + bit_at v i) % 2) old)

pub changed_reads : (b k n v : ℕ) → k + n ≤ 128 → v < 2 ^ n → field_of (changed b k n v) k n ≡ v
changed_reads b k n v within fits =
    field_of-same (changed b k n v) v k 0 n (λ i lt. changed_inside b k n v i within fits lt
    ∙ ap (bit_at v) (sym (zero-add i)))
    ∙ field_of-is v 0 n
    ∙ ap (λ x. x % 2 ^ n) (div-one v)
    ∙ mod-eq_of_lt fits

twice_zero : (p x : ℕ) → p < 2 → x ≡ 0 → (p + x) % 2 ≡ p
twice_zero p x lp e = omega arith

unchanged : (b y i : ℕ) → bit_at y i ≡ 0 → bit_at (bit_xor b y) i ≡ bit_at b i
unchanged b y i none = bit_at_xor b y i ∙ twice_zero (bit_at b i) (bit_at y i) (bit_at-lt b i) none

pub changed_below : (b k n v i : ℕ) → k + n ≤ 128 → v < 2 ^ n → i < k → bit_at (changed b k n v) i
    ≡ bit_at b i
changed_below b k n v i within fits lt =
    let x : ℕ = bit_xor (field_of b k n) v in
    unchanged b (x * 2 ^ k % 2 ^ 128) i (ap (λ y. bit_at y i) (change_fits b k n v within fits)
    ∙ shifted_below x k i lt)

pub changed_above : (b k n v i : ℕ) → k + n ≤ 128 → v < 2 ^ n → k + n ≤ i
    → bit_at (changed b k n v) i ≡ bit_at b i
changed_above b k n v i within fits le =
    let x : ℕ = bit_xor (field_of b k n) v in
    let small : x * 2 ^ k < 2 ^ (n + k) = shl_below x n k (change-lt b k n v fits) in
    unchanged b (x * 2 ^ k % 2 ^ 128) i (ap (λ y. bit_at y i) (change_fits b k n v within fits)
    ∙ bit_at_above (x * 2 ^ k) (n + k) i small (omega arith))

-- ---- exchanges of neighbouring runs of bits

bit_low : (n i : ℕ) → i < 128 → bit_at (n % 2 ^ 128) i ≡ bit_at n i
bit_low n i lt = sym (bit_at_cat_low (n / 2 ^ 128) 128 (n % 2 ^ 128) i lt)
    ∙ ap (λ x. bit_at x i) (shr_split n 128)

abbrev exchange : ℕ → ℕ → ℕ → ℕ
exchange block w mask = bit_or (bit_and block mask * 2 ^ w % 2 ^ 128) (bit_and (block / 2 ^ w) mask)

-- bit k of the upper runs after they are shifted down by w
moved_down : (block w mask k : ℕ) → bit_at (bit_and (block / 2 ^ w) mask) k
    ≡ min (bit_at block (w + k)) (bit_at mask k)
moved_down block w mask k = bit_at_and (block / 2 ^ w) mask k
    ∙ ap (λ x. min (x % 2) (bit_at mask k)) (shr-shr block w k)

-- bit k of the lower runs after they are shifted up by w
moved_up : (block w mask k : ℕ) → k < 128 → w ≤ k → bit_at (bit_and block mask * 2 ^ w % 2 ^ 128) k
    ≡ min (bit_at block (k - w)) (bit_at mask (k - w))
moved_up block w mask k lt within =
    let place : k ≡ w + (k - w) = omega arith in
    bit_low (bit_and block mask * 2 ^ w) k lt
    ∙ ap (bit_at (bit_and block mask * 2 ^ w)) place
    ∙ shifted (bit_and block mask) w (k - w)
    ∙ bit_at_and block mask (k - w)

not_moved_up : (block w mask k : ℕ) → k < 128 → k < w
    → bit_at (bit_and block mask * 2 ^ w % 2 ^ 128) k ≡ 0
not_moved_up block w mask k lt below = bit_low (bit_and block mask * 2 ^ w) k lt
    ∙ shifted_below (bit_and block mask) w k below

from_above : (block w mask k : ℕ) → k < 128 → bit_at mask k ≡ 1 → (k < w)
    ⊎ (bit_at mask (k - w) ≡ 0) → bit_at (exchange block w mask) k ≡ bit_at block (k + w)
from_above block w mask k lt here there =
    let place : w + k ≡ k + w = omega arith in
    let both = bit_at_or (bit_and block mask * 2 ^ w % 2 ^ 128) (bit_and (block / 2 ^ w) mask) k in
    let low : bit_at (bit_and block mask * 2 ^ w % 2 ^ 128) k ≡ 0 =
    elim (cases_lt k w) [
      | inl below ↦ not_moved_up block w mask k lt below
      | inr above ↦ elim there [
        | inl below ↦ absurd (omega arith)
        | inr none ↦ omega (arith, moved_up block w mask k lt above, none)
      ]
    ]
    in
    omega (
      arith,
      both,
      low,
      moved_down block w mask k,
      here,
      bit_at-lt block (w + k),
      ap
          (bit_at block) place,
    )

from_below : (block w mask k : ℕ) → k < 128 → bit_at mask k ≡ 0 → w ≤ k → bit_at mask (k - w) ≡ 1
    → bit_at (exchange block w mask) k ≡ bit_at block (k - w)
from_below block w mask k lt here within there =
    omega (
      arith,
      bit_at_or (bit_and block mask * 2 ^ w % 2 ^ 128)
          (bit_and (block / 2 ^ w) mask) k,
      moved_down block w mask k,
      moved_up block w mask k lt
          within,
      here,
      there,
      bit_at-lt block (k - w),
    )

exchange_split : (block w mask k : ℕ) (b : Bool) → k < 128
    → IsTrue (if b then (bit_at mask k == 1) && (nat_lt k w || (bit_at mask (k - w) == 0)) else
    (bit_at mask k == 0) && (nat_le w k && (bit_at mask (k - w) == 1)))
    → bit_at (exchange block w mask) k ≡ bit_at block (if b then k + w else k - w)
exchange_split block w mask k true lt split =
    let both = and_parts (bit_at mask k == 1) (nat_lt k w || (bit_at mask (k - w) == 0)) split in
    from_above block w mask k lt (eqb-true (bit_at mask k) 1 both.0)
    (elim (or_cases (nat_lt k w) (bit_at mask (k - w) == 0) both.1) [
      | inl below ↦ inl (ltb-true k w below)
      | inr none ↦ inr (eqb-true (bit_at mask (k - w)) 0 none)
    ])
exchange_split block w mask k false lt split =
    let both = and_parts (bit_at mask k == 0) (nat_le w k && (bit_at mask (k - w) == 1)) split in
    let more = and_parts (nat_le w k) (bit_at mask (k - w) == 1) both.1 in
    from_below block w mask k lt (eqb-true (bit_at mask k) 0 both.0) (leb-true w k more.0)
    (eqb-true (bit_at mask (k - w)) 1 more.1)

pub exchange_is : (block w mask k : ℕ) → IsTrue (is_lower_runs w mask) → k < 128
    → bit_at (exchange block w mask) k ≡ bit_at block (partner w k)
unfolding is_lower_runs
exchange_is block w mask k runs lt =
    exchange_split block w mask k (k / w % 2 == 0) lt
    (every_below (is_split_at w mask) 128 k runs lt)

-- ---- reversal of all bits

abbrev Exchanged : ℕ → ℕ → ℕ → Type 0
Exchanged w old new = (k : ℕ) → k < 128 → bit_at new k ≡ bit_at old (partner w k)

-- whether the seven exchanges together move bit 127 - k to position k, with all positions below 128
abbrev reversal_test : ℕ → Bool
reversal_test k =
    let a = partner 64 k in
    let b = partner 32 a in
    let c = partner 16 b in
    let d = partner 8 c in
    let e = partner 4 d in
    let f = partner 2 e in
    (partner 1 f == 127 - k)
    && (nat_lt a 128 && (nat_lt b 128
    && (nat_lt c 128 && (nat_lt d 128 && (nat_lt e 128 && nat_lt f 128)))))

reversal : IsTrue (all_below reversal_test 128)
reversal = refl

pub reversed_by_runs : (z a b c d e f r : ℕ) → Exchanged 1 z a → Exchanged 2 a b → Exchanged 4 b c
    → Exchanged 8 c d → Exchanged 16 d e → Exchanged 32 e f → Exchanged 64 f r → (k : ℕ) → k < 128
    → bit_at r k ≡ bit_at z (127 - k)
reversed_by_runs z a b c d e f r x1 x2 x4 x8 x16 x32 x64 k lt =
    let p64 : ℕ = partner 64 k in
    let p32 : ℕ = partner 32 p64 in
    let p16 : ℕ = partner 16 p32 in
    let p8 : ℕ = partner 8 p16 in
    let p4 : ℕ = partner 4 p8 in
    let p2 : ℕ = partner 2 p4 in
    let t0 = and_parts (partner 1 p2 == 127 - k)
    (nat_lt p64 128 && (nat_lt p32 128
    && (nat_lt p16 128 && (nat_lt p8 128 && (nat_lt p4 128 && nat_lt p2 128)))))
    (every_below reversal_test 128 k reversal lt) in
    let t1 = and_parts (nat_lt p64 128)
    (nat_lt p32 128 && (nat_lt p16 128 && (nat_lt p8 128 && (nat_lt p4 128 && nat_lt p2 128))))
    t0.1 in
    let t2 = and_parts (nat_lt p32 128)
    (nat_lt p16 128 && (nat_lt p8 128 && (nat_lt p4 128 && nat_lt p2 128))) t1.1 in
    let t3 = and_parts (nat_lt p16 128) (nat_lt p8 128 && (nat_lt p4 128 && nat_lt p2 128)) t2.1 in
    let t4 = and_parts (nat_lt p8 128) (nat_lt p4 128 && nat_lt p2 128) t3.1 in
    let t5 = and_parts (nat_lt p4 128) (nat_lt p2 128) t4.1 in
    x64 k lt
    ∙ x32 p64 (ltb-true p64 128 t1.0)
    ∙ x16 p32 (ltb-true p32 128 t2.0)
    ∙ x8 p16 (ltb-true p16 128 t3.0)
    ∙ x4 p8 (ltb-true p8 128 t4.0)
    ∙ x2 p4 (ltb-true p4 128 t5.0)
    ∙ x1 p2 (ltb-true p2 128 t5.1)
    ∙ ap (bit_at z) (eqb-true (partner 1 p2) (127 - k) t0.0)
