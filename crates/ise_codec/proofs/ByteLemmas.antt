-- The number of a block and its 16 bytes.
use Rattle.std.proofs.Common.{◌≡◌, ℕ, zero, suc, ◌+◌, ◌*◌, ◌/◌, ◌%◌, ◌^◌, ◌<◌, List, [], ◌∷◌, length, get_or, refl, sym, ◌∙◌, ap, arith, zero-add}
use Rattle.std.specs.Int.{sum_through, byte_worth, byte_at, bytes_low_first}
use Rattle.std.proofs.lemmas.Nat.{mod_below, mod-mul-add}
use Rattle.std.proofs.Math.Nat.{div-one, pow-suc, div-div-eq-div-mul, div-add-mod, mod-eq_of_lt}
use Rattle.astc_model.specs.Bits.{number_of}

-- ---- from bytes

sum_through-first : (f : ℕ → ℕ) (k : ℕ) → sum_through f (suc k)
    ≡ f 0 + sum_through (λ i. f (suc i)) k
sum_through-first f zero = refl
sum_through-first f (suc k) = omega (arith, sum_through-first f k)

byte_worth-suc : (i b : ℕ) → byte_worth (suc i) b ≡ 256 * byte_worth i b
byte_worth-suc zero b = omega arith
byte_worth-suc (suc i) b =
    let power : 256 ^ suc (suc i) ≡ 256 ^ suc i * 256 = pow-suc 256 (suc i) in
    rw power (omega arith)

sum_through-scaled : (f g : ℕ → ℕ) (k : ℕ) → ((i : ℕ) → f i ≡ 256 * g i) → sum_through f k
    ≡ 256 * sum_through g k
sum_through-scaled f g zero each = each 0
sum_through-scaled f g (suc k) each = omega (arith, sum_through-scaled f g k each, each (suc k))

-- the number is the sum of its bytes times their powers of 256
pub number_of-is : (bytes : List ℕ) (k : ℕ) → length bytes ≡ suc k
    → sum_through (λ i. byte_worth i (get_or bytes i 0)) k ≡ number_of bytes
number_of-is [] k long = absurd (omega arith)
number_of-is (b ∷ []) zero long = sym (zero-add b)
number_of-is (b ∷ c ∷ bytes) zero long = absurd (omega arith)
number_of-is (b ∷ bytes) (suc k) long =
    let above : ℕ → ℕ = λ i. byte_worth (suc i) (get_or bytes i 0) in
    let first : sum_through (λ i. byte_worth i (get_or (b ∷ bytes) i 0)) (suc k)
    ≡ b + sum_through above k =
    sum_through-first (λ i. byte_worth i (get_or (b ∷ bytes) i 0)) k
    in
    let scaled : sum_through above k ≡ 256 * sum_through (λ i. byte_worth i (get_or bytes i 0)) k =
    sum_through-scaled above (λ i. byte_worth i (get_or bytes i 0)) k
    (λ i. byte_worth-suc i (get_or bytes i 0))
    in
    first ∙ omega (arith, scaled, number_of-is bytes k (omega arith))

-- ---- from a number

-- the digits of a remainder in base 256
low_digits : (m x : ℕ) → 0 < x → m % (x * 256) ≡ (m / 256 % x) * 256 + m % 256
low_digits m x some =
    let q : ℕ = m / 256 in
    let low : ℕ = (q % x) * 256 + m % 256 in
    let small : low < x * 256 = omega (arith, mod_below q x some) in
    let parts : m ≡ (q / x) * (x * 256) + low = omega (arith, div-add-mod q x) in
    ap (λ n. n % (x * 256)) parts ∙ mod-mul-add (q / x) (x * 256) low small

byte_at-is : (i n : ℕ) → byte_at i n ≡ n / 256 ^ i % 256
byte_at-is zero n = rw div-one refl
byte_at-is (suc i) n = refl

power-some : (k : ℕ) → 0 < 256 ^ k
power-some zero = omega arith
power-some (suc k) = omega (arith, pow-suc 256 k, power-some k)

-- k bytes from byte i on encode the digits of the number there
bytes-are : (i k n : ℕ) → number_of (bytes_low_first i k n) ≡ n / 256 ^ i % 256 ^ k
bytes-are i zero n = omega arith
bytes-are i (suc k) n =
    let above : n / 256 ^ suc i ≡ n / 256 ^ i / 256 = ap (λ x. n / x) (pow-suc 256 i)
    ∙ sym (div-div-eq-div-mul n (256 ^ i) 256) in
    let rest : number_of (bytes_low_first (suc i) k n) ≡ n / 256 ^ i / 256 % 256 ^ k =
    bytes-are (suc i) k n ∙ ap (λ x. x % 256 ^ k) above in
    rw (pow-suc 256 k) (omega (
      arith,
      rest,
      byte_at-is i n,
      low_digits (n / 256 ^ i) (256 ^ k)
          (power-some k),
    ))

pub number_of-bytes : (n : ℕ) → n < 2 ^ 128 → number_of (bytes_low_first 0 16 n) ≡ n
number_of-bytes n small = bytes-are 0 16 n ∙ rw div-one (mod-eq_of_lt small)
