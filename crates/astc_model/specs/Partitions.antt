-- The partition of a texel (Khronos Data Format Specification, ASTC, "Partition Pattern
-- Generation").
use Rattle.std.specs.Prelude.{ℕ, ◌+◌, ◌-◌, ◌*◌, ◌/◌, ◌%◌, ◌^◌, ◌==◌, ◌&&◌, if◌then◌else◌, nat_le, nat_lt, bit_xor}

-- the steps of hash52 on 32 bits: exclusive or with the number shifted right by k bits
abbrev pub xor_right : ℕ → ℕ → ℕ
xor_right k p = bit_xor p (p / 2 ^ k)

-- exclusive or with the number shifted left by k bits
abbrev pub xor_left : ℕ → ℕ → ℕ
xor_left k p = bit_xor p (p * 2 ^ k % 2 ^ 32)

-- the sum with the number shifted left by k bits, modulo 2 ^ 32
abbrev pub plus_left : ℕ → ℕ → ℕ
plus_left k p = (p + p * 2 ^ k % 2 ^ 32) % 2 ^ 32

-- the difference from the number shifted left by k bits, modulo 2 ^ 32
abbrev pub minus_left : ℕ → ℕ → ℕ
minus_left k p = (p + (2 ^ 32 - p * 2 ^ k % 2 ^ 32)) % 2 ^ 32

-- hash52 of the standard: the first five of its ten steps, and then the last five
abbrev pub half_hash : ℕ → ℕ
half_hash p = xor_right 5 (plus_left 4 (plus_left 7 (minus_left 17 (xor_right 15 p))))

unfoldable pub hash52 : ℕ → ℕ
hash52 p = xor_right 17 (xor_left 6 (xor_right 3 (xor_right 7 (plus_left 16 (half_hash p)))))

-- the square of nibble k of the hash: seed k + 1 of the standard
unfoldable pub square_at : ℕ → ℕ → ℕ
square_at hash k = let nibble = hash / 2 ^ (4 * k) % 16 in nibble * nibble

-- the number that is hashed: the partition index and the number of partitions
abbrev pub hashed_seed : ℕ → ℕ → ℕ
hashed_seed parts seed = seed + 1024 * (parts - 1)

-- the shift that depends on the hashed number, and the one that depends on the number of partitions
abbrev pub seed_shift : ℕ → ℕ
seed_shift n = if n / 2 % 2 == 1 then 4 else 5

abbrev pub parts_shift : ℕ → ℕ
parts_shift parts = if parts == 3 then 6 else 5

-- the shift of the seeds that multiply x, and of those that multiply y
abbrev pub x_shift : ℕ → ℕ → ℕ
x_shift parts n = if n % 2 == 1 then seed_shift n else parts_shift parts

abbrev pub y_shift : ℕ → ℕ → ℕ
y_shift parts n = if n % 2 == 1 then parts_shift parts else seed_shift n

-- the score, 0 to 63, of partition k at the texel (x, y)
unfoldable pub score : (hash across down k x y : ℕ) → ℕ
score hash across down k x y =
    (square_at hash (2 * k) / 2 ^ across * x + square_at hash (2 * k + 1) / 2 ^ down * y + hash / 2
    ^ (14 - 4 * k)) % 64

-- the index of the greatest of four scores; the first one at a tie
abbrev pub first_greatest : ℕ → ℕ → ℕ → ℕ → ℕ
first_greatest a b c d =
    if nat_le b a && nat_le c a
    && nat_le d a then 0 else
    (if nat_le c b && nat_le d b then 1 else (if nat_le d c then 2 else 3))

-- a score, or 0 if the block has no partition k
abbrev pub score_if : ℕ → ℕ → ℕ → ℕ
score_if parts k value = if nat_lt k parts then value else 0

-- the partition of the texel (x, y) in a block of several partitions; n is the hashed number, and x
-- and y are doubled already in small blocks
unfoldable pub part_at : (parts n x y : ℕ) → ℕ
part_at parts n x y =
    let r = hash52 n in
    let s = x_shift parts n in
    let t = y_shift parts n in
    first_greatest (score r s t 0 x y) (score r s t 1 x y) (score_if parts 2 (score r s t 2 x y))
    (score_if parts 3 (score r s t 3 x y))

-- the coordinate, doubled in blocks of fewer than 31 texels
abbrev pub doubled : ℕ → ℕ → ℕ → ℕ
doubled w h x = if nat_lt (w * h) 31 then 2 * x else x

-- the partition of the texel (x, y) in a block of w by h texels
unfoldable pub part_of : (w h parts seed x y : ℕ) → ℕ
part_of w h parts seed x y =
    if parts == 1 then 0 else part_at parts (hashed_seed parts seed) (doubled w h x) (doubled w h y)
