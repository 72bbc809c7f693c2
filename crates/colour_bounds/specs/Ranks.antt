-- The integers of a colour level in the order of their unquantized values (Khronos Data Format
-- Specification, ASTC, "Endpoint Unquantization").
use Rattle.std.specs.Prelude.{ℕ, ◌+◌, ◌-◌, ◌*◌, ◌/◌, ◌%◌, ◌==◌, nat_lt, if◌then◌else◌}

-- the number of values of the digit at a level with `count` integers: 3 for a trit, 5 for a quint,
-- 1 for none
abbrev pub digits_of : ℕ → ℕ
digits_of count = if count % 3 == 0 then 3 else
    if count % 5 == 0 then 5 else
    1

-- the even integer at a rank of the lower half
abbrev pub spread : (count digits rank : ℕ) → ℕ
spread count digits rank = rank % digits * (count / digits) + 2 * (rank / digits)

-- the integer of a rank: `rank` integers have smaller values. The values of an odd integer and of
-- the even one before it have the sum 255.
abbrev pub integer_at : (count rank : ℕ) → ℕ
integer_at count rank =
    if digits_of count == 1 then rank else
    if nat_lt rank (count / 2) then spread count (digits_of count) rank else
    spread count (digits_of count) (count - 1 - rank) + 1

-- the rank of an integer among those with the same lowest bit
abbrev pub folded : (count digits integer : ℕ) → ℕ
folded count digits integer =
    integer % (count / digits) / 2 * digits + integer / (count / digits)

-- the rank of an integer: the number of integers with smaller values
abbrev pub rank_of : (count integer : ℕ) → ℕ
rank_of count integer =
    if digits_of count == 1 then integer else
    if integer % (count / digits_of count) % 2 == 0
    then folded count (digits_of count) integer
    else count - 1 - folded count (digits_of count) integer
