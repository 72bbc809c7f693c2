-- The numbers that texts write.
use Rattle.std.specs.Prelude.{ℕ, ◌+◌, ◌-◌, ◌*◌, nat_le, nat_lt, ◌==◌, ◌&&◌, ◌||◌, Bool, if◌then◌else◌, List, [], ◌∷◌, length, Option, None, Some}

-- a byte of ASCII, `0` to `9`
abbrev pub is_digit : ℕ → Bool
is_digit b = nat_le 48 b && nat_le b 57

-- the number of the digits, after digits of this value; None if it exceeds 32 bits
abbrev pub digits_value : ℕ → List ℕ → Option ℕ
digits_value value [] = Some value
digits_value value (b ∷ bytes) =
    if is_digit b
    then (if nat_le (10 * value + (b - 48)) 4294967295 then digits_value
    (10 * value + (b - 48)) bytes else None)
    else None

-- a decimal number of one to ten digits that fits 32 bits
abbrev pub number_in : List ℕ → Option ℕ
number_in bytes = if length bytes == 0
    || nat_lt 10 (length bytes) then None else digits_value 0 bytes
