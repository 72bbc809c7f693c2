-- The two endpoints of a partition from its unquantized colour values (Khronos Data Format
-- Specification, ASTC, "Color Endpoint Mode" and "LDR Endpoint Decoding").
use Rattle.std.specs.Prelude.{ℕ, ◌+◌, ◌*◌, ◌/◌, ◌%◌, min, Bool, ◌==◌, nat_lt, nat_le, if◌then◌else◌, List, [], ◌∷◌, slice_index, ℤ, pos, negsuc, ◌+ℤ◌, ◌-ℤ◌, int_le, bit_and, bit_or}
use Rattle.std.specs.List.{list_any}
use Rattle.std.specs.Int.{int_shr}

-- the endpoint modes of the LDR profile
abbrev pub ldr_modes : List ℕ
ldr_modes = 0 ∷ 1 ∷ 4 ∷ 5 ∷ 6 ∷ 8 ∷ 9 ∷ 10 ∷ 12 ∷ 13 ∷ []

-- whether an endpoint mode belongs to the LDR profile
abbrev pub is_ldr_mode : ℕ → Bool
is_ldr_mode mode = list_any (λ n. n == mode) ldr_modes

-- the number of colour values of a partition with this endpoint mode
abbrev pub endpoint_integers : ℕ → ℕ
endpoint_integers mode = 2 * (mode / 4 + 1)

-- an integer clamped to 0 to 255
abbrev pub clamp_byte : ℤ → ℕ
clamp_byte (pos n) = min n 255
clamp_byte (negsuc n) = 0

-- the colour with these four channels, each clamped
abbrev pub clamped : ℤ → ℤ → ℤ → ℤ → List ℕ
clamped red green blue alpha = clamp_byte red ∷ clamp_byte green ∷ clamp_byte blue
    ∷ clamp_byte alpha ∷ []

-- blue contraction: red and green are moved halfway to blue, and clamped only then
unfoldable pub blue_contract : ℤ → ℤ → ℤ → ℤ → List ℕ
blue_contract red green blue alpha = clamped (int_shr (red +ℤ blue) 1)
    (int_shr (green +ℤ blue) 1) blue alpha

-- In the following, v is the function from an index to the colour value of the partition.

-- the base of `bit_transfer_signed` for values `place` and `place + 1`: the top bit of the second
-- value becomes bit 7 of the base
unfoldable pub base : (ℕ → ℕ) → ℕ → ℤ
base v place = pos (bit_or (v place / 2) (bit_and (v (place + 1)) 128))

-- six bits as a number in two's complement, -32 to 31
abbrev pub six_bit_signed : ℕ → ℤ
six_bit_signed bits = if nat_lt bits 32 then pos bits else pos bits -ℤ pos 64

-- the offset of `bit_transfer_signed`: bits 1 to 6 of the second value
unfoldable pub offset : (ℕ → ℕ) → ℕ → ℤ
offset v place = six_bit_signed (v (place + 1) / 2 % 64)

-- the base plus the offset, not clamped
unfoldable pub base_with_offset : (ℕ → ℕ) → ℕ → ℤ
base_with_offset v place = base v place +ℤ offset v place

-- the grey with this luminance and alpha
abbrev pub grey : ℕ → ℕ → List ℕ
grey luminance alpha = luminance ∷ luminance ∷ luminance ∷ alpha ∷ []

-- mode 0: two luminances; alpha is 255
abbrev pub luminance_direct : (ℕ → ℕ) → List ℕ × List ℕ
luminance_direct v = (grey (v 0) 255, grey (v 1) 255)

-- the first luminance of mode 1: six bits of value 0, and two bits of value 1 above them
abbrev pub first_luminance : (ℕ → ℕ) → ℕ
first_luminance v = bit_or (v 0 / 4) (bit_and (v 1) 192)

-- mode 1: a luminance, and the same plus an offset of 0 to 63; alpha is 255
abbrev pub luminance_base_offset : (ℕ → ℕ) → List ℕ × List ℕ
luminance_base_offset v =
    (grey (first_luminance v) 255, grey (min (first_luminance v + v 1 % 64) 255) 255)

-- mode 4: two luminances, each with an alpha
abbrev pub luminance_alpha_direct : (ℕ → ℕ) → List ℕ × List ℕ
luminance_alpha_direct v = (grey (v 0) (v 2), grey (v 1) (v 3))

-- mode 5: a luminance and an alpha, and the same plus offsets of -32 to 31
abbrev pub luminance_alpha_base_offset : (ℕ → ℕ) → List ℕ × List ℕ
luminance_alpha_base_offset v = (
  clamped (base v 0) (base v 0) (base v 0) (base v 2),
  clamped (base_with_offset v 0) (base_with_offset v 0) (base_with_offset v 0)
      (base_with_offset v 2),
)

-- modes 6 and 10: the second endpoint is stored, the first is the second times a scale / 256
abbrev pub base_scale : (ℕ → ℕ) → ℕ → ℕ → List ℕ × List ℕ
base_scale v first_alpha second_alpha = (
  v 0 * v 3 / 256 ∷ v 1 * v 3 / 256 ∷ v 2 * v 3 / 256 ∷ first_alpha ∷ [],
  v 0 ∷ v 1 ∷ v 2 ∷ second_alpha ∷ [],
)

-- whether red + green + blue of the second stored colour is at least that of the first
abbrev pub is_ascending : (ℕ → ℕ) → Bool
is_ascending v = nat_le (v 0 + v 2 + v 4) (v 1 + v 3 + v 5)

-- modes 8 and 12: both colours are stored; if the second has the smaller sum, the endpoints are
-- exchanged, with blue contraction
abbrev pub direct : (ℕ → ℕ) → ℕ → ℕ → List ℕ × List ℕ
direct v first_alpha second_alpha =
    if is_ascending v
    then (v 0 ∷ v 2 ∷ v 4 ∷ first_alpha ∷ [], v 1 ∷ v 3 ∷ v 5 ∷ second_alpha ∷ [])
    else (
      blue_contract (pos (v 1)) (pos (v 3)) (pos (v 5)) (pos second_alpha),
      blue_contract (pos (v 0)) (pos (v 2)) (pos (v 4)) (pos first_alpha),
    )

-- whether the sum of the offsets of red, green and blue is 0 or more
abbrev pub is_rising : (ℕ → ℕ) → Bool
is_rising v = int_le (pos 0) (offset v 0 +ℤ offset v 2 +ℤ offset v 4)

-- modes 9 and 13: a base and the base plus offsets; if the sum of the offsets is negative, the
-- endpoints are exchanged, with blue contraction
abbrev pub base_offset : (ℕ → ℕ) → ℤ → ℤ → List ℕ × List ℕ
base_offset v first_alpha second_alpha =
    if is_rising v
    then (
      clamped (base v 0) (base v 2) (base v 4) first_alpha,
      clamped (base_with_offset v 0) (base_with_offset v 2) (base_with_offset v 4) second_alpha,
    )
    else (
      blue_contract (base_with_offset v 0) (base_with_offset v 2)
          (base_with_offset v 4) second_alpha,
      blue_contract (base v 0) (base v 2) (base v 4) first_alpha,
    )

-- the two endpoints under each endpoint mode, from the function v of the colour values
abbrev pub colours_of : ℕ → (ℕ → ℕ) → List ℕ × List ℕ
colours_of mode v =
    if mode == 0 then luminance_direct v else
    if mode == 1 then luminance_base_offset v else
    if mode == 4 then luminance_alpha_direct v else
    if mode == 5 then luminance_alpha_base_offset v else
    if mode == 6 then base_scale v 255 255 else
    if mode == 8 then direct v 255 255 else
    if mode == 9 then base_offset v (pos 255) (pos 255) else
    if mode == 10 then base_scale v (v 4) (v 5) else
    if mode == 12 then direct v (v 6) (v 7) else
    if mode == 13 then base_offset v (base v 6) (base_with_offset v 6) else
    ([], [])

-- the two endpoints, each with red, green, blue and alpha, that these unquantized values encode
-- under an endpoint mode of the LDR profile
unfoldable pub endpoint_colours : ℕ → List ℕ → List ℕ × List ℕ
endpoint_colours mode values = colours_of mode (slice_index values)
