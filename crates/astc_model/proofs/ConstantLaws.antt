-- The encoding of a void-extent block is decoded to that block.
use Rattle.std.proofs.Common.{◌≡◌, ℕ, ◌^◌, ◌<◌, List, [], ◌∷◌, length, Ok, get_or, take, lit<, refl, ◌∙◌, ap, arith}
use Rattle.astc_model.specs.Bits.{field_of, number_of}
use Rattle.astc_model.specs.Packing.{packed, total_width, AllFit}
use Rattle.astc_model.specs.Blocks.{constant_of}
use Rattle.astc_model.specs.Reading.{read, read_bits, constant_block_bytes}
use Rattle.astc_model.proofs.PackingLaws.{field_of-packed}

-- the widths of the fields: nine bits 0x1FC, the profile bit, two reserved bits, four coordinates,
-- four values
widths : List ℕ
widths = 9 ∷ 1 ∷ 2 ∷ 13 ∷ 13 ∷ 13 ∷ 13 ∷ 16 ∷ 16 ∷ 16 ∷ 16 ∷ []

values : ℕ → ℕ → ℕ → ℕ → List ℕ
values r g b a = 0x1FC ∷ 0 ∷ 3 ∷ 8191 ∷ 8191 ∷ 8191 ∷ 8191 ∷ r ∷ g ∷ b ∷ a ∷ []

number_of-constant : (r g b a : ℕ) → r < 2 ^ 16 → g < 2 ^ 16 → b < 2 ^ 16 → a < 2 ^ 16 →
    number_of (constant_block_bytes (r ∷ g ∷ b ∷ a ∷ [])) ≡ packed widths (values r g b a)
unfolding packed widths values
number_of-constant r g b a r_fits g_fits b_fits a_fits = omega arith

-- a number with these fields is decoded to the void-extent block with these values
read_bits_of_fields : (w h z r g b a : ℕ) → field_of z 0 9 ≡ 0x1FC → field_of z 9 1 ≡ 0
    → field_of z 10 2 ≡ 3
    → field_of z 12 13 ≡ 8191 → field_of z 25 13 ≡ 8191 → field_of z 38 13 ≡ 8191 → field_of z 51 13
    ≡ 8191
    → field_of z 64 16 ≡ r → field_of z 80 16 ≡ g → field_of z 96 16 ≡ b → field_of z 112 16 ≡ a
    → read_bits w h z ≡ Ok (constant_of (r ∷ g ∷ b ∷ a ∷ []))
read_bits_of_fields w h z r g b a class profile reserved s0 s1 t0 t1 red green blue alpha =
    rw (class, profile, reserved, s0, s1, t0, t1, red, green, blue, alpha) refl

module _ (r g b a : ℕ) (r_fits : r < 2 ^ 16) (g_fits : g < 2 ^ 16) (b_fits : b < 2 ^ 16)
    (a_fits : a < 2 ^ 16) where
  fits : AllFit widths (values r g b a)
  unfolding widths values
  fits = (
    lit< tt,
    (
      lit< tt,
      (
        lit< tt,
        (
          lit< tt,
          (
            lit< tt,
            (lit< tt, (lit< tt, (r_fits, (g_fits, (b_fits, (a_fits, tt)))))),
          ),
        ),
      ),
    ),
  )

  field : (i : ℕ) → i < 11 → field_of (packed widths (values r g b a)) (total_width (take i widths))
      (get_or widths i 0) ≡ get_or (values r g b a) i 0
  unfolding widths
  field i lt = field_of-packed widths (values r g b a) i fits lt

  pub read-constant_block_bytes : (w h : ℕ) → read w h (constant_block_bytes (r ∷ g ∷ b ∷ a ∷ []))
      ≡ Ok (constant_of (r ∷ g ∷ b ∷ a ∷ []))
  unfolding read widths values
  read-constant_block_bytes w h =
      ap (read_bits w h) (number_of-constant r g b a r_fits g_fits b_fits a_fits)
      ∙ read_bits_of_fields w h (packed widths (values r g b a)) r g b a
      (field 0 (lit< tt)) (field 1 (lit< tt)) (field 2 (lit< tt)) (field 3 (lit< tt))
      (field 4 (lit< tt)) (field 5 (lit< tt))
      (field 6 (lit< tt)) (field 7 (lit< tt)) (field 8 (lit< tt)) (field 9 (lit< tt))
      (field 10 (lit< tt))

-- a list of length 4 consists of its four entries
pub four_entries : (xs : List ℕ) → length xs ≡ 4 → xs ≡ get_or xs 0 0 ∷ get_or xs 1 0
    ∷ get_or xs 2 0 ∷ get_or xs 3 0 ∷ []
four_entries (a ∷ b ∷ c ∷ d ∷ []) e = refl
four_entries [] e = absurd (omega arith)
four_entries (a ∷ []) e = absurd (omega arith)
four_entries (a ∷ b ∷ []) e = absurd (omega arith)
four_entries (a ∷ b ∷ c ∷ []) e = absurd (omega arith)
four_entries (a ∷ b ∷ c ∷ d ∷ f ∷ xs) e = absurd (omega arith)
