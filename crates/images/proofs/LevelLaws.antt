-- The relation of a level of a mip chain to level 0.
use Rattle.std.proofs.Common.{◌≡◌, ℕ, zero, suc, ◌+◌, ◌*◌, ◌/◌, ◌%◌, ◌^◌, max, ◌≤◌, List, [], ◌∷◌, length, refl, sym, ◌∙◌, ap, arith, length-append}
use Rattle.std.specs.List.{flat_map, range_with_len}
use Rattle.std.proofs.Math.Nat.{pow-suc, div-one, div-div-eq-div-mul, mul-suc}
use Rattle.std.proofs.lemmas.List.FromFn.{length-map-range_with_len, length-range_with_len}
use Rattle.astc_model.specs.Chains.{side_at_level}
use Rattle.images.specs.Pictures.{Pictures, IsValid}
use Rattle.images.specs.Chains.{halved_texel, halved_row, halved_rows, halved, images_at_level, IsLevel}

-- a side at level 0
side_none : (side : ℕ) → 1 ≤ side → side ≡ side_at_level side 0
side_none side some = let whole : side / 1 ≡ side = div-one side in omega arith

halves : (s h : ℕ) → max 1 (max 1 s / 2) ≡ max 1 (s / 2)
halves s h = omega arith

-- and one level on
side_more : (side level now : ℕ) → now ≡ side_at_level side level → side_at_level now 1
    ≡ side_at_level side (suc level)
side_more side level now is =
    let split : side / 2 ^ level / 2 ≡ side / (2 ^ level * 2) =
    div-div-eq-div-mul side (2 ^ level) 2 in
    let power : 2 ^ suc level ≡ 2 ^ level * 2 = pow-suc 2 level in
    ap (λ n. max 1 (n / 2)) is ∙ halves (side / 2 ^ level) 0
    ∙ ap (max 1) (split ∙ ap (λ p. side / p) (sym power))

halved-width : (images : Pictures) → (halved images).width ≡ side_at_level images.width 1
unfolding halved
halved-width images = refl

halved-height : (images : Pictures) → (halved images).height ≡ side_at_level images.height 1
unfolding halved
halved-height images = refl

halved-count : (images : Pictures) → (halved images).count ≡ images.count
unfolding halved
halved-count images = refl

halved-texels : (images : Pictures) → (halved images).texels
    ≡ halved_rows images (side_at_level images.height 1 * images.count)
unfolding halved
halved-texels images = refl

pub level_sides : (images : Pictures) (level : ℕ) → 1 ≤ images.width → 1 ≤ images.height
    → IsLevel images (images_at_level images level) level
level_sides images zero wide high =
    record {
      width = side_none images.width wide;
      height = side_none images.height high;
      count = refl;
    }
level_sides images (suc level) wide high =
    let before : IsLevel images (images_at_level images level) level =
    level_sides images level wide high in
    let now : Pictures = images_at_level images level in
    record {
      width = halved-width now ∙ side_more images.width level now.width before.width;
      height = halved-height now ∙ side_more images.height level now.height before.height;
      count = halved-count now ∙ before.count;
    }

length-row : (images : Pictures) (image y : ℕ) → length (halved_row images image y)
    ≡ side_at_level images.width 1
unfolding halved_row
length-row images image y = length-map-range_with_len (λ x. halved_texel images image x y) 0
    (side_at_level images.width 1)

length-rows_of : (images : Pictures) (h : ℕ) (rows : List ℕ)
    → length (flat_map (λ row. halved_row images (row / h) (row % h)) rows)
    ≡ side_at_level images.width 1 * length rows
length-rows_of images h [] = omega arith
length-rows_of images h (row ∷ rows) =
    let w : ℕ = side_at_level images.width 1 in
    let rest : List (List ℕ) = flat_map (λ r. halved_row images (r / h) (r % h)) rows in
    let more : w * suc (length rows) ≡ w * length rows + w = mul-suc w (length rows) in
    length-append (halved_row images (row / h) (row % h)) rest
    ∙ omega (arith, length-row images (row / h) (row % h), length-rows_of images h rows, more)

length-rows : (images : Pictures) (n : ℕ) → length (halved_rows images n)
    ≡ side_at_level images.width 1 * n
unfolding halved_rows
length-rows images n =
    length-rows_of images (side_at_level images.height 1) (range_with_len 0 n)
    ∙ ap (λ k. side_at_level images.width 1 * k) (length-range_with_len 0 n)

half_most : (side : ℕ) → side ≤ 8192 → side_at_level side 1 ≤ 8192
half_most side most = omega arith

half_some : (side : ℕ) → 1 ≤ side_at_level side 1
half_some side = omega arith

halved_is_valid : (images : Pictures) → IsValid images → IsValid (halved images)
halved_is_valid images valid = record {
  width_some = rw (halved-width images) (half_some images.width);
  width_most = rw (halved-width images) (half_most images.width valid.width_most);
  height_some = rw (halved-height images) (half_some images.height);
  height_most = rw (halved-height images) (half_most images.height valid.height_most);
  count_some = rw (halved-count images) valid.count_some;
  full = ap length (halved-texels images)
      ∙ length-rows images (side_at_level images.height 1 * images.count)
      ∙ rw (halved-width images, halved-height images, halved-count images) (omega arith);
}

pub level_is_valid : (images : Pictures) (level : ℕ) → IsValid images
    → IsValid (images_at_level images level)
level_is_valid images zero valid = valid
level_is_valid images (suc level) valid = halved_is_valid (images_at_level images level)
    (level_is_valid images level valid)
