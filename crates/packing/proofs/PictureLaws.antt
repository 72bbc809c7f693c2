-- The picture of a trial, texel by texel.
use Rattle.std.proofs.Common.{◌≡◌, ℕ, ◌+◌, ◌*◌, ◌/◌, ◌%◌, ◌≤◌, List, [], ◌∷◌, ◌++◌, length, map, refl, sym, ◌∙◌, ap, arith, append-nil}
use Rattle.std.specs.List.{AllByRecursion, range_with_len}
use Rattle.std.proofs.lemmas.List.FromFn.{map-range_with_len_more, length-map-range_with_len}
use Rattle.std.proofs.lemmas.Grind.{flat_map-append}
use Rattle.images.specs.Pictures.{Pictures, IsValid, texels_of, bytes_of}
use Rattle.images.specs.TrialPictures.{trial_texel, trial_picture}
use Rattle.images.proofs.TexelLaws.{texels_of-bytes_of}

module _ (number width height : ℕ) where
  abbrev pub texel_by : ℕ → List ℕ
  texel_by place = trial_texel number width height (place % width) (place / width)

  -- the first n texels
  abbrev pub first_texels : ℕ → List (List ℕ)
  first_texels n = map texel_by (range_with_len 0 n)

  pub texels_more : (n : ℕ) (now after texel : List ℕ) → now ≡ bytes_of (first_texels n) → texel
      ≡ texel_by n → after ≡ now ++ texel → after ≡ bytes_of (first_texels (n + 1))
  texels_more n now after texel so_far is grown =
      grown
      ∙ ap (λ xs. xs ++ texel) so_far
      ∙ ap (λ t. bytes_of (first_texels n) ++ t) (is ∙ sym (append-nil (texel_by n)))
      ∙ sym (flat_map-append (λ t. t) (first_texels n) (texel_by n ∷ []))
      ∙ ap bytes_of (sym (map-range_with_len_more texel_by 0 n n (omega arith)))

  four_each : (places : List ℕ) → AllByRecursion (λ texel. length texel ≡ 4) (map texel_by places)
  unfolding trial_texel
  four_each [] = tt
  four_each (place ∷ places) = (refl, four_each places)

  pub four : AllByRecursion (λ texel. length texel ≡ 4) (trial_picture number width height).texels
  unfolding trial_picture
  four = four_each (range_with_len 0 (width * height))

  pub valid : 1 ≤ width → width ≤ 8192 → 1 ≤ height → height ≤ 8192
      → IsValid (trial_picture number width height)
  unfolding trial_picture
  valid width_some width_most height_some height_most = record {
    width_some = width_some;
    width_most = width_most;
    height_some = height_some;
    height_most = height_most;
    count_some = omega arith;
    full = length-map-range_with_len texel_by 0 (width * height) ∙ omega arith;
  }

  -- a raster of all texels is the picture
  pub picture-is : (n : ℕ) (raster : List ℕ) → raster ≡ bytes_of (first_texels n) → n
      ≡ width * height
      → ◌≡◌ {A = Pictures} (record {
        width = width;
        height = height;
        count = 1;
        texels = texels_of raster;
      }) (trial_picture number width height)
  unfolding trial_picture
  picture-is n raster so_far all =
      let whole : raster ≡ bytes_of (first_texels (width * height)) = so_far
      ∙ ap (λ k. bytes_of (first_texels k)) all in
      let texels : texels_of raster ≡ first_texels (width * height) =
      ap texels_of whole ∙ texels_of-bytes_of (first_texels (width * height))
      (four_each (range_with_len 0 (width * height)))
      in
      ap (λ ts. record { width = width; height = height; count = 1; texels = ts }) texels
