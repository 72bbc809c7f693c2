-- The reports on images, one after another.
use Rattle.std.proofs.Common.{◌≡◌, ℕ, zero, suc, ◌+◌, ◌*◌, ◌^◌, ◌<◌, ◌≤◌, max, inl, inr, mul-le-mul, length, length-append, arith, List, [], ◌∷◌, ◌++◌, map, sym, ◌∙◌, ap, append_assoc, zero-add}
use Rattle.std.specs.List.{flat_map, range_with_len}
use Rattle.std.proofs.lemmas.List.FromFn.{map-range_with_len_more, length-map-range_with_len}
use Rattle.texture.specs.Shapes.{IsValid, image_count}
use Rattle.ktx_file.specs.Files.{File}
use Rattle.unpacking.specs.declared.unpacked_image.UnpackedImage.{UnpackedImage}
use Rattle.unpacking.specs.Unpacked.{all_told, level_told, told_of, place_in}

pub told-more : {X : Type 0} (t : ℕ → X) (old told longer : List X) (more : X) (n : ℕ) → told
    ≡ old ++ map t (range_with_len 0 n) → more ≡ t n → longer ≡ told ++ more ∷ []
    → longer ≡ old ++ map t (range_with_len 0 (n + 1))
told-more t old told longer more n so_far more_is pushed =
    pushed ∙ ap (λ xs. xs ++ more ∷ []) so_far ∙ append_assoc old (map t (range_with_len 0 n))
    (more ∷ [])
    ∙ ap (λ x. old ++ (map t (range_with_len 0 n) ++ x ∷ [])) more_is
    ∙ ap (λ xs. old ++ xs) (sym (map-range_with_len_more t 0 n n (zero-add n)))

-- the report has as many images as the texture
all-counted : {X : Type 0} (f : ℕ → List X) (a n k : ℕ) → ((i : ℕ) → length (f i) ≡ k)
    → length (flat_map f (range_with_len a n)) ≡ n * k
all-counted f a zero k each = omega arith
all-counted f a (suc n) k each =
    length-append (f a) (flat_map f (range_with_len (a + 1) n))
    ∙ omega (arith, each a, all-counted f (a + 1) n k each)

pub told-few : (file : File) (images : List UnpackedImage) → images ≡ all_told file
    → IsValid file.shape → length images < 2 ^ 32
unfolding all_told level_told
told-few file images told valid =
    let count : length images ≡ file.shape.levels * image_count file.shape =
    ap length told ∙ all-counted (level_told file) 0 file.shape.levels (image_count file.shape)
    (λ level. length-map-range_with_len (λ image. told_of file (place_in file level image)) 0
    (image_count file.shape))
    in
    let faces : file.shape.faces ≤ 6 = elim valid.faces_known [
      | inl one ↦ omega (arith, one)
      | inr six ↦ omega (arith, six)
    ] in
    let elements : max 1 file.shape.elements ≤ 2048 = omega (arith, valid.elements_most) in
    let images_few : image_count file.shape ≤ 2048 * 6 = mul-le-mul elements faces in
    let all : file.shape.levels * image_count file.shape ≤ 14 * (2048 * 6) =
    mul-le-mul valid.levels_few images_few in
    omega (arith, count, all)
