-- A written image reads as that image.
use Rattle.std.proofs.Common.{◌≡◌, ℕ, ◌*◌, ◌≤◌, List, [], ◌++◌, length, drop, Option, Some, None, Ok, refl, sym, ◌∙◌, ap, arith, append-nil, true, false, Bool}
use Rattle.std.specs.Prelude.{IfSome}
use Rattle.std.specs.List.{AllByRecursion}
use Rattle.std.proofs.lemmas.Bool.{le-leb, eq-eqb, ne_eqb}
use Rattle.std.proofs.lemmas.List.{drop_all}
use Rattle.pam_header.specs.declared.header.PamHeader.{PamHeader}
use Rattle.pam_header.specs.Written.{header_text}
use Rattle.pam_header.proofs.WrittenLaws.{header_of-written}
use Rattle.pam_image.specs.declared.want.Want.{Want}
use Rattle.images.specs.Pictures.{Pictures, IsValid, texels_of, bytes_of}
use Rattle.pam_image.specs.Written.{written}
use Rattle.pam_image.specs.Reading.{image_header, raster_of, widened, texels_behind, with_sides, as_face, not_too_many, first_fits, done, images_of, IsWanted}
use Rattle.images.proofs.TexelLaws.{texels_of-bytes_of, length-bytes_of}
use Rattle.pam_image.proofs.ImageLaws.{first_found, texels_are}
use Rattle.pam_image.proofs.RasterLaws.{raster_of-taken}
use Rattle.pam_image.proofs.LoopLaws.{images_are}

-- a header with the requested sides fits
sides_fit : (sides : Option (ℕ × ℕ)) (header : PamHeader)
    → IfSome sides (λ s. (header.width ≡ s.0) × (header.height ≡ s.1)) → with_sides sides header
    ≡ done
sides_fit None header same = refl
sides_fit (Some sides) header same =
    rw (eq-eqb header.width sides.0 same.0, eq-eqb header.height sides.1 same.1) refl

face_fits : (cube : Bool) (header : PamHeader) → (cube ≡ true → header.width ≡ header.height)
    → as_face cube header ≡ done
face_fits false header square = refl
face_fits true header square = rw (eq-eqb header.width header.height (square refl)) refl

count_fits : (count : ℕ) (header : PamHeader) → header.width * header.height * count ≤ 33554432
    → not_too_many count header ≡ done
count_fits count header few = rw (le-leb (header.width * header.height * count) 33554432 few) refl

fits : (want : Want) (header : PamHeader) → IfSome want.sides (λ s. (header.width ≡ s.0)
    × (header.height ≡ s.1)) → (want.cube ≡ true → header.width ≡ header.height)
    → header.width * header.height * want.count ≤ 33554432 → first_fits want header ≡ done
unfolding first_fits
fits want header sides square few =
    rw (
      sides_fit want.sides header sides,
      face_fits want.cube header square,
      count_fits want.count
          header few,
    ) refl

module _ (width height : ℕ) (raster : List ℕ) (width_some : 1 ≤ width) (width_most : width ≤ 8192)
    (height_some : 1 ≤ height) (height_most : height ≤ 8192) (full : length raster
    ≡ width * height * 4) where
  abbrev text : List ℕ
  text = header_text width height

  abbrev header : PamHeader
  header = record { width = width; height = height; depth = 4; size = length text }

  header_read : image_header 0 (text ++ raster) ≡ Ok header
  unfolding image_header
  header_read =
      rw (ne_eqb (length (text ++ raster)) 0 (λ e. absurd (omega arith)))
      (header_of-written 0 width height raster width_some width_most height_some height_most)

  texels_read : texels_behind 0 header (text ++ raster) ≡ Ok (record { bytes = raster; rest = [] })
  unfolding widened
  texels_read =
      let none : drop (length text) text ≡ [] = drop_all (length text) text (omega arith) in
      texels_are 0 header (text ++ raster) raster [] (
      ap (raster_of 0 header) (ap (λ xs. text ++ xs) (sym (append-nil raster)))
      ∙ raster_of-taken 0 header text raster [] (omega arith) (ap (λ xs. length (xs ++ raster)) none
      ∙ full)
      ∙ ap (λ xs. Ok (record { bytes = xs ++ raster; rest = [] })) none)

  pub images_read : (want : Want) → want.count ≡ 1 → first_fits want header ≡ done
      → images_of want (text ++ raster)
      ≡ Ok (record {
        width = width;
        height = height;
        count = want.count;
        texels = texels_of raster;
      })
  images_read want one fitting =
      images_are want (text ++ raster) header (record { bytes = raster; rest = [] }) [] raster
      (first_found want (text ++ raster) header header_read fitting)
      texels_read (rw one refl) (sym (append-nil raster))

pub written-reads : (want : Want) (images : Pictures) → images.count ≡ 1 → IsValid images
    → IsWanted want images
    → AllByRecursion (λ texel. length texel ≡ 4) images.texels → images_of want (written images)
    ≡ Ok images
written-reads want images one valid wanted four =
    let raster : List ℕ = bytes_of images.texels in
    let full : length raster ≡ images.width * images.height * 4 =
    omega (arith, length-bytes_of images.texels four, rw one at valid.full) in
    let count : want.count ≡ 1 = sym wanted.count ∙ one in
    let few : images.width * images.height * want.count ≤ 33554432 =
    rw (← wanted.count) wanted.not_too_large in
    let same : record {
      width = images.width;
      height = images.height;
      count = want.count;
      texels = texels_of raster;
    } ≡ images =
    rw (texels_of-bytes_of images.texels four, ← wanted.count) refl
    in
    images_read images.width images.height raster valid.width_some valid.width_most
    valid.height_some valid.height_most full want count
    (fits want (header images.width images.height raster valid.width_some valid.width_most
    valid.height_some valid.height_most full) wanted.sides wanted.square few)
    ∙ ap Ok same
