-- Sizes of rows, faces and levels.
use Rattle.std.proofs.Common.{◌≡◌, ℕ, ◌*◌, ◌^◌, ◌≤◌, max, inl, inr, ap, arith}
use Rattle.std.proofs.Math.Nat.{div-le_self}
use Rattle.std.proofs.lemmas.Nat.{mul-le}
use Rattle.astc_model.specs.Chains.{side_at_level}
use Rattle.astc_model.specs.Limits.{most_texels}
use Rattle.texture.specs.declared.extent.Extent.{Extent}
use Rattle.texture.specs.Extents.{IsExtent, images_of}
use Rattle.ktx_source.specs.declared.format.Format.{Format}
use Rattle.ktx_source.specs.Rasters.{padded, row_size, face_size, level_bytes}

-- padding is at most what a fourth byte a texel would take
pub padded_small : (t w : ℕ) → t ≤ 4 → padded (t * w) ≤ 4 * w
padded_small t w few =
    let some : t * w ≤ 4 * w = mul-le t w 4 w few (omega arith) in
    omega arith

pub side_small : (side level : ℕ) → 1 ≤ side → side_at_level side level ≤ side
side_small side level some = omega (arith, div-le_self side (2 ^ level))

-- the bytes of all faces of a level
pub faces_fit : (extent : Extent) (row w h : ℕ) → IsExtent extent → row ≤ 4 * w → w ≤ extent.width
    → h ≤ extent.height → images_of extent * (row * h) ≤ 4 * most_texels
faces_fit extent row w h valid rows wide high =
    let area : row * h ≤ (4 * w) * h = mul-le row h (4 * w) h rows (omega arith) in
    let texels : w * h ≤ extent.width * extent.height =
    mul-le w h extent.width extent.height wide high in
    let face : row * h ≤ 4 * (extent.width * extent.height) = omega arith in
    let all : images_of extent * (row * h) ≤ images_of
    extent * (4 * (extent.width * extent.height)) =
    mul-le (images_of extent) (row * h) (images_of extent) (4 * (extent.width * extent.height))
    (omega arith) face in
    omega (arith, all, valid.not_too_large)

-- there is an image
pub image_some : (extent : Extent) → IsExtent extent → 1 ≤ images_of extent
image_some extent valid =
    elim valid.faces_known [
      | inl one ↦ let same : images_of extent ≡ max 1 extent.elements * 1 =
          ap (λ n. max 1 extent.elements * n) one in omega arith
      | inr six ↦ let same : images_of extent ≡ max 1 extent.elements * 6 =
          ap (λ n. max 1 extent.elements * n) six in omega arith
    ]

pub one_of_all : (images face most : ℕ) → 1 ≤ images → images * face ≤ most → face ≤ most
one_of_all images face most some all = omega (arith, mul-le 1 face images face some (omega arith))

-- the texels of a level are no more than those of level 0
pub texels_fit : (extent : Extent) (w h : ℕ) → IsExtent extent → w ≤ extent.width
    → h ≤ extent.height → w * (h * images_of extent) ≤ most_texels
texels_fit extent w h valid wide high =
    let texels : w * h ≤ extent.width * extent.height =
    mul-le w h extent.width extent.height wide high in
    let all : w * h * images_of extent ≤ extent.width * extent.height * images_of extent =
    mul-le (w * h) (images_of extent) (extent.width * extent.height) (images_of extent) texels
    (omega arith) in
    omega (arith, all, valid.not_too_large)

-- a level is rows of all its images
pub level_rows : (format : Format) (extent : Extent) (level w h n : ℕ) → w
    ≡ side_at_level extent.width level → h ≡ side_at_level extent.height level → n
    ≡ images_of extent
    → level_bytes format extent level ≡ row_size format w * (h * n)
unfolding level_bytes face_size
level_rows format extent level w h n wide high all =
    rw (wide, high, all) (swap (row_size format (side_at_level extent.width level))
    (side_at_level extent.height level) (images_of extent))
  where
    swap : (row h n : ℕ) → n * (row * h) ≡ row * (h * n)
    swap row h n = omega arith
