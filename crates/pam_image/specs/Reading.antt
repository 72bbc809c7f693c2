-- The images that an input is, over its whole bytes, or its first fault (Netpbm PAM manual).
use Rattle.std.specs.Prelude.{◌≡◌, ⊤, IfSome, ℕ, zero, suc, ◌+◌, ◌-◌, ◌*◌, ◌≤◌, nat_le, nat_lt, ◌==◌, ◌&&◌, Bool, true, false, if◌then◌else◌, List, [], ◌∷◌, ◌++◌, length, take, drop, Option, None, Some, Result, Ok, Err}
use Rattle.astc_model.specs.Limits.{most_texels}
use Rattle.tex_shelf.specs.declared.stop.Stop.{Stop}
use Rattle.tex_shelf.specs.Stops.{Fails}
use Rattle.pam_header.specs.declared.fault.ImageFault.{ImageFault}
use Rattle.pam_header.specs.declared.fault.ImageFault.TheVariants.{NotPam, WrongSides, NotSquare, TooManyTexels, SizesDiffer, Truncated, FewImages, TrailingBytes}
use Rattle.pam_header.specs.declared.header.PamHeader.{PamHeader}
use Rattle.pam_header.specs.Headers.{◌>>=◌, header_of}
use Rattle.pam_image.specs.declared.want.Want.{Want}
use Rattle.images.specs.Pictures.{Pictures, texels_of}

-- the input ends at the start of an image
abbrev pub no_image : ℕ → ImageFault
no_image zero = NotPam 0
no_image (suc n) = FewImages (suc n)

-- the header of the image that begins here
unfoldable pub image_header : ℕ → List ℕ → Result PamHeader ImageFault
image_header image bytes = if length bytes == 0 then Err (no_image image) else header_of image bytes

-- nothing is wrong so far
abbrev pub done : Result (Unit {0}) ImageFault
done = Ok tt

-- the requested sides, if there are some
abbrev pub with_sides : Option (ℕ × ℕ) → PamHeader → Result (Unit {0}) ImageFault
with_sides None header = done
with_sides (Some sides) header = if header.width == sides.0
    && header.height == sides.1 then done else Err (WrongSides header.width header.height)

-- square, if faces of a cube are requested
abbrev pub as_face : Bool → PamHeader → Result (Unit {0}) ImageFault
as_face false header = done
as_face true header = if header.width == header.height then done
    else Err (NotSquare header.width header.height)

-- n images of this size are within the limit of texels
abbrev pub not_too_many : ℕ → PamHeader → Result (Unit {0}) ImageFault
not_too_many count header =
    if nat_le (header.width * header.height * count) most_texels then done
    else Err (TooManyTexels (header.width * header.height * count))

-- the header of image 0 fits the request
unfoldable pub first_fits : Want → PamHeader → Result (Unit {0}) ImageFault
first_fits want header = do
  sides ← with_sides want.sides header
  face ← as_face want.cube header
  not_too_many want.count header

-- the header of a later image has these sides
abbrev pub later_fits : ℕ → ℕ → ℕ → PamHeader → Result (Unit {0}) ImageFault
later_fits width height image header = if header.width == width
    && header.height == height then done else Err (SizesDiffer image)

-- the number of bytes of the raster after a header
abbrev pub raster_size : PamHeader → ℕ
raster_size header = header.width * header.height * header.depth

-- bytes at the start of an input, and the rest
pub record Taken : Type 0 where
  pub bytes : List ℕ
  pub rest : List ℕ

-- the raster after the header of the image that begins here
unfoldable pub raster_of : ℕ → PamHeader → List ℕ → Result Taken ImageFault
raster_of image header bytes =
    if nat_lt (length bytes) (header.size + raster_size header)
    then Err (Truncated image (length bytes))
    else Ok (record {
      bytes = take (raster_size header) (drop header.size bytes);
      rest = drop (raster_size header) (drop header.size bytes);
    })

-- red, green, blue and alpha from a grey
abbrev pub from_grey : List ℕ → List ℕ
from_grey [] = []
from_grey (v ∷ rest) = v ∷ v ∷ v ∷ 255 ∷ from_grey rest

-- from a grey and alpha
abbrev pub from_grey_alpha : List ℕ → List ℕ
from_grey_alpha (v ∷ a ∷ rest) = v ∷ v ∷ v ∷ a ∷ from_grey_alpha rest
from_grey_alpha rest = []

-- from red, green and blue
abbrev pub from_rgb : List ℕ → List ℕ
from_rgb (r ∷ g ∷ b ∷ rest) = r ∷ g ∷ b ∷ 255 ∷ from_rgb rest
from_rgb rest = []

-- four bytes per texel from a raster of this depth
unfoldable pub widened : ℕ → List ℕ → List ℕ
widened depth raster =
    if depth == 1 then from_grey raster
    else (if depth == 2 then from_grey_alpha raster
    else (if depth == 3 then from_rgb raster
    else raster))

-- the texels after the header of the image that begins here, four bytes each, and the rest after
-- the image
unfoldable pub texels_behind : ℕ → PamHeader → List ℕ → Result Taken ImageFault
texels_behind image header bytes =
    raster_of image header bytes >>= λ raster.
    Ok (record { bytes = widened header.depth raster.bytes; rest = raster.rest })

-- the header of image 0, if it fits the request
unfoldable pub first_header : Want → List ℕ → Result PamHeader ImageFault
first_header want bytes = do
  header ← image_header 0 bytes
  fits ← first_fits want header
  Ok header

-- the texels of a later image, of these sides
unfoldable pub later_image : ℕ → ℕ → ℕ → List ℕ → Result Taken ImageFault
later_image width height image bytes = do
  header ← image_header image bytes
  fits ← later_fits width height image header
  texels_behind image header bytes

-- nothing follows the last image
abbrev pub ended : List ℕ → Result (List ℕ) ImageFault
ended bytes = if length bytes == 0 then Ok [] else Err TrailingBytes

-- the texels of n further images of these sides, from this number on, to the end of the input
abbrev pub later_images : ℕ → ℕ → ℕ → ℕ → List ℕ → Result (List ℕ) ImageFault
later_images width height image zero bytes = ended bytes
later_images width height image (suc n) bytes = do
  next ← later_image width height image bytes
  more ← later_images width height (image + 1) n next.rest
  Ok (next.bytes ++ more)

-- the requested images that the bytes are, all of them, or the first fault
unfoldable pub images_of : Want → List ℕ → Result Pictures ImageFault
images_of want bytes = do
  header ← first_header want bytes
  first ← texels_behind 0 header bytes
  more ← later_images header.width header.height 1 (want.count - 1) first.rest
  Ok (record {
    width = header.width;
    height = header.height;
    count = want.count;
    texels = texels_of (first.bytes ++ more);
  })

-- The result of a reader, by the input: the images if it was read to its end, or its fault. For an
-- unknown input, and if reading stopped for another reason, the result is free.
abbrev pub Reads : Want → Option (List ℕ) → Option (List ℕ) → Result Pictures (Stop ImageFault)
    → Type 0
Reads want None after result = ⊤
Reads want (Some bytes) after (Ok images) = (images_of want bytes ≡ Ok images) × (after ≡ Some [])
Reads want (Some bytes) after (Err stop) = Fails (images_of want bytes) stop

-- the request for images: their number, their sides, that they are square, and their greatest size
pub record IsWanted (want : Want) (images : Pictures) : Type 0 where
  pub count : images.count ≡ want.count
  pub sides : IfSome want.sides (λ sides. (images.width ≡ sides.0) × (images.height ≡ sides.1))
  pub square : want.cube ≡ true → images.width ≡ images.height
  pub not_too_large : images.width * images.height * images.count ≤ most_texels
