-- The results of the steps of a reader, by the input.
use Rattle.std.specs.Prelude.{◌≡◌, IfSome, ℕ, zero, suc, ◌*◌, ◌≤◌, true, List, [], ◌++◌, length, drop, Option, Some, Result, Ok, Err}
use Rattle.astc_model.specs.Limits.{most_texels}
use Rattle.tex_shelf.specs.declared.stop.Stop.{Stop}
use Rattle.tex_shelf.specs.Stops.{OnFault, Fails}
use Rattle.pam_header.specs.declared.fault.ImageFault.{ImageFault}
use Rattle.pam_header.specs.declared.header.PamHeader.{PamHeader}
use Rattle.pam_header.specs.Faults.{image_at}
use Rattle.pam_image.specs.declared.want.Want.{Want}
use Rattle.pam_image.specs.Reading.{image_header, raster_size, raster_of}

-- what follows an image with this header
abbrev pub behind_header : Result PamHeader ImageFault → List ℕ → List ℕ
behind_header (Err fault) bytes = []
behind_header (Ok header) bytes = drop (raster_size header) (drop header.size bytes)

-- the input from the first byte of an image on
abbrev pub from_image : ℕ → List ℕ → List ℕ
from_image zero bytes = bytes
from_image (suc image) bytes = behind_header (image_header image (from_image image bytes))
    (from_image image bytes)

-- The result of a step of reading: P of its value and of the rest of the input, or a fault that
-- reading gives.
abbrev pub AnswersWith : {X A : Type 0} → (X → List ℕ → Type 0) → Result A ImageFault
    → Option (List ℕ) → Result X (Stop ImageFault) → Type 0
AnswersWith P read left (Ok x) = (rest : List ℕ) × (left ≡ Some rest) × P x rest
AnswersWith P read left (Err stop) = Fails read stop

-- a fault is one of this image
abbrev pub IsOfImage : {X : Type 0} → ℕ → Result X (Stop ImageFault) → Type 0
IsOfImage image result = OnFault (λ fault. image_at fault ≡ image) result

-- a header of image 0 that fits the request
pub record Suits (want : Want) (width height : ℕ) : Type 0 where
  pub sides : IfSome want.sides (λ s. (width ≡ s.0) × (height ≡ s.1))
  pub square : want.cube ≡ true → width ≡ height
  pub not_too_large : width * height * want.count ≤ most_texels

-- The raster of an image that begins this input was appended to these bytes; the bytes taken ahead
-- follow, and then the rest of the input.
pub record IsRaster (image : ℕ) (header : PamHeader)
    (input before after ahead rest raster : List ℕ) : Type 0 where
  pub read : raster_of image header input ≡ Ok (record { bytes = raster; rest = ahead ++ rest })
  pub full : length raster ≡ raster_size header
  pub appended : after ≡ before ++ raster
