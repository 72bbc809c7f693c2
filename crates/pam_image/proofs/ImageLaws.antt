-- Images step by step.
use Rattle.std.proofs.Common.{◌≡◌, ℕ, List, Option, Result, Ok, Err, ◌++◌, refl, ◌∙◌, ap}
use Rattle.pam_header.specs.declared.fault.ImageFault.{ImageFault}
use Rattle.pam_header.specs.declared.header.PamHeader.{PamHeader}
use Rattle.pam_header.specs.Headers.{◌>>=◌}
use Rattle.pam_image.specs.declared.want.Want.{Want}
use Rattle.tex_shelf.specs.declared.stop.Stop.{Stop}
use Rattle.pam_image.specs.Reading.{image_header, first_fits, later_fits, raster_of, widened, texels_behind, later_image, first_header, done}
use Rattle.tex_shelf.specs.Stops.{Fails}
use Rattle.pam_image.specs.Steps.{AnswersWith, IsRaster}
use Rattle.pam_image.proofs.SayLaws.{passed}

pub first_refused : (want : Want) (bytes : List ℕ) (header : PamHeader) (fault : ImageFault)
    → image_header 0 bytes ≡ Ok header → first_fits want header ≡ Err fault
    → first_header want bytes ≡ Err fault
unfolding first_header
first_refused want bytes header fault e f = rw (e, f) refl

pub first_found : (want : Want) (bytes : List ℕ) (header : PamHeader) → image_header 0 bytes
    ≡ Ok header → first_fits want header ≡ done → first_header want bytes ≡ Ok header
unfolding first_header
first_found want bytes header e f = rw (e, f) refl

pub first_passed : (want : Want) (bytes : List ℕ) (stop : Stop ImageFault)
    → Fails (image_header 0 bytes) stop → Fails (first_header want bytes) stop
unfolding first_header
first_passed want bytes stop says =
    passed (image_header 0 bytes) (λ header. first_fits want header >>= λ fits. Ok header) stop says

pub texels_passed : (image : ℕ) (header : PamHeader) (bytes : List ℕ) (stop : Stop ImageFault)
    → Fails (raster_of image header bytes) stop → Fails (texels_behind image header bytes) stop
unfolding texels_behind
texels_passed image header bytes stop says =
    passed (raster_of image header bytes)
    (λ raster. Ok (record { bytes = widened header.depth raster.bytes; rest = raster.rest }))
    stop says

pub texels_are : (image : ℕ) (header : PamHeader) (bytes raster rest : List ℕ)
    → raster_of image header bytes ≡ Ok (record { bytes = raster; rest = rest })
    → texels_behind image header bytes
    ≡ Ok (record { bytes = widened header.depth raster; rest = rest })
unfolding texels_behind
texels_are image header bytes raster rest e = rw e refl

-- a raster of four bytes per texel is the texels
four_is : (depth : ℕ) (raster : List ℕ) → depth ≡ 4 → widened depth raster ≡ raster
unfolding widened
four_is depth raster four = rw four refl

pub raster_is_texels : {X : Type 0} (items : X → List ℕ) (image : ℕ) (header : PamHeader)
    (bytes before after : List ℕ) (left : Option (List ℕ)) (r : Result X (Stop ImageFault))
    → header.depth ≡ 4
    → AnswersWith (λ ahead rest. (raster : List ℕ) × IsRaster image header bytes before after
    (items ahead) rest raster) (raster_of image header bytes) left r
    → AnswersWith (λ ahead rest. (more : List ℕ)
    × (texels_behind image header bytes
    ≡ Ok (record { bytes = more; rest = items ahead ++ rest }))
    × (after ≡ before ++ more)) (texels_behind image header bytes) left r
raster_is_texels items image header bytes before after left (Ok ahead) four says =
    let raster : List ℕ = says.2.0 in
    let read : texels_behind image header bytes
    ≡ Ok (record { bytes = widened header.depth raster; rest = items ahead ++ says.0 }) =
    texels_are image header bytes raster (items ahead ++ says.0) says.2.1.read in (
      says.0,
      says.1,
      (
        raster,
        read
            ∙ ap (λ xs. Ok (record { bytes = xs; rest = items ahead ++ says.0 }))
            (four_is header.depth raster four),
        says.2.1.appended,
      ),
    )
raster_is_texels items image header bytes before after left (Err stop) four says =
    texels_passed image header bytes stop says

pub later_refused : (width height image : ℕ) (bytes : List ℕ) (header : PamHeader)
    (fault : ImageFault) → image_header image bytes ≡ Ok header
    → later_fits width height image header ≡ Err fault
    → later_image width height image bytes ≡ Err fault
unfolding later_image
later_refused width height image bytes header fault e f = rw (e, f) refl

pub later_is : (width height image : ℕ) (bytes : List ℕ) (header : PamHeader)
    → image_header image bytes ≡ Ok header → later_fits width height image header ≡ done
    → later_image width height image bytes ≡ texels_behind image header bytes
unfolding later_image
later_is width height image bytes header e f = rw (e, f) refl

pub later_passed : (width height image : ℕ) (bytes : List ℕ) (stop : Stop ImageFault)
    → Fails (image_header image bytes) stop → Fails (later_image width height image bytes) stop
unfolding later_image
later_passed width height image bytes stop says =
    passed (image_header image bytes) (λ header. later_fits width height image header >>= λ fits.
    texels_behind image header bytes) stop says
