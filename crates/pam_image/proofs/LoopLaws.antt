-- Later images one after another, as a loop reads them.
use Rattle.std.proofs.Common.{Bool, true, false, cond, ◌≡◌, ℕ, suc, ◌+◌, ◌-◌, List, [], length, drop, Option, Some, None, Result, Ok, Err, ◌++◌, refl, sym, ◌∙◌, ap, append_assoc, add-one}
use Rattle.pam_header.specs.declared.fault.ImageFault.{ImageFault}
use Rattle.pam_header.specs.declared.header.PamHeader.{PamHeader}
use Rattle.pam_header.specs.Headers.{◌>>=◌}
use Rattle.tex_shelf.specs.declared.stop.Stop.{Stop}
use Rattle.pam_image.specs.Reading.{image_header, raster_size, raster_of, Taken, texels_behind, later_image, later_images, ended}
use Rattle.tex_shelf.specs.Stops.{Fails, IsEarly}
use Rattle.tex_shelf.proofs.StopLemmas.{fails_as}
use Rattle.pam_header.specs.Headers.{header_most}
use Rattle.pam_image.specs.Steps.{from_image, behind_header, AnswersWith, IsOfImage, Suits}
use Rattle.pam_header.specs.Faults.{image_at, is_early}
use Rattle.pam_header.specs.declared.fault.ImageFault.TheVariants.{Truncated}
use Rattle.tex_shelf.specs.declared.stop.Stop.TheVariants.{Fault, ReadFault, NoMemory}
use Rattle.std.specs.Prelude.{nat_lt}
use Rattle.std.proofs.lemmas.List.{append-nil}
use Rattle.pam_image.specs.Reading.{later_fits, widened, first_fits, first_header, images_of, Reads, IsWanted}
use Rattle.pam_image.specs.declared.want.Want.{Want}
use Rattle.images.specs.Pictures.{Pictures, texels_of}

-- an answer without a stop
abbrev pub Unchanged : Result ℕ (Stop ImageFault)
Unchanged = Ok 0

-- what was read before, and what is still read
abbrev pub prefixed : List ℕ → Result (List ℕ) ImageFault → Result (List ℕ) ImageFault
prefixed front read = read >>= λ more. Ok (front ++ more)

-- After some images of the n that begin with these bytes, with image number `image` at the start of
-- the rest and this number of images to come: the texels have grown by those that were read, and
-- the rest gives the rest of the result.
pub record ReachesWith (width height n : ℕ) (bytes texels : List ℕ) (image to_come : ℕ)
    (left : Option (List ℕ)) (now : List ℕ) (current more : List ℕ) : Type 0 where
  pub left_is : left ≡ Some current
  pub texels_are : now ≡ texels ++ more
  pub answer : prefixed more (later_images width height image to_come current)
      ≡ later_images width height 1 n bytes
  pub place : (whole : List ℕ) → from_image 1 whole ≡ bytes → from_image image whole ≡ current

abbrev pub Reaches : ℕ → ℕ → ℕ → List ℕ → List ℕ → ℕ → ℕ → Option (List ℕ) → List ℕ → Type 0
Reaches width height n bytes texels image to_come left now =
    (current : List ℕ) × (more : List ℕ)
    × ReachesWith width height n bytes texels image to_come left now current more

-- the value of a step that went well
bind_ok : {A B : Type 0} (r : Result A ImageFault) (f : A → Result B ImageFault) (y : B) → (r >>= f)
    ≡ Ok y → (x : A) × (r ≡ Ok x) × (f x ≡ Ok y)
bind_ok (Ok x) f y e = (x, refl, e)
bind_ok (Err d) f y e = absurd (cc)

guard_ok : {A : Type 0} (b : Bool) (d : ImageFault) (x y : A) → cond b (Err d) (Ok x) ≡ Ok y → x ≡ y
guard_ok true d x y e = absurd (cc)
guard_ok false d x y e = (cc)

raster_of-rest : (image : ℕ) (header : PamHeader) (bytes : List ℕ) (picture : Taken)
    → raster_of image header bytes ≡ Ok picture
    → drop (raster_size header) (drop header.size bytes) ≡ picture.rest
unfolding raster_of
raster_of-rest image header bytes picture e =
    ap (λ (p : Taken). p.rest) (guard_ok (nat_lt (length bytes) (header.size + raster_size header))
    (Truncated image (length bytes)) _ picture e)

texels_behind-rest : (image : ℕ) (header : PamHeader) (bytes : List ℕ) (picture : Taken)
    → texels_behind image header bytes ≡ Ok picture
    → drop (raster_size header) (drop header.size bytes) ≡ picture.rest
unfolding texels_behind
texels_behind-rest image header bytes picture e =
    let a = bind_ok (raster_of image header bytes)
    (λ p. Ok (record { bytes = widened header.depth p.bytes; rest = p.rest })) picture e in
    let same : a.0.rest ≡ picture.rest = (cc a.2) in
    raster_of-rest image header bytes a.0 a.1 ∙ same

-- what follows an image that was read
later_behind : (width height image : ℕ) (bytes : List ℕ) (picture : Taken)
    → later_image width height image bytes ≡ Ok picture
    → behind_header (image_header image bytes) bytes ≡ picture.rest
unfolding later_image
later_behind width height image bytes picture e =
    let a = bind_ok (image_header image bytes)
    (λ header. later_fits width height image header >>= λ fits.
    texels_behind image header bytes) picture e in
    let b = bind_ok (later_fits width height image a.0) (λ fits. texels_behind image a.0 bytes)
    picture a.2 in
    rw a.1 (texels_behind-rest image a.0 bytes picture b.2)

regroup : (front a : List ℕ) (read : Result (List ℕ) ImageFault)
    → prefixed front (read >>= λ more. Ok (a ++ more)) ≡ prefixed (front ++ a) read
regroup front a (Ok more) = ap Ok (sym (append_assoc front a more))
regroup front a (Err fault) = refl

pub reaches_on : (width height n : ℕ) (bytes texels : List ℕ) (image to_come less : ℕ)
    (left : Option (List ℕ)) (now current so_far : List ℕ)
    → ReachesWith width height n bytes texels image to_come left now current so_far → to_come
    ≡ suc less
    → (next more : List ℕ) → later_image width height image current
    ≡ Ok (record { bytes = more; rest = next })
    → (after : Option (List ℕ)) (later : List ℕ) → after ≡ Some next → later ≡ now ++ more
    → Reaches width height n bytes texels (image + 1) less after later
reaches_on width height n bytes texels image to_come less left now current so_far reached count next
    more e after later told grown = (
      next,
      so_far ++ more,
      record {
        left_is = told;
        texels_are = grown ∙ ap (λ xs. xs ++ more) reached.texels_are
            ∙ append_assoc texels so_far more;
        answer = sym (regroup so_far more (later_images width height (image + 1) less next))
            ∙ sym (rw (count, e) refl)
            ∙ reached.answer;
        place = λ whole start. rw (add-one image)
            (ap (λ xs. behind_header (image_header image xs) xs)
            (reached.place whole start) ∙ later_behind width height image current _ e);
      },
    )

pub reaches_fails : (width height n : ℕ) (bytes texels : List ℕ) (image to_come less : ℕ)
    (left : Option (List ℕ)) (now current so_far : List ℕ) (stop : Stop ImageFault)
    → ReachesWith width height n bytes texels image to_come left now current so_far → to_come
    ≡ suc less
    → Fails (later_image width height image current) stop
    → Fails (later_images width height 1 n bytes) stop
reaches_fails width height n bytes texels image to_come less left now current so_far stop reached
    count says = fails_as (later_image width height image current) _ stop
    (λ fault fails. sym reached.answer ∙ rw (count, fails) refl) says

pub early_of : {X : Type 0} (Y : Type 0) (image shown : ℕ) (whole current rest : List ℕ)
    (r : Result X (Stop ImageFault)) (stop : Stop ImageFault) → shown ≡ image
    → from_image image whole ≡ current
    → IsEarly {X = Y} is_early header_most (λ _. current) rest (Err stop)
    → IsOfImage {X = Y} shown (Err stop) → r ≡ Err stop → IsEarly is_early header_most
    (λ fault. from_image (image_at fault) whole) rest r
early_of Y image shown whole current rest r (Fault fault) same place early of is =
    rw is (λ seen. rw (of, same, place) (early seen))
early_of Y image shown whole current rest r ReadFault same place early of is = rw is tt
early_of Y image shown whole current rest r NoMemory same place early of is = rw is tt

pub reaches_end : {X : Type 0} (width height n : ℕ) (bytes texels : List ℕ) (image to_come : ℕ)
    (left after : Option (List ℕ)) (now current so_far : List ℕ) (r : Result X (Stop ImageFault))
    → ReachesWith width height n bytes texels image to_come left now current so_far → to_come ≡ 0
    → AnswersWith (λ _ rest. (current ≡ []) × (rest ≡ [])) (ended current) after r
    → AnswersWith (λ _ rest. (more : List ℕ) × (later_images width height 1 n bytes ≡ Ok more)
    × (now ≡ texels ++ more) × (rest ≡ [])) (later_images width height 1 n bytes) after r
reaches_end width height n bytes texels image to_come left after now current so_far
    (Ok x) reached count says =
    let whole : prefixed so_far (later_images width height image to_come current) ≡ Ok so_far =
    rw (count, says.2.0) (ap Ok (append-nil so_far))
    in
    (says.0, says.1, (so_far, sym reached.answer ∙ whole, reached.texels_are, says.2.1))
reaches_end width height n bytes texels image to_come left after now current so_far
    (Err stop) reached count says =
    fails_as (ended current) _ stop (λ fault fails. sym reached.answer ∙ rw (count, fails) refl)
    says

-- all images from the first on
pub images_first : (want : Want) (bytes : List ℕ) (stop : Stop ImageFault)
    → Fails (first_header want bytes) stop → Fails (images_of want bytes) stop
unfolding images_of
images_first want bytes stop says = fails_as (first_header want bytes) _ stop
    (λ fault fails. rw fails refl) says

pub images_second : (want : Want) (bytes : List ℕ) (header : PamHeader) (stop : Stop ImageFault)
    → first_header want bytes ≡ Ok header → Fails (texels_behind 0 header bytes) stop
    → Fails (images_of want bytes) stop
unfolding images_of
images_second want bytes header stop e says = fails_as (texels_behind 0 header bytes) _ stop
    (λ fault fails. rw (e, fails) refl) says

pub images_third : (want : Want) (bytes : List ℕ) (header : PamHeader) (picture : Taken)
    (stop : Stop ImageFault) → first_header want bytes ≡ Ok header → texels_behind 0 header bytes
    ≡ Ok picture
    → Fails (later_images header.width header.height 1 (want.count - 1) picture.rest) stop
    → Fails (images_of want bytes) stop
unfolding images_of
images_third want bytes header picture stop e f says =
    fails_as (later_images header.width header.height 1 (want.count - 1) picture.rest) _ stop
    (λ fault fails. rw (e, f, fails) refl) says

pub images_are : (want : Want) (bytes : List ℕ) (header : PamHeader) (picture : Taken)
    (more raster : List ℕ) → first_header want bytes ≡ Ok header → texels_behind 0 header bytes
    ≡ Ok picture
    → later_images header.width header.height 1 (want.count - 1) picture.rest ≡ Ok more → raster
    ≡ picture.bytes ++ more
    → images_of want bytes ≡ Ok
    (record {
      width = header.width;
      height = header.height;
      count = want.count;
      texels = texels_of raster;
    })
unfolding images_of
images_are want bytes header picture more raster e f g same = rw (e, f, g, same) refl

pub first_behind : (want : Want) (bytes : List ℕ) (header : PamHeader) (picture : Taken)
    → first_header want bytes ≡ Ok header → texels_behind 0 header bytes ≡ Ok picture
    → behind_header (image_header 0 bytes) bytes ≡ picture.rest
unfolding first_header
first_behind want bytes header picture e f =
    let a = bind_ok (image_header 0 bytes) (λ h. first_fits want h >>= λ fits. Ok h) header e in
    let b = bind_ok (first_fits want a.0) (λ fits. Ok a.0) header a.2 in
    let same : a.0 ≡ header = (cc b.2) in
    rw (a.1, same) (texels_behind-rest 0 header bytes picture f)

-- a statement about known inputs holds for any input
pub reads_of : (want : Want) (left after : Option (List ℕ)) (r : Result Pictures (Stop ImageFault))
    → ((bytes : List ℕ) → left ≡ Some bytes
    → AnswersWith (λ images rest. (images_of want bytes ≡ Ok images) × (rest ≡ []))
    (images_of want bytes) after r) → Reads want left after r
reads_of want None after r says = tt
reads_of want (Some bytes) after (Ok images) says = let s = says bytes refl in
    (s.2.0, s.1 ∙ ap Some s.2.1)
reads_of want (Some bytes) after (Err stop) says = says bytes refl

-- images with a fitting header fit the request
pub wanted_are : (want : Want) (images : Pictures) (width height : ℕ) (texels : List (List ℕ))
    → Suits want width height
    → images ≡ record { width = width; height = height; count = want.count; texels = texels }
    → IsWanted want images
wanted_are want images width height texels suits is =
    rw is (record {
      count = refl;
      sides = suits.sides;
      square = suits.square;
      not_too_large = suits.not_too_large;
    })
