-- The raster after a header.
use Rattle.std.proofs.Common.{◌≡◌, ℕ, ◌+◌, ◌<◌, ◌≤◌, List, [], length, take, drop, Option, Some, None, Ok, Err, ◌++◌, refl, sym, ◌∙◌, ap, arith, append_assoc, length-append, length-drop}
use Rattle.std.proofs.lemmas.Bool.{le-ltb, lt-ltb}
use Rattle.std.proofs.lemmas.List.{drop-append-le, take-append-le, length-take-le, append-nil}
use Rattle.std.proofs.Math.Seq.{take-append_seam, drop-append_seam}
use Rattle.pam_header.specs.declared.header.PamHeader.{PamHeader}
use Rattle.pam_header.specs.declared.fault.ImageFault.TheVariants.{Truncated}
use Rattle.tex_shelf.specs.Files.{with_front, emptied}
use Rattle.tex_shelf.specs.Taking.{IsTaken}
use Rattle.tex_shelf.proofs.TakingLemmas.{told}
use Rattle.tex_shelf.proofs.FilesLemmas.{with_front-with_front}
use Rattle.pam_image.specs.Reading.{raster_size, raster_of}
use Rattle.pam_image.specs.Steps.{IsRaster}

-- a raster inside the bytes that were taken ahead
raster_of-inside : (image : ℕ) (header : PamHeader) (front rest : List ℕ)
    → header.size ≤ length front → raster_size header ≤ length (drop header.size front)
    → raster_of image header (front ++ rest)
    ≡ Ok (record {
      bytes = take (raster_size header) (drop header.size front);
      rest = drop (raster_size header) (drop header.size front) ++ rest;
    })
unfolding raster_of
raster_of-inside image header front rest inside enough =
    let start : List ℕ = drop header.size front in
    let n : ℕ = raster_size header in
    let behind : drop header.size (front ++ rest) ≡ start ++ rest =
    drop-append-le header.size front rest inside in
    let long : header.size + n ≤ length (front ++ rest) =
    omega (arith, length-append front rest, length-drop header.size front) in
    rw (
      le-ltb (length (front ++ rest)) (header.size + n) long,
      behind,
      take-append-le n start rest
          enough,
      drop-append-le n start rest enough,
    ) refl

-- a raster that begins in the bytes that were taken ahead and ends in further bytes
pub raster_of-taken : (image : ℕ) (header : PamHeader) (front more rest : List ℕ)
    → header.size ≤ length front → length (drop header.size front ++ more) ≡ raster_size header
    → raster_of image header (front ++ (more ++ rest))
    ≡ Ok (record { bytes = drop header.size front ++ more; rest = rest })
unfolding raster_of
raster_of-taken image header front more rest inside whole =
    let start : List ℕ = drop header.size front in
    let behind : drop header.size (front ++ (more ++ rest)) ≡ (start ++ more) ++ rest =
    drop-append-le header.size front (more ++ rest) inside ∙ sym (append_assoc start more rest)
    in
    let long : header.size + length (start ++ more) ≤ length (front ++ (more ++ rest)) =
    omega (
      arith,
      length-append front (more ++ rest),
      length-append more rest,
      length-append start
          more,
      length-drop header.size front,
    )
    in
    rw (
      ← whole,
      le-ltb (length (front ++ (more ++ rest))) (header.size + length (start ++ more))
          long,
      behind,
      take-append_seam (start ++ more) rest,
      drop-append_seam
          (start ++ more) rest,
    ) refl

-- a raster that is truncated
raster_of-short : (image : ℕ) (header : PamHeader) (front more : List ℕ)
    → header.size ≤ length front
    → length (drop header.size front) + length more < raster_size header
    → raster_of image header (front ++ more) ≡ Err (Truncated image (length front + length more))
unfolding raster_of
raster_of-short image header front more inside few =
    let short : length (front ++ more) < header.size + raster_size header =
    omega (arith, length-append front more, length-drop header.size front) in
    rw (
      lt-ltb (length (front ++ more)) (header.size + raster_size header) short,
      length-append
          front more,
    ) refl

pub inside_is : (image : ℕ) (header : PamHeader) (front start before after ahead input : List ℕ)
    (left : Option (List ℕ)) → start ≡ drop header.size front → header.size ≤ length front
    → raster_size header ≤ length start → after ≡ before ++ take (raster_size header) start → ahead
    ≡ drop (raster_size header) start → with_front front left ≡ Some input
    → (rest : List ℕ) × (left ≡ Some rest)
    × ((raster : List ℕ) × IsRaster image header input before after ahead rest raster)
inside_is image header front start before after ahead input left is inside enough appended behind
    e =
    let t = told front left input e in (
      t.0,
      t.1,
      (
        take (raster_size header) start,
        record {
          read = ap (raster_of image header) (sym t.2)
              ∙ raster_of-inside image header front t.0 inside (rw is at enough)
              ∙ rw (behind, is) refl;
          full = length-take-le (raster_size header) start enough;
          appended = appended;
        },
      ),
    )

-- what was moved to the end of these bytes
moved_these : (front : List ℕ) (old new : Option (List ℕ)) (input : List ℕ) → with_front front old
    ≡ Some input → (these : List ℕ) → old ≡ with_front these new
    → (rest : List ℕ) × (new ≡ Some rest) × (input ≡ front ++ (these ++ rest))
moved_these front old None input told these taken = absurd (cc (rw taken at told))
moved_these front old (Some rest) input told these taken = (rest, refl, sym (cc (rw taken at told)))

pub taken_is : (image : ℕ) (header : PamHeader)
    (front start before middle after ahead these input : List ℕ) (old new : Option (List ℕ))
    (wanted n : ℕ) → start ≡ drop header.size front → header.size ≤ length front
    → middle ≡ before ++ start → IsTaken wanted n these old new → after ≡ middle ++ these
    → length start + n ≡ raster_size header → ahead ≡ [] → with_front front old ≡ Some input
    → (rest : List ℕ) × (new ≡ Some rest)
    × ((raster : List ℕ) × IsRaster image header input before after ahead rest raster)
taken_is image header front start before middle after ahead these input old new wanted n is inside
    begins taken moved whole none told =
    let t = moved_these front old new input told these taken.front in
    let full : length (start ++ these) ≡ raster_size header =
    omega (arith, taken.count, length-append start these) in (
      t.0,
      t.1,
      (
        start ++ these,
        record {
          read = ap (raster_of image header) t.2
              ∙ raster_of-taken image header front these t.0 inside
              (ap (λ xs. length (xs ++ these)) (sym is) ∙ full) ∙ rw (is, none) refl;
          full = full;
          appended = moved ∙ ap (λ xs. xs ++ these) begins ∙ append_assoc before start these;
        },
      ),
    )

pub short_is : (image : ℕ) (header : PamHeader) (front start these input : List ℕ)
    (old new : Option (List ℕ)) (wanted n : ℕ) → start ≡ drop header.size front
    → header.size ≤ length front
    → IsTaken wanted n these old new → length start + n < raster_size header → new ≡ emptied new
    → with_front front old ≡ Some input
    → raster_of image header input ≡ Err (Truncated image (length front + n))
short_is image header front start these input old new wanted n is inside taken few ended told =
    let t = moved_these front old new input told these taken.front in
    let none : t.0 ≡ [] = (cc (ended, t.1)) in
    let whole : input ≡ front ++ these = t.2 ∙ ap (λ xs. front ++ (these ++ xs)) none
    ∙ ap (λ xs. front ++ xs) (append-nil these) in
    let less : length (drop header.size front) + length these < raster_size header =
    omega (arith, taken.count, ap length is) in
    ap (raster_of image header) whole ∙ raster_of-short image header front these inside less
    ∙ ap (λ k. Err (Truncated image (length front + k))) taken.count

-- the bytes before and the bytes taken are the start of the input
pub front_taken : (before after these : List ℕ) (old new : Option (List ℕ)) (wanted n : ℕ)
    → IsTaken wanted n these old new → after ≡ before ++ these → with_front before old
    ≡ with_front after new
front_taken before after these old new wanted n taken moved =
    ap (with_front before) taken.front ∙ with_front-with_front before these new
    ∙ ap (λ xs. with_front xs new) (sym moved)
