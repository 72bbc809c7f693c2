-- Which image a fault is of, and when it is seen.
use Rattle.std.specs.Prelude.{◌≡◌, ℕ, Bool, true, false}
use Rattle.pam_header.specs.declared.fault.ImageFault.{ImageFault}
use Rattle.pam_header.specs.declared.fault.ImageFault.TheVariants.{NotPam, HeaderTooLong, UnknownLine, RepeatedLine, BadNumber, MissingLine, MaxvalNot255, BadDepth, BadSides, WrongSides, NotSquare, TooManyTexels, SizesDiffer, Truncated, FewImages, TrailingBytes}
use Rattle.pam_header.specs.declared.header.LineVerdict.{LineVerdict}
use Rattle.pam_header.specs.declared.header.LineVerdict.TheVariants.{Going, Ended, Faulty as IsFaulty}
use Rattle.pam_header.specs.declared.header.Ending.{Ending}
use Rattle.pam_header.specs.declared.header.Ending.TheVariants.{Whole, Faulty, Unfinished}

-- which image a fault is of; those without an image's number count as of image 0
abbrev pub image_at : ImageFault → ℕ
image_at (NotPam image) = image
image_at (HeaderTooLong image) = image
image_at (UnknownLine image line) = image
image_at (RepeatedLine image line) = image
image_at (BadNumber image line) = image
image_at (MissingLine image name) = image
image_at (MaxvalNot255 image n) = image
image_at (BadDepth image n) = image
image_at (BadSides image w h) = image
image_at (WrongSides w h) = 0
image_at (NotSquare w h) = 0
image_at (TooManyTexels n) = 0
image_at (SizesDiffer image) = image
image_at (Truncated image n) = image
image_at (FewImages n) = n
image_at TrailingBytes = 0

-- whether a fault is one of a header, or of a header that does not fit the request
abbrev pub is_early : ImageFault → Bool
is_early (Truncated image n) = false
is_early (FewImages n) = false
is_early TrailingBytes = false
is_early fault = true

-- a verdict's fault is of this image
abbrev pub JudgesImage : ℕ → LineVerdict → Type 0
JudgesImage image (Going seen) = Unit {0}
JudgesImage image Ended = Unit {0}
JudgesImage image (IsFaulty fault) = image_at fault ≡ image

-- and an ending's
abbrev pub EndsImage : ℕ → Ending → Type 0
EndsImage image (Whole found) = Unit {0}
EndsImage image (Faulty fault) = image_at fault ≡ image
EndsImage image Unfinished = Unit {0}
