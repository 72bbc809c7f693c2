-- The header at the start of an image (Netpbm PAM manual).
use Rattle.std.specs.Prelude.{◌≤◌, ℕ, ◌+◌, nat_le, nat_lt, ◌==◌, ◌&&◌, Bool, false, if◌then◌else◌, List, [], ◌∷◌, length, take, Option, None, Some, Result, Ok, Err}
use Rattle.pam_header.specs.declared.fault.HeaderName.{HeaderName}
use Rattle.pam_header.specs.declared.fault.HeaderName.TheVariants.{Width, Height, Depth, Maxval}
use Rattle.pam_header.specs.declared.fault.ImageFault.{ImageFault}
use Rattle.pam_header.specs.declared.fault.ImageFault.TheVariants.{NotPam, HeaderTooLong, UnknownLine, RepeatedLine, BadNumber, MissingLine, MaxvalNot255, BadDepth, BadSides, Truncated}
use Rattle.pam_header.specs.declared.line.HeaderLine.{HeaderLine}
use Rattle.pam_header.specs.declared.line.HeaderLine.TheVariants.{Passed, End, Field, Unknown}
use Rattle.pam_header.specs.declared.header.SeenNumbers.{SeenNumbers}
use Rattle.pam_header.specs.declared.header.LineVerdict.{LineVerdict}
use Rattle.pam_header.specs.declared.header.LineVerdict.TheVariants.{Going, Ended, Faulty as IsFaulty}
use Rattle.pam_header.specs.declared.header.Ending.{Ending}
use Rattle.pam_header.specs.declared.header.Ending.TheVariants.{Whole, Faulty, Unfinished}
use Rattle.pam_header.specs.declared.header.HeaderFields.{HeaderFields}
use Rattle.pam_header.specs.declared.header.PamHeader.{PamHeader}
use Rattle.pam_header.specs.Text.{lines_of, unblanked}
use Rattle.pam_header.specs.Lines.{line_of}

-- no header has more bytes
abbrev pub header_most : ℕ
header_most = 4096

-- a step, and the next with its value; the first fault is the answer
infixl 10 ◌>>=◌
abbrev pub ◌>>=◌ : {A B : Type 0} → Result A ImageFault → (A → Result B ImageFault)
    → Result B ImageFault
(Ok x) >>= f = f x
(Err e) >>= f = Err e

-- the number that was seen under a name
abbrev pub seen_at : SeenNumbers → HeaderName → Option ℕ
seen_at seen Width = seen.width
seen_at seen Height = seen.height
seen_at seen Depth = seen.depth
seen_at seen Maxval = seen.maxval

-- with this number under a name
abbrev pub with_value : SeenNumbers → HeaderName → ℕ → SeenNumbers
with_value seen Width n = record seen { width = Some n }
with_value seen Height n = record seen { height = Some n }
with_value seen Depth n = record seen { depth = Some n }
with_value seen Maxval n = record seen { maxval = Some n }

-- before the first line
abbrev pub nothing : SeenNumbers
nothing = record { width = None; height = None; depth = None; maxval = None }

-- what a field's line makes of the numbers so far, of which this is the one under its name
abbrev pub field_judged : ℕ → ℕ → SeenNumbers → HeaderName → Option ℕ → Option ℕ → LineVerdict
field_judged image line seen name value (Some before) = IsFaulty (RepeatedLine image line)
field_judged image line seen name None None = IsFaulty (BadNumber image line)
field_judged image line seen name (Some n) None = Going (with_value seen name n)

-- what a line makes of the numbers so far
abbrev pub judged : ℕ → ℕ → SeenNumbers → HeaderLine → LineVerdict
judged image line seen Passed = Going seen
judged image line seen End = Ended
judged image line seen Unknown = IsFaulty (UnknownLine image line)
judged image line seen (Field name value) = field_judged image line seen name value
    (seen_at seen name)

-- the end of the header after a line with this verdict, in a header of this number of bytes up to
-- the end of the line
abbrev pub behind_line : LineVerdict → SeenNumbers → ℕ → (SeenNumbers → Ending) → Ending
behind_line (Going later) seen size further = further later
behind_line Ended seen size further = Whole (record { seen = seen; size = size })
behind_line (IsFaulty fault) seen size further = Faulty fault

-- the lines from this one on, after this number of bytes
abbrev pub header_lines : ℕ → ℕ → ℕ → SeenNumbers → List (List ℕ) → Ending
header_lines image line size seen [] = Unfinished
header_lines image line size seen (text ∷ texts) =
    behind_line (judged image line seen (line_of text)) seen (size + (length text + 1))
    (λ later. header_lines image (line + 1) (size + (length text + 1)) later texts)

-- the image begins with `P7`
abbrev pub begins_as_pam : List ℕ → Bool
begins_as_pam (p ∷ seven ∷ rest) = p == 80 && seven == 55
begins_as_pam bytes = false

-- after these two bytes the first line has only blanks
abbrev pub is_magic : List ℕ → Bool
is_magic (p ∷ seven ∷ rest) = length (unblanked rest) == 0
is_magic text = false

-- the first line, and the lines after it
abbrev pub first_line : ℕ → List (List ℕ) → Ending
first_line image [] = Unfinished
first_line image (text ∷ texts) = if is_magic text then header_lines image 2
    (length text + 1) nothing texts else Faulty (NotPam image)

-- the header that the lines of these bytes are
unfoldable pub header_in : ℕ → List ℕ → Ending
header_in image bytes = if begins_as_pam bytes then first_line image (lines_of bytes) else Faulty
    (NotPam image)

-- the number under a name, which has to be there
abbrev pub present : ℕ → HeaderName → Option ℕ → Result ℕ ImageFault
present image name None = Err (MissingLine image name)
present image name (Some n) = Ok n

-- all four numbers; the first that is missing is the fault
unfoldable pub fields_of : ℕ → SeenNumbers → Result HeaderFields ImageFault
fields_of image seen = do
  width ← present image Width seen.width
  height ← present image Height seen.height
  depth ← present image Depth seen.depth
  maxval ← present image Maxval seen.maxval
  Ok (record { width = width; height = height; depth = depth; maxval = maxval })

-- a side has 1 to 8192 texels
abbrev pub is_side : ℕ → Bool
is_side n = nat_le 1 n && nat_le n 8192

-- the header with these numbers and this number of bytes; MAXVAL is tested first, then DEPTH, then
-- the sides
abbrev pub checked : ℕ → ℕ → HeaderFields → Result PamHeader ImageFault
checked image size fields =
    if fields.maxval == 255
    then (if nat_le 1 fields.depth && nat_le fields.depth 4
    then (if is_side fields.width && is_side fields.height
    then Ok (record {
      width = fields.width;
      height = fields.height;
      depth = fields.depth;
      size = size;
    })
    else Err (BadSides image fields.width fields.height))
    else Err (BadDepth image fields.depth))
    else Err (MaxvalNot255 image fields.maxval)

-- the header from its lines, for an image with this number of bytes
abbrev pub settled : ℕ → ℕ → Ending → Result PamHeader ImageFault
settled image size (Whole found) = fields_of image found.seen >>= checked image found.size
settled image size (Faulty fault) = Err fault
settled image size Unfinished =
    Err (if nat_lt size header_most then Truncated image size else HeaderTooLong image)

-- the header at the start of an image that these bytes are, or begin with
unfoldable pub header_of : ℕ → List ℕ → Result PamHeader ImageFault
header_of image bytes = settled image (length bytes) (header_in image (take header_most bytes))

-- what a header without fault says
pub record IsHeader (header : PamHeader) : Type 0 where
  pub width_some : 1 ≤ header.width
  pub width_most : header.width ≤ 8192
  pub height_some : 1 ≤ header.height
  pub height_most : header.height ≤ 8192
  pub depth_some : 1 ≤ header.depth
  pub depth_most : header.depth ≤ 4

-- a header that was found is no longer than this
abbrev pub IsInside : ℕ → Ending → Type 0
IsInside size (Whole found) = found.size ≤ size
IsInside size (Faulty fault) = Unit {0}
IsInside size Unfinished = Unit {0}
