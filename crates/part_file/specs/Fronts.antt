-- The prefix before a part's blocks: the identifier of part files, the header of the whole KTX
-- file, the part's place, the number of parts, and the mark of the job.
use Rattle.std.specs.Prelude.{ℕ, Bool, true, false, ◌&&◌, nat_lt, nat_le, if◌then◌else◌, List, ◌++◌, codes, length, take, drop, Option, None, Some, Result, Ok, Err}
use Rattle.std.specs.Int.{w32, to_le_bytes}
use Rattle.ktx_header.specs.Chaining.{◌>>=◌}
use Rattle.ktx_header.specs.Orders.{number}
use Rattle.ktx_header.specs.Words.{identifier, first_difference}
use Rattle.ktx_header.specs.declared.order.WordOrder.TheVariants.{Little}
use Rattle.texture.specs.declared.shape.Shape.{Shape}
use Rattle.texture.specs.Shapes.{IsValid}
use Rattle.ktx_file.specs.Framing.{header_of}
use Rattle.ktx_file.specs.Headers.{header_in}
use Rattle.part_file.specs.declared.fault.PartFault.TheVariants.{WholeTexture, Picture, ShortData, NoPart, OtherHeader, BadPlace}
use Rattle.part_file.specs.Faults.{PartFault, in_part}
use Rattle.part_file.specs.Marks.{IsMark, mark_bytes, mark_in}
use Rattle.part_file.specs.Ranges.{IsPlace, most_parts}
pub use Rattle.part_file.specs.declared.front.Front.{Front}

-- the legal prefixes
pub record IsFront (front : Front) : Type 0 where
  pub valid : IsValid front.layout
  pub placed : IsPlace front.place front.count
  pub mark : IsMark front.mark

-- the first 16 bytes of a part file
abbrev pub own_identifier : List ℕ
own_identifier = codes "astc_tool part\r\n"

-- the 132 bytes in front of the blocks
unfoldable pub front_of : Front → List ℕ
front_of front = own_identifier ++ header_of front.layout ++ to_le_bytes w32 front.place
    ++ to_le_bytes w32 front.count ++ mark_bytes front.mark

-- no byte differs
abbrev pub is_same : Option ℕ → Bool
is_same None = true
is_same (Some place) = false

-- the second list begins with the whole first list
abbrev pub begins_with : List ℕ → List ℕ → Bool
begins_with text bytes = is_same (first_difference 0 text bytes)

-- it begins neither as a KTX file nor as a PAM image
abbrev pub no_other_file : List ℕ → Result (Unit {0}) PartFault
no_other_file front = if begins_with identifier front then Err WholeTexture else
    (if begins_with (codes "P7\n") front then Err Picture else Ok tt)

-- there are 132 bytes
abbrev pub long_enough : List ℕ → Result (Unit {0}) PartFault
long_enough front = if nat_lt (length front) 132 then Err (ShortData (length front)) else Ok tt

-- the first byte that is not the identifier's, if there is one
abbrev pub identified : Option ℕ → Result (Unit {0}) PartFault
identified None = Ok tt
identified (Some place) = Err (NoPart place)

-- the shape that the first 64 bytes of a header say
unfoldable pub shape_in : List ℕ → Result Shape PartFault
shape_in bytes = in_part (header_in (take 64 bytes)) >>= λ header. Ok header.layout

-- the first byte that is not the header's, if there is one
abbrev pub same_header : Option ℕ → Result (Unit {0}) PartFault
same_header None = Ok tt
same_header (Some place) = Err (OtherHeader place)

-- the place is one of `parts`, which is within the limit
abbrev pub place_fits : ℕ → ℕ → Result (Unit {0}) PartFault
place_fits place count = if nat_lt place count && nat_le count most_parts then Ok tt
    else Err (BadPlace place count)

-- the prefix of a file with these first bytes, 132 at most
unfoldable pub front_in : List ℕ → Result Front PartFault
front_in front = do
  own ← no_other_file front
  long ← long_enough front
  mine ← identified (first_difference 0 own_identifier front)
  shape ← shape_in (drop 16 front)
  same ← same_header (first_difference 16 (header_of shape) (drop 16 front))
  fits ← place_fits (number Little (drop 108 front)) (number Little (drop 112 front))
  Ok (record {
    layout = shape;
    mark = mark_in (drop 116 front);
    place = number Little (drop 108 front);
    count = number Little (drop 112 front);
  })
