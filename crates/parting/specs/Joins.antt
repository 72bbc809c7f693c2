-- Which parts files are, and what is joined of them.
use Rattle.std.specs.Prelude.{◌≡◌, ◌≤◌, ℕ, ◌+◌, ◌==◌, ◌&&◌, nat_eq, Bool, if◌then◌else◌, List, [], ◌∷◌, length, map, replicate, slice_index_or, slice_set, Option, None, Some, Result, Ok, Err}
use Rattle.std.specs.List.{flat_map}
use lib.Pointwise.{pointwise}
use Rattle.tex_shelf.specs.Files.{Files, file_at}
use Rattle.astc_model.specs.FootprintNames.{gl_of}
use Rattle.texture.specs.declared.shape.Shape.{Shape}
use Rattle.texture.specs.Shapes.{IsValid}
use Rattle.ktx_file.specs.Files.{ktx, ktx_of}
use Rattle.part_file.specs.declared.fault.PartFault.{PartFault}
use Rattle.part_file.specs.declared.mark.JobMark.{JobMark}
use Rattle.part_file.specs.declared.front.Front.{Front}
use Rattle.part_file.specs.Pieces.{block_of, error_of}
use Rattle.part_file.specs.Files.{PartFile, IsPart, part_of}
use Rattle.outcomes.specs.declared.outcome.Outcome.{Outcome}
use Rattle.outcomes.specs.declared.outcome.Outcome.TheVariants.{Done}
use Rattle.packed_levels.specs.Reports.{report_lines}
use Rattle.parting.specs.Numbered.{EachFrom}
use Rattle.parting.specs.declared.fault.JoinFault.{JoinFault}
use Rattle.parting.specs.declared.fault.JoinFault.TheVariants.{NoPart, OtherTexture, SamePlace, MissingPlace}
use Rattle.parting.specs.declared.joining.JoinEnd.{JoinEnd}
use Rattle.parting.specs.declared.joining.JoinEnd.TheVariants.{Refused, Ended}

-- ---- which parts files are

-- the shapes are one, field by field
abbrev pub is_same_shape : Shape → Shape → Bool
is_same_shape a b =
    gl_of a.name a.flavour == gl_of b.name b.flavour && (a.width == b.width && (a.height == b.height
    && (a.elements == b.elements && (a.faces == b.faces && a.levels == b.levels))))

-- the marks are one, number by number
abbrev pub is_same_mark : JobMark → JobMark → Bool
is_same_mark a b = a.preset == b.preset
    && (pointwise nat_eq a.weights b.weights && a.digest == b.digest)

-- the parts so far of one job, each at its place: None if no part has come
pub record Gathered : Type 0 where
  pub shape : Shape
  pub mark : JobMark
  pub slots : List (Option PartFile)

-- none yet, of the job that a part is of
abbrev pub gathered_none : Front → Gathered
gathered_none front = record {
  shape = front.layout;
  mark = front.mark;
  slots = replicate front.count None;
}

-- whether a part belongs to the job whose parts are gathered, by its prefix: its texture has this
-- shape, and it has the job's mark and the same number of parts
abbrev pub is_of : Gathered → Front → Bool
is_of gathered front =
    is_same_shape gathered.shape front.layout
    && (is_same_mark gathered.mark front.mark && length gathered.slots == front.count)

-- with a part at its place, which is still empty
abbrev pub placed : ℕ → Gathered → PartFile → Option PartFile → Result Gathered JoinFault
placed word gathered part None =
    Ok (record gathered { slots = slice_set gathered.slots part.front.place (Some part) })
placed word gathered part (Some other) = Err (SamePlace word part.front.place)

-- with the part of the file of a word
abbrev pub with_part : ℕ → Gathered → PartFile → Result Gathered JoinFault
with_part word gathered part =
    if is_of gathered part.front
    then placed word gathered part (slice_index_or gathered.slots part.front.place None)
    else Err (OtherTexture word)

-- a part in front of the others, if these are all there
abbrev pub with_first : PartFile → Result (List PartFile) JoinFault
    → Result (List PartFile) JoinFault
with_first part (Ok parts) = Ok (part ∷ parts)
with_first part (Err fault) = Err fault

-- the parts from a place on, if none is missing
abbrev pub complete_from : ℕ → List (Option PartFile) → Result (List PartFile) JoinFault
complete_from place [] = Ok []
complete_from place (None ∷ slots) = Err (MissingPlace place)
complete_from place (Some part ∷ slots) = with_first part (complete_from (place + 1) slots)

-- with the part that the file of a word is
abbrev pub with_file : ℕ → Gathered → Result PartFile PartFault → Result Gathered JoinFault
with_file word gathered (Ok part) = with_part word gathered part
with_file word gathered (Err fault) = Err (NoPart word fault)

-- a step, and the next step with the parts gathered so far; the first fault is the result
abbrev pub then_gathered : Result Gathered JoinFault
    → (Gathered → Option (Result (List PartFile) JoinFault))
    → Option (Result (List PartFile) JoinFault)
then_gathered (Ok gathered) next = next gathered
then_gathered (Err fault) next = Some (Err fault)

-- the parts that files are, in the order of their places: those gathered before the word of this
-- number, and the files of the words from it on; None if a file is missing
abbrev pub gathered_from : ℕ → Gathered → List (Option (List ℕ))
    → Option (Result (List PartFile) JoinFault)
gathered_from word gathered [] = Some (complete_from 0 gathered.slots)
gathered_from word gathered (None ∷ files) = None
gathered_from word gathered (Some bytes ∷ files) =
    then_gathered (with_file word gathered (part_of bytes))
    (λ more. gathered_from (word + 1) more files)

-- the first file says which job they are of
abbrev pub first_with : List (Option (List ℕ)) → Result PartFile PartFault
    → Option (Result (List PartFile) JoinFault)
first_with files (Ok part) = then_gathered (with_part 2 (gathered_none part.front) part)
    (λ more. gathered_from 3 more files)
first_with files (Err fault) = Some (Err (NoPart 2 fault))

-- the parts that files are, the first of which is word 2; none without a first file
abbrev pub parts_from : List (Option (List ℕ)) → Option (Result (List PartFile) JoinFault)
parts_from [] = None
parts_from (None ∷ files) = None
parts_from (Some bytes ∷ files) = first_with files (part_of bytes)

-- what the files of these names are as parts of one job; the first name is word 2
unfoldable pub parts_in : List (List ℕ) → Files → Option (Result (List PartFile) JoinFault)
parts_in names files = parts_from (map (file_at files) names)

-- ---- what is joined of them

-- the blocks of parts, one after another, and their errors
abbrev pub blocks_in : List PartFile → List (List ℕ)
blocks_in parts = flat_map (λ part. map block_of part.pieces) parts

abbrev pub errors_in : List PartFile → List ℕ
errors_in parts = flat_map (λ part. map error_of part.pieces) parts

-- a part of a texture of this shape with this mark, at this place among this number of parts
pub record IsPartAt (shape : Shape) (mark : JobMark) (parts place : ℕ)
    (part : PartFile) : Type 0 where
  pub is : IsPart part
  pub front : part.front ≡ record { layout = shape; mark = mark; place = place; count = parts }

-- the parts of a texture of this shape with this mark, all of them in the order of their places
pub record AreParts (shape : Shape) (mark : JobMark) (parts : List PartFile) : Type 0 where
  pub valid : IsValid shape
  pub some : 1 ≤ length parts
  pub each : EachFrom (IsPartAt shape mark (length parts)) 0 parts

-- the texture is the framing of the blocks of the parts in order, which are cut from it again, and
-- the report that of their errors; the parts have one mark
pub record Joins (parts : List PartFile) (file : List ℕ) (lines : List (List ℕ)) : Type 0 where
  pub shape : Shape
  pub mark : JobMark
  pub are : AreParts shape mark parts
  pub framed : file ≡ ktx shape (blocks_in parts)
  pub cut : ktx_of file ≡ Ok (record { shape = shape; blocks = blocks_in parts })
  pub told : lines ≡ report_lines shape (errors_in parts)

-- a prefix of k bytes of the joined file
abbrev pub BeginsJoin : List PartFile → ℕ → List ℕ → Type 0
BeginsJoin parts k file = (lines : List (List ℕ)) × Joins parts file lines

-- ---- how a join ends

-- the fault that an end speaks of
abbrev pub fault_of : JoinEnd → Option JoinFault
fault_of (Refused fault) = Some fault
fault_of (Ended outcome) = None

-- the outcome of an end: Done if a fault refused the parts
abbrev pub outcome_of : JoinEnd → Outcome
outcome_of (Refused fault) = Done
outcome_of (Ended outcome) = outcome
