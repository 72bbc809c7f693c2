-- A part file as a part of a KTX file's blocks and their errors, written, and read from its bytes.
use Rattle.std.specs.Prelude.{ℕ, List, ◌++◌, take, drop, Result, Ok, Err}
use Rattle.std.specs.List.{flat_map}
use Rattle.ktx_header.specs.Chaining.{◌>>=◌}
use Rattle.tex_shelf.specs.declared.pieces.PieceFault.{PieceFault}
use Rattle.tex_shelf.specs.declared.pieces.PieceFault.TheVariants.{ShortData as HasShortData, TrailingBytes as HasTrailingBytes}
use Rattle.tex_shelf.specs.Pieces.{ArePieces, pieces_of}
use Rattle.part_file.specs.declared.fault.PartFault.TheVariants.{ShortData, TrailingBytes}
use Rattle.part_file.specs.Faults.{PartFault}
use Rattle.part_file.specs.Ranges.{part_count}
use Rattle.part_file.specs.Fronts.{Front, IsFront, front_of, front_in}

-- the prefix before the blocks of a part, and these with their errors
pub record PartFile : Type 0 where
  pub front : Front
  pub pieces : List (List ℕ)

-- the number of blocks of the part with a prefix
abbrev pub count_of : Front → ℕ
count_of front = part_count front.layout front.place front.count

-- what a part may be
pub record IsPart (part : PartFile) : Type 0 where
  pub front : IsFront part.front
  pub full : ArePieces 20 (count_of part.front) part.pieces

-- the file of a part: its prefix, and its pieces in order
unfoldable pub part_bytes : PartFile → List ℕ
part_bytes part = front_of part.front ++ flat_map (λ piece. piece) part.pieces

-- a fault of the pieces as one of the file
abbrev pub piece_fault : PieceFault → PartFault
piece_fault (HasShortData n) = ShortData n
piece_fault HasTrailingBytes = TrailingBytes

-- the pieces, with a fault of theirs as one of the file
abbrev pub in_pieces : {A : Type 0} → Result A PieceFault → Result A PartFault
in_pieces (Ok x) = Ok x
in_pieces (Err fault) = Err (piece_fault fault)

-- the part that a file has, or its first fault
unfoldable pub part_of : List ℕ → Result PartFile PartFault
part_of bytes = do
  front ← front_in (take 132 bytes)
  pieces ← in_pieces (pieces_of 20 (count_of front) 132 (drop 132 bytes))
  Ok (record { front = front; pieces = pieces })
