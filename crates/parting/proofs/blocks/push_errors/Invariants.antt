use Rattle.std.proofs.Common.{◌≡◌, ◌++◌, map, take}
use Rattle.part_file.specs.Pieces.{error_of}
use Rattle.parting.proofs.blocks.push_errors.Given as goal

abbrev pub invariant-loop-piece : goal.invariant-loop-piece
invariant-loop-piece l = l.errors.items ≡ l.fn.errors.items ++ map error_of
    (take l.piece-index l.pieces)
