use Rattle.std.proofs.Common.{◌≡◌, ◌++◌, map, take}
use Rattle.part_file.specs.Pieces.{block_of}
use Rattle.parting.proofs.blocks.push_blocks.Given as goal

abbrev pub invariant-loop-piece : goal.invariant-loop-piece
invariant-loop-piece l = l.blocks.items ≡ l.fn.blocks.items ++ map block_of
    (take l.piece-index l.pieces)
