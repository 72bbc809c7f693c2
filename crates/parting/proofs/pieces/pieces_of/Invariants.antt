use Rattle.std.proofs.Common.{◌≡◌, take}
use Rattle.parting.specs.Parts.{pieces_of}
use Rattle.parting.proofs.pieces.pieces_of.Given as goal

abbrev pub invariant-loop-k : goal.invariant-loop-k
invariant-loop-k l = l.pieces.items ≡ pieces_of (take l.k l.blocks) (take l.k l.errors)
