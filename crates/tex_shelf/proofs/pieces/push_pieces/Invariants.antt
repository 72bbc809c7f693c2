use Rattle.std.proofs.Common.{◌≡◌, ◌-◌, ◌*◌, ◌++◌, length}
use Rattle.tex_shelf.specs.Pieces.{pieces_at}
use Rattle.tex_shelf.proofs.pieces.push_pieces.Given as goal

-- the pieces so far left the rest to be added
abbrev pub invariant-loop : goal.invariant-loop
invariant-loop g l = record {
  same : l.pieces.items ++ pieces_at g.row.N (l.count - l.counter) l.rest
      ≡ l.fn.pieces.items ++ pieces_at g.row.N l.count l.bytes;
  size : length l.rest ≡ g.row.N * (l.count - l.counter);
}
