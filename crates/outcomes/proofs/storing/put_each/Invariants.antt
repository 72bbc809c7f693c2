use Rattle.std.proofs.Common.{◌≡◌, take}
use Rattle.tex_shelf.specs.Files.{with_more}
use Rattle.tex_shelf.specs.Frames.{OnlyWrites}
use Rattle.outcomes.specs.Causes.{joined}
use Rattle.outcomes.proofs.storing.put_each.Given as goal

abbrev pub invariant-loop-k : goal.invariant-loop-k
invariant-loop-k g l = record {
  files : g.S.Shelf.files l.shelf ≡ with_more (g.S.Shelf.files l.initial.shelf)
      (g.S.Shelf.target l.initial.shelf) (joined (take l.k l.pieces));
  target : g.S.Shelf.target l.shelf ≡ g.S.Shelf.target l.initial.shelf;
  rest : OnlyWrites g.S.Shelf l.initial.shelf l.shelf;
}
