use Rattle.std.specs.List.{AllByRecursion}
use Rattle.tex_shelf.specs.Frames.{OnlyReads}
use Rattle.astc_words.specs.Commands.{texts}
use Rattle.parting.specs.Gathering.{seen, AreSlots, AreGathered}
use Rattle.parting.proofs.gathering.other_parts.Given as goal

abbrev pub invariant-loop-k : goal.invariant-loop-k
invariant-loop-k g l = record {
  so_far : AreGathered (texts l.inputs) (g.S.Shelf.files l.shelf) l.k (seen l.parts);
  slots : AreSlots (seen l.parts);
  can_open : AllByRecursion (g.S.Shelf.can_open l.shelf) (texts l.inputs);
  rest : OnlyReads g.S.Shelf l.fn.shelf l.shelf;
}
