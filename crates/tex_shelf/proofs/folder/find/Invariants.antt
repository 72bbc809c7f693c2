use Rattle.std.proofs.Common.{◌≡◌}
use Rattle.std.specs.VecDeque.Iter.{deque_iter_rest}
use Rattle.tex_shelf.specs.Files.{file_at}
use Rattle.tex_shelf.specs.Log.{filed}
use Rattle.tex_shelf.proofs.folder.find.Given as goal

abbrev pub invariant-loop-entry : goal.invariant-loop-entry
invariant-loop-entry l = file_at (filed l.log.items) l.name
    ≡ file_at (filed (deque_iter_rest l.entry-iterator)) l.name
