use Rattle.tex_shelf.proofs.LogLemmas.{extended_target}
use Rattle.tex_shelf.proofs.folder.extend.Goals as goal

pub returns-in_ok-extend_from_slice-clause-ok : goal.returns-in_ok-extend_from_slice-clause-ok
returns-in_ok-extend_from_slice-clause-ok c =
    λ log. extended_target c.args.target.now log c.in-Some.entry c.extend_from_slice.new.self.items
    c.args.piece.now c.in-Some.is c.in_ok-extend_from_slice.ensures.items
