use Rattle.std.proofs.Common.{[], sym, subst}
use Rattle.astc_words.specs.Commands.{texts}
use Rattle.parting.specs.Gathering.{seen}
use Rattle.packed_levels.proofs.PuttingLaws.{err-is}
use Rattle.parting.proofs.GatherLaws.{name-there, all-at, next-stops, step-ok, step-err}
use Rattle.parting.proofs.gathering.next_part.Goals as goal

pub load_part-requires : goal.load_part-requires
load_part-requires g c =
    let inputs = c.args.inputs.now in
    let here = name-there inputs c.args.k c.requires.inside c.index-inputs-k.is
    c.as_str.ensures.value in
    record {
      can_open = subst (λ n. g.S.Shelf.can_open c.args.shelf.now n) (sym here.is)
          (all-at (g.S.Shelf.can_open c.args.shelf.now)
          (texts inputs) c.args.k [] c.requires.can_open here.inside);
    }

pub returns-in_err-part-clause-gathers : goal.returns-in_err-part-clause-gathers
returns-in_err-part-clause-gathers g c =
    let inputs = c.args.inputs.now in
    let here = name-there inputs c.args.k c.requires.inside c.index-inputs-k.is
    c.as_str.ensures.value in
    rw (err-is c.from_residual.result _ c.from_residual.ensures.1)
    (next-stops (texts inputs) (g.S.Shelf.files c.args.shelf.now) c.args.k c.as_str.result.now
    (seen c.args.parts.now) (seen c.args.parts.now) _ _ c.in_err-part.field-0.0 here
    c.requires.so_far c.in_err-part.ensures.loads)

pub returns-in-Ok-clause-gathers : goal.returns-in-Ok-clause-gathers
returns-in-Ok-clause-gathers g c =
    let inputs = c.args.inputs.now in
    let here = name-there inputs c.args.k c.requires.inside c.index-inputs-k.is
    c.as_str.ensures.value in
    step-ok (texts inputs) (g.S.Shelf.files c.args.shelf.now) c.args.k c.as_str.result.now
    (seen c.args.parts.now) (seen c.add_part.new.parts) c.in_ok-part.part here
    c.requires.so_far c.in_ok-part.ensures.loads c.in-Ok.ensures.changes

pub returns-in-Err-clause-gathers : goal.returns-in-Err-clause-gathers
returns-in-Err-clause-gathers g c =
    let inputs = c.args.inputs.now in
    let here = name-there inputs c.args.k c.requires.inside c.index-inputs-k.is
    c.as_str.ensures.value in
    step-err (texts inputs) (g.S.Shelf.files c.args.shelf.now) c.args.k c.as_str.result.now
    (seen c.args.parts.now) c.in_ok-part.part c.in-Err.fault here c.requires.so_far
    c.in_ok-part.ensures.loads c.in-Err.ensures.changes
