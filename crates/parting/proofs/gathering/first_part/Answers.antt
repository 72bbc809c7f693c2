use Rattle.std.proofs.Common.{◌≡◌, Ok, Err, sym, subst, ◌∙◌, ap, arith}
use Rattle.astc_words.specs.Commands.{texts}
use Rattle.parting.specs.Joins.{gathered_none, with_part}
use Rattle.parting.specs.Gathering.{seen, AreSlots}
use Rattle.packed_levels.proofs.PuttingLaws.{err-is}
use Rattle.parting.proofs.GatherLaws.{name-there, first-stops, first-ok, first-err, none-is, none-are}
use Rattle.parting.proofs.gathering.first_part.Goals as goal

pub returns-in_err-part-clause-gathers : goal.returns-in_err-part-clause-gathers
returns-in_err-part-clause-gathers g c =
    let inputs = c.args.inputs.now in
    let here = name-there inputs 0 (omega (arith, c.requires.some)) c.index-inputs-0.is
    c.as_str.ensures.value in
    rw (err-is c.from_residual.result _ c.from_residual.ensures.1)
    (first-stops (texts inputs) (g.S.Shelf.files c.args.shelf.now) c.as_str.result.now _ _
    c.in_err-part.field-0.0 here c.in_err-part.ensures.loads)

pub add_part-requires-clause-slots : goal.add_part-requires-clause-slots
add_part-requires-clause-slots g c =
    let same = none-is c.front-front.result c.in_ok-empty_slots.field-0.items
    c.in_ok-empty_slots.ensures ∙ ap gathered_none c.front-front.ensures.same in
    subst AreSlots (sym same) (none-are c.in_ok-part.part c.in_ok-part.ensures.valid)

pub returns-in-Ok-clause-gathers : goal.returns-in-Ok-clause-gathers
returns-in-Ok-clause-gathers g c =
    let inputs = c.args.inputs.now in
    let here = name-there inputs 0 (omega (arith, c.requires.some)) c.index-inputs-0.is
    c.as_str.ensures.value in
    let same = none-is c.front-front.result c.in_ok-empty_slots.field-0.items
    c.in_ok-empty_slots.ensures ∙ ap gathered_none c.front-front.ensures.same in
    first-ok (texts inputs) (g.S.Shelf.files c.args.shelf.now) c.as_str.result.now
    (seen c.add_part.new.parts) c.in_ok-part.part here c.in_ok-part.ensures.loads
    (subst (λ gathered. with_part 2 gathered c.in_ok-part.part ≡ Ok (seen c.add_part.new.parts))
    same c.in-Ok.ensures.changes)

pub returns-in-Err-clause-gathers : goal.returns-in-Err-clause-gathers
returns-in-Err-clause-gathers g c =
    let inputs = c.args.inputs.now in
    let here = name-there inputs 0 (omega (arith, c.requires.some)) c.index-inputs-0.is
    c.as_str.ensures.value in
    let same = none-is c.front-front.result c.in_ok-empty_slots.field-0.items
    c.in_ok-empty_slots.ensures ∙ ap gathered_none c.front-front.ensures.same in
    first-err (texts inputs) (g.S.Shelf.files c.args.shelf.now) c.as_str.result.now
    c.in_ok-part.part c.in-Err.fault here c.in_ok-part.ensures.loads
    (subst (λ gathered. with_part 2 gathered c.in_ok-part.part ≡ Err c.in-Err.fault) same
    c.in-Err.ensures.changes)
