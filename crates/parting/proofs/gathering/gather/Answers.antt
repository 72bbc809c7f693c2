use Rattle.std.proofs.Common.{length, Ok, Err}
use Rattle.astc_words.specs.Commands.{texts}
use Rattle.parting.specs.Gathering.{seen, parts_of}
use Rattle.packed_levels.proofs.PuttingLaws.{err-is}
use Rattle.parting.proofs.GatherLaws.{texts-length, all-gathered, are-parts, first-completes, steps-complete}
use Rattle.parting.proofs.gathering.gather.Goals as goal

pub returns-in_err-parts-clause-completes : goal.returns-in_err-parts-clause-completes
returns-in_err-parts-clause-completes g c =
    rw (err-is c.from_residual.result _ c.from_residual.ensures.1)
    (first-completes (texts c.args.inputs.now) (g.S.Shelf.files c.args.shelf.now) 1 _ _
    c.in_err-parts.field-0.0 c.in_err-parts.ensures.gathers)

pub returns-in_err-other_parts-clause-completes : goal.returns-in_err-other_parts-clause-completes
returns-in_err-other_parts-clause-completes g c =
    rw (err-is c.from_residual-in_err-other_parts.result _
    c.from_residual-in_err-other_parts.ensures.1)
    (steps-complete (texts c.args.inputs.now) (g.S.Shelf.files c.args.shelf.now)
    (g.S.Shelf.files c.first_part.new.shelf) (length c.args.inputs.now) _ _ _
    (seen c.other_parts.new.parts) c.in_err-other_parts.field-0.0
    c.first_part.ensures.rest.files c.first_part.ensures.rest.read_faults
    c.in_err-other_parts.ensures.gathers)

pub returns-in-Ok-clause-completes : goal.returns-in-Ok-clause-completes
returns-in-Ok-clause-completes g c =
    let names = texts c.args.inputs.now in
    let parts = c.other_parts.new.parts in
    let all = rw c.as_slice.ensures.value at c.in-Ok.ensures in
    let so_far = rw (c.first_part.ensures.rest.files, ← texts-length c.args.inputs.now)
    at c.in_ok-other_parts.ensures.gathers in (
      all-gathered names (g.S.Shelf.files c.args.shelf.now) (seen parts)
          (Ok (parts_of parts.slots.items)) so_far all,
      are-parts
          (seen parts) c.in_ok-other_parts.ensures.slots all,
    )

pub returns-in-Err-clause-completes : goal.returns-in-Err-clause-completes
returns-in-Err-clause-completes g c =
    let names = texts c.args.inputs.now in
    let parts = c.other_parts.new.parts in
    let all = rw c.as_slice.ensures.value at c.in-Err.ensures in
    let so_far = rw (c.first_part.ensures.rest.files, ← texts-length c.args.inputs.now)
    at c.in_ok-other_parts.ensures.gathers in
    all-gathered names (g.S.Shelf.files c.args.shelf.now) (seen parts)
    (Err c.in-Err.fault) so_far all
