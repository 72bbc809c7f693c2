use Rattle.std.proofs.Common.{None}
use Rattle.outcomes.proofs.EndLaws.{after-reading}
use Rattle.outcomes.proofs.ManyEndLaws.{complete-over, reads-over}
use Rattle.astc_words.specs.Commands.{texts}
use Rattle.parting.specs.Joins.{parts_in, Joins, BeginsJoin}
use Rattle.parting.specs.Gathering.{parts_of}
use Rattle.parting.proofs.joining.join_parts.Goals as goal

pub returns-in-Ok-clause-ends : goal.returns-in-Ok-clause-ends
returns-in-Ok-clause-ends g c =
    let reading = parts_in (texts c.args.inputs.now) in
    let parts = parts_of c.in-Ok.gathered.slots.items in
    complete-over reading Joins BeginsJoin c.args.output.now _ _ None c.join_gathered.result
    (reads-over reading Joins BeginsJoin c.args.output.now _ _ parts c.join_gathered.result
    c.in-Ok.ensures.completes.0
    (after-reading Joins BeginsJoin parts c.args.output.now _ _ _ c.join_gathered.result
    (rw (
      c.gather.ensures.rest.files,
      c.gather.ensures.rest.target,
      c.gather.ensures.rest.write_faults,
    ) at c.join_gathered.ensures.ends)))
