use Rattle.std.proofs.Common.{Ok, Err}
use Rattle.parting.proofs.GatherLaws.{input-in}
use Rattle.parting.proofs.gathering.load_part.Goals as goal

pub returns-in-Ok-clause-loads : goal.returns-in-Ok-clause-loads
returns-in-Ok-clause-loads g c =
    input-in c.args.word (g.S.Shelf.files c.args.shelf.now) c.args.name.now
    (Ok c.in-Ok.part) c.in-Ok.ensures.loads

pub returns-in-Err-Fault-clause-loads : goal.returns-in-Err-Fault-clause-loads
returns-in-Err-Fault-clause-loads g c =
    input-in c.args.word (g.S.Shelf.files c.args.shelf.now) c.args.name.now
    (Err c.in-Err-Fault.fault) (rw c.in-Err-Fault.field-0-is at c.in-Err-Fault.ensures.loads)
