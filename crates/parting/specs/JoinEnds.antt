-- The ends of a join whose parts were not gathered.
use Rattle.tex_shelf.specs.declared.stop.Stop.{Stop}
use Rattle.tex_shelf.specs.declared.stop.Stop.TheVariants.{Fault, ReadFault as HasReadFault, NoMemory}
use Rattle.outcomes.specs.declared.outcome.Outcome.TheVariants.{ReadFault, Memory}
use Rattle.parting.specs.declared.fault.JoinFault.{JoinFault}
use Rattle.parting.specs.declared.joining.JoinEnd.{JoinEnd}
use Rattle.parting.specs.declared.joining.JoinEnd.TheVariants.{Refused, Ended}

-- a fault of the parts is refused, and each other stop is an outcome
abbrev pub join_end : Stop JoinFault → JoinEnd
join_end (Fault fault) = Refused fault
join_end HasReadFault = Ended ReadFault
join_end NoMemory = Ended Memory
