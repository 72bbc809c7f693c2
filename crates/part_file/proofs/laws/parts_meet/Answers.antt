use Rattle.part_file.proofs.RangeLemmas.{start_first, start_next, start_last, counts_together}
use Rattle.part_file.proofs.laws.parts_meet.Goals as goal

pub returns-clause-first : goal.returns-clause-first
returns-clause-first c = start_first

pub returns-clause-meets : goal.returns-clause-meets
returns-clause-meets c = start_next

pub returns-clause-last : goal.returns-clause-last
returns-clause-last c = start_last

pub returns-clause-together : goal.returns-clause-together
returns-clause-together c = counts_together
