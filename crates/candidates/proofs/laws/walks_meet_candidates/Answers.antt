use Rattle.candidates.proofs.WalkLaws.{none_listed, none_walked}
use Rattle.candidates.proofs.laws.walks_meet_candidates.Goals as goal

pub returns-clause-all : goal.returns-clause-all
returns-clause-all c = none_listed

pub returns-clause-only : goal.returns-clause-only
returns-clause-only c = none_walked
