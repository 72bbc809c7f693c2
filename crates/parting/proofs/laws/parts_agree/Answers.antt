use Rattle.parting.proofs.TogetherLaws.{agree}
use Rattle.parting.proofs.laws.parts_agree.Goals as goal

pub returns : goal.returns
returns c = agree
