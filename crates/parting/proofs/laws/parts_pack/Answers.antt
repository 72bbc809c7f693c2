use Rattle.parting.proofs.TogetherLaws.{together}
use Rattle.parting.proofs.laws.parts_pack.Goals as goal

pub returns : goal.returns
returns c = together
