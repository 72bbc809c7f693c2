use Rattle.candidates.proofs.LegalLaws.{candidate-legal}
use Rattle.candidates.proofs.laws.candidates_are_legal.Goals as goal

pub returns : goal.returns
returns c = candidate-legal
