use Rattle.astc_words.specs.Weights.{weighting}
use Rattle.astc_words.proofs.WordLaws.{found}
use Rattle.astc_words.proofs.numbers.weighting.Goals as goal

pub returns : goal.returns
unfolding weighting
returns c = found c.new.result _ _ c.new.ensures.listed c.new.ensures.same
