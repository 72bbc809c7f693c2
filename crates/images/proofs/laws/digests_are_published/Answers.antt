use Rattle.std.proofs.Common.{refl}
use Rattle.images.specs.Digests.{with_bytes}
use Rattle.images.proofs.laws.digests_are_published.Goals as goal

pub returns-clause-none : goal.returns-clause-none
unfolding with_bytes
returns-clause-none c = refl

pub returns-clause-letter : goal.returns-clause-letter
unfolding with_bytes
returns-clause-letter c = refl

pub returns-clause-word : goal.returns-clause-word
unfolding with_bytes
returns-clause-word c = refl
