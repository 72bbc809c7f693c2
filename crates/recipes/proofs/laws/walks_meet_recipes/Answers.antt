use Rattle.std.specs.Prelude.{IsTrue}
use Rattle.recipes.proofs.WalkLaws.{walk_meets_all, all_meets_walk}
use Rattle.recipes.proofs.laws.walks_meet_recipes.Goals as goal

pub returns-clause-all : goal.returns-clause-all
returns-clause-all c = λ p preset walked. walk_meets_all (λ recipe. IsTrue (p recipe)) preset walked

pub returns-clause-only : goal.returns-clause-only
returns-clause-only c = λ p preset met. all_meets_walk (λ recipe. IsTrue (p recipe)) preset met
