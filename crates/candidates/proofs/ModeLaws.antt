-- The number of colour integers of a recipe.
use Rattle.std.proofs.Common.{◌≡◌, ℕ, zero, suc, ◌*◌, ◌≤◌, arith, nat_lt, if◌then◌else◌, [], ◌∷◌}
use Rattle.astc_model.specs.declared.recipe.Recipe.{Recipe}
use Rattle.astc_model.specs.Shapes.{colour_count}
use Rattle.astc_model.specs.Endpoints.{endpoint_integers}
use Rattle.astc_model.specs.Candidates.{cems_of}

-- the number of colour integers of partitions with the same endpoint mode
pub count_of_equal : (k cem : ℕ) → k ≤ 4
    → colour_count k (cem ∷ (if nat_lt 1 k then cem else 0) ∷ (if nat_lt 2 k then cem else 0)
    ∷ (if nat_lt 3 k then cem else 0) ∷ []) ≡ k * endpoint_integers cem
count_of_equal zero cem h = omega arith
count_of_equal (suc zero) cem h = omega arith
count_of_equal (suc (suc zero)) cem h = omega arith
count_of_equal (suc (suc (suc zero))) cem h = omega arith
count_of_equal (suc (suc (suc (suc zero)))) cem h = omega arith
count_of_equal (suc (suc (suc (suc (suc n))))) cem h = absurd (omega arith)

pub few_colours : (recipe : Recipe) → recipe.parts ≤ 4
    → colour_count recipe.parts (cems_of recipe) ≤ 18
    → recipe.parts * endpoint_integers recipe.cem ≤ 18
few_colours recipe parts few = rw (count_of_equal recipe.parts recipe.cem parts) at few
