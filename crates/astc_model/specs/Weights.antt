-- The channel weights of the error.
use Rattle.std.specs.Prelude.{ℕ, Bool, ◌&&◌, nat_le, nat_lt, List, [], ◌∷◌}
use Rattle.std.specs.List.{list_all, list_any}

-- the weights of red, green, blue and alpha
abbrev pub Weighting : Type 0
Weighting = List ℕ

-- the weight 1 for each channel
abbrev pub even_weights : Weighting
even_weights = 1 ∷ 1 ∷ 1 ∷ 1 ∷ []

-- whether each weight is at most 15 and not all are 0
abbrev pub is_weighting : Weighting → Bool
is_weighting weights = list_all (λ weight. nat_le weight 15) weights
    && list_any (λ weight. nat_lt 0 weight) weights
