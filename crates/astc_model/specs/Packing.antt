-- Numbers that are packed from fields, the lowest first, each with a width in bits.
use Rattle.std.specs.Prelude.{ℕ, ◌+◌, ◌*◌, ◌^◌, ◌<◌, List, [], ◌∷◌}

-- the number whose fields of these widths have these values
unfoldable pub packed : List ℕ → List ℕ → ℕ
packed [] values = 0
packed (width ∷ widths) [] = 0
packed (width ∷ widths) (value ∷ values) = packed widths values * 2 ^ width + value

-- the total width of the fields in bits
abbrev pub total_width : List ℕ → ℕ
total_width [] = 0
total_width (width ∷ widths) = width + total_width widths

-- each value fits its field, and there are as many values as widths
abbrev pub AllFit : List ℕ → List ℕ → Type 0
AllFit [] [] = Unit {0}
AllFit [] (value ∷ values) = ⊥
AllFit (width ∷ widths) [] = ⊥
AllFit (width ∷ widths) (value ∷ values) = (value < 2 ^ width) × AllFit widths values
