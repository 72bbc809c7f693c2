-- The fourteen footprints of two dimensions
-- (Khronos Data Format Specification, ASTC, "LDR and HDR Modes" and the table of footprints).
use Rattle.std.specs.Prelude.{ℕ, Bool, ◌&&◌, ◌==◌, List, [], ◌∷◌}
use Rattle.std.specs.List.{list_any}

-- the sides, width and height, in the order of the formats' numbers
abbrev pub footprint_sides : List (ℕ × ℕ)
footprint_sides =
    (4, 4) ∷ (5, 4) ∷ (5, 5) ∷ (6, 5) ∷ (6, 6) ∷ (8, 5) ∷ (8, 6) ∷ (8, 8)
    ∷ (10, 5) ∷ (10, 6) ∷ (10, 8) ∷ (10, 10) ∷ (12, 10) ∷ (12, 12) ∷ []

-- whether w by h is a footprint
abbrev pub is_footprint : ℕ → ℕ → Bool
is_footprint w h = list_any (λ sides. sides.0 == w && sides.1 == h) footprint_sides
