-- The ranges of all decoded block modes.
use Rattle.std.proofs.Common.{◌≡◌, ℕ, zero, suc, ◌<◌, ◌≤◌, Bool, true, ◌&&◌, nat_le, IsTrue, List, [], ◌∷◌, get_or, Option, None, Some, refl, subst, arith}
use Rattle.std.specs.List.{list_all}
use Rattle.astc_model.specs.declared.level.Level.{Level}
use Rattle.astc_model.specs.declared.level.Level.TheVariants.{Two}
use Rattle.std.proofs.lemmas.Bool.{and_parts, leb-true}
use Rattle.astc_model.specs.Levels.{count_of}
use Rattle.astc_model.specs.Sums.{all_below}
use Rattle.astc_model.specs.Modes.{IsInModeRange, weight_levels, last_grid, first_grid, fixed_grid, second_grid, weight_level, bit_beside_grid, first_mode, second_mode, decoded_mode}
use Rattle.astc_model.specs.declared.mode.Mode.{Mode}
use Rattle.astc_model.proofs.SumLaws.{every_below}

abbrev columns_test : Mode → Bool
columns_test row = nat_le 2 row.across && nat_le row.across 12

abbrev rows_test : Mode → Bool
rows_test row = nat_le 2 row.down && nat_le row.down 12

abbrev planes_test : Mode → Bool
planes_test row = nat_le 1 row.planes && nat_le row.planes 2

abbrev row_test : Option Mode → Bool
row_test None = true
row_test (Some row) = columns_test row
    && (rows_test row && (planes_test row && nat_le (count_of row.level) 32))

all_rows : IsTrue (all_below (λ m. row_test (decoded_mode m)) 2048)
unfolding last_grid first_grid fixed_grid second_grid weight_level bit_beside_grid first_mode
    second_mode decoded_mode
all_rows = refl

pub decoded_mode-range : (m : ℕ) (row : Mode) → m < 2048 → decoded_mode m ≡ Some row
    → IsInModeRange row
decoded_mode-range m row small known =
    let here : IsTrue (row_test (decoded_mode m)) =
    every_below (λ i. row_test (decoded_mode i)) 2048 m all_rows small in
    let tested : IsTrue (row_test (Some row)) = subst (λ mode. IsTrue (row_test mode)) known here in
    let t0 = and_parts (columns_test row)
    (rows_test row && (planes_test row && nat_le (count_of row.level) 32)) tested in
    let t1 = and_parts (rows_test row) (planes_test row && nat_le (count_of row.level) 32) t0.1 in
    let t2 = and_parts (planes_test row) (nat_le (count_of row.level) 32) t1.1 in
    let columns = and_parts (nat_le 2 row.across) (nat_le row.across 12) t0.0 in
    let rows = and_parts (nat_le 2 row.down) (nat_le row.down 12) t1.0 in
    let planes = and_parts (nat_le 1 row.planes) (nat_le row.planes 2) t2.0 in
    record {
      some_columns = leb-true 2 row.across columns.0;
      columns = leb-true row.across 12 columns.1;
      some_rows = leb-true 2 row.down rows.0;
      rows = leb-true row.down 12 rows.1;
      levels = leb-true (count_of row.level) 32 t2.1;
      some_plane = leb-true 1 row.planes planes.0;
      two_planes = leb-true row.planes 2 planes.1;
    }

-- the levels of weights have at most 32 values
few_among : (levels : List Level) (k : ℕ) → list_all (λ level. nat_le (count_of level) 32) levels
    ≡ true → count_of (get_or levels k Two) ≤ 32
few_among [] k few = omega arith
few_among (level ∷ levels) zero few =
    leb-true (count_of level) 32
    (and_parts (nat_le (count_of level) 32)
    (list_all (λ other. nat_le (count_of other) 32) levels) few).0
few_among (level ∷ levels) (suc k) few =
    few_among levels k (and_parts (nat_le (count_of level) 32)
    (list_all (λ other. nat_le (count_of other) 32) levels) few).1

pub few_of_weights : (k : ℕ) → count_of (get_or weight_levels k Two) ≤ 32
few_of_weights k = few_among weight_levels k refl
