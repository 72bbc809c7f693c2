-- The places of the points of grids in a table.
use Rattle.std.proofs.Common.{◌≡◌, ℕ, ◌+◌, ◌-◌, ◌*◌, ◌/◌, ◌<◌, ◌≤◌, List, [], ◌∷◌, ◌++◌, get_or, length, length-append, Option, None, refl, ap, subst, sym, ◌∙◌, arith, inl, inr}
use Rattle.std.proofs.lemmas.Bool.{cases_eq}
use Rattle.std.proofs.lemmas.List.{get_or_default, get_or_push, get_or_append_left}
use Rattle.std.proofs.Math.Nat.{mul-le-mul_left}
use Rattle.arrayvec.specs.ArrayVec.{ArrayVec}
use Rattle.astc_model.specs.Places.{Texel}
use Rattle.astc_model.specs.Modes.{IsInModeRange}
use Rattle.astc_model.specs.Shapes.{grid_fault}
use Rattle.astc_model.specs.declared.mode.Mode.{Mode}
use Rattle.block_mode.proofs.ShapeLaws.{IsFittingGrid, grid_fault-none}
use Rattle.candidates.specs.Pieces.{grid_places}
use Rattle.listed_walk.specs.GridTables.{IsGridAt, AreGridsTo, columns_at, grid_at, rows_at}
use Rattle.listed_walk.specs.Grids.{AreGrids}
use Rattle.listed_walk.specs.Origins.{AreOriginsTo}
use Rattle.listed_walk.specs.declared.origins.GridOrigins.{GridOrigins}

points_few : (x planes : ℕ) → 1 ≤ planes → x * planes ≤ 64 → x ≤ 64
points_few x planes some few = omega (arith, mul-le-mul_left x some)

-- the grid of a mode without a fault is in the table
grid_stands : (w h : ℕ) (mode : Mode) → IsInModeRange mode → grid_fault w h mode ≡ None
    → IsGridAt w h ((mode.across - 2) * 11 + (mode.down - 2))
grid_stands w h mode range none =
    let fits : IsFittingGrid w h mode = grid_fault-none w h mode none in
    let columns : columns_at ((mode.across - 2) * 11 + (mode.down - 2)) ≡ mode.across =
    omega (arith, range.some_columns, range.some_rows, range.rows) in
    let rows : rows_at ((mode.across - 2) * 11 + (mode.down - 2)) ≡ mode.down =
    omega (arith, range.some_columns, range.some_rows, range.rows) in
    record {
      columns = rw columns fits.columns;
      rows = rw rows fits.rows;
      points = rw (columns, rows)
          (points_few (mode.across * mode.down) mode.planes range.some_plane fits.few);
    }

pub grid_is : (w h : ℕ) (mode : Mode) (places : List (Option Texel))
    (grids : List (ArrayVec (Option ℕ))) (found : ArrayVec (Option ℕ)) (grid : List (Option ℕ))
    (k : ℕ)
    → IsInModeRange mode → grid_fault w h mode ≡ None → AreGridsTo w h places 121 grids → k
    ≡ (mode.across - 2) * 11 + (mode.down - 2)
    → found ≡ get_or grids k found → grid ≡ found.items → grid
    ≡ grid_places w h mode.across mode.down places
grid_is w h mode places grids found grid k range none are k_is found_is items_are =
    let place : ℕ = (mode.across - 2) * 11 + (mode.down - 2) in
    let columns : columns_at place ≡ mode.across =
    omega (arith, range.some_columns, range.some_rows, range.rows) in
    let rows : rows_at place ≡ mode.down =
    omega (arith, range.some_columns, range.some_rows, range.rows) in
    let below : place < 121 =
    omega (arith, range.some_columns, range.columns, range.some_rows, range.rows) in
    let own : found ≡ get_or grids place (record { items = [] }) =
    found_is ∙ ap (λ i. get_or grids i found) k_is ∙ get_or_default grids place found
    (record { items = [] }) (omega (arith, below, are.all))
    in
    items_are ∙ ap (λ x. x.items) own ∙ are.each place below (grid_stands w h mode range none)
    ∙ rw (columns, rows) refl

-- one more
pub grids_more : (w h : ℕ) (places : List (Option Texel)) (n : ℕ)
    (grids : List (ArrayVec (Option ℕ))) (last : ArrayVec (Option ℕ))
    → AreGridsTo w h places n grids
    → (IsGridAt w h n → last.items ≡ grid_places w h (columns_at n) (rows_at n) places)
    → AreGridsTo w h places (n + 1) (grids ++ last ∷ [])
grids_more w h places n grids last are own = record {
  all = omega (arith, are.all, length-append grids (last ∷ []));
  each = λ k below at. elim (cases_eq k n) [
    | inl same ↦ rw same (ap (λ x. x.items)
        (get_or_push grids last (record { items = [] }) n are.all)
        ∙ own (subst (IsGridAt w h) same at))
    | inr other ↦ ap (λ x. x.items) (get_or_append_left grids (last ∷ []) (record { items = [] }) k
        (omega (arith, are.all))) ∙ are.each k (omega arith) at
  ];
}

-- the origins of weights in a mode's grid
pub origins_are : (w h : ℕ) (mode : Mode) (places : List (Option Texel))
    (grids : List (ArrayVec (Option ℕ))) (table : List GridOrigins) (found : GridOrigins) (k : ℕ)
    → IsInModeRange mode → grid_fault w h mode ≡ None → AreGrids w h places grids table → k
    ≡ (mode.across - 2) * 11 + (mode.down - 2) → k < length table
    → found ≡ get_or table k found → AreOriginsTo w h mode.across mode.down
    (grid_places w h mode.across mode.down places) ((w * h + 3) / 4) found.groups
origins_are w h mode places grids table found k range none are k_is there found_is =
    let place : ℕ = (mode.across - 2) * 11 + (mode.down - 2) in
    let columns : columns_at place ≡ mode.across =
    omega (arith, range.some_columns, range.some_rows, range.rows) in
    let rows : rows_at place ≡ mode.down =
    omega (arith, range.some_columns, range.some_rows, range.rows) in
    let below : place < 121 =
    omega (arith, range.some_columns, range.columns, range.some_rows, range.rows) in
    let within : place < length table = omega (arith, there, k_is) in
    let stands = grid_stands w h mode range none in
    let own : found ≡ get_or table place (record { groups = [] }) =
    found_is ∙ ap (λ i. get_or table i found) k_is ∙ get_or_default table place found
    (record { groups = [] }) within
    in
    subst (λ n. AreOriginsTo w h n mode.down (grid_places w h n mode.down places)
    ((w * h + 3) / 4) found.groups) columns
    (subst (λ m. AreOriginsTo w h (columns_at place) m (grid_places w h (columns_at place) m places)
    ((w * h + 3) / 4) found.groups) rows
    (subst (λ grid. AreOriginsTo w h (columns_at place) (rows_at place) grid
    ((w * h + 3) / 4) found.groups)
    (are.each.each place below stands)
    (subst (λ one. AreOriginsTo w h (columns_at place) (rows_at place) (grid_at grids place)
    ((w * h + 3) / 4) one.groups) (sym own) (are.origins place below within stands))))
