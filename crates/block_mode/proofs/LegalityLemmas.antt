-- The test of legality agrees with the definition, field by field.
use Rattle.std.proofs.Common.{◌≡◌, ℕ, ◌+◌, ◌/◌, ◌^◌, ◌<◌, ◌≤◌, Bool, true, false, ◌&&◌, ◌==◌, nat_lt, nat_le, IsTrue, if◌then◌else◌, List, length, get_or, Option, None, Some, Result, Ok, Err, refl, arith, inl, inr}
use Rattle.std.specs.List.{All, list_all}
use Rattle.std.proofs.lemmas.Bool.{and_parts, lt-ltb, ltb-true, le-ltb, le-leb, leb-true, eq-eqb, eqb-true, eqb-false, cases_lt}
use Rattle.std.proofs.lemmas.List.{get_or_past, get_or_default}
use Rattle.astc_model.specs.declared.level.Level.{Level}
use Rattle.astc_model.specs.declared.block.Block.TheVariants.{Coded}
use Rattle.astc_model.specs.declared.mode.Mode.{Mode}
use Rattle.astc_model.specs.declared.block.BlockFault.{BlockFault}
use Rattle.astc_model.specs.declared.block.Coded.{Coded as CodedFields}
use Rattle.astc_model.specs.declared.block.Constant.{Constant as ConstantFields}
use Rattle.astc_model.specs.Levels.{count_of}
use Rattle.astc_model.specs.Sums.{all_below}
use Rattle.astc_model.specs.Modes.{decoded_mode}
use Rattle.astc_model.specs.Shapes.{weight_count, grid_fault, colour_count, colour_shape}
use Rattle.astc_model.specs.Blocks.{Legal, IsLegalConstant, is_extent_in_order, AreFieldsInRange, IsSelected, AreSparesFixed, IsPlaneOf, IsLegalCoded}
use Rattle.astc_model.proofs.SumLaws.{every_below}
use Rattle.block_mode.proofs.ChangeLaws.{below-from, from-below}
use Rattle.astc_model.specs.Modes.{IsInModeRange}
use Rattle.block_mode.proofs.ModeLaws.{decoded_mode-range}
use Rattle.block_mode.specs.Legality.{is_extent_legal, is_in_range, is_selected, is_mode_legal, is_single_legal, are_spares_fixed, is_plane_of, are_integers_of, are_values_legal, is_legal_on_grid, is_legal_under, is_legal_coded}

-- ---- fields in range

range-from : (coded : CodedFields) → length coded.cems ≡ 4 → IsTrue (is_in_range coded)
    → AreFieldsInRange coded
unfolding is_in_range
range-from coded four h =
    let a : Bool = nat_lt coded.mode 2048 in
    let b : Bool = nat_le 1 coded.parts in
    let c : Bool = nat_le coded.parts 4 in
    let d : Bool = nat_lt coded.seed 1024 in
    let e : Bool = nat_lt coded.selector 4 in
    let f : Bool = list_all (λ cem. nat_lt cem 16) coded.cems in
    let t5 = and_parts ((((a && b) && c) && d) && e) f h in
    let t4 = and_parts (((a && b) && c) && d) e t5.0 in
    let t3 = and_parts ((a && b) && c) d t4.0 in
    let t2 = and_parts (a && b) c t3.0 in
    let t1 = and_parts a b t2.0 in
    record {
      mode_range = ltb-true coded.mode 2048 t1.0;
      some_part = leb-true 1 coded.parts t1.1;
      four_parts = leb-true coded.parts 4 t2.1;
      seed_range = ltb-true coded.seed 1024 t3.1;
      selector_range = ltb-true coded.selector 4 t4.1;
      four_modes = four;
      mode_ranges = below-from 16 coded.cems t5.1;
    }

from-range : (coded : CodedFields) → AreFieldsInRange coded → IsTrue (is_in_range coded)
unfolding is_in_range
from-range coded h =
    rw (
      lt-ltb coded.mode 2048 h.mode_range,
      le-leb 1 coded.parts h.some_part,
      le-leb coded.parts 4
          h.four_parts,
      lt-ltb coded.seed 1024 h.seed_range,
      lt-ltb coded.selector 4
          h.selector_range,
    )
    (from-below 16 coded.cems h.mode_ranges)

-- ---- endpoint modes

abbrev selected_by : Bool → ℕ → ℕ → ℕ → Bool
selected_by none selector first cem = if none then cem == first else nat_le selector (cem / 4 + 1)
    && nat_le (cem / 4) selector

selected-from : (coded : CodedFields) (part : ℕ) (none : Bool) → (coded.selector == 0) ≡ none
    → IsTrue (selected_by none coded.selector (get_or coded.cems 0 0) (get_or coded.cems part 0))
    → IsSelected coded part
selected-from coded part true known h =
    let zero_selector : coded.selector ≡ 0 = eqb-true coded.selector 0 known in
    record {
      same = λ _. eqb-true (get_or coded.cems part 0) (get_or coded.cems 0 0) h;
      low_class = omega arith;
      high_class = λ some. absurd (omega arith);
    }
selected-from coded part false known h =
    let both = and_parts (nat_le coded.selector (get_or coded.cems part 0 / 4 + 1))
    (nat_le (get_or coded.cems part 0 / 4) coded.selector) h in
    record {
      same = λ none. absurd (eqb-false coded.selector 0 known none);
      low_class = leb-true coded.selector (get_or coded.cems part 0 / 4 + 1) both.0;
      high_class = λ some. leb-true (get_or coded.cems part 0 / 4) coded.selector both.1;
    }

from-selected : (coded : CodedFields) (part : ℕ) (none : Bool) → (coded.selector == 0) ≡ none
    → IsSelected coded part
    → IsTrue (selected_by none coded.selector (get_or coded.cems 0 0) (get_or coded.cems part 0))
from-selected coded part true known h = eq-eqb (get_or coded.cems part 0) (get_or coded.cems 0 0)
    (h.same (eqb-true coded.selector 0 known))
from-selected coded part false known h =
    let some : 0 < coded.selector = omega (arith, eqb-false coded.selector 0 known) in
    rw (le-leb coded.selector (get_or coded.cems part 0 / 4 + 1) h.low_class)
    (le-leb (get_or coded.cems part 0 / 4) coded.selector (h.high_class some))

mode-inside : (coded : CodedFields) (part : ℕ) → part < coded.parts
    → IsTrue (is_mode_legal coded part) → IsSelected coded part
unfolding is_mode_legal is_selected
mode-inside coded part below h = selected-from coded part (coded.selector == 0) refl
    (rw (lt-ltb part coded.parts below) at h)

mode-beyond : (coded : CodedFields) (part : ℕ) → coded.parts ≤ part
    → IsTrue (is_mode_legal coded part) → get_or coded.cems part 0 ≡ 0
unfolding is_mode_legal
mode-beyond coded part above h = eqb-true (get_or coded.cems part 0) 0
    (rw (le-ltb part coded.parts above) at h)

from-inside : (coded : CodedFields) (part : ℕ) → part < coded.parts → IsSelected coded part
    → IsTrue (is_mode_legal coded part)
unfolding is_mode_legal is_selected
from-inside coded part below h = rw (lt-ltb part coded.parts below)
    (from-selected coded part (coded.selector == 0) refl h)

from-beyond : (coded : CodedFields) (part : ℕ) → coded.parts ≤ part → get_or coded.cems part 0 ≡ 0
    → IsTrue (is_mode_legal coded part)
unfolding is_mode_legal
from-beyond coded part above h = rw (le-ltb part coded.parts above)
    (eq-eqb (get_or coded.cems part 0) 0 h)

from-mode : (coded : CodedFields) (part : ℕ) → AreSparesFixed coded
    → IsTrue (is_mode_legal coded part)
from-mode coded part h = elim (cases_lt part coded.parts) [
  | inl below ↦ from-inside coded part below (h.selected part below)
  | inr above ↦ from-beyond coded part above (h.no_mode part above)
]

four-from : (p : ℕ → Bool) → IsTrue (p 0) → IsTrue (p 1) → IsTrue (p 2) → IsTrue (p 3)
    → IsTrue (all_below p 4)
four-from p a b c d = rw (a, b, c, d) refl

-- ---- fields that the block does not store

single-from : (one : Bool) (seed selector : ℕ)
    → (if one then (seed == 0) && (selector == 0) else true) ≡ true → one ≡ true → (seed ≡ 0)
    × (selector ≡ 0)
single-from true seed selector h known =
    let both = and_parts (seed == 0) (selector == 0) h in
    (eqb-true seed 0 both.0, eqb-true selector 0 both.1)
single-from false seed selector h known = absurd (cc)

from-single : (one : Bool) (seed selector : ℕ) → (one ≡ true → (seed ≡ 0) × (selector ≡ 0))
    → (if one then (seed == 0) && (selector == 0) else true) ≡ true
from-single true seed selector h = rw (eq-eqb seed 0 (h refl).0, eq-eqb selector 0 (h refl).1) refl
from-single false seed selector h = refl

spares-from : (coded : CodedFields) → AreFieldsInRange coded → IsTrue (are_spares_fixed coded)
    → AreSparesFixed coded
unfolding are_spares_fixed is_single_legal
spares-from coded fields h =
    let parts = and_parts (if coded.parts == 1 then (coded.seed == 0)
    && (coded.selector == 0) else true) (all_below (is_mode_legal coded) 4) h in
    record {
      no_seed = λ one. (single-from (coded.parts == 1) coded.seed coded.selector parts.0
          (eq-eqb coded.parts 1 one)).0;
      no_selector = λ one. (single-from (coded.parts == 1) coded.seed coded.selector parts.0
          (eq-eqb coded.parts 1 one)).1;
      no_mode = λ part above. elim (cases_lt part 4) [
        | inl below ↦ mode-beyond coded part above
            (every_below (is_mode_legal coded) 4 part parts.1 below)
        | inr past ↦ get_or_past coded.cems part 0 (omega (arith, fields.four_modes))
      ];
      selected = λ part below.
          mode-inside coded part below (every_below (is_mode_legal coded) 4 part parts.1
          (omega (arith, fields.four_parts)));
    }

from-spares : (coded : CodedFields) → AreSparesFixed coded → IsTrue (are_spares_fixed coded)
unfolding are_spares_fixed is_single_legal
from-spares coded h =
    let alone = from-single (coded.parts == 1) coded.seed coded.selector
    (λ one. (h.no_seed (eqb-true coded.parts 1 one), h.no_selector (eqb-true coded.parts 1 one)))
    in
    rw (
      alone,
      four-from (is_mode_legal coded) (from-mode coded 0 h) (from-mode coded 1 h)
          (from-mode coded 2 h) (from-mode coded 3 h),
    ) refl

-- ---- planes

plane-from : (row : Mode) (plane : ℕ) (dual : Bool) → (row.planes == 2) ≡ dual
    → (if dual then nat_le 1 plane && nat_le plane 4 else plane == 0) ≡ true → IsPlaneOf row plane
plane-from row plane true known h =
    let two_planes : row.planes ≡ 2 = eqb-true row.planes 2 known in
    let both = and_parts (nat_le 1 plane) (nat_le plane 4) h in
    record {
      one = λ one. absurd (omega arith);
      two = λ _.
          (leb-true 1 plane both.0, leb-true plane 4 both.1);
    }
plane-from row plane false known h =
    record { one = λ _. eqb-true plane 0 h; two = λ two. absurd (eqb-false row.planes 2 known two) }

from-plane : (row : Mode) (plane : ℕ) (dual : Bool) → (row.planes == 2) ≡ dual → IsInModeRange row
    → IsPlaneOf row plane → (if dual then nat_le 1 plane && nat_le plane 4 else plane == 0) ≡ true
from-plane row plane true known range h =
    let named = h.two (eqb-true row.planes 2 known) in
    rw (le-leb 1 plane named.0, le-leb plane 4 named.1) refl
from-plane row plane false known range h =
    let one_plane : row.planes ≡ 1 =
    omega (arith, eqb-false row.planes 2 known, range.some_plane, range.two_planes) in
    eq-eqb plane 0 (h.one one_plane)

-- ---- integers

integers-from : (level : Level) (count : ℕ) (integers : List ℕ)
    → IsTrue (are_integers_of level count integers)
    → (length integers ≡ count) × All (λ integer. integer < count_of level) integers
unfolding are_integers_of
integers-from level count integers h =
    let both = and_parts (length integers == count)
    (list_all (λ integer. nat_lt integer (count_of level)) integers) h in
    (eqb-true (length integers) count both.0, below-from (count_of level) integers both.1)

from-integers : (level : Level) (count : ℕ) (integers : List ℕ) → length integers ≡ count
    → All (λ integer. integer < count_of level) integers
    → IsTrue (are_integers_of level count integers)
unfolding are_integers_of
from-integers level count integers all h =
    rw (eq-eqb (length integers) count all, from-below (count_of level) integers h) refl

-- ---- the whole block

legal-values : (w h : ℕ) (coded : CodedFields) (row : Mode) (shape : Result Level BlockFault)
    → AreFieldsInRange coded → AreSparesFixed coded
    → decoded_mode coded.mode ≡ Some row → IsPlaneOf row coded.plane → grid_fault w h row ≡ None
    → colour_shape row coded.parts coded.selector coded.cems ≡ shape
    → IsTrue (are_values_legal coded row shape) → Legal w h (Coded coded)
unfolding are_values_legal
legal-values w h coded row (Err fault) fields spares known plane grid colours legal = absurd (cc)
legal-values w h coded row (Ok level) fields spares known plane grid colours legal =
    let both = and_parts (are_integers_of level (colour_count coded.parts coded.cems)
    coded.colours.items) (are_integers_of row.level (weight_count row) coded.weights.items)
    legal in
    let given = integers-from level (colour_count coded.parts coded.cems) coded.colours.items
    both.0 in
    let weights = integers-from row.level (weight_count row) coded.weights.items both.1 in (
      row,
      level,
      record {
        fields = fields;
        spares = spares;
        mode_known = known;
        no_grid_fault = grid;
        no_colour_fault = colours;
        plane_named = plane;
        all_colours = given.0;
        colour_ranges = given.1;
        all_weights = weights.0;
        weight_ranges = weights.1;
      },
    )

legal-grid : (w h : ℕ) (coded : CodedFields) (row : Mode) (fault : Option BlockFault)
    → AreFieldsInRange coded → AreSparesFixed coded
    → decoded_mode coded.mode ≡ Some row → IsPlaneOf row coded.plane → grid_fault w h row ≡ fault
    → IsTrue (is_legal_on_grid coded row fault) → Legal w h (Coded coded)
unfolding is_legal_on_grid
legal-grid w h coded row (Some fault) fields spares known plane grid legal = absurd (cc)
legal-grid w h coded row None fields spares known plane grid legal =
    legal-values w h coded row (colour_shape row coded.parts coded.selector coded.cems) fields
    spares known plane grid refl legal

legal-mode : (w h : ℕ) (coded : CodedFields) (mode : Option Mode) → AreFieldsInRange coded
    → AreSparesFixed coded
    → decoded_mode coded.mode ≡ mode → IsTrue (is_legal_under w h coded mode)
    → Legal w h (Coded coded)
unfolding is_legal_under is_plane_of
legal-mode w h coded None fields spares known legal = absurd (cc)
legal-mode w h coded (Some row) fields spares known legal =
    let both = and_parts (if row.planes == 2 then nat_le 1 coded.plane
    && nat_le coded.plane 4 else coded.plane == 0)
    (is_legal_on_grid coded row (grid_fault w h row)) legal in
    legal-grid w h coded row (grid_fault w h row) fields spares known
    (plane-from row coded.plane (row.planes == 2) refl both.0) refl both.1

pub legal-coded : (w h : ℕ) (coded : CodedFields) → length coded.cems ≡ 4
    → IsTrue (is_legal_coded w h coded) → Legal w h (Coded coded)
unfolding is_legal_coded
legal-coded w h coded four legal =
    let t1 = and_parts (is_in_range coded && are_spares_fixed coded)
    (is_legal_under w h coded (decoded_mode coded.mode)) legal in
    let t0 = and_parts (is_in_range coded) (are_spares_fixed coded) t1.0 in
    let fields = range-from coded four t0.0 in
    legal-mode w h coded (decoded_mode coded.mode) fields (spares-from coded fields t0.1) refl t1.1

coded-values : (w h : ℕ) (coded : CodedFields) (row : Mode) (level : Level)
    → IsLegalCoded w h coded row level → IsTrue (are_values_legal coded row (Ok level))
unfolding are_values_legal
coded-values w h coded row level legal =
    rw (
      from-integers level (colour_count coded.parts coded.cems) coded.colours.items
          legal.all_colours legal.colour_ranges,
      from-integers row.level
          (weight_count row) coded.weights.items legal.all_weights legal.weight_ranges,
    ) refl

coded-grid : (w h : ℕ) (coded : CodedFields) (row : Mode) (level : Level)
    → IsLegalCoded w h coded row level → IsTrue (is_legal_on_grid coded row None)
unfolding is_legal_on_grid
coded-grid w h coded row level legal =
    rw legal.no_colour_fault (coded-values w h coded row level legal)

coded-mode : (w h : ℕ) (coded : CodedFields) (row : Mode) (level : Level)
    → IsLegalCoded w h coded row level → IsTrue (is_legal_under w h coded (Some row))
unfolding is_legal_under is_plane_of
coded-mode w h coded row level legal =
    let range = decoded_mode-range coded.mode row legal.fields.mode_range legal.mode_known in
    rw (
      from-plane row coded.plane (row.planes == 2) refl range legal.plane_named,
      legal.no_grid_fault,
      coded-grid w h coded row level legal,
    ) refl

pub coded-legal : (w h : ℕ) (coded : CodedFields) → Legal w h (Coded coded)
    → IsTrue (is_legal_coded w h coded)
unfolding is_legal_coded
coded-legal w h coded legal =
    rw (
      from-range coded legal.2.fields,
      from-spares coded legal.2.spares,
      legal.2.mode_known,
      coded-mode w h coded legal.0 legal.1 legal.2,
    ) refl

-- ---- void extents

pub legal-constant : (constant : ConstantFields) → length constant.rgba ≡ 4 → length constant.extent
    ≡ 4
    → ((i : ℕ) → i < 4 → get_or constant.rgba i 0 < 2 ^ 16)
    → IsTrue (is_extent_legal constant.extent) → IsLegalConstant constant
unfolding is_extent_legal
legal-constant constant four_values four_coordinates values legal =
    let both = and_parts (list_all (λ coordinate. nat_lt coordinate 8192) constant.extent)
    (is_extent_in_order constant.extent) legal in
    record {
      four_values = four_values;
      values = from-below (2 ^ 16) constant.rgba
          (λ k d within. rw (get_or_default constant.rgba k d 0 within) (values k (omega arith)));
      four_coordinates = four_coordinates;
      coordinates = both.0;
      order = both.1;
    }

pub constant-legal : (constant : ConstantFields) → IsLegalConstant constant
    → IsTrue (is_extent_legal constant.extent)
unfolding is_extent_legal
constant-legal constant legal = rw (legal.coordinates, legal.order) refl
