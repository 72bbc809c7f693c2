-- Decoded blocks are legal, proved stage by stage.
use Rattle.std.proofs.Common.{◌≡◌, ℕ, zero, suc, ◌+◌, ◌-◌, ◌*◌, ◌/◌, ◌^◌, ◌<◌, ◌≤◌, Bool, true, false, not, ◌==◌, if◌then◌else◌, List, [], ◌∷◌, length, get_or, Option, None, Some, Result, Ok, Err, refl, sym, ◌∙◌, ap, subst, arith, eq-eqb, inl, inr}
use Rattle.std.specs.Int.{bit_at}
use Rattle.std.proofs.lemmas.Bool.{cases_lt, lt-ltb, eqb-true, eqb-false}
use Rattle.std.proofs.lemmas.List.{get_or_default}
use Rattle.std.proofs.lemmas.Nat.Bits.{bit_at-lt}
use Rattle.astc_model.specs.declared.level.Level.{Level}
use Rattle.astc_model.specs.declared.block.Block.TheVariants.{Constant, Coded}
use Rattle.astc_model.specs.declared.block.BlockFault.TheVariants.{ReservedMode, HdrConstant, ExtentReserved, ExtentOrder}
use Rattle.astc_model.specs.Bits.{field_of, number_of}
use Rattle.astc_model.specs.Modes.{decoded_mode}
use Rattle.astc_model.specs.declared.mode.Mode.{Mode}
use Rattle.astc_model.specs.Shapes.{grid_fault, colour_shape}
use Rattle.astc_model.specs.declared.block.BlockFault.{BlockFault}
use Rattle.astc_model.specs.Fields.{mode_at, parts_at, selector_at, code_at, mode_in_code, if_part, modes_in_code, cems_at, plane_at, colours_at, weights_at, coded_at}
use Rattle.astc_model.specs.Blocks.{Legal, is_extent_in_order, IsSelected, IsPlaneOf, IsLegalCoded}
use Rattle.astc_model.specs.declared.block.Block.{Block}
use Rattle.astc_model.specs.Reading.{is_void_extent, extent_at, values_at, read_constant, read_values, read_colours, read_grid, read_coded, read}
use Rattle.astc_model.proofs.FieldLaws.{if_part-beyond, if_part-inside}
use Rattle.astc_model.proofs.BitLaws.{field_of-lt}
use Rattle.ise_codec.proofs.SequenceLaws.{length-sequence, sequence-lt}

-- ---- void extents

constant-legal : (w h z : ℕ) → is_extent_in_order (extent_at z) ≡ true
    → Legal w h (Constant (record { rgba = values_at z; extent = extent_at z }))
constant-legal w h z order = record {
  four_values = refl;
  values = rw (
    lt-ltb (field_of z 64 16) (2 ^ 16) (field_of-lt z 64 16),
    lt-ltb (field_of z 80 16)
        (2 ^ 16) (field_of-lt z 80 16),
    lt-ltb (field_of z 96 16) (2 ^ 16)
        (field_of-lt z 96 16),
    lt-ltb (field_of z 112 16) (2 ^ 16) (field_of-lt z 112 16),
  ) refl;
  four_coordinates = refl;
  coordinates = rw (
    lt-ltb (field_of z 12 13) (2 ^ 13) (field_of-lt z 12 13),
    lt-ltb
        (field_of z 25 13) (2 ^ 13) (field_of-lt z 25 13),
    lt-ltb (field_of z 38 13) (2 ^ 13)
        (field_of-lt z 38 13),
    lt-ltb (field_of z 51 13) (2 ^ 13) (field_of-lt z 51 13),
  ) refl;
  order = order;
}

same-legal : (w h : ℕ) (given block : Block) → Legal w h given → given ≡ block → Legal w h block
same-legal w h given block legal same = subst (Legal w h) same legal

ok-same : (given block : Block) → ◌≡◌ {A = Result Block BlockFault} (Ok given) (Ok block) → given
    ≡ block
ok-same given block is = cc

not-read : (fault : BlockFault) (block : Block) → ◌≡◌ {A = Result Block BlockFault} (Err fault)
    (Ok block) → ⊥
not-read fault block is = cc

constant-stage : (w h z : ℕ) (block : Block) (profile reserved order : Bool)
    → is_extent_in_order (extent_at z) ≡ order
    → (if profile then Err HdrConstant
    else (if not reserved then Err ExtentReserved
    else (if not order then Err ExtentOrder
    else Ok (Constant (record { rgba = values_at z; extent = extent_at z }))))) ≡ Ok block
    → Legal w h block
constant-stage w h z block true reserved order known is = absurd (not-read HdrConstant block is)
constant-stage w h z block false false order known is = absurd (not-read ExtentReserved block is)
constant-stage w h z block false true false known is = absurd (not-read ExtentOrder block is)
constant-stage w h z block false true true known is =
    let given : Block = Constant (record { rgba = values_at z; extent = extent_at z }) in
    same-legal w h given block (constant-legal w h z known) (ok-same given block is)

-- ---- endpoint modes

-- the endpoint modes of missing partitions

-- an entry of a list of four entries by partition
four-entry : (f : ℕ → ℕ) (parts part : ℕ) → parts ≤ 4
    → get_or (if_part parts 0 (f 0) ∷ if_part parts 1 (f 1) ∷ if_part parts 2 (f 2)
    ∷ if_part parts 3 (f 3) ∷ []) part 0 ≡ if_part parts part (f part)
four-entry f parts zero few = refl
four-entry f parts (suc zero) few = refl
four-entry f parts (suc (suc zero)) few = refl
four-entry f parts (suc (suc (suc zero))) few = refl
four-entry f parts (suc (suc (suc (suc part)))) few =
    sym (if_part-beyond parts (suc (suc (suc (suc part)))) (f (suc (suc (suc (suc part)))))
    (omega arith))

one-entry : (mode part : ℕ) → get_or (mode ∷ 0 ∷ 0 ∷ 0 ∷ []) part 0 ≡ if_part 1 part mode
one-entry mode zero = refl
one-entry mode (suc zero) = refl
one-entry mode (suc (suc zero)) = refl
one-entry mode (suc (suc (suc zero))) = refl
one-entry mode (suc (suc (suc (suc part)))) =
    sym (if_part-beyond 1 (suc (suc (suc (suc part)))) mode (omega arith))

-- the list of endpoint modes, and the mode of one partition; `one` says whether there is one
-- partition
abbrev modes_by : Bool → ℕ → ℕ → ℕ → ℕ → List ℕ
modes_by one parts selector code single = if one then single ∷ 0 ∷ 0 ∷ 0
    ∷ [] else modes_in_code parts selector code

abbrev mode_by : Bool → ℕ → ℕ → ℕ → ℕ → ℕ → ℕ
mode_by one parts selector code single part =
    if one then single else mode_in_code parts selector code part

modes_by-length : (one : Bool) (parts selector code single : ℕ)
    → length (modes_by one parts selector code single) ≡ 4
unfolding modes_in_code
modes_by-length true parts selector code single = refl
modes_by-length false parts selector code single = refl

modes_by-entry : (one : Bool) (parts selector code single part : ℕ) → (parts == 1) ≡ one → parts ≤ 4
    → get_or (modes_by one parts selector code single) part 0
    ≡ if_part parts part (mode_by one parts selector code single part)
unfolding modes_in_code
modes_by-entry true parts selector code single part known few =
    one-entry single part ∙ ap (λ p. if_part p part single) (sym (eqb-true parts 1 known))
modes_by-entry false parts selector code single part known few =
    four-entry (mode_in_code parts selector code) parts part few

-- a mode from its class and the two bits in the class; `none` says whether the selector is 0
abbrev class_mode : Bool → ℕ → ℕ → ℕ → ℕ → ℕ
class_mode none selector all bit low = if none then all else 4 * (selector - 1 + bit) + low

record IsClassed (selector mode : ℕ) : Type 0 where
  small : mode < 16
  low_class : selector ≤ mode / 4 + 1
  high_class : 0 < selector → mode / 4 ≤ selector

class_mode-classed : (none : Bool) (selector all bit low : ℕ) → (selector == 0) ≡ none
    → selector < 4 → all < 16 → bit < 2 → low < 4
    → IsClassed selector (class_mode none selector all bit low)
class_mode-classed true selector all bit low known four all_fits bit_fits low_fits =
    let zero_selector : selector ≡ 0 = eqb-true selector 0 known in
    record { small = all_fits; low_class = omega arith; high_class = λ some. absurd (omega arith) }
class_mode-classed false selector all bit low known four all_fits bit_fits low_fits =
    let some_selector : 0 < selector = omega (arith, eqb-false selector 0 known) in
    record { small = omega arith; low_class = omega arith; high_class = λ some. omega arith }

-- ---- the fields at their positions

cems_at-entry : (z : ℕ) (row : Mode) (part : ℕ) → get_or (cems_at z row) part 0
    ≡ if_part (parts_at z) part (mode_by (parts_at z == 1) (parts_at z) (selector_at z)
    (code_at z row (parts_at z) (selector_at z)) (field_of z 13 4) part)
unfolding cems_at
cems_at-entry z row part =
    modes_by-entry (parts_at z == 1) (parts_at z) (selector_at z)
    (code_at z row (parts_at z) (selector_at z)) (field_of z 13 4) part refl
    (omega (arith, field_of-lt z 11 2))

cems_at-length : (z : ℕ) (row : Mode) → length (cems_at z row) ≡ 4
unfolding cems_at
cems_at-length z row =
    modes_by-length (parts_at z == 1) (parts_at z) (selector_at z)
    (code_at z row (parts_at z) (selector_at z)) (field_of z 13 4)

zero_or-lt : (b : Bool) (n m : ℕ) → n < m → (if b then 0 else n) < m
zero_or-lt true n m small = omega arith
zero_or-lt false n m small = small

selector_at-lt : (z : ℕ) → selector_at z < 4
selector_at-lt z = zero_or-lt (parts_at z == 1) (field_of z 23 2) 4 (field_of-lt z 23 2)

selector_at-one : (z : ℕ) → parts_at z ≡ 1 → selector_at z ≡ 0
selector_at-one z one = rw (eq-eqb (parts_at z) 1 one) refl

-- the mode of a partition belongs to a class that the selector allows
mode_by-classed : (one : Bool) (parts selector code single part : ℕ) → (one ≡ true → selector ≡ 0)
    → selector < 4 → single < 16
    → IsClassed selector (mode_by one parts selector code single part)
mode_by-classed true parts selector code single part none four single_fits =
    let zero_selector : selector ≡ 0 = none refl in
    record {
      small = single_fits;
      low_class = omega arith;
      high_class = λ some.
          absurd (omega arith);
    }
mode_by-classed false parts selector code single part none four single_fits =
    class_mode-classed (selector == 0) selector (field_of code 2 4) (bit_at code (2 + part))
    (field_of code (2 + parts + 2 * part) 2)
    refl four (field_of-lt code 2 4) (bit_at-lt code (2 + part))
    (field_of-lt code (2 + parts + 2 * part) 2)

-- with the selector 0, all partitions have the same mode
mode_by-same : (one : Bool) (parts selector code single part : ℕ) → selector ≡ 0
    → mode_by one parts selector code single part ≡ mode_by one parts selector code single 0
mode_by-same true parts selector code single part none = refl
mode_by-same false parts selector code single part none = rw none refl

part_mode : ℕ → Mode → ℕ → ℕ
part_mode z row part = mode_by (parts_at z == 1) (parts_at z) (selector_at z)
    (code_at z row (parts_at z) (selector_at z)) (field_of z 13 4) part

part_mode-classed : (z : ℕ) (row : Mode) (part : ℕ)
    → IsClassed (selector_at z) (part_mode z row part)
unfolding part_mode
part_mode-classed z row part =
    mode_by-classed (parts_at z == 1) (parts_at z) (selector_at z)
    (code_at z row (parts_at z) (selector_at z)) (field_of z 13 4) part
    (λ one. selector_at-one z (eqb-true (parts_at z) 1 one)) (selector_at-lt z) (field_of-lt z 13 4)

cem-inside : (z : ℕ) (row : Mode) (part : ℕ) → part < parts_at z → get_or (cems_at z row) part 0
    ≡ part_mode z row part
unfolding part_mode
cem-inside z row part below = cems_at-entry z row part ∙ if_part-inside (parts_at z) part _ below

cem-beyond : (z : ℕ) (row : Mode) (part : ℕ) → parts_at z ≤ part → get_or (cems_at z row) part 0 ≡ 0
cem-beyond z row part above = cems_at-entry z row part ∙ if_part-beyond (parts_at z) part _ above

cem-small : (z : ℕ) (row : Mode) (part : ℕ) → get_or (cems_at z row) part 0 < 16
cem-small z row part = elim (cases_lt part (parts_at z)) [
  | inl below ↦ omega (arith, cem-inside z row part below, (part_mode-classed z row part).small)
  | inr above ↦ omega (arith, cem-beyond z row part above)
]

cem-selected : (z : ℕ) (row : Mode) (level : Level) (part : ℕ) → part < parts_at z
    → IsSelected (coded_at z row level) part
unfolding coded_at part_mode
cem-selected z row level part below =
    let classed = part_mode-classed z row part in
    let here = cem-inside z row part below in
    let first = cem-inside z row 0 (omega arith) in
    record {
      same = λ none. here ∙ mode_by-same (parts_at z == 1) (parts_at z) (selector_at z)
          (code_at z row (parts_at z) (selector_at z)) (field_of z 13 4) part none ∙ sym first;
      low_class = rw here classed.low_class;
      high_class = rw here classed.high_class;
    }

component-named : (z place : ℕ) → (1 ≤ field_of z place 2 + 1) × (field_of z place 2 + 1 ≤ 4)
component-named z place = (omega arith, omega (arith, field_of-lt z place 2))

plane_at-named : (z : ℕ) (row : Mode) (parts selector : ℕ)
    → IsPlaneOf row (plane_at z row parts selector)
unfolding plane_at
plane_at-named z row parts selector = record {
  one = λ one. rw one refl;
  two = λ two. rw two (component-named z _);
}

-- ---- the stages

coded-legal : (w h z : ℕ) (row : Mode) (level : Level) → decoded_mode (mode_at z) ≡ Some row
    → grid_fault w h row ≡ None
    → colour_shape row (parts_at z) (selector_at z) (cems_at z row) ≡ Ok level
    → IsLegalCoded w h (coded_at z row level) row level
unfolding coded_at colours_at weights_at
coded-legal w h z row level known grid colours = record {
  fields = record {
    mode_range = field_of-lt z 0 11;
    some_part = omega arith;
    four_parts = omega (arith, field_of-lt z 11 2);
    seed_range = zero_or-lt (parts_at z == 1) (field_of z 13 10) 1024 (field_of-lt z 13 10);
    selector_range = selector_at-lt z;
    four_modes = cems_at-length z row;
    mode_ranges = λ k d within. rw (get_or_default (cems_at z row) k d 0 within)
        (cem-small z row k);
  };
  spares = record {
    no_seed = λ one. rw (eq-eqb (parts_at z) 1 one) refl;
    no_selector = selector_at-one z;
    no_mode = cem-beyond z row;
    selected = cem-selected z row level;
  };
  mode_known = known;
  no_grid_fault = grid;
  no_colour_fault = colours;
  plane_named = plane_at-named z row (parts_at z) (selector_at z);
  all_colours = length-sequence _ level _;
  colour_ranges = sequence-lt _ level _;
  all_weights = length-sequence _ row.level _;
  weight_ranges = sequence-lt _ row.level _;
}

values-stage : (w h z : ℕ) (block : Block) (row : Mode) (shape : Result Level BlockFault)
    → decoded_mode (mode_at z) ≡ Some row → grid_fault w h row ≡ None
    → colour_shape row (parts_at z) (selector_at z) (cems_at z row) ≡ shape
    → read_values z row shape ≡ Ok block → Legal w h block
values-stage w h z block row (Err fault) known grid colours is = absurd (not-read fault block is)
values-stage w h z block row (Ok level) known grid colours is =
    same-legal w h (Coded (coded_at z row level)) block
    (row, level, coded-legal w h z row level known grid colours)
    (ok-same (Coded (coded_at z row level)) block is)

colours-stage : (w h z : ℕ) (block : Block) (row : Mode) (fault : Option BlockFault)
    → decoded_mode (mode_at z) ≡ Some row → grid_fault w h row ≡ fault
    → read_colours z row fault ≡ Ok block → Legal w h block
colours-stage w h z block row (Some fault) known grid is = absurd (not-read fault block is)
colours-stage w h z block row None known grid is =
    values-stage w h z block row (colour_shape row (parts_at z) (selector_at z) (cems_at z row))
    known grid refl is

grid-stage : (w h z : ℕ) (block : Block) (mode : Option Mode) → decoded_mode (mode_at z) ≡ mode
    → read_grid w h z mode ≡ Ok block → Legal w h block
grid-stage w h z block None known is = absurd (not-read ReservedMode block is)
grid-stage w h z block (Some row) known is =
    colours-stage w h z block row (grid_fault w h row) known refl is

bits-stage : (w h z : ℕ) (block : Block) (void : Bool)
    → (if void then read_constant z else read_coded w h z) ≡ Ok block → Legal w h block
unfolding read_coded
bits-stage w h z block true is =
    constant-stage w h z block (field_of z 9 1 == 1) (field_of z 10 2 == 3)
    (is_extent_in_order (extent_at z)) refl is
bits-stage w h z block false is = grid-stage w h z block (decoded_mode (mode_at z)) refl is

-- a decoded block is legal
pub read-legal : (w h : ℕ) (bytes : List ℕ) (block : Block) → read w h bytes ≡ Ok block
    → Legal w h block
unfolding read
read-legal w h bytes block is = bits-stage w h (number_of bytes) block
    (is_void_extent (number_of bytes)) is
