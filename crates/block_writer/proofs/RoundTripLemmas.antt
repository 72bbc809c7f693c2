-- A number that has the fields of a coded block at their positions is decoded to this block.
use Rattle.std.proofs.Common.{◌≡◌, ℕ, ◌+◌, ◌-◌, ◌/◌, ◌^◌, ◌<◌, ◌≤◌, Bool, true, false, ◌==◌, if◌then◌else◌, List, [], ◌∷◌, length, get_or, Option, None, Some, Ok, refl, sym, ◌∙◌, ap, subst, arith, eq-eqb, ne_eqb, ◌⊎◌, inl, inr}
use Rattle.std.proofs.lemmas.Bool.{cases_lt}
use Rattle.std.specs.Int.{bit_at}
use Rattle.std.specs.List.{All}
use Rattle.std.proofs.lemmas.Nat.Bits.{bit_at-zero}
use Rattle.astc_model.specs.declared.block.Block.TheVariants.{Coded}
use Rattle.astc_model.specs.declared.block.Coded.{Coded as CodedFields}
use Rattle.astc_model.specs.declared.level.Level.{Level}
use Rattle.astc_model.specs.declared.mode.Mode.{Mode}
use Rattle.astc_model.specs.Bits.{field_of, top_field}
use Rattle.astc_model.specs.Blocks.{IsPlaneOf, IsLegalCoded}
use Rattle.astc_model.specs.Levels.{count_of, sequence_bits}
use Rattle.astc_model.specs.Sequences.{sequence, slice, written_sequence}
use Rattle.astc_model.specs.Modes.{decoded_mode}
use Rattle.astc_model.specs.Shapes.{weight_count, weight_data_bits, colour_count, colour_start, colour_shape}
use Rattle.astc_model.specs.Fields.{mode_at, parts_at, seed_at, selector_at, high_modes_start, code_at, modes_in_code, cems_at, plane_at, colours_at, weights_at, coded_at}
use Rattle.astc_model.specs.Reading.{is_void_extent, read_values, read_colours, read_grid, read_coded, read_bits}
use Rattle.astc_model.proofs.BitLaws.{field_of-is, field_of-field_of, bit_at-field_of}
use Rattle.ise_codec.proofs.SequenceLaws.{sequence-written, sequence-written_field}
use Rattle.block_writer.specs.Sizes.{AreModeSizes, IsWritable}
use Rattle.block_writer.specs.Written.{colours_end, top_start, AreUnusedZero, AreSequencesLeast}
use Rattle.block_writer.specs.Layout.{AreFieldsOf}
use Rattle.block_writer.proofs.LegalLemmas.{mode-sizes, writable-legal, some-same, ok-same}

-- ---- one partition or several

one-or-more : (n : ℕ) → 1 ≤ n → (n ≡ 1) ⊎ (2 ≤ n)
one-or-more n some = elim (cases_lt 1 n) [
  | inl more ↦ inr (omega arith)
  | inr one ↦ inl (omega arith)
]

picked : {A : Type 0} (n : ℕ) (a b v : A) → 1 ≤ n → (n ≡ 1 → a ≡ v) → (2 ≤ n → b ≡ v)
    → (if n == 1 then a else b) ≡ v
picked n a b v some one more = elim (one-or-more n some) [
  | inl is ↦ rw (eq-eqb n 1 is) (one is)
  | inr is ↦ rw (ne_eqb n 1 (omega arith)) (more is)
]

parts-back : (z parts : ℕ) → field_of z 11 2 ≡ parts - 1 → 1 ≤ parts → parts_at z ≡ parts
parts-back z parts field some = omega arith

seed-back : (z parts seed : ℕ) → parts_at z ≡ parts → 1 ≤ parts → (parts ≡ 1 → seed ≡ 0)
    → (2 ≤ parts → field_of z 13 10 ≡ seed) → seed_at z ≡ seed
seed-back z parts seed same some none field =
    rw same (picked parts 0 (field_of z 13 10) seed some (λ one. sym (none one)) field)

selector-back : (z parts selector : ℕ) → parts_at z ≡ parts → 1 ≤ parts → (parts ≡ 1 → selector ≡ 0)
    → (2 ≤ parts → field_of z 23 2 ≡ selector) → selector_at z ≡ selector
selector-back z parts selector same some none field =
    rw same (picked parts 0 (field_of z 23 2) selector some (λ one. sym (none one)) field)

-- ---- the endpoint modes

pub four-entries : (xs : List ℕ) → length xs ≡ 4 → get_or xs 0 0 ∷ get_or xs 1 0 ∷ get_or xs 2 0
    ∷ get_or xs 3 0 ∷ [] ≡ xs
four-entries [] long = absurd (omega arith)
four-entries (a ∷ []) long = absurd (omega arith)
four-entries (a ∷ b ∷ []) long = absurd (omega arith)
four-entries (a ∷ b ∷ c ∷ []) long = absurd (omega arith)
four-entries (a ∷ b ∷ c ∷ d ∷ []) long = refl
four-entries (a ∷ b ∷ c ∷ d ∷ e ∷ xs) long = absurd (omega arith)

one-mode : (cem : ℕ) (cems : List ℕ) → length cems ≡ 4 → cem ≡ get_or cems 0 0
    → ((part : ℕ) → 1 ≤ part → get_or cems part 0 ≡ 0) → cem ∷ 0 ∷ 0 ∷ 0 ∷ [] ≡ cems
one-mode cem cems long first none =
    rw first (rw (
      none 1 (omega arith),
      none 2 (omega arith),
      none 3
          (omega arith),
    ) at (four-entries cems long))

cems-back : (z : ℕ) (mode : Mode) (coded : CodedFields) → parts_at z ≡ coded.parts → selector_at z
    ≡ coded.selector → 1 ≤ coded.parts
    → (coded.parts ≡ 1 → field_of z 13 4 ∷ 0 ∷ 0 ∷ 0 ∷ [] ≡ coded.cems)
    → (2 ≤ coded.parts → modes_in_code coded.parts coded.selector
    (code_at z mode coded.parts coded.selector) ≡ coded.cems)
    → cems_at z mode ≡ coded.cems
unfolding cems_at
cems-back z mode coded parts selector some one several =
    ap (λ p. if p == 1 then field_of z 13 4 ∷ 0 ∷ 0 ∷ 0 ∷ [] else modes_in_code p (selector_at z)
    (code_at z mode p (selector_at z))) parts
    ∙ ap (λ s. if coded.parts == 1 then field_of z 13 4 ∷ 0 ∷ 0 ∷ 0
    ∷ [] else modes_in_code coded.parts s (code_at z mode coded.parts s)) selector
    ∙ picked coded.parts (field_of z 13 4 ∷ 0 ∷ 0 ∷ 0 ∷ [])
    (modes_in_code coded.parts coded.selector (code_at z mode coded.parts coded.selector))
    coded.cems some one several

cems-there : (z : ℕ) (mode : Mode) (coded : CodedFields) (level : Level)
    → IsWritable coded mode level → AreFieldsOf z coded mode level → cems_at z mode ≡ coded.cems
cems-there z mode coded level writable at =
    let some : 1 ≤ coded.parts = writable.fields.some_part in
    let parts : parts_at z ≡ coded.parts = parts-back z coded.parts at.parts_field some in
    let selector : selector_at z ≡ coded.selector =
    selector-back z coded.parts coded.selector parts some writable.spares.no_selector
    at.selector_field in
    cems-back z mode coded parts selector some
    (λ one. one-mode (field_of z 13 4) coded.cems writable.fields.four_modes (at.single_mode one)
    (λ part beyond. writable.spares.no_mode part (omega arith)))
    at.mode_fields

-- ---- the other fields

-- the mode of a coded block is not that of a void extent
no-void : (m : ℕ) (void : Bool) (rest : Option Mode) (mode : Mode) → (if void then None else rest)
    ≡ Some mode → void ≡ false
no-void m true rest mode is = absurd (cc)
no-void m false rest mode is = refl

mode-not_void : (m : ℕ) (mode : Mode) → decoded_mode m ≡ Some mode → (slice m 8 0 == 0x1FC) ≡ false
unfolding decoded_mode
mode-not_void m mode known = no-void m (slice m 8 0 == 0x1FC) _ mode known

not-void : (z m : ℕ) (mode : Mode) → mode_at z ≡ m → decoded_mode m ≡ Some mode → is_void_extent z
    ≡ false
not-void z m mode field known =
    let low : field_of z 0 9 ≡ slice m 8 0 = sym (field_of-field_of z 0 11 0 9 (omega arith))
    ∙ ap (λ x. field_of x 0 9) field ∙ field_of-is m 0 9 in
    rw low (mode-not_void m mode known)

plane-picked : (planes component plane : ℕ) → 1 ≤ planes → planes ≤ 2 → (planes ≡ 1 → plane ≡ 0)
    → (planes ≡ 2 → 1 ≤ plane) → (planes ≡ 2 → component ≡ plane - 1)
    → (if planes == 2 then component + 1 else 0) ≡ plane
plane-picked planes component plane some few one named field = elim (one-or-more planes some) [
  | inl is ↦ rw (ne_eqb planes 2 (omega arith)) (sym (one is))
  | inr more ↦ let two : planes ≡ 2 = omega arith in
      rw (eq-eqb planes 2 two) (omega (arith, field two, named two))
]

plane-back : (z : ℕ) (mode : Mode) (parts selector plane : ℕ) → 1 ≤ mode.planes → mode.planes ≤ 2
    → IsPlaneOf mode plane
    → (mode.planes ≡ 2 → field_of z (high_modes_start mode parts selector - 2) 2 ≡ plane - 1)
    → plane_at z mode parts selector ≡ plane
unfolding plane_at
plane-back z mode parts selector plane some few named field =
    plane-picked mode.planes (field_of z (high_modes_start mode parts selector - 2) 2) plane some
    few named.one (λ two. (named.two two).0) field

colours-back : (z : ℕ) (coded : CodedFields) (level : Level) → length coded.colours.items
    ≡ colour_count coded.parts coded.cems
    → All (λ integer. integer < count_of level) coded.colours.items
    → field_of z (colour_start coded.parts) (sequence_bits level (length coded.colours.items))
    ≡ written_sequence level coded.colours.items
    → colours_at z coded.parts coded.cems level ≡ coded.colours.items
unfolding colours_at
colours-back z coded level count ranges field =
    ap (sequence (z / 2 ^ colour_start coded.parts) level) (sym count)
    ∙ sequence-written_field z (colour_start coded.parts) level coded.colours.items ranges field

weights-back : (z : ℕ) (mode : Mode) (weights : List ℕ) → length weights ≡ weight_count mode
    → All (λ integer. integer < count_of mode.level) weights
    → top_field z 0 (weight_data_bits mode) ≡ written_sequence mode.level weights
    → weights_at z mode ≡ weights
unfolding weights_at
weights-back z mode weights count ranges field =
    ap (λ x. sequence x mode.level (weight_count mode)) field
    ∙ ap (sequence (written_sequence mode.level weights) mode.level) (sym count)
    ∙ sequence-written mode.level weights ranges

-- ---- the whole block

same-fields : (coded : CodedFields) (mode parts seed selector : ℕ) (cems colours weights : List ℕ)
    (plane : ℕ) → mode ≡ coded.mode → parts ≡ coded.parts → seed ≡ coded.seed → selector
    ≡ coded.selector → cems ≡ coded.cems
    → colours ≡ coded.colours.items → weights ≡ coded.weights.items → plane ≡ coded.plane
    → record {
      mode = mode;
      parts = parts;
      seed = seed;
      selector = selector;
      cems = cems;
      colours = record { items = colours };
      weights = record { items = weights };
      plane = plane;
    } ≡ coded
same-fields coded mode parts seed selector cems colours weights plane e1 e2 e3 e4 e5 e6 e7 e8 =
    rw (e1, e2, e3, e4, e5, e6, e7, e8) refl

coded-back : (z : ℕ) (coded : CodedFields) (mode : Mode) (level : Level)
    → IsWritable coded mode level → AreModeSizes mode → length coded.colours.items
    ≡ colour_count coded.parts coded.cems → AreFieldsOf z coded mode level → coded_at z mode level
    ≡ coded
unfolding coded_at
coded-back z coded mode level writable sizes count at =
    let some : 1 ≤ coded.parts = writable.fields.some_part in
    let parts : parts_at z ≡ coded.parts = parts-back z coded.parts at.parts_field some in
    let selector : selector_at z ≡ coded.selector =
    selector-back z coded.parts coded.selector parts some writable.spares.no_selector
    at.selector_field in
    let cems : cems_at z mode ≡ coded.cems = cems-there z mode coded level writable at in
    same-fields coded (mode_at z) (parts_at z) (seed_at z) (selector_at z) (cems_at z mode)
    (colours_at z (parts_at z) (cems_at z mode) level) (weights_at z mode)
    (plane_at z mode (parts_at z) (selector_at z)) at.mode_field parts
    (seed-back z coded.parts coded.seed parts some writable.spares.no_seed at.seed_field) selector
    cems
    (ap (λ p. colours_at z p (cems_at z mode) level) parts
    ∙ ap (λ c. colours_at z coded.parts c level) cems
    ∙ colours-back z coded level count writable.colour_ranges at.colour_field)
    (weights-back z mode coded.weights.items writable.all_weights writable.weight_ranges
    at.weight_field)
    (ap (λ p. plane_at z mode p (selector_at z)) parts ∙ ap (plane_at z mode coded.parts) selector
    ∙ plane-back z mode coded.parts coded.selector coded.plane sizes.range.some_plane
    sizes.range.two_planes writable.plane_named at.plane_field)

-- a number with the fields of a legal coded block is decoded to the block
pub read-back : (w h z : ℕ) (coded : CodedFields) (mode : Mode) (level : Level)
    → IsLegalCoded w h coded mode level → AreFieldsOf z coded mode level → read_bits w h z
    ≡ Ok (Coded coded)
unfolding read_coded
read-back w h z coded mode level legal at =
    let writable = writable-legal w h coded mode level legal in
    let sizes = mode-sizes w h coded mode level legal in
    let parts : parts_at z ≡ coded.parts =
    parts-back z coded.parts at.parts_field legal.fields.some_part in
    let selector : selector_at z ≡ coded.selector =
    selector-back z coded.parts coded.selector parts legal.fields.some_part
    legal.spares.no_selector at.selector_field in
    let cems : cems_at z mode ≡ coded.cems = cems-there z mode coded level writable at in
    let known : decoded_mode (mode_at z) ≡ Some mode = ap decoded_mode at.mode_field
    ∙ legal.mode_known in
    let shape : colour_shape mode (parts_at z) (selector_at z) (cems_at z mode) ≡ Ok level =
    ap (λ p. colour_shape mode p (selector_at z) (cems_at z mode)) parts
    ∙ ap (λ s. colour_shape mode coded.parts s (cems_at z mode)) selector
    ∙ ap (colour_shape mode coded.parts coded.selector) cems ∙ legal.no_colour_fault
    in
    let no_void : is_void_extent z ≡ false =
    not-void z coded.mode mode at.mode_field legal.mode_known in
    let read : read_coded w h z ≡ Ok (Coded coded) =
    ap (read_grid w h z) known ∙ ap (read_colours z mode) legal.no_grid_fault
    ∙ ap (read_values z mode) shape
    ∙ ap (λ c. Ok (Coded c)) (coded-back z coded mode level writable sizes legal.all_colours at)
    in
    rw no_void read

-- ---- unused bits

unused-zero : (z : ℕ) (coded : CodedFields) (mode : Mode) (level : Level) (k : ℕ)
    → AreFieldsOf z coded mode level → colours_end coded level ≤ k → k < top_start coded mode
    → bit_at z k ≡ 0
unused-zero z coded mode level k at above below =
    let start : ℕ = colours_end coded level in
    let place : start + (k - start) ≡ k = omega arith in
    ap (bit_at z) (sym place)
    ∙ sym (bit_at-field_of z start (top_start coded mode - start) (k - start) (omega arith))
    ∙ ap (λ x. bit_at x (k - start)) at.unused_field ∙ bit_at-zero (k - start)

-- the mode and the level are determined by the block
fields-of_any : (w h z : ℕ) (coded : CodedFields) (mode other : Mode) (level range : Level)
    → IsLegalCoded w h coded mode level → AreFieldsOf z coded mode level
    → decoded_mode coded.mode ≡ Some other
    → colour_shape other coded.parts coded.selector coded.cems ≡ Ok range
    → AreFieldsOf z coded other range
fields-of_any w h z coded mode other level range legal at known shape =
    let same_mode : mode ≡ other = some-same mode other (sym legal.mode_known ∙ known) in
    let same_level : level ≡ range =
    ok-same level range (sym legal.no_colour_fault
    ∙ ap (λ m. colour_shape m coded.parts coded.selector coded.cems) same_mode ∙ shape)
    in
    subst (λ l. AreFieldsOf z coded other l) same_level
    (subst (λ m. AreFieldsOf z coded m level) same_mode at)

pub unused-written : (w h z : ℕ) (coded : CodedFields) (mode : Mode) (level : Level)
    → IsLegalCoded w h coded mode level → AreFieldsOf z coded mode level
    → AreUnusedZero (Coded coded) z
unused-written w h z coded mode level legal at = λ other range known shape k above below.
    unused-zero z coded other range k
    (fields-of_any w h z coded mode other level range legal at known shape) above below

pub least-written : (w h z : ℕ) (coded : CodedFields) (mode : Mode) (level : Level)
    → IsLegalCoded w h coded mode level → AreFieldsOf z coded mode level
    → AreSequencesLeast (Coded coded) z
least-written w h z coded mode level legal at = λ other range known shape.
    let there = fields-of_any w h z coded mode other level range legal at known shape in
    (there.colour_field, there.weight_field)
