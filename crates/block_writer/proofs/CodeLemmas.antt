-- The code of the endpoint modes of several partitions is decoded to these modes.
use Rattle.std.proofs.Common.{◌≡◌, ℕ, zero, suc, ◌+◌, ◌-◌, ◌*◌, ◌/◌, ◌%◌, ◌^◌, ◌<◌, ◌≤◌, false, ◌==◌, List, [], ◌∷◌, length, get_or, refl, sym, ◌∙◌, arith, add_comm, ne_eqb, inl, inr}
use Rattle.std.specs.Int.{bit_at}
use Rattle.std.proofs.lemmas.Bool.{cases_lt, lt-ltb, le-ltb}
use Rattle.std.proofs.lemmas.Nat.{shr_below}
use Rattle.std.proofs.Math.Nat.{div-one, mod-eq_of_lt}
use Rattle.astc_model.specs.declared.block.Coded.{Coded as CodedFields}
use Rattle.astc_model.specs.Bits.{field_of}
use Rattle.astc_model.specs.Blocks.{AreFieldsInRange, AreSparesFixed}
use Rattle.astc_model.specs.Packing.{packed, AllFit}
use Rattle.astc_model.specs.Shapes.{high_mode_bits}
use Rattle.astc_model.specs.Fields.{if_part, mode_in_code, modes_in_code}
use Rattle.astc_model.proofs.BitLaws.{field_of-is, field_of-lt, field_of-field_of}
use Rattle.astc_model.proofs.PackingLaws.{packed-lt}
use Rattle.astc_model.proofs.FieldLaws.{if_part-inside, if_part-beyond}
use Rattle.block_writer.specs.Layout.{class_bit_of, bits_in_class, code_widths, code_values, IsCodeOf, ArePartitionFields}
use Rattle.block_writer.proofs.LayoutLemmas.{packed-at}
use Rattle.block_writer.proofs.RoundTripLemmas.{four-entries}

-- ---- the modes of all partitions

entry-same : (parts part mode : ℕ) (cems : List ℕ) → (part < parts → mode ≡ get_or cems part 0)
    → (parts ≤ part → get_or cems part 0 ≡ 0) → if_part parts part mode ≡ get_or cems part 0
entry-same parts part mode cems inside beyond = elim (cases_lt part parts) [
  | inl below ↦ if_part-inside parts part mode below ∙ inside below
  | inr above ↦ if_part-beyond parts part mode above ∙ sym (beyond above)
]

four-same : (a0 a1 a2 a3 b0 b1 b2 b3 : ℕ) → a0 ≡ b0 → a1 ≡ b1 → a2 ≡ b2 → a3 ≡ b3
    → a0 ∷ a1 ∷ a2 ∷ a3 ∷ [] ≡ b0 ∷ b1 ∷ b2 ∷ b3 ∷ []
four-same a0 a1 a2 a3 b0 b1 b2 b3 e0 e1 e2 e3 = cc

modes-same : (parts selector code : ℕ) (cems : List ℕ) → length cems ≡ 4
    → ((part : ℕ) → part < parts → mode_in_code parts selector code part ≡ get_or cems part 0)
    → ((part : ℕ) → parts ≤ part → get_or cems part 0 ≡ 0)
    → modes_in_code parts selector code ≡ cems
unfolding modes_in_code
modes-same parts selector code cems long inside beyond =
    let entry = λ (part : ℕ). entry-same parts part (mode_in_code parts selector code part) cems
    (inside part) (beyond part) in
    four-same _ _ _ _ _ _ _ _ (entry 0) (entry 1) (entry 2) (entry 3) ∙ four-entries cems long

-- ---- selector 0: one mode for all

four-times : (cem : ℕ) → cem < 16 → (field_of (4 * cem) 0 2 ≡ 0) × (field_of (4 * cem) 2 4 ≡ cem)
four-times cem small = (
  field_of-is (4 * cem) 0 2 ∙ rw div-one (omega arith),
  field_of-is
      (4 * cem) 2 4 ∙ omega arith,
)

pub code-of_one_mode : (coded : CodedFields) (cem : ℕ) → AreFieldsInRange coded
    → AreSparesFixed coded → 2 ≤ coded.parts → coded.selector ≡ 0 → cem ≡ get_or coded.cems 0 0
    → IsCodeOf coded (4 * cem)
code-of_one_mode coded cem fields spares several none first =
    let small : cem < 16 = rw first (fields.mode_ranges 0 0 (omega (arith, fields.four_modes))) in
    let read = four-times cem small in
    record {
      small = rw none (omega arith);
      selector = read.0 ∙ sym none;
      modes = modes-same coded.parts coded.selector (4 * cem) coded.cems fields.four_modes
          (λ part below. rw none (read.1 ∙ first ∙ sym ((spares.selected part below).same none)))
          spares.no_mode;
    }

-- ---- selectors 1 to 3

class-fits : (coded : CodedFields) (part : ℕ) → AreSparesFixed coded → 1 ≤ coded.selector
    → class_bit_of coded part < 2 ^ if_part coded.parts part 1
class-fits coded part spares some = elim (cases_lt part coded.parts) [
  | inl below ↦ rw (lt-ltb part coded.parts below)
      (omega (arith, (spares.selected part below).high_class some))
  | inr above ↦ rw (le-ltb part coded.parts above) (omega arith)
]

bits-fit : (coded : CodedFields) (part : ℕ) → AreSparesFixed coded
    → bits_in_class coded part < 2 ^ if_part coded.parts part 2
bits-fit coded part spares = elim (cases_lt part coded.parts) [
  | inl below ↦ rw (lt-ltb part coded.parts below) (omega arith)
  | inr above ↦ rw (le-ltb part coded.parts above) (omega (arith, spares.no_mode part above))
]

code-fits : (coded : CodedFields) → AreFieldsInRange coded → AreSparesFixed coded
    → 1 ≤ coded.selector → AllFit (code_widths coded.parts) (code_values coded)
code-fits coded fields spares some = (
  fields.selector_range,
  (
    class-fits coded 0 spares some,
    (
      class-fits coded 1 spares some,
      (
        class-fits coded 2 spares some,
        (
          class-fits coded 3 spares some,
          (
            bits-fit coded 0 spares,
            (
              bits-fit coded 1 spares,
              (bits-fit coded 2 spares, (bits-fit coded 3 spares, tt)),
            ),
          ),
        ),
      ),
    ),
  ),
)

-- the class bits and the mode bits of each partition in the code
record AreCodeFields (coded : CodedFields) (code parts : ℕ) : Type 0 where
  class_bits : (part : ℕ) → part < parts → bit_at code (2 + part) ≡ class_bit_of coded part
  low_bits : (part : ℕ) → part < parts → field_of code (2 + parts + 2 * part) 2
      ≡ bits_in_class coded part
  selector_bits : field_of code 0 2 ≡ coded.selector
  code_small : code < 2 ^ (2 + 3 * parts)

one_bit : (z k v : ℕ) → field_of z k 1 ≡ v → bit_at z k ≡ v
unfolding field_of
one_bit z k v is = omega (arith, is)

each-of_two : (P : ℕ → Type 0) → P 0 → P 1 → (part : ℕ) → part < 2 → P part
each-of_two P p0 p1 zero below = p0
each-of_two P p0 p1 (suc zero) below = p1
each-of_two P p0 p1 (suc (suc part)) below = absurd (omega arith)

each-of_three : (P : ℕ → Type 0) → P 0 → P 1 → P 2 → (part : ℕ) → part < 3 → P part
each-of_three P p0 p1 p2 zero below = p0
each-of_three P p0 p1 p2 (suc zero) below = p1
each-of_three P p0 p1 p2 (suc (suc zero)) below = p2
each-of_three P p0 p1 p2 (suc (suc (suc part))) below = absurd (omega arith)

each-of_four : (P : ℕ → Type 0) → P 0 → P 1 → P 2 → P 3 → (part : ℕ) → part < 4 → P part
each-of_four P p0 p1 p2 p3 zero below = p0
each-of_four P p0 p1 p2 p3 (suc zero) below = p1
each-of_four P p0 p1 p2 p3 (suc (suc zero)) below = p2
each-of_four P p0 p1 p2 p3 (suc (suc (suc zero))) below = p3
each-of_four P p0 p1 p2 p3 (suc (suc (suc (suc part)))) below = absurd (omega arith)

two-fields : (coded : CodedFields) (code : ℕ) → AllFit (code_widths 2) (code_values coded) → code
    ≡ packed (code_widths 2) (code_values coded) → AreCodeFields coded code 2
two-fields coded code fit same =
    let at = λ (i : ℕ). packed-at code (code_widths 2) (code_values coded) i fit same in
    record {
      class_bits = each-of_two (λ part. bit_at code (2 + part) ≡ class_bit_of coded part)
          (one_bit code 2 _ (at 1 (omega arith))) (one_bit code 3 _ (at 2 (omega arith)));
      low_bits = each-of_two (λ part. field_of code (2 + 2 + 2 * part) 2 ≡ bits_in_class coded part)
          (at 5 (omega arith)) (at 6 (omega arith));
      selector_bits = at 0 (omega arith);
      code_small = rw same (packed-lt (code_widths 2) (code_values coded) fit);
    }

three-fields : (coded : CodedFields) (code : ℕ) → AllFit (code_widths 3) (code_values coded) → code
    ≡ packed (code_widths 3) (code_values coded) → AreCodeFields coded code 3
three-fields coded code fit same =
    let at = λ (i : ℕ). packed-at code (code_widths 3) (code_values coded) i fit same in
    record {
      class_bits = each-of_three (λ part. bit_at code (2 + part) ≡ class_bit_of coded part)
          (one_bit code 2 _ (at 1 (omega arith))) (one_bit code 3 _ (at 2 (omega arith)))
          (one_bit code 4 _ (at 3 (omega arith)));
      low_bits = each-of_three (λ part. field_of code (2 + 3 + 2 * part) 2
          ≡ bits_in_class coded part) (at 5 (omega arith)) (at 6 (omega arith))
          (at 7 (omega arith));
      selector_bits = at 0 (omega arith);
      code_small = rw same (packed-lt (code_widths 3) (code_values coded) fit);
    }

four-fields : (coded : CodedFields) (code : ℕ) → AllFit (code_widths 4) (code_values coded) → code
    ≡ packed (code_widths 4) (code_values coded) → AreCodeFields coded code 4
four-fields coded code fit same =
    let at = λ (i : ℕ). packed-at code (code_widths 4) (code_values coded) i fit same in
    record {
      class_bits = each-of_four (λ part. bit_at code (2 + part) ≡ class_bit_of coded part)
          (one_bit code 2 _ (at 1 (omega arith))) (one_bit code 3 _ (at 2 (omega arith)))
          (one_bit code 4 _ (at 3 (omega arith))) (one_bit code 5 _ (at 4 (omega arith)));
      low_bits = each-of_four (λ part. field_of code (2 + 4 + 2 * part) 2
          ≡ bits_in_class coded part) (at 5 (omega arith)) (at 6 (omega arith))
          (at 7 (omega arith)) (at 8 (omega arith));
      selector_bits = at 0 (omega arith);
      code_small = rw same (packed-lt (code_widths 4) (code_values coded) fit);
    }

some-fields : (coded : CodedFields) (code parts : ℕ) → 2 ≤ parts → parts ≤ 4
    → AllFit (code_widths parts) (code_values coded) → code
    ≡ packed (code_widths parts) (code_values coded) → AreCodeFields coded code parts
some-fields coded code zero several few = absurd (omega arith)
some-fields coded code (suc zero) several few = absurd (omega arith)
some-fields coded code (suc (suc zero)) several few = two-fields coded code
some-fields coded code (suc (suc (suc zero))) several few = three-fields coded code
some-fields coded code (suc (suc (suc (suc zero)))) several few = four-fields coded code
some-fields coded code (suc (suc (suc (suc (suc parts))))) several few = absurd (omega arith)

class-mode : (selector cem class low : ℕ) → 1 ≤ selector → selector ≤ cem / 4 + 1 → class
    ≡ cem / 4 + 1 - selector → low ≡ cem % 4 → 4 * (selector - 1 + class) + low ≡ cem
class-mode selector cem class low some fits class_is low_is = omega arith

pub code-of_classes : (coded : CodedFields) (code : ℕ) → AreFieldsInRange coded
    → AreSparesFixed coded → 2 ≤ coded.parts → 1 ≤ coded.selector → code
    ≡ packed (code_widths coded.parts) (code_values coded) → IsCodeOf coded code
code-of_classes coded code fields spares several some same =
    let at = some-fields coded code coded.parts several fields.four_parts
    (code-fits coded fields spares some) same in
    let not_zero : (coded.selector == 0) ≡ false = ne_eqb coded.selector 0 (omega arith) in
    let width : 2 + 3 * coded.parts ≡ 6 + (3 * coded.parts - 4) = omega arith in
    record {
      small = rw not_zero (rw width at at.code_small);
      selector = at.selector_bits;
      modes = modes-same coded.parts coded.selector code coded.cems fields.four_modes
          (λ part below. rw not_zero (class-mode coded.selector (get_or coded.cems part 0) _ _ some
          ((spares.selected part below).low_class) (at.class_bits part below
          ∙ if_part-inside coded.parts part _ below) (at.low_bits part below)))
          spares.no_mode;
    }

-- ---- the code in two places of the block

pub code-in_two : (code width : ℕ) → code < 2 ^ (6 + width)
    → field_of code 0 6 + 64 * field_of code 6 width ≡ code
code-in_two code width small =
    let high : field_of code 6 width ≡ code / 2 ^ 6 = field_of-is code 6 width
    ∙ mod-eq_of_lt (shr_below code width 6 (rw (add_comm 6 width) at small)) in
    let low : field_of code 0 6 ≡ code % 2 ^ 6 = rw div-one at (field_of-is code 0 6) in
    omega (arith, high, low)

pub fields-of_code : (coded : CodedFields) (code seed width middle high : ℕ)
    → AreFieldsInRange coded → 2 ≤ coded.parts → IsCodeOf coded code → width
    ≡ high_mode_bits coded.parts coded.selector
    → seed ≡ coded.seed → middle ≡ field_of code 0 6 → high ≡ field_of code 6 width
    → ArePartitionFields coded
    (record {
      low_bits = 10;
      low = seed;
      middle_bits = 6;
      middle = middle;
      high_bits = width;
      high = high;
    })
fields-of_code coded code seed width middle high fields several is_code width_is seed_is middle_is
    high_is =
    let not_one : (coded.parts == 1) ≡ false = ne_eqb coded.parts 1 (omega arith) in
    let small : code < 2 ^ (6 + width) = rw width_is is_code.small in
    record {
      start = rw not_one refl;
      high_width = width_is;
      low_fits = rw seed_is fields.seed_range;
      middle_fits = rw middle_is (field_of-lt code 0 6);
      high_fits = rw high_is (field_of-lt code 6 width);
      one = λ one. absurd (omega (arith, one));
      several = λ more. record {
        low_width = refl;
        low = seed_is;
        middle_width = refl;
        selector = rw middle_is (field_of-field_of code 0 6 0 2 (omega arith) ∙ is_code.selector);
        modes = rw (middle_is, high_is, code-in_two code width small) is_code.modes;
      };
    }
