-- The packed fields of a block are at their positions.
use Rattle.std.proofs.Common.{◌≡◌, ℕ, ◌+◌, ◌-◌, ◌*◌, ◌^◌, ◌<◌, ◌≤◌, List, length, get_or, take, refl, sym, ◌∙◌, ap, arith, ◌⊎◌, inl, inr}
use Rattle.std.proofs.lemmas.Bool.{cases_lt}
use Rattle.std.proofs.lemmas.Nat.{pow_pos}
use Rattle.astc_model.specs.declared.block.Coded.{Coded as CodedFields}
use Rattle.astc_model.specs.declared.level.Level.{Level}
use Rattle.astc_model.specs.declared.mode.Mode.{Mode}
use Rattle.astc_model.specs.Bits.{field_of}
use Rattle.astc_model.specs.Blocks.{IsPlaneOf}
use Rattle.astc_model.specs.Levels.{sequence_bits}
use Rattle.astc_model.specs.Packing.{packed, total_width, AllFit}
use Rattle.astc_model.specs.Sequences.{written_sequence}
use Rattle.astc_model.specs.Shapes.{weight_data_bits, colour_start, high_mode_bits, plane_bits}
use Rattle.astc_model.specs.Fields.{high_modes_start, code_at, modes_in_code}
use Rattle.astc_model.proofs.BitLaws.{field_of-field_of}
use Rattle.astc_model.proofs.PackingLaws.{field_of-packed}
use Rattle.ise_codec.proofs.SequenceLaws.{written_sequence-lt}
use Rattle.block_writer.specs.declared.partitions.PartitionFields.{PartitionFields}
use Rattle.block_writer.specs.Sizes.{AreModeSizes, IsWritable}
use Rattle.block_writer.specs.Written.{colours_end, top_start}
use Rattle.block_writer.specs.Layout.{ArePartitionFields, AreTurnedWeights, layout_widths, layout_values, AreFieldsOf}
use Rattle.block_writer.proofs.WeightLemmas.{top_field-turned}

-- ---- each value fits its field

one-or-two : (n : ℕ) → 1 ≤ n → n ≤ 2 → (n ≡ 1) ⊎ (n ≡ 2)
one-or-two n some few = elim (cases_lt 1 n) [
  | inl more ↦ inr (omega arith)
  | inr one ↦ inl (omega arith)
]

plane-fits : (mode : Mode) (plane : ℕ) → 1 ≤ mode.planes → mode.planes ≤ 2 → IsPlaneOf mode plane
    → plane - 1 < 2 ^ plane_bits mode
plane-fits mode plane some few named = elim (one-or-two mode.planes some few) [
  | inl one ↦ rw one (omega (arith, named.one one))
  | inr two ↦ rw two (omega (arith, (named.two two).0, (named.two two).1))
]

pub layout-fits : (coded : CodedFields) (mode : Mode) (level : Level) (fields : PartitionFields)
    (weights : ℕ) → AreModeSizes mode → IsWritable coded mode level
    → ArePartitionFields coded fields → AreTurnedWeights coded mode weights
    → AllFit (layout_widths coded mode level fields) (layout_values coded level fields weights)
layout-fits coded mode level fields weights sizes writable partitions turned = (
  writable.fields.mode_range,
  (
    omega (arith, writable.fields.four_parts),
    (
      partitions.low_fits,
      (
        partitions.middle_fits,
        (
          written_sequence-lt level coded.colours.items writable.colour_ranges,
          (
            pow_pos (top_start coded mode - colours_end coded level),
            (
              plane-fits mode coded.plane sizes.range.some_plane sizes.range.two_planes
                  writable.plane_named,
              (partitions.high_fits, (turned.turned_fits, tt)),
            ),
          ),
        ),
      ),
    ),
  ),
)

-- the position of each packed field

moved : (z k n j m v : ℕ) → field_of z k n ≡ v → k ≡ j → n ≡ m → field_of z j m ≡ v
moved z k n j m v here place width = rw (place, width) at here

-- field i of the packed number has value i
abbrev pub IsPackedAt : ℕ → List ℕ → List ℕ → ℕ → Type 0
IsPackedAt z widths values i = field_of z (total_width (take i widths)) (get_or widths i 0)
    ≡ get_or values i 0

pub packed-at : (z : ℕ) (widths values : List ℕ) (i : ℕ) → AllFit widths values → z
    ≡ packed widths values → i < length widths → IsPackedAt z widths values i
packed-at z widths values i fit same below = rw same (field_of-packed widths values i fit below)

-- the positions of the fields at the top of the block
record AreTopPlaces (coded : CodedFields) (mode : Mode) (level : Level)
    (fields : PartitionFields) : Type 0 where
  colours : 11 + (2 + (fields.low_bits + (fields.middle_bits + 0))) ≡ colour_start coded.parts
  unused : 11 + (2 + (fields.low_bits + (fields.middle_bits + (sequence_bits level
      (length coded.colours.items) + 0)))) ≡ colours_end coded level
  component : 11 + (2 + (fields.low_bits + (fields.middle_bits + (sequence_bits level
      (length coded.colours.items) + (top_start coded mode - colours_end coded
      level + 0))))) ≡ top_start coded mode
  high : 11 + (2 + (fields.low_bits + (fields.middle_bits + (sequence_bits level
      (length coded.colours.items) + (top_start coded mode - colours_end coded
      level + (plane_bits mode + 0))))))
      ≡ high_modes_start mode coded.parts coded.selector
  weights : 11 + (2 + (fields.low_bits + (fields.middle_bits + (sequence_bits level
      (length coded.colours.items) + (top_start coded mode - colours_end coded
      level + (plane_bits mode + (fields.high_bits + 0)))))))
      ≡ 128 - weight_data_bits mode

-- the positions of the fields, with variables for the widths that do not compute
places : (low middle colours plane high weights start : ℕ) → 13 + low + middle ≡ start
    → start + weights + high + plane + colours ≤ 128
    → (11 + (2 + (low + (middle
    + (colours + (128 - weights - high - plane - (start + colours) + 0)))))
    ≡ 128 - weights - high - plane)
    × (11 + (2 + (low + (middle
    + (colours + (128 - weights - high - plane - (start + colours)
    + (plane + 0)))))) ≡ 128 - weights - high)
    × (11 + (2 + (low + (middle
    + (colours + (128 - weights - high - plane - (start + colours)
    + (plane + (high + 0))))))) ≡ 128 - weights)
places low middle colours plane high weights start starts room =
    (omega arith, omega arith, omega arith)

top-places : (coded : CodedFields) (mode : Mode) (level : Level) (fields : PartitionFields)
    → IsWritable coded mode level → ArePartitionFields coded fields
    → AreTopPlaces coded mode level fields
top-places coded mode level fields writable partitions =
    let tops = places fields.low_bits fields.middle_bits
    (sequence_bits level (length coded.colours.items)) (plane_bits mode)
    (high_mode_bits coded.parts coded.selector) (weight_data_bits mode)
    (colour_start coded.parts) partitions.start writable.colours_fit in
    record {
      colours = omega (arith, partitions.start);
      unused = omega (arith, partitions.start);
      component = tops.0;
      high = tops.1;
      weights = rw partitions.high_width tops.2;
    }

-- the six low bits of the code of several partitions are at bit 23
middle-at : (z low_bits middle_bits middle : ℕ) → field_of z (11 + (2 + (low_bits + 0))) middle_bits
    ≡ middle → low_bits ≡ 10 → middle_bits ≡ 6 → field_of z 23 6 ≡ middle
middle-at z low_bits middle_bits middle here low width = moved z _ middle_bits 23 6 middle here
    (omega arith) width

selector-at : (z middle selector : ℕ) → field_of z 23 6 ≡ middle → field_of middle 0 2 ≡ selector
    → field_of z 23 2 ≡ selector
selector-at z middle selector here is = sym (field_of-field_of z 23 6 0 2 (omega arith))
    ∙ ap (λ x. field_of x 0 2) here ∙ is

code-at : (z : ℕ) (mode : Mode) (parts selector middle high : ℕ) → field_of z 23 6 ≡ middle
    → field_of z (high_modes_start mode parts selector) (high_mode_bits parts selector) ≡ high
    → code_at z mode parts selector ≡ middle + 64 * high
code-at z mode parts selector middle high low_part high_part = rw (low_part, high_part) refl

component-at : (z : ℕ) (mode : Mode) (start value : ℕ) → field_of z (start - plane_bits mode)
    (plane_bits mode) ≡ value → mode.planes ≡ 2 → field_of z (start - 2) 2 ≡ value
component-at z mode start value here two = rw two at here

pub fields-laid_out : (z : ℕ) (coded : CodedFields) (mode : Mode) (level : Level)
    (fields : PartitionFields) (weights : ℕ) → AreModeSizes mode → IsWritable coded mode level
    → ArePartitionFields coded fields → AreTurnedWeights coded mode weights
    → z ≡ packed (layout_widths coded mode level fields) (layout_values coded level fields weights)
    → AreFieldsOf z coded mode level
fields-laid_out z coded mode level fields weights sizes writable partitions turned same =
    let widths : List ℕ = layout_widths coded mode level fields in
    let values : List ℕ = layout_values coded level fields weights in
    let fit : AllFit widths values =
    layout-fits coded mode level fields weights sizes writable partitions turned in
    let at = λ (i : ℕ). packed-at z widths values i fit same in
    let top = top-places coded mode level fields writable partitions in
    let high : field_of z (high_modes_start mode coded.parts coded.selector)
    (high_mode_bits coded.parts coded.selector) ≡ fields.high =
    moved z _ fields.high_bits _ _ fields.high (at 7 (omega arith)) top.high partitions.high_width
    in
    record {
      mode_field = at 0 (omega arith);
      parts_field = at 1 (omega arith);
      single_mode = λ one. let of_one = partitions.one one in
          moved z 13 fields.low_bits 13 4 fields.low (at 2 (omega arith)) refl of_one.low_width
          ∙ of_one.low;
      seed_field = λ several. let of_several = partitions.several several in
          moved z 13 fields.low_bits 13 10 fields.low (at 2 (omega arith)) refl of_several.low_width
          ∙ of_several.low;
      selector_field = λ several. let of_several = partitions.several several in
          selector-at z fields.middle coded.selector
          (middle-at z fields.low_bits fields.middle_bits fields.middle
          (at 3 (omega arith)) of_several.low_width of_several.middle_width)
          of_several.selector;
      mode_fields = λ several. let of_several = partitions.several several in
          ap (modes_in_code coded.parts coded.selector)
          (code-at z mode coded.parts coded.selector fields.middle fields.high
          (middle-at z fields.low_bits fields.middle_bits fields.middle
          (at 3 (omega arith)) of_several.low_width of_several.middle_width) high)
          ∙ of_several.modes;
      colour_field = moved z _ _ _ _ _ (at 4 (omega arith)) top.colours refl;
      unused_field = moved z _ _ _ _ 0 (at 5 (omega arith)) top.unused refl;
      plane_field = component-at z mode (high_modes_start mode coded.parts coded.selector)
          (coded.plane - 1) (moved z _ _ _ _ _ (at 6 (omega arith)) top.component refl);
      weight_field = top_field-turned z (written_sequence mode.level coded.weights.items) weights
          (weight_data_bits mode) turned.turned (omega (arith, sizes.short))
          (rw writable.all_weights at (written_sequence-lt mode.level coded.weights.items
          writable.weight_ranges))
          (moved z _ _ _ _ weights (at 8 (omega arith)) top.weights refl);
    }
