-- A legal block after a change of one integer is legal.
use Rattle.std.proofs.Common.{◌≡◌, ℕ, ◌<◌, ◌^◌, true, nat_lt, List, length, set, refl, ◌∙◌, arith}
use Rattle.std.specs.List.{All, list_all}
use Rattle.std.proofs.lemmas.Bool.{ltb-true, lt-ltb}
use Rattle.std.proofs.lemmas.List.{length-set}
use Rattle.std.proofs.lemmas.List.Elements.{All-set}
use Rattle.std.proofs.lemmas.List.Sums.{AllPass-from_list_all, list_all-from_AllPass}
use Rattle.astc_model.specs.declared.level.Level.{Level}
use Rattle.astc_model.specs.declared.block.Block.TheVariants.{Constant, Coded}
use Rattle.astc_model.specs.Levels.{count_of}
use Rattle.astc_model.specs.declared.mode.Mode.{Mode}
use Rattle.astc_model.specs.Shapes.{colour_range, weight_range}
use Rattle.astc_model.specs.declared.block.Coded.{Coded as CodedFields}
use Rattle.astc_model.specs.Blocks.{Legal, AreFieldsInRange, AreSparesFixed, IsLegalCoded}
use Rattle.astc_model.specs.declared.block.Block.{Block}
use Rattle.astc_model.specs.Changes.{IntegerKind, ConstantValue, Colour, Weight, integer_count, value_count, with_integer, Changed}

-- ---- lists of numbers below a limit

pub below-from : (n : ℕ) (xs : List ℕ) → list_all (λ x. nat_lt x n) xs ≡ true → All (λ x. x < n) xs
below-from n xs h = λ k d within.
    ltb-true _ n (AllPass-from_list_all (λ x. nat_lt x n) xs h k d within)

pub from-below : (n : ℕ) (xs : List ℕ) → All (λ x. x < n) xs → list_all (λ x. nat_lt x n) xs ≡ true
from-below n xs h = list_all-from_AllPass (λ x. nat_lt x n) xs
    (λ k d within. lt-ltb _ n (h k d within))

below-set : (n : ℕ) (xs : List ℕ) (at value : ℕ) → All (λ x. x < n) xs → value < n
    → All (λ x. x < n) (set xs at value)
below-set n xs at value all small = All-set (λ x. x < n) xs at value small all

-- ---- the kinds of integers

-- the coded block with other integers
abbrev with_integers : CodedFields → List ℕ → List ℕ → CodedFields
with_integers coded colours weights = record coded {
  colours = record { items = colours };
  weights = record { items = weights };
}

fields-kept : (coded : CodedFields) (colours weights : List ℕ) → AreFieldsInRange coded
    → AreFieldsInRange (with_integers coded colours weights)
fields-kept coded colours weights fields = record {
  mode_range = fields.mode_range;
  some_part = fields.some_part;
  four_parts = fields.four_parts;
  seed_range = fields.seed_range;
  selector_range = fields.selector_range;
  four_modes = fields.four_modes;
  mode_ranges = fields.mode_ranges;
}

spares-kept : (coded : CodedFields) (colours weights : List ℕ) → AreSparesFixed coded
    → AreSparesFixed (with_integers coded colours weights)
spares-kept coded colours weights spares = record {
  no_seed = spares.no_seed;
  no_selector = spares.no_selector;
  no_mode = spares.no_mode;
  selected = λ part below.
      let kept = spares.selected part below in
      record { same = kept.same; low_class = kept.low_class; high_class = kept.high_class };
}

coded-kept : (w h : ℕ) (coded : CodedFields) (row : Mode) (level : Level) (colours weights : List ℕ)
    → IsLegalCoded w h coded row level
    → length colours ≡ length coded.colours.items
    → All (λ integer. integer < count_of level) colours
    → length weights ≡ length coded.weights.items
    → All (λ integer. integer < count_of row.level) weights
    → Legal w h (Coded (with_integers coded colours weights))
coded-kept w h coded row level colours weights legal colours_length colours_small weights_length
    weights_small = (
      row,
      level,
      record {
        fields = fields-kept coded colours weights legal.fields;
        spares = spares-kept coded colours weights legal.spares;
        mode_known = legal.mode_known;
        no_grid_fault = legal.no_grid_fault;
        no_colour_fault = legal.no_colour_fault;
        plane_named = legal.plane_named;
        all_colours = colours_length ∙ legal.all_colours;
        colour_ranges = colours_small;
        all_weights = weights_length ∙ legal.all_weights;
        weight_ranges = weights_small;
      },
    )

colour_range-is : (w h : ℕ) (coded : CodedFields) (row : Mode) (level : Level)
    → IsLegalCoded w h coded row level → colour_range coded ≡ count_of level
colour_range-is w h coded row level legal = rw (legal.mode_known, legal.no_colour_fault) refl

weight_range-is : (w h : ℕ) (coded : CodedFields) (row : Mode) (level : Level)
    → IsLegalCoded w h coded row level → weight_range coded ≡ count_of row.level
weight_range-is w h coded row level legal = rw legal.mode_known refl

pub integer-legal : (w h : ℕ) (block : Block) (kind : IntegerKind) (at value : ℕ) → Legal w h block
    → at < integer_count block kind → value < value_count block kind
    → Legal w h (with_integer block kind at value)
integer-legal w h (Constant constant) ConstantValue at value legal place range = record {
  four_values = length-set constant.rgba at value ∙ legal.four_values;
  values = from-below (2 ^ 16) (set constant.rgba at value)
      (below-set (2 ^ 16) constant.rgba at value (below-from (2 ^ 16) constant.rgba legal.values)
      range);
  four_coordinates = legal.four_coordinates;
  coordinates = legal.coordinates;
  order = legal.order;
}
integer-legal w h (Constant constant) Colour at value legal place range = absurd (omega arith)
integer-legal w h (Constant constant) Weight at value legal place range = absurd (omega arith)
integer-legal w h (Coded coded) ConstantValue at value legal place range = absurd (omega arith)
integer-legal w h (Coded coded) Colour at value legal place range =
    coded-kept w h coded legal.0 legal.1 (set coded.colours.items at value) coded.weights.items
    legal.2
    (length-set coded.colours.items at value)
    (below-set (count_of legal.1) coded.colours.items at value legal.2.colour_ranges
    (rw (colour_range-is w h coded legal.0 legal.1 legal.2) at range))
    refl legal.2.weight_ranges
integer-legal w h (Coded coded) Weight at value legal place range =
    coded-kept w h coded legal.0 legal.1 coded.colours.items
    (set coded.weights.items at value) legal.2
    refl legal.2.colour_ranges
    (length-set coded.weights.items at value)
    (below-set (count_of (legal.0).level) coded.weights.items at value legal.2.weight_ranges
    (rw (weight_range-is w h coded legal.0 legal.1 legal.2) at range))

pub changed-legal : (w h : ℕ) (block changed : Block) → Legal w h block → Changed block changed
    → Legal w h changed
changed-legal w h block changed legal differs =
    rw differs.2 (integer-legal w h block differs.0.kind differs.0.at differs.0.value legal
    differs.1.place differs.1.range)
