-- A block with one integer changed is as shaped as before.
use Rattle.std.proofs.Common.{◌≡◌, ℕ, ◌<◌, List, length, set, refl, ◌∙◌}
use Rattle.std.specs.List.{All}
use Rattle.std.proofs.lemmas.List.{length-set}
use Rattle.std.proofs.lemmas.List.Elements.{All-set}
use Rattle.astc_model.specs.Levels.{count_of}
use Rattle.astc_model.specs.Shapes.{colour_range, weight_range}
use Rattle.astc_model.specs.Blocks.{AreFieldsInRange, AreSparesFixed}
use Rattle.astc_model.specs.declared.level.Level.{Level}
use Rattle.astc_model.specs.declared.mode.Mode.{Mode}
use Rattle.astc_model.specs.declared.block.Coded.{Coded as CodedFields}
use Rattle.texel_error.specs.Shaped.{IsShaped}
use Rattle.error_tables.specs.Changed.{with_weight, with_colour}

abbrev with_lists : CodedFields → List ℕ → List ℕ → CodedFields
with_lists block colours weights = record block {
  colours = record { items = colours };
  weights = record { items = weights };
}

module _ (w h : ℕ) (block : CodedFields) (mode : Mode) (level : Level)
    (is : IsShaped w h block mode level) (colours weights : List ℕ)
    (same_colours : length colours ≡ length block.colours.items)
    (colours_in : All (λ integer. integer < count_of level) colours)
    (same_weights : length weights ≡ length block.weights.items)
    (weights_in : All (λ integer. integer < count_of mode.level) weights) where
  fields : AreFieldsInRange (with_lists block colours weights)
  fields =
      let f : AreFieldsInRange block = is.legal.fields in
      record {
        mode_range = f.mode_range;
        some_part = f.some_part;
        four_parts = f.four_parts;
        seed_range = f.seed_range;
        selector_range = f.selector_range;
        four_modes = f.four_modes;
        mode_ranges = f.mode_ranges;
      }

  spares : AreSparesFixed (with_lists block colours weights)
  spares =
      let f : AreSparesFixed block = is.legal.spares in
      record {
        no_seed = f.no_seed;
        no_selector = f.no_selector;
        no_mode = f.no_mode;
        selected = λ part below. let kept = f.selected part below in
            record { same = kept.same; low_class = kept.low_class; high_class = kept.high_class };
      }

  shaped_lists : IsShaped w h (with_lists block colours weights) mode level
  shaped_lists = record {
    sides = is.sides;
    legal = record {
      fields = fields;
      spares = spares;
      mode_known = is.legal.mode_known;
      no_grid_fault = is.legal.no_grid_fault;
      no_colour_fault = is.legal.no_colour_fault;
      plane_named = is.legal.plane_named;
      all_colours = same_colours ∙ is.legal.all_colours;
      colour_ranges = colours_in;
      all_weights = same_weights ∙ is.legal.all_weights;
      weight_ranges = weights_in;
    };
    some_columns = is.some_columns;
    columns = is.columns;
    some_rows = is.some_rows;
    rows = is.rows;
    levels = is.levels;
    some_plane = is.some_plane;
    two_planes = is.two_planes;
    few_weights = is.few_weights;
    all_weights = same_weights ∙ is.all_weights;
    weight_ranges = weights_in;
    some_part = is.some_part;
    four_parts = is.four_parts;
    seed_range = is.seed_range;
    four_modes = is.four_modes;
    six = is.six;
    few_colours = rw same_colours is.few_colours;
    colour_ranges = colours_in;
    ldr = is.ldr;
  }

pub shaped_weight : (w h : ℕ) (block : CodedFields) (mode : Mode) (level : Level) (i v : ℕ)
    → IsShaped w h block mode level → v < count_of mode.level
    → IsShaped w h (with_weight block i v) mode level
shaped_weight w h block mode level i v is range =
    shaped_lists w h block mode level is block.colours.items
    (set block.weights.items i v) refl is.legal.colour_ranges
    (length-set block.weights.items i v)
    (All-set (λ integer. integer < count_of mode.level) block.weights.items i v range
    is.legal.weight_ranges)

pub shaped_colour : (w h : ℕ) (block : CodedFields) (mode : Mode) (level : Level) (i v : ℕ)
    → IsShaped w h block mode level → v < count_of level
    → IsShaped w h (with_colour block i v) mode level
shaped_colour w h block mode level i v is range =
    shaped_lists w h block mode level is (set block.colours.items i v) block.weights.items
    (length-set block.colours.items i v)
    (All-set (λ integer. integer < count_of level) block.colours.items i v range
    is.legal.colour_ranges) refl is.legal.weight_ranges

pub weight_range-is : (w h : ℕ) (block : CodedFields) (mode : Mode) (level : Level)
    → IsShaped w h block mode level → weight_range block ≡ count_of mode.level
weight_range-is w h block mode level is = rw is.legal.mode_known refl

pub colour_range-is : (w h : ℕ) (block : CodedFields) (mode : Mode) (level : Level)
    → IsShaped w h block mode level → colour_range block ≡ count_of level
colour_range-is w h block mode level is = rw (is.legal.mode_known, is.legal.no_colour_fault) refl
