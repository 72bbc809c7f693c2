-- The properties of a legal block.
use Rattle.std.proofs.Common.{◌≡◌, ℕ, ◌<◌, ◌≤◌, IsTrue, List, length, get_or, take, arith}
use Rattle.std.specs.List.{list_all}
use Rattle.std.proofs.lemmas.List.{get_or-take, length-take}
use Rattle.std.proofs.lemmas.List.Sums.{AllPass-from_list_all}
use Rattle.astc_model.specs.Footprints.{is_footprint}
use Rattle.astc_model.specs.Endpoints.{is_ldr_mode}
use Rattle.astc_model.specs.Modes.{IsInModeRange}
use Rattle.astc_model.specs.Blocks.{IsLegalCoded}
use Rattle.astc_model.specs.declared.level.Level.{Level}
use Rattle.astc_model.specs.declared.mode.Mode.{Mode}
use Rattle.astc_model.specs.declared.block.Coded.{Coded as CodedFields}
use Rattle.block_mode.proofs.ModeLaws.{decoded_mode-range}
use Rattle.block_mode.proofs.ShapeLaws.{IsFittingGrid, grid_fault-none, AreFittingColours, colour_shape-ok}
use Rattle.texel_error.specs.Shaped.{IsShaped}

ldr_parts : (parts : ℕ) (cems : List ℕ) (part : ℕ) → parts ≤ length cems
    → IsTrue (list_all is_ldr_mode (take parts cems)) → part < parts
    → IsTrue (is_ldr_mode (get_or cems part 0))
ldr_parts parts cems part within all below =
    let at : get_or (take parts cems) part 0 ≡ get_or cems part 0 =
    get_or-take parts cems part 0 below in
    rw (← at) (AllPass-from_list_all is_ldr_mode (take parts cems) all part 0
    (rw (length-take parts cems) (omega arith)))

pub shaped : (w h : ℕ) (coded : CodedFields) (mode : Mode) (level : Level)
    → IsTrue (is_footprint w h) → IsLegalCoded w h coded mode level
    → IsShaped w h coded mode level
shaped w h coded mode level sides legal =
    let range : IsInModeRange mode =
    decoded_mode-range coded.mode mode legal.fields.mode_range legal.mode_known in
    let grid : IsFittingGrid w h mode = grid_fault-none w h mode legal.no_grid_fault in
    let colours : AreFittingColours mode coded.parts coded.selector coded.cems level =
    colour_shape-ok mode coded.parts coded.selector coded.cems level legal.no_colour_fault
    in
    record {
      sides = sides;
      legal = legal;
      some_columns = range.some_columns;
      columns = grid.columns;
      some_rows = range.some_rows;
      rows = grid.rows;
      levels = range.levels;
      some_plane = range.some_plane;
      two_planes = range.two_planes;
      few_weights = grid.few;
      all_weights = legal.all_weights;
      weight_ranges = legal.weight_ranges;
      some_part = legal.fields.some_part;
      four_parts = legal.fields.four_parts;
      seed_range = legal.fields.seed_range;
      four_modes = legal.fields.four_modes;
      six = colours.greatest.six;
      few_colours = rw legal.all_colours colours.few;
      colour_ranges = legal.colour_ranges;
      ldr = λ part below. ldr_parts coded.parts coded.cems part
          (omega (arith, legal.fields.four_modes, legal.fields.four_parts)) colours.profile below;
    }
