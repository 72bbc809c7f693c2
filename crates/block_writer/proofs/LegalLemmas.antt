-- The properties of a legal coded block.
use Rattle.std.proofs.Common.{◌≡◌, ℕ, Option, Result, Some, Ok, sym, ◌∙◌, subst}
use Rattle.astc_model.specs.declared.block.Block.TheVariants.{Coded}
use Rattle.astc_model.specs.declared.block.BlockFault.{BlockFault}
use Rattle.astc_model.specs.declared.block.Coded.{Coded as CodedFields}
use Rattle.astc_model.specs.declared.level.Level.{Level}
use Rattle.astc_model.specs.declared.mode.Mode.{Mode}
use Rattle.astc_model.specs.Blocks.{Legal, IsLegalCoded}
use Rattle.astc_model.specs.Modes.{decoded_mode}
use Rattle.astc_model.specs.Shapes.{colour_shape}
use Rattle.block_mode.proofs.ModeLaws.{decoded_mode-range}
use Rattle.block_mode.proofs.ShapeLaws.{grid_fault-none, colour_shape-ok}
use Rattle.block_writer.specs.Sizes.{AreModeSizes, IsWritable}

pub mode-sizes : (w h : ℕ) (coded : CodedFields) (mode : Mode) (level : Level)
    → IsLegalCoded w h coded mode level → AreModeSizes mode
mode-sizes w h coded mode level legal =
    let range = decoded_mode-range coded.mode mode legal.fields.mode_range legal.mode_known in
    let grid = grid_fault-none w h mode legal.no_grid_fault in
    record {
      range = range;
      few = grid.few;
      short = grid.short;
    }

pub writable-legal : (w h : ℕ) (coded : CodedFields) (mode : Mode) (level : Level)
    → IsLegalCoded w h coded mode level → IsWritable coded mode level
writable-legal w h coded mode level legal =
    let colours = colour_shape-ok mode coded.parts coded.selector coded.cems level
    legal.no_colour_fault in
    record {
      fields = legal.fields;
      spares = legal.spares;
      plane_named = legal.plane_named;
      colour_ranges = legal.colour_ranges;
      colours_fit = rw legal.all_colours colours.greatest.fits;
      all_weights = legal.all_weights;
      weight_ranges = legal.weight_ranges;
    }

-- ---- the mode and the level that the code computes are those of the block

pub some-same : (x y : Mode) → ◌≡◌ {A = Option Mode} (Some x) (Some y) → x ≡ y
some-same x y is = cc

pub ok-same : (x y : Level) → ◌≡◌ {A = Result Level BlockFault} (Ok x) (Ok y) → x ≡ y
ok-same x y is = cc

pub legal-with_mode : (w h : ℕ) (coded : CodedFields) (mode : Mode) → Legal w h (Coded coded)
    → decoded_mode coded.mode ≡ Some mode → (level : Level) × IsLegalCoded w h coded mode level
legal-with_mode w h coded mode (row, level, legal) known =
    let same : row ≡ mode = some-same row mode (sym legal.mode_known ∙ known) in
    (level, subst (λ m. IsLegalCoded w h coded m level) same legal)

pub legal-with_level : (w h : ℕ) (coded : CodedFields) (mode : Mode) (level range : Level)
    → IsLegalCoded w h coded mode level → colour_shape mode coded.parts coded.selector coded.cems
    ≡ Ok range → IsLegalCoded w h coded mode range
legal-with_level w h coded mode level range legal known =
    subst (λ l. IsLegalCoded w h coded mode l)
    (ok-same level range (sym legal.no_colour_fault ∙ known)) legal
