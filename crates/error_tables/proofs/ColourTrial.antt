-- The result of a trial of one colour integer is the error of the changed block.
use Rattle.std.proofs.Common.{◌≡◌, ℕ, ◌+◌, ◌*◌, ◌<◌, ◌≤◌, false, List, length, get_or, set}
use Rattle.std.specs.Prelude.{sum_by}
use Rattle.astc_model.specs.Levels.{count_of}
use Rattle.astc_model.specs.CodedTexels.{part_colours}
use Rattle.astc_model.specs.declared.block.Block.TheVariants.{Coded}
use Rattle.texel_error.specs.Counting.{count_on}
use Rattle.texel_error.specs.Shown.{Ends}
use Rattle.error_tables.specs.State.{view_of, error_in}
use Rattle.error_tables.specs.Changed.{with_colour, HasColour}
use Rattle.error_tables.specs.Reached.{is_part_inside, IsPartReach}
use Rattle.error_tables.specs.Trials.{coloured}
use Rattle.error_tables.specs.Kept.{error_at, IsKept}
use Rattle.error_tables.specs.declared.tables.Tables.{Tables}
use Rattle.error_tables.proofs.ChangedLaws.{shaped_colour}
use Rattle.error_tables.proofs.ReachLaws.{count_is, count_on-le}
use Rattle.error_tables.proofs.ColourLaws.{texel-other_part}
use Rattle.error_tables.proofs.PartTrial.{other_part_stays, part_result}

module _ (w h : ℕ) (tables : Tables) (kept : IsKept w h tables)
    (i v q : ℕ) (has : HasColour tables.block q i) (range : v < count_of tables.level) where
  -- the places of other parts
  pub other_stays : (p : ℕ) → p < w * h → is_part_inside w h tables.block q tables.places.now p
      ≡ false
      → error_at w h tables (with_colour tables.block i v) p ≡ error_at w h tables tables.block p
  other_stays =
      other_part_stays w h tables kept q (set tables.block.colours.items i v)
      (shaped_colour w h tables.block tables.mode tables.level i v kept.is_shaped range)
      (λ x y few other. texel-other_part w h tables.decoded.flavour tables.block tables.mode
      tables.level kept.is_shaped.legal.mode_known kept.is_shaped.legal.no_colour_fault q i
      v x y has few other)

  pub colour_result : (reach : List ℕ) (ends : Ends) (less more : ℕ)
      → IsPartReach w h tables.block q tables.places.now reach → ends
      ≡ part_colours (with_colour tables.block i v) tables.level q
      → less ≡ sum_by (λ p. get_or tables.errors p 0) reach → more
      ≡ sum_by (λ p. coloured tables ends p) reach
      → error_in w h (view_of tables) (Coded (with_colour tables.block i v)) + less
      ≡ tables.total + more
  colour_result =
      part_result w h tables kept q (set tables.block.colours.items i v)
      (shaped_colour w h tables.block tables.mode tables.level i v kept.is_shaped range)
      (λ x y few other. texel-other_part w h tables.decoded.flavour tables.block tables.mode
      tables.level kept.is_shaped.legal.mode_known kept.is_shaped.legal.no_colour_fault q i
      v x y has few other)

pub part_size : (w h : ℕ) (tables : Tables) (q : ℕ) (reach : List ℕ)
    → IsPartReach w h tables.block q tables.places.now reach
    → length reach ≡ count_on (is_part_inside w h tables.block q tables.places.now) (w * h)
part_size w h tables q reach is = count_is (is_part_inside w h tables.block q tables.places.now)
    (w * h) reach is.are

pub part_few : (w h : ℕ) (tables : Tables) (q : ℕ) (reach : List ℕ)
    → IsPartReach w h tables.block q tables.places.now reach → length reach ≤ w * h
part_few w h tables q reach is = rw (part_size w h tables q reach is)
    (count_on-le (is_part_inside w h tables.block q tables.places.now) (w * h))
