use Rattle.std.proofs.Common.{◌≡◌, ◌/◌, ◌%◌, ◌∙◌, map, refl}
use Rattle.astc_model.specs.WeightValues.{weight_value}
use Rattle.astc_model.proofs.FootprintLaws.{column_below, row_below}
use Rattle.texel_error.proofs.NumeratorLaws.{pair-is, in_grid}
use Rattle.texel_error.proofs.decoded.block_numerators.Goals as goal

pub returns : goal.returns
returns g c =
    let values_are : c.as_slice-2.result.now
    ≡ map (weight_value c.args.mode.level) c.args.coded.now.weights.items =
    c.as_slice-2.ensures.value ∙ c.weight_values-values.ensures.values
    ∙ rw c.as_slice.ensures.value refl
    in
    record {
      small = c.numerators_of.ensures.small;
      all = c.numerators_of.ensures.wide;
      pairs = λ p below. rw (c.numerators_of.ensures.exact p below) refl;
      exact = λ p plane below within. rw (c.numerators_of.ensures.exact p below)
          (pair-is g.row.W g.row.H c.args.coded.now c.args.mode c.requires.all_weights plane
          (p % g.row.W) (p / g.row.W) _ c.requires.some_plane c.requires.two_planes within
          values_are
          (in_grid g.row.W g.row.H c.args.mode.across c.args.mode.down (p % g.row.W)
          (p / g.row.W) c.requires.sides c.requires.some_columns c.requires.columns
          c.requires.some_rows c.requires.rows
          (column_below g.row.W g.row.H p c.requires.sides)
          (row_below g.row.W g.row.H p c.requires.sides below)));
    }
