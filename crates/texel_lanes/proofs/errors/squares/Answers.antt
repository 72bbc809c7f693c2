use Rattle.std.proofs.Common.{◌*◌, get_or, ap, ◌∙◌}
use Rattle.texel_lanes.proofs.LaneLaws.{product_small, products_same, square_lane}
use Rattle.texel_lanes.proofs.errors.squares.Goals as goal

pub returns-clause-exact : goal.returns-clause-exact
returns-clause-exact c = record {
  long = c.multiplied.ensures.long;
  each = λ k l.
      let a = get_or c.args.shown k 0 in
      let b = get_or c.args.wanted k 0 in
      let g = get_or c.args.gains k 0 in
      let apart = c.distances-apart.ensures.each k l in
      c.multiplied.ensures.each k l ∙ products_same _ _ _ _
      (ap (λ v. get_or v k 0) c.widened-wide.ensures ∙ c.low_bits-low.ensures.each k l ∙ apart)
      (ap (λ v. get_or v k 0) c.widened-wide_often.ensures
      ∙ c.low_bits-low_often.ensures.each k l ∙ c.weighted-often.ensures.each k l ∙ ap
      (λ x. x * g) apart)
      ∙ square_lane a b g;
}

pub returns-clause-small : goal.returns-clause-small
returns-clause-small c = λ k l.
    let g = get_or c.args.gains k 0 in
    let apart = c.distances-apart.ensures.each k l in
    product_small (get_or c.args.shown k 0) (get_or c.args.wanted k 0) g _ _ _
    (c.multiplied.ensures.each k l)
    (ap (λ v. get_or v k 0) c.widened-wide.ensures ∙ c.low_bits-low.ensures.each k l ∙ apart)
    (ap (λ v. get_or v k 0) c.widened-wide_often.ensures ∙ c.low_bits-low_often.ensures.each k l
    ∙ c.weighted-often.ensures.each k l ∙ ap (λ x. x * g) apart)
    (c.requires.shown k l) (c.requires.wanted k l) (c.requires.gains k l)
