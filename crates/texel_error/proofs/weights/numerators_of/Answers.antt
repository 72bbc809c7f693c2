use Rattle.std.proofs.Common.{refl, ◌≤◌, ◌/◌, ◌%◌, ◌∙◌, [], ◌∷◌, arith, rules}
use Rattle.std.specs.List.{All}
use Rattle.std.proofs.lemmas.List.Elements.{All-set, All-replicate}
use Rattle.astc_model.specs.Infill.{factors}
use Rattle.texel_error.specs.Numerators.{plane_sum, last_plane}
use Rattle.astc_model.proofs.FootprintLaws.{sides_few}
use Rattle.astc_model.proofs.ListLaws.{fill_step}
use Rattle.texel_error.proofs.weights.numerators_of.Goals as goal

pub loop-p-init : goal.loop-p-init
loop-p-init g c = record {
  done = λ k below. absurd (omega arith);
  long = search rules;
  small = All-replicate (λ pair. All (λ n. n ≤ 1024) pair) 144 (0 ∷ 0 ∷ [])
      (All-replicate (λ n. n ≤ 1024) 2 0 (omega arith));
}

pub loop-p-preserved : goal.loop-p-preserved
loop-p-preserved g c = record {
  done = fill_step
      (λ k. plane_sum c.args.mode.planes 0 c.args.values.now
      (factors g.row.W g.row.H c.args.mode.across c.args.mode.down (k % g.row.W)
      (k / g.row.W))
      ∷ plane_sum c.args.mode.planes (last_plane c.args.mode.planes) c.args.values.now
      (factors g.row.W g.row.H c.args.mode.across c.args.mode.down (k % g.row.W) (k / g.row.W))
      ∷ [])
      c.loop-p.all c.loop-p.p [] _ (omega (arith, sides_few g.row.W g.row.H c.requires.footprint))
      (c.numerators_at.ensures.exact
      ∙ rw (c.place_at-x.ensures.column, c.place_at-x.ensures.row) refl)
      c.loop-p.invariant.done;
  long = search rules;
  small = All-set (λ pair. All (λ n. n ≤ 1024) pair) c.loop-p.all c.loop-p.p _
      c.numerators_at.ensures.small c.loop-p.invariant.small;
}
