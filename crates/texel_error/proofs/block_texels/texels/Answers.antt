use Rattle.std.proofs.Common.{◌∙◌, [], arith, rules}
use Rattle.texel_error.specs.Decoding.{shown_at}
use Rattle.astc_model.proofs.FootprintLaws.{sides_few}
use Rattle.astc_model.proofs.ListLaws.{fill_step}
use Rattle.texel_error.proofs.block_texels.texels.Goals as goal

pub loop-p-init : goal.loop-p-init
loop-p-init g c = record { done = λ k below. absurd (omega arith); long = search rules }

pub texel-requires-clause-place : goal.texel-requires-clause-place
texel-requires-clause-place g c = omega (arith, sides_few g.row.W g.row.H c.requires.footprint)

pub loop-p-preserved : goal.loop-p-preserved
loop-p-preserved g c = record {
  done = fill_step (shown_at c.decode-decoded.result) c.loop-p.all c.loop-p.p [] _
      (omega (arith, sides_few g.row.W g.row.H c.requires.footprint)) c.texel.ensures
      c.loop-p.invariant.done;
  long = search rules;
}

pub returns : goal.returns
returns g c = λ p below. c.loop-p.invariant.done p (omega arith)
    ∙ c.decode-decoded.ensures.shows.at p below
