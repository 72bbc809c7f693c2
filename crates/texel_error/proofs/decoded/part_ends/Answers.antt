use Rattle.std.proofs.Common.{[], arith, rules}
use Rattle.astc_model.specs.CodedTexels.{part_colours}
use Rattle.astc_model.proofs.ListLaws.{fill_step}
use Rattle.texel_error.proofs.PartLaws.{part_fits}
use Rattle.texel_error.proofs.decoded.part_ends.Goals as goal

pub loop-part-init : goal.loop-part-init
loop-part-init g c = record { done = λ k below. absurd (omega arith); long = search rules }

pub ends_of_part-requires-clause-fits : goal.ends_of_part-requires-clause-fits
ends_of_part-requires-clause-fits g c =
    rw c.requires.legal.all_colours
    (part_fits c.args.coded.now.cems c.loop-part.part c.args.coded.now.parts (omega arith)
    (omega (arith, c.requires.four_parts, c.requires.four_modes)))

pub loop-part-preserved : goal.loop-part-preserved
loop-part-preserved g c = record {
  done = rw c.from.ensures
      (fill_step (part_colours c.args.coded.now c.args.level) c.loop-part.all c.loop-part.part
      ([], []) _
      (omega (arith, c.requires.four_parts)) c.ends_of_part.ensures c.loop-part.invariant.done);
  long = search rules;
}
