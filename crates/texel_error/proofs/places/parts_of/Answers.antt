use Rattle.std.proofs.Common.{refl, ◌<◌, ◌/◌, ◌%◌, ◌∙◌, arith, rules}
use Rattle.std.proofs.lemmas.List.Elements.{All-set, All-replicate}
use Rattle.astc_model.specs.Partitions.{part_of}
use Rattle.astc_model.proofs.FootprintLaws.{sides_few}
use Rattle.astc_model.proofs.ListLaws.{fill_step}
use Rattle.texel_error.proofs.places.parts_of.Goals as goal

pub loop-p-init : goal.loop-p-init
loop-p-init g c = record {
  done = λ k below. absurd (omega arith);
  long = search rules;
  small = All-replicate (λ part. part < 4) 144 0 (omega arith);
}

pub loop-p-preserved : goal.loop-p-preserved
loop-p-preserved g c = record {
  done = fill_step (λ k. part_of g.row.W g.row.H c.args.parts c.args.seed (k % g.row.W)
      (k / g.row.W)) c.loop-p.all c.loop-p.p 0 _
      (omega (arith, sides_few g.row.W g.row.H c.requires.footprint)) (c.part_of.ensures.part
      ∙ rw (c.place_at-x.ensures.column, c.place_at-x.ensures.row) refl)
      c.loop-p.invariant.done;
  long = search rules;
  small = All-set (λ part. part < 4) c.loop-p.all c.loop-p.p _
      (omega arith) c.loop-p.invariant.small;
}
