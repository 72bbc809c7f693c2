use Rattle.std.proofs.Common.{◌*◌, ◌≤◌, ◌∙◌, arith}
use Rattle.std.proofs.lemmas.List.{length-set}
use Rattle.astc_model.proofs.FootprintLaws.{sides_few}
use Rattle.listed_walk.proofs.PatternLaws.{one_more}
use Rattle.listed_walk.proofs.patterns.InsidePattern.places.Goals as goal

pub loop-p-preserved : goal.loop-p-preserved
loop-p-preserved g c =
    let few : g.row.W * g.row.H ≤ 144 = sides_few g.row.W g.row.H c.requires in (
      length-set c.loop-p.places c.loop-p.p c.place.result ∙ c.loop-p.invariant.0,
      one_more g.row.W c.args.self.columns c.args.self.rows c.loop-p.places c.loop-p.p
          c.place.result (omega (arith, c.loop-p.invariant.0)) c.place.ensures c.loop-p.invariant.1,
    )
