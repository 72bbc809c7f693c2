use Rattle.std.proofs.Common.{ℕ, ◌+◌, ◌*◌, ◌<◌, Some, ◌∙◌, ap}
use Rattle.std.specs.Prelude.{slice_set}
use Rattle.std.proofs.Math.Seq.{take-set-lt}
use Rattle.std.proofs.lemmas.Nat.{mul-add-lt}
use Rattle.astc_model.proofs.source.Source.set.Goals as goal

-- the write changes one place below W * H, and so the list that contracts see
pub returns : goal.returns
returns g c =
    let at : ℕ = c.args.y * g.row.W + c.args.x in
    let within : at < g.row.W * g.row.H =
    mul-add-lt c.args.y g.row.W c.args.x g.row.H c.requires.row c.requires.column in
    take-set-lt (g.row.W * g.row.H) c.self.inside.places at (Some c.args.texel) within
    ∙ ap (λ places. slice_set places at (Some c.args.texel)) c.self.view_is
