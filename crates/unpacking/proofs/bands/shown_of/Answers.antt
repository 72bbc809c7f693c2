use Rattle.std.proofs.Common.{◌≡◌, ◌<◌, ◌∙◌, Err, [], ◌∷◌, sym, arith}
use Rattle.std.proofs.lemmas.List.{get_or-replicate}
use Rattle.astc_model.specs.Shown.{shown}
use Rattle.astc_model.specs.Reading.{read}
use Rattle.astc_model.proofs.FootprintLaws.{sides_few}
use Rattle.unpacking.proofs.bands.shown_of.Goals as goal

pub returns-in-Err-clause-texels : goal.returns-in-Err-clause-texels
unfolding shown
returns-in-Err-clause-texels g c = λ p inside.
    let few : p < 144 = omega (arith, sides_few g.row.W g.row.H c.requires, inside) in
    let fault : read g.row.W g.row.H c.args.bytes.now ≡ Err c.in-Err.field-0 =
    sym c.in-Err.ensures.block in
    rw fault (get_or-replicate 144 p (255 ∷ 0 ∷ 255 ∷ 255 ∷ []) [] few)
