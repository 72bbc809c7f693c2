use Rattle.std.proofs.Common.{arith, subst, sym}
use Rattle.astc_model.specs.Blocks.{Legal}
use Rattle.astc_model.specs.declared.block.Block.TheVariants.{Coded}
use Rattle.block_fit.specs.declared.fitting.FittedBlock.{FittedBlock}
use Rattle.descent.proofs.fits.look_at_each.Goals as goal

pub look_at_settled-requires : goal.look_at_settled-requires
look_at_settled-requires g c =
    let IsLegal : FittedBlock → Type 0 = λ found. Legal g.row.W g.row.H (Coded found.coded) in
    let legal : IsLegal c.found-item.result = subst IsLegal (sym c.found-item.is)
    (c.requires.legal c.loop-found.found-index c.found-item.result c.loop-found-test.true) in
    (omega arith, (legal, c.loop-found.invariant.sound))
