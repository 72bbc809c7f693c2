use Rattle.std.proofs.Common.{◌+◌, ◌*◌, ◌/◌, ◌%◌, ◌∙◌, ap, sym}
use Rattle.astc_rows.proofs.ShowingLaws.{put-none, put-more}
use Rattle.astc_rows.proofs.showing.put_block.Goals as goal

pub loop-p-init : goal.loop-p-init
loop-p-init g c = put-none g.row.W g.row.H c.args.band c.args.k c.args.block.now c.args.texels.now

pub loop-p-preserved : goal.loop-p-preserved
loop-p-preserved g c =
    let w = g.row.W in
    let h = g.row.H in
    let k = c.args.k in
    let p = c.loop-p.p in
    let columns_are = c.covering-columns.ensures.exact in
    put-more w h c.args.band c.requires.footprint c.requires.band k p _ _ c.texel_rows-rows.result
    c.args.block.now c.args.texels.now c.loop-p.texels _ c.loop-p.invariant c.loop-p-test.true
    (ap (λ n. k % n * w + p % w) columns_are) (ap (λ n. k / n * h + p / w) columns_are)
    (c.requires.full ∙ ap (λ n. n * c.args.band.width) (sym c.texel_rows-rows.ensures.exact))
    c.put_texel.ensures
