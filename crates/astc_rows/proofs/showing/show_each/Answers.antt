use Rattle.std.proofs.Common.{◌≡◌, arith}
use Rattle.astc_rows.specs.Bands.{block_count}
use Rattle.astc_rows.proofs.ShowingLaws.{drawn-none, drawn-more, drawn-all}
use Rattle.astc_rows.proofs.showing.show_each.Goals as goal

pub loop-k-init : goal.loop-k-init
loop-k-init g c = drawn-none g.row.W g.row.H c.args.band c.args.blocks.now c.args.texels.now

pub loop-k-preserved : goal.loop-k-preserved
loop-k-preserved g c =
    drawn-more g.row.W g.row.H c.args.band c.requires.footprint c.requires.band c.loop-k.k
    c.args.blocks.now c.shown_block-shown.result.texels c.args.texels.now c.loop-k.texels _
    c.loop-k.illegal c.shown_block-shown.result.illegal c.loop-k.invariant
    c.shown_block-shown.ensures.texels c.shown_block-shown.ensures.illegal
    c.shown_block-shown.ensures.one
    c.put_block.ensures.own c.put_block.ensures.others c.put_block.ensures.length

pub returns-clause-shown : goal.returns-clause-shown
returns-clause-shown g c =
    let all : c.loop-k.k ≡ block_count g.row.W c.args.band =
    omega (arith, c.loop-k.auto.k-end, c.loop-k-test.false, c.requires.blocks) in
    drawn-all g.row.W g.row.H c.args.band c.requires.footprint c.requires.band c.loop-k.k
    c.args.blocks.now c.args.texels.now c.loop-k.texels c.loop-k.illegal c.loop-k.invariant all
    c.requires.full
