use Rattle.std.proofs.Common.{arith, rules}
use Rattle.images.proofs.ChainLaws.{row_more, row_whole}
use Rattle.images.proofs.chains.push_row.Goals as goal

pub loop-x-preserved : goal.loop-x-preserved
loop-x-preserved c = record {
  row = row_more c.args.images.now c.args.image c.args.y c.loop-x.x c.args.texels.now.items _ _
      c.halved_texel.result c.loop-x.invariant.row c.halved_texel.ensures
      c.in_ok-extend_from_slice.ensures.items;
  size = search rules;
}

pub returns-clause-row : goal.returns-clause-row
returns-clause-row c = row_whole c.args.images.now c.args.image c.args.y c.loop-x.x
    c.args.texels.now.items _ (omega arith) c.loop-x.invariant.row
