use Rattle.std.proofs.Common.{arith}
use Rattle.std.proofs.lemmas.Simd.{length-put_chunk, get_or-put_chunk_above, get_or-put_chunk_at, get_or-put_chunk_below}
use Rattle.texel_lanes.proofs.loads.put_four_texels.Goals as goal

pub returns : goal.returns
returns c =
    let at = c.args.at in
    let old = c.args.bytes.now in
    let put = c.args.texels in
    let long = c.requires.texels in
    let room = c.requires.room in
    record {
      long = length-put_chunk at old put;
      own = λ k l. get_or-put_chunk_at at old put k 0 (omega arith) (omega arith);
      below = λ k l. get_or-put_chunk_below at old put k 0 l;
      above = λ k l. get_or-put_chunk_above at old put k 0 (omega arith);
    }
