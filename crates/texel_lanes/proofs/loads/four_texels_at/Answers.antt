use Rattle.std.proofs.lemmas.Simd.{length-chunk, get_or-chunk}
use Rattle.texel_lanes.proofs.loads.four_texels_at.Goals as goal

pub returns : goal.returns
returns c =
    let xs = c.args.bytes.now in
    record {
      long = length-chunk c.args.at 16 xs c.requires;
      each = λ k l. get_or-chunk c.args.at 16 xs k 0 l;
    }
