use Rattle.std.proofs.Common.{arith, ◌+◌}
use Rattle.std.proofs.lemmas.Simd.{length-chunk, get_or-chunk}
use Rattle.texel_lanes.proofs.loads.bytes_at.Goals as goal

pub returns-clause-lanes : goal.returns-clause-lanes
returns-clause-lanes c =
    let xs = c.args.bytes.now in
    record {
      long = length-chunk c.args.at 8 xs c.requires;
      each = λ k l. get_or-chunk c.args.at 8 xs k 0 l;
    }

pub returns-clause-small : goal.returns-clause-small
returns-clause-small c = λ k l.
    let xs = c.args.bytes.now in
    omega (
      arith,
      get_or-chunk c.args.at 8 xs k 0 l,
      (c.type_inv.bytes (c.args.at + k)).fits,
    )
