use Rattle.std.proofs.Common.{refl}
use Rattle.texel_error.specs.Decoding.{AreNumerators}
use Rattle.texel_error.proofs.decoded.decode_coded.Goals as goal

pub returns : goal.returns
returns g c =
    let weighed : AreNumerators g.row.W g.row.H c.args.coded.now c.args.mode
    c.block_numerators.result = c.block_numerators.ensures in
    record {
      sound = record {
        part_numbers = c.parts_of.ensures.small;
        small_numerators = weighed.small;
        all_parts = c.parts_of.ensures.all;
        all_numerators = weighed.all;
      };
      flavour_is = refl;
      plane_is = refl;
      parts_are = c.parts_of.ensures.parts;
      ends_are = c.part_ends.ensures;
      pairs = weighed.pairs;
      numerators_are = weighed.exact;
    }
