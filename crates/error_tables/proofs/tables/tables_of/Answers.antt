use Rattle.std.proofs.Common.{◌∙◌, length, arith}
use Rattle.texel_error.specs.Decoding.{IsDecoded}
use Rattle.error_tables.specs.declared.tables.Tables.{Tables}
use Rattle.error_tables.proofs.TableLaws.{own_flavour, error_at-is, total-is}
use Rattle.error_tables.proofs.tables.tables_of.Goals as goal

pub returns-clause-flavour : goal.returns-clause-flavour
returns-clause-flavour g c =
    let is : IsDecoded g.row.W g.row.H c.args.flavour c.args.block c.args.mode c.args.level
    c.decode_coded-decoded.result = c.decode_coded-decoded.ensures in is.flavour_is

pub returns-clause-kept : goal.returns-clause-kept
returns-clause-kept g c =
    let is : IsDecoded g.row.W g.row.H c.args.flavour c.args.block c.args.mode c.args.level
    c.decode_coded-decoded.result = c.decode_coded-decoded.ensures in
    let own : IsDecoded g.row.W g.row.H (c.decode_coded-decoded.result).flavour c.args.block
    c.args.mode c.args.level c.decode_coded-decoded.result =
    own_flavour g.row.W g.row.H c.args.flavour c.args.block c.args.mode c.args.level
    c.decode_coded-decoded.result is
    in
    let t : Tables = record {
      block = c.args.block;
      mode = c.args.mode;
      level = c.args.level;
      weights = c.args.weights;
      places = c.args.places;
      decoded = c.decode_coded-decoded.result;
      around = c.around_of-around.result;
      reaches = c.reaches_of_parts-reaches.result;
      errors = c.errors_of-total.result.each;
      total = c.errors_of-total.result.total;
    } in
    record {
      sides = c.requires.shaped.sides;
      all = c.requires.all;
      is_shaped = c.requires.shaped;
      is_decoded = own;
      around_are = c.around_of-around.ensures;
      reaches_are = c.reaches_of_parts-reaches.ensures;
      small = record {
        sound = is.sound;
        weights = c.requires.weights;
        errors = c.errors_of-total.ensures.small;
        total = omega (arith, c.errors_of-total.ensures.small_total);
        all_errors = c.errors_of-total.ensures.all;
        few_places = c.requires.few;
      };
      errors_are = λ p below. c.errors_of-total.ensures.each p (rw c.requires.all below)
          ∙ error_at-is g.row.W g.row.H t c.requires.shaped own p below;
      total_is = c.errors_of-total.ensures.total ∙ total-is g.row.W g.row.H t c.requires.shaped own
          (length c.args.places.now) c.requires.all;
    }
