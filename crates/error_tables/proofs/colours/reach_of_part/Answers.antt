use Rattle.std.proofs.Common.{arith}
use Rattle.astc_model.proofs.FootprintLaws.{sides_few}
use Rattle.error_tables.proofs.ColourTrial.{part_few}
use Rattle.error_tables.proofs.TableLaws.{kept_reach}
use Rattle.error_tables.proofs.colours.reach_of_part.Goals as goal

pub returns-clause-are : goal.returns-clause-are
returns-clause-are g c =
    kept_reach g.row.W g.row.H c.args.tables.now c.args.part _ _ _ c.requires.kept c.requires.part
    c.from.ensures c.as_slice.ensures.value

pub returns-clause-within : goal.returns-clause-within
returns-clause-within g c = λ k d lt.
    omega (
      arith,
      sides_few g.row.W g.row.H c.requires.kept.sides,
      (returns-clause-are g c).within k d lt,
    )

pub returns-clause-few : goal.returns-clause-few
returns-clause-few g c =
    omega (
      arith,
      sides_few g.row.W g.row.H c.requires.kept.sides,
      part_few g.row.W g.row.H
          c.args.tables.now c.args.part _ (returns-clause-are g c),
    )
