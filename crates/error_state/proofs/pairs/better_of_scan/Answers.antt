use Rattle.std.proofs.Common.{◌<◌, ℕ, get_or, arith}
use Rattle.error_tables.proofs.PairTrial.{pair_within}
use Rattle.error_state.proofs.pairs.better_of_scan.Goals as goal

pub returns-clause-finds : goal.returns-clause-finds
returns-clause-finds g c = λ change is own.
    let mode : ℕ = get_or c.args.scan.now.tables.now.block.cems change.part 0 in
    let small : mode < 16 = c.requires.kept.is_shaped.legal.fields.mode_ranges change.part 0
    (omega (
      arith,
      is.part,
      c.requires.kept.is_shaped.four_parts,
      c.requires.kept.is_shaped.four_modes,
    )) in
    c.loop-pair.invariant.looked change is own
    (omega (arith, pair_within mode change.pair is.pair, c.loop-pair-test.false))
