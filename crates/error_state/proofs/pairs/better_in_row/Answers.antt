use Rattle.std.proofs.Common.{◌≤◌, subst}
use Rattle.colour_bounds.specs.PartScans.{state_of}
use Rattle.error_state.specs.Pairs.{error_with_pair}
use Rattle.error_state.proofs.RowTrial.{row_finds}
use Rattle.error_state.proofs.pairs.better_in_row.Goals as goal

pub returns-then-is_row_over-clause-finds : goal.returns-then-is_row_over-clause-finds
returns-then-is_row_over-clause-finds g c = λ change is own.
    subst (λ e. e ≤ error_with_pair g.row.W g.row.H (state_of c.args.scan.now) change)
    c.requires.scan.kept.total_is
    (row_finds g.row.W g.row.H c.args.scan.now c.requires.scan c.args.pair c.args.first
    c.requires.within c.requires.first
    (rw c.colour_value-value.ensures at (c.is_row_over.ensures c.if-is_row_over.true)) change is
    own)
