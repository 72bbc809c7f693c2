use Rattle.std.proofs.Common.{refl}
use Rattle.outcomes.proofs.PieceLaws.{puts-error}
use Rattle.packed_levels.specs.Rows.{level_front, row_bytes}
use Rattle.packed_levels.proofs.PuttingLaws.{puts-all, puts-behind, stopped-before}
use Rattle.packed_levels.proofs.rows.put_row.Goals as goal

pub returns-in_err-put_level_front-clause-puts : goal.returns-in_err-put_level_front-clause-puts
returns-in_err-put_level_front-clause-puts g c =
    puts-error c.from_residual.result _ _ _ _ _ _ c.in_err-put_level_front.field-0.0
    c.from_residual.ensures.1
    (stopped-before _ _ _ (level_front c.args.layout.now c.args.row.now) c.args.bytes.now
    (row_bytes c.args.layout.now c.args.row.now c.args.bytes.now) _ _
    c.in_err-put_level_front.field-0.0 refl c.in_err-put_level_front.ensures.puts)

pub returns-clause-puts : goal.returns-clause-puts
returns-clause-puts g c =
    puts-behind _ _ _ _ _ (level_front c.args.layout.now c.args.row.now) c.args.bytes.now
    (row_bytes c.args.layout.now c.args.row.now c.args.bytes.now) _ _ _ c.put_all.result refl
    c.in_ok-put_level_front.ensures.puts c.put_level_front.ensures.target
    c.put_level_front.ensures.rest.write_faults
    (puts-all _ _ _ c.args.bytes.now _ _ c.put_all.result c.put_all.ensures.bytes
    c.put_all.ensures.partly c.put_all.ensures.failed)
