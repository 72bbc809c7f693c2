use Rattle.std.proofs.Common.{◌∙◌, sym, arith, rules}
use Rattle.pam_image.proofs.SayLaws.{ended_at}
use Rattle.pam_image.proofs.series.end.Goals as goal

pub returns-clause-reads : goal.returns-clause-reads
returns-clause-reads g c = λ bytes e.
    ended_at c.args.ahead.now c.take_full.new.into _ c.in_ok-take_full.field-0 _ _ bytes
    (sym c.is_empty.ensures ∙ c.if-not-is_empty.false) e (omega arith)
    (search rules) c.in_ok-take_full.ensures.taken
