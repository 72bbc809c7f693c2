use Rattle.std.proofs.Common.{sym}
use Rattle.encoder.proofs.VerdictLaws.{verdict-read, verdict-fault}
use Rattle.encoder.proofs.verdict.verdict_on.Goals as goal

pub returns-in-Ok : goal.returns-in-Ok
returns-in-Ok g c =
    let to = c.args.goal.now in
    record {
      verdict = verdict-read g.row.W g.row.H to.flavour to.weights c.args.search.now.preset
          to.places c.args.bytes.now c.in-Ok.block c.verdict_on_legal.result
          (sym c.in-Ok.ensures.block)
          c.verdict_on_legal.ensures.legal c.verdict_on_legal.ensures.error
          c.verdict_on_legal.ensures.candidates_met c.verdict_on_legal.ensures.least;
      small = c.verdict_on_legal.ensures.small;
    }

pub returns-in-Err : goal.returns-in-Err
returns-in-Err g c =
    let to = c.args.goal.now in
    record {
      verdict = verdict-fault g.row.W g.row.H to.flavour to.weights c.args.search.now.preset
          to.places c.args.bytes.now c.in-Err.field-0 c.constant_error.result
          (sym c.in-Err.ensures.block)
          (rw (c.source.ensures, c.weights.ensures) at c.constant_error.ensures.exact to.flavour);
      small = c.constant_error.ensures.small;
    }
