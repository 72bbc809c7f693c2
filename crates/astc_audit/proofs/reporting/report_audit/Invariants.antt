use Rattle.std.proofs.Common.{◌≡◌, ◌≤◌, map, take}
use Rattle.tex_shelf.specs.Files.{with_text}
use Rattle.outcomes.specs.Causes.{text_of}
use Rattle.astc_audit.specs.Reports.{image_line}
use Rattle.astc_audit.proofs.reporting.report_audit.Given as goal

abbrev pub invariant-loop-k : goal.invariant-loop-k
invariant-loop-k g l = record {
  written : g.R.Report.written l.report ≡ with_text (g.R.Report.written l.initial.report)
      (text_of (map image_line (take l.k l.images)));
  faults : g.R.Report.faults l.initial.report ≤ g.R.Report.faults l.report;
}
