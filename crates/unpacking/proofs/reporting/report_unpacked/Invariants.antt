use Rattle.std.proofs.Common.{◌≡◌, ◌≤◌, ◌*◌, ◌^◌, map, take}
use Rattle.std.specs.Prelude.{sum_by}
use Rattle.tex_shelf.specs.Files.{with_text}
use Rattle.outcomes.specs.Causes.{text_of}
use Rattle.unpacking.specs.Reports.{image_line}
use Rattle.unpacking.proofs.reporting.report_unpacked.Given as goal

abbrev pub invariant-loop-k : goal.invariant-loop-k
invariant-loop-k g l = record {
  written : g.R.Report.written l.report ≡ with_text (g.R.Report.written l.initial.report)
      (text_of (map image_line (take l.k l.images)));
  faults : g.R.Report.faults l.initial.report ≤ g.R.Report.faults l.report;
  blocks : l.blocks ≡ sum_by (λ image. image.blocks) (take l.k l.images);
  illegal : l.illegal ≡ sum_by (λ image. image.illegal) (take l.k l.images);
  some_blocks : l.blocks ≤ l.k * 2 ^ 32;
  some_illegal : l.illegal ≤ l.k * 2 ^ 32;
}
