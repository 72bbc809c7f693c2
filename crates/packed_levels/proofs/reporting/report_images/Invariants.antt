use Rattle.std.proofs.Common.{◌≡◌, ◌≤◌, map, take}
use Rattle.tex_shelf.specs.Files.{with_text}
use Rattle.outcomes.specs.Causes.{text_of}
use Rattle.packed_levels.specs.Reports.{image_line}
use Rattle.packed_levels.proofs.reporting.report_images.Given as goal

abbrev pub invariant-loop-image : goal.invariant-loop-image
invariant-loop-image g l = record {
  written : g.R.Report.written l.report ≡ with_text (g.R.Report.written l.fn.report)
      (text_of (map image_line (take l.image-index l.images)));
  never_falls : g.R.Report.faults l.fn.report ≤ g.R.Report.faults l.report;
}
