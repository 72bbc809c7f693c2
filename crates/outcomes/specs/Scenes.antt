-- The state that a command reads and changes.
use Rattle.std.specs.Prelude.{◌≡◌, ℕ, List, Option}
use Rattle.tex_shelf.specs.Files.{Files}
use Rattle.tex_shelf.specs.declared.shelf.Shelf.{Ghosts as ShelfMeanings}
use Rattle.tex_shelf.specs.declared.report.Report.{Ghosts as ReportMeanings}

-- The files and the report's text, if they are known, the name of the output, and the three counts
-- of faults.
pub record Scene : Type 0 where
  pub files : Option Files
  pub target : Option (List ℕ)
  pub written : Option (List ℕ)
  pub read_faults : ℕ
  pub write_faults : ℕ
  pub report_faults : ℕ

-- the scene that a shelf and a report make, by their meanings
abbrev pub scene : {S R : Type 0} → ShelfMeanings S → ReportMeanings R → S → R → Scene
scene shelf_means report_means shelf report = record {
  files = shelf_means.files shelf;
  target = shelf_means.target shelf;
  written = report_means.written report;
  read_faults = shelf_means.read_faults shelf;
  write_faults = shelf_means.write_faults shelf;
  report_faults = report_means.faults report;
}
