-- The state of shelves and reports.
use Rattle.std.specs.Prelude.{ℕ, List, [], ◌++◌, drop, Option, Some, refl}
use Rattle.std.specs.Coded.{Coded, code_by, coded×, coded_ℕ, coded_list, coded_option}
use Rattle.std.specs.FinMap.{insert}
use Rattle.tex_shelf.specs.Faults.{raised}
use Rattle.tex_shelf.specs.Files.{Files, files_code, appended}

-- a folder: its files, and the name of the one that grows
pub record FolderState : Type 0 where
  pub files : Files
  pub target : Option (List ℕ)

-- how a folder is stored in a model's value: its files and its target as a pair
abbrev pub folder_code : Coded FolderState
folder_code =
    code_by (Files × Option (List ℕ)) (coded× files_code (coded_option (coded_list coded_ℕ)))
    (λ f. (f.files, f.target)) (λ p. record { files = p.0; target = p.1 }) (λ _. refl)

-- A shelf: its files, the rest of its input, its target, its counts of faults, the number of calls
-- so far, the numbers of the calls that fail, and the most bytes that a call moves.
pub record ShelfState : Type 0 where
  pub files : Files
  pub left : List ℕ
  pub target : Option (List ℕ)
  pub read_faults : ℕ
  pub write_faults : ℕ
  pub calls : ℕ
  pub failing : List ℕ
  pub most : ℕ

-- how a shelf is stored in a model's value: its folder in front, then the rest, in pairs
abbrev pub shelf_code : Coded ShelfState
shelf_code =
    code_by (FolderState × (List ℕ × (ℕ × (ℕ × (ℕ × (List ℕ × ℕ))))))
    (coded× folder_code (coded× (coded_list coded_ℕ)
    (coded× coded_ℕ (coded× coded_ℕ
    (coded× coded_ℕ (coded× (coded_list coded_ℕ) coded_ℕ))))))
    (λ s. (
      record { files = s.files; target = s.target },
      (s.left, (s.read_faults, (s.write_faults, (s.calls, (s.failing, s.most))))),
    ))
    (λ p. record {
      files = p.0.files;
      left = p.1.0;
      target = p.0.target;
      read_faults = p.1.1.0;
      write_faults = p.1.1.1.0;
      calls = p.1.1.1.1.0;
      failing = p.1.1.1.1.1.0;
      most = p.1.1.1.1.1.1;
    })
    (λ _. refl)

-- after a call that opened a file of these bytes
abbrev pub opened : ShelfState → List ℕ → ShelfState
opened shelf bytes = record shelf { left = bytes; calls = raised shelf.calls }

-- the state after a call that took this number of bytes
abbrev pub taken : ShelfState → ℕ → ShelfState
taken shelf n = record shelf { left = drop n shelf.left; calls = raised shelf.calls }

-- after a call that created this file
abbrev pub created : ShelfState → List ℕ → ShelfState
created shelf name = record shelf {
  files = insert shelf.files name [];
  left = [];
  target = Some name;
  calls = raised shelf.calls;
}

-- after a call that put these bytes
abbrev pub extended : ShelfState → List ℕ → ShelfState
extended shelf more = record shelf {
  files = appended shelf.files shelf.target more;
  calls = raised shelf.calls;
}

-- after a call that failed to read
abbrev pub read_failed : ShelfState → ShelfState
read_failed shelf = record shelf {
  read_faults = raised shelf.read_faults;
  calls = raised shelf.calls;
}

-- after a call that failed to write
abbrev pub write_failed : ShelfState → ShelfState
write_failed shelf = record shelf {
  write_faults = raised shelf.write_faults;
  calls = raised shelf.calls;
}

-- A report: its text, its count of faults, the number of calls so far, and the numbers of the calls
-- that fail.
pub record ReportState : Type 0 where
  pub text : List ℕ
  pub faults : ℕ
  pub calls : ℕ
  pub failing : List ℕ

-- after a call that wrote this
abbrev pub printed : ReportState → List ℕ → ReportState
printed report more = record report { text = report.text ++ more; calls = raised report.calls }

-- after a call that failed
abbrev pub refused : ReportState → ReportState
refused report = record report { faults = raised report.faults; calls = raised report.calls }

-- a shelf of real files: the name of its output, and its counts of faults
pub record FileShelfState : Type 0 where
  pub target : Option (List ℕ)
  pub read_faults : ℕ
  pub write_faults : ℕ

-- a shelf that never fails: its files, the rest of its input, its target
pub record SteadyState : Type 0 where
  pub files : Files
  pub left : List ℕ
  pub target : Option (List ℕ)

-- how it is stored in a model's value: its folder, and the rest of its input
abbrev pub steady_code : Coded SteadyState
steady_code =
    code_by (FolderState × List ℕ) (coded× folder_code (coded_list coded_ℕ))
    (λ s. (record { files = s.files; target = s.target }, s.left))
    (λ p. record { files = p.0.files; left = p.1; target = p.0.target }) (λ _. refl)
