-- The report of an audit.
use Rattle.std.specs.Prelude.{ℕ, List, [], ◌∷◌, ◌++◌, codes, map, sum_by}
use Rattle.std.specs.Fmt.{decimal}
use Rattle.outcomes.specs.Reports.{image_text}
use Rattle.astc_audit.specs.declared.gathering.AuditedImage.{AuditedImage}

-- ` error S bad K`
abbrev pub findings_text : ℕ → ℕ → List ℕ
findings_text error bad =
    codes " error " ++ (decimal error ++ (codes " bad " ++ (decimal bad ++ 10 ∷ [])))

-- `level L element E face F blocks N error S bad K`
abbrev pub image_line : AuditedImage → List ℕ
image_line image = image_text image.place image.findings.blocks
    (findings_text image.findings.error image.findings.bad)

-- `total S bad K`
abbrev pub total_line : ℕ → ℕ → List ℕ
total_line error bad = codes "total "
    ++ (decimal error ++ (codes " bad " ++ (decimal bad ++ 10 ∷ [])))

-- the sum of all errors, and the number of all bad blocks
abbrev pub error_in : List AuditedImage → ℕ
error_in images = sum_by (λ image. image.findings.error) images

abbrev pub bad_in : List AuditedImage → ℕ
bad_in images = sum_by (λ image. image.findings.bad) images

-- a line for each image, then the sums
abbrev pub report_lines : List AuditedImage → List (List ℕ)
report_lines images = map image_line images ++ total_line (error_in images) (bad_in images) ∷ []
