-- The report of an unpack.
use Rattle.std.specs.Prelude.{ℕ, List, [], ◌∷◌, ◌++◌, codes, map, sum_by}
use Rattle.std.specs.Fmt.{decimal}
use Rattle.outcomes.specs.Reports.{image_text}
use Rattle.unpacking.specs.declared.unpacked_image.UnpackedImage.{UnpackedImage}

-- `level L element E face F blocks N illegal K`
abbrev pub image_line : UnpackedImage → List ℕ
image_line image =
    image_text image.place image.blocks (codes " illegal " ++ (decimal image.illegal ++ 10 ∷ []))

-- `total blocks N illegal K`
abbrev pub total_line : ℕ → ℕ → List ℕ
total_line blocks illegal =
    codes "total blocks " ++ (decimal blocks ++ (codes " illegal " ++ (decimal illegal ++ 10 ∷ [])))

-- a line for each image, then the sums
abbrev pub report_lines : List UnpackedImage → List (List ℕ)
report_lines images = map image_line images ++ total_line (sum_by (λ image. image.blocks) images)
    (sum_by (λ image. image.illegal) images) ∷ []
