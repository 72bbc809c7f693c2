-- The lines of reports.
use Rattle.std.specs.Prelude.{ℕ, List, ◌++◌, codes}
use Rattle.std.specs.Fmt.{decimal}
use Rattle.texture.specs.declared.places.ImagePlace.{ImagePlace}

-- `level L element E face F blocks N`, and what follows
abbrev pub image_text : ImagePlace → ℕ → List ℕ → List ℕ
image_text place blocks rest =
    codes "level " ++ (decimal place.level
    ++ (codes " element " ++ (decimal place.element
    ++ (codes " face " ++ (decimal place.face
    ++ (codes " blocks " ++ (decimal blocks ++ rest)))))))
