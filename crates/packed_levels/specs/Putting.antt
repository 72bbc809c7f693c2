-- The result of settling the blocks of a texture and putting them.
use Rattle.std.specs.Prelude.{◌≡◌, ◌⊎◌, ℕ, List, take, Option, Result, Ok, Err}
use Rattle.std.specs.Global.{Vec}
use Rattle.tex_shelf.specs.Files.{Files, with_more, stored}
use Rattle.tex_shelf.specs.declared.stop.ShelfStop.{ShelfStop}
use Rattle.images.specs.Pictures.{Pictures}
use Rattle.texture.specs.declared.shape.Shape.{Shape}
use Rattle.ktx_file.specs.Files.{ktx}
use Rattle.adviser_pool.specs.Advisers.{AdviserState}
use Rattle.outcomes.specs.Causes.{Stopped}
use Rattle.packed_levels.specs.declared.options.PackOptions.{PackOptions}
use Rattle.packed_levels.specs.Settling.{Settling, AreSettled, blocks_of, errors_of, way_of}
use Rattle.packed_levels.specs.Serving.{ServesIf}
use Rattle.packed_levels.specs.Packed.{BeginsPacked}
use Rattle.packed_levels.specs.Sources.{sources}

-- the blocks of a texture were settled, with these errors, and made a file
pub record AreFramed (shape : Shape) (options : PackOptions) (levels : List Pictures)
    (before after : List AdviserState) (file errors : List ℕ) : Type 0 where
  pub done : List Settling
  pub are : AreSettled (way_of shape.name options) (sources shape levels) done
  pub serves : ServesIf options.advised (way_of shape.name options) before after done
  pub framed : file ≡ ktx shape (blocks_of done)
  pub errors_are : errors ≡ errors_of done

-- a prefix of a file whose blocks are settled if they begin in the prefix
pub record IsPackFront (shape : Shape) (options : PackOptions) (levels : List Pictures)
    (front : List ℕ) : Type 0 where
  pub file : List ℕ
  pub k : ℕ
  pub begun : BeginsPacked shape options levels k file
  pub front_is : front ≡ take k file

-- the result of putting a file, with the count of faults before and after
abbrev pub PutsFile : Shape → PackOptions → List Pictures → List AdviserState → List AdviserState
    → Option Files → Option (List ℕ) → Option Files → ℕ → ℕ → Result (Vec ℕ) ShelfStop → Type 0
PutsFile shape options levels before after files target now count count_now (Ok errors) =
    (file : List ℕ) × AreFramed shape options levels before after file errors.items
    × (now ≡ with_more files target file)
PutsFile shape options levels before after files target now count count_now (Err stop) =
    Stopped count count_now ((front : List ℕ) × IsPackFront shape options levels front
    × (now ≡ with_more files target front)) stop

-- the result of writing the file as a new one
abbrev pub StoresFile : Shape → PackOptions → List Pictures → List AdviserState → List AdviserState
    → Option Files → List ℕ → Option Files → ℕ → ℕ → Result (Vec ℕ) ShelfStop → Type 0
StoresFile shape options levels before after files output now count count_now (Ok errors) =
    (file : List ℕ) × AreFramed shape options levels before after file errors.items
    × (now ≡ stored files output file)
StoresFile shape options levels before after files output now count count_now (Err stop) =
    Stopped count count_now
    ((now ≡ files) ⊎ ((front : List ℕ) × IsPackFront shape options levels front
    × (now ≡ stored files output front))) stop
