-- The results of a reader.
use Rattle.std.specs.Prelude.{◌≡◌, ◌+◌, ℕ, Bool, true, false, List, length}
use Rattle.std.specs.List.{AllByRecursion}
use Rattle.ktx_file.specs.declared.fault.KtxFault.TheVariants.{BadImageSize, ShortData, TrailingBytes}
use Rattle.ktx_file.specs.Faults.{KtxFault}

-- whether a fault is seen in the first 64 bytes
abbrev pub is_early : KtxFault → Bool
is_early (BadImageSize level found wanted) = false
is_early (ShortData n) = false
is_early TrailingBytes = false
is_early fault = true

-- n blocks of 16 bytes were appended to those that were there
pub record IsGrown (n : ℕ) (old new : List (List ℕ)) : Type 0 where
  pub count : length new ≡ length old + n
  pub sizes : AllByRecursion (λ block. length block ≡ 16) old
      → AllByRecursion (λ block. length block ≡ 16) new
