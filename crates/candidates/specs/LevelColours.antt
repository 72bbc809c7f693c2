-- The endpoints of a recipe's block at a level, from ideal values that all levels share.
use Rattle.std.specs.Prelude.{◌≡◌, ℕ, ◌<◌, List, [], length, slice_index_or}
use Rattle.arrayvec.specs.ArrayVec.{ArrayVec}
use Rattle.astc_model.specs.Ideal.{ideal}
use Rattle.astc_model.specs.declared.bounds.Box8.{Box8}
use Rattle.astc_model.specs.declared.recipe.Recipe.{Recipe}
use Rattle.candidates.specs.Pieces.{no_bounds}

-- the ideal colour values of a partition, from the list of the bounds of all partitions
abbrev pub ideal_from : Recipe → List Box8 → ℕ → List ℕ
ideal_from recipe bounds part =
    ideal recipe.cem recipe.flip (slice_index_or bounds part no_bounds).lo
    (slice_index_or bounds part no_bounds).hi

-- the ideal colour values of a partition in a list for all partitions
abbrev pub ideal_at : List (ArrayVec ℕ) → ℕ → List ℕ
ideal_at ideals part = (slice_index_or ideals part (record { items = [] })).items

-- the list has the ideal colour values of the first n partitions
pub record AreIdealsTo (recipe : Recipe) (bounds : List Box8) (n : ℕ)
    (ideals : List (ArrayVec ℕ)) : Type 0 where
  pub all : length ideals ≡ n
  pub each : (part : ℕ) → part < n → ideal_at ideals part ≡ ideal_from recipe bounds part
