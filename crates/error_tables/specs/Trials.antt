-- The errors of places after a change, from the tables.
use Rattle.std.specs.Prelude.{◌≡◌, length, Bool, true, ℕ, ◌+◌, ◌-◌, ◌*◌, ◌≤◌, List, Option, None, slice_index, slice_index_or, slice_set}
use Rattle.std.specs.List.{All}
use Rattle.astc_model.specs.Limits.{most_texel_error, most_block_error}
use Rattle.astc_model.specs.Places.{Texel}
use Rattle.astc_model.specs.Errors.{place_error}
use Rattle.astc_model.specs.declared.flavour.Flavour.TheVariants.{Linear, Srgb}
use Rattle.texel_error.specs.declared.decoded.Decoded.{Decoded}
use Rattle.texel_error.specs.Shown.{Ends}
use Rattle.texel_error.specs.Decoding.{IsSound, shown_of, ends_at, numerators_at}
use Rattle.error_tables.specs.declared.tables.Tables.{Tables}

-- the error of a place that shows these ends at the weights of these numerators
unfoldable pub error_with : Tables → Ends → List ℕ → Option Texel → ℕ
error_with tables ends numerators place =
    place_error tables.weights
    (shown_of tables.decoded.flavour tables.decoded.plane ends numerators) place

-- the numerators if a plane has a point with this factor, and the point gets a new value
abbrev pub moved : List ℕ → (plane factor old new : ℕ) → List ℕ
moved numerators plane factor old new =
    slice_set numerators plane (slice_index numerators plane + factor * new - factor * old)

-- the same of a place
abbrev pub moved_at : Tables → (plane old new p factor : ℕ) → List ℕ
moved_at tables plane old new p factor = moved (numerators_at tables.decoded p) plane factor old new

-- the error of a place after a point with this factor in it gets a new value
unfoldable pub weighed : Tables → (plane old new p factor : ℕ) → ℕ
weighed tables plane old new p factor =
    error_with tables (ends_at tables.decoded p) (moved_at tables plane old new p factor)
    (slice_index_or tables.places.now p None)

-- the error of a place with other ends
unfoldable pub coloured : Tables → Ends → ℕ → ℕ
coloured tables ends p = error_with tables ends (numerators_at tables.decoded p)
    (slice_index_or tables.places.now p None)

-- the kept numbers are within their ranges
pub record AreTablesSmall (tables : Tables) : Type 0 where
  pub sound : IsSound tables.decoded
  pub weights : All (λ weight. weight ≤ 15) tables.weights
  pub errors : All (λ error. error ≤ most_texel_error) tables.errors
  pub total : tables.total ≤ most_block_error
  pub few_places : length tables.places.now ≤ 144
  pub all_errors : length tables.errors ≡ 144

-- the form of a block that is known: linear if the number is 0, sRGB if it is 1, and a single plane
pub record IsKnown (known : ℕ) (is_single : Bool) (decoded : Decoded) : Type 0 where
  pub linear : known ≡ 0 → decoded.flavour ≡ Linear
  pub srgb : known ≡ 1 → decoded.flavour ≡ Srgb
  pub single : is_single ≡ true → decoded.plane ≡ 0
