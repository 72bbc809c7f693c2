-- The findings for the images of a texture.
use Rattle.std.specs.Prelude.{◌≡◌, ◌<◌, ℕ, false, ◌+◌, ◌*◌, ◌/◌, ◌%◌, List, [], Option, length, slice_index_or}
use Rattle.astc_model.specs.Sums.{sum_to}
use Rattle.astc_model.specs.Places.{Texel}
use Rattle.astc_model.specs.Weights.{Weighting}
use Rattle.astc_model.specs.FootprintNames.{sides_of}
use Rattle.astc_model.specs.Shown.{error_shown}
use Rattle.astc_model.specs.declared.flavour.Flavour.{Flavour}
use Rattle.astc_model.specs.declared.preset.Preset.{Preset}
use Rattle.images.specs.Pictures.{Pictures, source_of}
use Rattle.texture.specs.declared.shape.Shape.{Shape}
use Rattle.texture.specs.declared.places.ImagePlace.{ImagePlace}
use Rattle.texture.specs.Shapes.{columns_of, image_count, image_blocks}
use Rattle.texture.specs.Places.{place_of, image_place}
use Rattle.ktx_file.specs.Files.{File}
use Rattle.astc_words.specs.declared.job.AuditJob.{AuditJob}
use Rattle.encoder.specs.declared.settings.Settings.{Settings}
use Rattle.astc_audit.specs.declared.findings.Findings.{Findings}
use Rattle.astc_audit.specs.declared.gathering.AuditedImage.{AuditedImage}
use Rattle.astc_audit.specs.Counts.{CountsOthers}
use Rattle.astc_audit.specs.Verdicts.{IsGood}

-- how the blocks of a texture of this flavour are judged
abbrev pub settings_for : AuditJob → Flavour → Settings
settings_for job flavour = record {
  preset = job.preset;
  flavour = flavour;
  weights = job.weights;
  fits = false;
}

-- the first n of these blocks, in rows of this number, against an image
pub record AreJudged (w h : ℕ) (flavour : Flavour) (weights : Weighting) (preset : Preset)
    (images : Pictures) (image columns : ℕ) (blocks : List (List ℕ)) (n : ℕ)
    (findings : Findings) : Type 0 where
  pub count : findings.blocks ≡ n
  pub error : findings.error
      ≡ sum_to (λ k. error_shown w h flavour weights (slice_index_or blocks k [])
      (source_of w h images image (k % columns) (k / columns))) n
  pub bad : CountsOthers (λ k. IsGood w h flavour weights preset
      (source_of w h images image (k % columns) (k / columns)) (slice_index_or blocks k [])) n
      findings.bad

-- a level has as many images as the texture at each level
pub record HasLevels (shape : Shape) (levels : List Pictures) : Type 0 where
  pub count : length levels ≡ shape.levels
  pub each : (level : ℕ) (d : Pictures) → level < shape.levels
      → (slice_index_or levels level d).count ≡ image_count shape

-- block k of an image, in rows from the top
abbrev pub block_at : File → ImagePlace → ℕ → List ℕ
block_at file place k =
    slice_index_or file.blocks (place_of file.shape place.level place.element place.face
    (k / columns_of file.shape place.level) (k % columns_of file.shape place.level)) []

-- what it was made of, from the images of its level
abbrev pub source_at : File → Pictures → ImagePlace → ℕ → List (Option Texel)
source_at file images place k =
    source_of (sides_of file.shape.name).0 (sides_of file.shape.name).1 images
    (place.element * file.shape.faces + place.face)
    (k % columns_of file.shape place.level) (k / columns_of file.shape place.level)

-- its error
abbrev pub error_at : File → Pictures → Weighting → ImagePlace → ℕ → ℕ
error_at file images weights place k =
    error_shown (sides_of file.shape.name).0 (sides_of file.shape.name).1 file.shape.flavour weights
    (block_at file place k) (source_at file images place k)

-- it is settled
abbrev pub IsSettledAt : File → Pictures → Preset → Weighting → ImagePlace → ℕ → Type 0
IsSettledAt file images preset weights place k =
    IsGood (sides_of file.shape.name).0 (sides_of file.shape.name).1 file.shape.flavour weights
    preset (source_at file images place k) (block_at file place k)

-- the number of blocks of an image, the sum of their errors, and how many of them are not settled
pub record IsAudited (file : File) (images : Pictures) (preset : Preset) (weights : Weighting)
    (place : ImagePlace) (findings : Findings) : Type 0 where
  pub blocks : findings.blocks ≡ image_blocks file.shape place.level
  pub error : findings.error ≡ sum_to (error_at file images weights place)
      (image_blocks file.shape place.level)
  pub bad : CountsOthers (IsSettledAt file images preset weights place)
      (image_blocks file.shape place.level) findings.bad

-- the level and the place of image i of a texture, level by level, by element and then by face
abbrev pub level_in : File → ℕ → ℕ
level_in file i = i / image_count file.shape

abbrev pub place_in : File → ℕ → ImagePlace
place_in file i = image_place file.shape.faces (level_in file i) (i % image_count file.shape)

-- what is found of image i
pub record IsImageAudited (file : File) (levels : List Pictures) (preset : Preset)
    (weights : Weighting) (i : ℕ) (audited : AuditedImage) : Type 0 where
  pub place : audited.place ≡ place_in file i
  pub findings : (d : Pictures) → IsAudited file (slice_index_or levels (level_in file i) d) preset
      weights (place_in file i) audited.findings

-- the same of the first n images
pub record AreAudited (file : File) (levels : List Pictures) (preset : Preset) (weights : Weighting)
    (n : ℕ) (audited : List AuditedImage) : Type 0 where
  pub count : length audited ≡ n
  pub each : (i : ℕ) (d : AuditedImage) → i < n → IsImageAudited file levels preset weights i
      (slice_index_or audited i d)

-- the images of all levels
abbrev pub all_images : File → ℕ
all_images file = file.shape.levels * image_count file.shape
