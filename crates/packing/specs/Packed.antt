-- The file that a pack makes of images.
use Rattle.std.specs.Prelude.{ℕ, Bool, ◌&&◌, ◌||◌, ◌*◌, max, min, if◌then◌else◌, List, None}
use Rattle.astc_model.specs.Chains.{full_levels_of}
use Rattle.astc_model.specs.declared.flavour.Flavour.{Flavour}
use Rattle.astc_model.specs.declared.flavour.Flavour.TheVariants.{Linear, Srgb}
use Rattle.astc_words.specs.declared.job.PackJob.{PackJob}
use Rattle.astc_words.specs.declared.job.Levels.{Levels}
use Rattle.astc_words.specs.declared.job.Levels.TheVariants.{Number, Full}
use Rattle.pam_image.specs.declared.want.Want.{Want}
use Rattle.images.specs.Pictures.{Pictures}
use Rattle.images.specs.Chains.{chain_of}
use Rattle.texture.specs.declared.shape.Shape.{Shape}
use Rattle.adviser_pool.specs.Advisers.{AdviserState}
use Rattle.encoder.specs.declared.settings.Settings.{Settings}
use Rattle.packed_levels.specs.declared.options.PackOptions.{PackOptions}
use Rattle.packed_levels.specs.Packed.{PacksLevels, BeginsPacked}

-- the faces of each element
abbrev pub faces_of : PackJob → ℕ
faces_of job = if job.cube then 6 else 1

-- the requested images: one, or one for each element, or six for each element of a cube
abbrev pub want_of : PackJob → Want
want_of job = record { count = max 1 job.elements * faces_of job; cube = job.cube; sides = None }

-- the requested number of levels, or all that a chain of these sides has
abbrev pub levels_of : Levels → ℕ → ℕ → ℕ
levels_of (Number n) width height = min n (full_levels_of width height)
levels_of Full width height = full_levels_of width height

-- how the texture's colours are decoded, as the job says
abbrev pub flavour_of : PackJob → Flavour
flavour_of job = if job.srgb then Srgb else Linear

-- how a job's blocks are made, if fitted ones count as proposals or do not
abbrev pub settings_of : PackJob → Bool → Settings
settings_of job fits = record {
  preset = job.preset;
  flavour = flavour_of job;
  weights = job.weights;
  fits = fits;
}

-- the options of a pack's blocks: an advised job queries the advisers of a pool, and fits blocks as
-- proposals if the pool fits; a fitted job fits them whichever the pool
abbrev pub options_of : PackJob → Bool → PackOptions
options_of job fits = record {
  settings = settings_of job ((job.advised && fits) || job.fitted);
  advised = job.advised;
}

-- the file's shape for images of these sides
abbrev pub shape_of : PackJob → Pictures → Shape
shape_of job images = record {
  name = job.name;
  flavour = flavour_of job;
  width = images.width;
  height = images.height;
  elements = job.elements;
  faces = faces_of job;
  levels = levels_of job.levels images.width images.height;
}

-- what a job makes of images: the levels of their mip chain packed, by a pool that fits or does
-- not, with its advisers before and after
abbrev pub Packs : PackJob → Bool → List AdviserState → List AdviserState → Pictures → List ℕ
    → List (List ℕ) → Type 0
Packs job fits before after images file lines =
    PacksLevels (shape_of job images) (options_of job fits) before after
    (chain_of images (shape_of job images).levels) file lines

-- and a prefix of it
abbrev pub BeginsPack : PackJob → Bool → Pictures → ℕ → List ℕ → Type 0
BeginsPack job fits images k file = BeginsPacked (shape_of job images) (options_of job fits)
    (chain_of images (shape_of job images).levels) k file
