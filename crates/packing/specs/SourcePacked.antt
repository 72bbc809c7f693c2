-- The file that a pack makes of stored mip levels: each is packed as it is, and no level is
-- computed.
use Rattle.std.specs.Prelude.{ℕ, Bool, List, length}
use Rattle.astc_words.specs.declared.job.PackJob.{PackJob}
use Rattle.ktx_source.specs.Sources.{SourceFile}
use Rattle.texture.specs.declared.shape.Shape.{Shape}
use Rattle.adviser_pool.specs.Advisers.{AdviserState}
use Rattle.packed_levels.specs.Packed.{PacksLevels, BeginsPacked}
use Rattle.packing.specs.Packed.{flavour_of, options_of}

-- the texture's shape: the name and the flavour are the job's, all else is the source's
abbrev pub shape_of : PackJob → SourceFile → Shape
shape_of job source = record {
  name = job.name;
  flavour = flavour_of job;
  width = source.width;
  height = source.height;
  elements = source.elements;
  faces = source.faces;
  levels = length source.levels;
}

-- what a job makes of a source, by a pool that fits or does not, with its advisers before and after
abbrev pub PacksSource : PackJob → Bool → List AdviserState → List AdviserState → SourceFile
    → List ℕ → List (List ℕ) → Type 0
PacksSource job fits before after source file lines = PacksLevels (shape_of job source)
    (options_of job fits) before after source.levels file lines

-- and a prefix of it
abbrev pub BeginsSourcePack : PackJob → Bool → SourceFile → ℕ → List ℕ → Type 0
BeginsSourcePack job fits source k file = BeginsPacked (shape_of job source)
    (options_of job fits) source.levels k file
