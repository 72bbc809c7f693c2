-- The steps of a polish.
use Rattle.std.specs.Prelude.{ℕ, List}
use Rattle.tex_shelf.specs.Files.{file_at}
use Rattle.images.specs.Pictures.{Pictures}
use Rattle.ktx_file.specs.Files.{File, AreBlocks}
use Rattle.outcomes.specs.ManyEnds.{Reading}
use Rattle.packed_levels.specs.Settling.{way_of}
use Rattle.packed_levels.specs.Sources.{sources}
use Rattle.astc_words.specs.declared.job.AuditJob.{AuditJob}
use Rattle.astc_audit.specs.Audits.{settings_for}
use Rattle.packed_levels.specs.Settled.{unadvised, AreSettledFrom}
use Rattle.polishing.specs.Polished.{PolishFault, Inputs, images_from, levels_of}

abbrev pub inputs_of : File → Pictures → Inputs
inputs_of texture images = record { texture = texture; images = images }

-- what the files are read as, after the texture is read
abbrev pub inputs_with : File → List ℕ → Reading Inputs PolishFault
inputs_with texture images files = images_from texture (file_at files images)

-- blocks with their errors
pub record Blocks : Type 0 where
  pub blocks : List (List ℕ)
  pub errors : List ℕ

abbrev pub blocks_of : List (List ℕ) → List ℕ → Blocks
blocks_of blocks errors = record { blocks = blocks; errors = errors }

-- all blocks of the texture, one for each of its places, are settled again
pub record ArePolished (job : AuditJob) (inputs : Inputs) (done : Blocks) : Type 0 where
  pub settled : AreSettledFrom
      (way_of inputs.texture.shape.name (unadvised (settings_for job inputs.texture.shape.flavour)))
      inputs.texture.blocks
      (sources inputs.texture.shape (levels_of inputs)) 0 done.blocks done.errors
  pub known : AreBlocks inputs.texture.shape inputs.texture.blocks
  pub full : AreBlocks inputs.texture.shape done.blocks
