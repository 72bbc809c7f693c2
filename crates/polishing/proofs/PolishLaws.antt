-- From blocks that are settled again to the file of a polish.
use Rattle.std.proofs.Common.{◌≡◌, ℕ, List, [], length, ◌∙◌, ap, subst, arith, slice_index, slice_index_or}
use Rattle.images.specs.Pictures.{Pictures}
use Rattle.images.specs.Chains.{chain_of}
use Rattle.texture.specs.declared.shape.Shape.{Shape}
use Rattle.texture.specs.Shapes.{IsValid, all_blocks}
use Rattle.texture.specs.Places.{place_of, HasBlock}
use Rattle.ktx_file.specs.Files.{AreBlocks, ktx_of}
use Rattle.ktx_file.proofs.WrittenLemmas.{file_reads_back}
use Rattle.astc_words.specs.declared.job.AuditJob.{AuditJob}
use Rattle.packed_levels.specs.Settling.{way_of}
use Rattle.packed_levels.specs.Sources.{sources}
use Rattle.encoder.specs.declared.settings.Settings.{Settings}
use Rattle.astc_audit.specs.Audits.{settings_for}
use Rattle.packed_levels.specs.Settled.{unadvised, AreSettledFrom, AreNoWorse}
use Rattle.packed_levels.specs.Framing.{FramesTexture, BeginsTexture}
use Rattle.packed_levels.proofs.SettledLaws.{no-worse, settled-there}
use Rattle.polishing.specs.Polished.{Inputs, IsPolishedAt, levels_of, Polishes, BeginsPolish}
use Rattle.polishing.specs.Steps.{Blocks, blocks_of, ArePolished}

module _ (job : AuditJob) (inputs : Inputs) (done : Blocks) (valid : IsValid inputs.texture.shape)
    (are : ArePolished job inputs done) where
  each-place : (level element face row column : ℕ)
      → HasBlock inputs.texture.shape level element face row column
      → IsPolishedAt job inputs level element face row column
      (slice_index_or done.blocks (place_of inputs.texture.shape level element face row column) [])
      (slice_index done.errors (place_of inputs.texture.shape level element face row column))
  each-place =
      settled-there inputs.texture.shape
      (way_of inputs.texture.shape.name
      (unadvised (settings_for job inputs.texture.shape.flavour)))
      (levels_of inputs) inputs.texture.blocks done.blocks done.errors are.settled
      are.full.count

  none-worse : AreNoWorse
      (way_of inputs.texture.shape.name (unadvised (settings_for job inputs.texture.shape.flavour)))
      inputs.texture.blocks (sources inputs.texture.shape (levels_of inputs)) done.errors
  none-worse =
      no-worse (way_of inputs.texture.shape.name
      (unadvised (settings_for job inputs.texture.shape.flavour))) inputs.texture.blocks
      (sources inputs.texture.shape (levels_of inputs)) done.blocks done.errors are.settled
      (omega (arith, are.known.count, are.full.count))

  pub polishes-of : (file : List ℕ) (lines : List (List ℕ))
      → FramesTexture inputs.texture.shape done.blocks done.errors file lines
      → Polishes job inputs file lines
  polishes-of file lines framed = record {
    blocks = done.blocks;
    errors = done.errors;
    blocks_full = are.full;
    errors_full = are.settled.errors_full;
    each = each-place;
    no_worse = none-worse;
    framed = framed.framed;
    cut = ap ktx_of framed.framed
        ∙ file_reads_back inputs.texture.shape done.blocks valid are.full;
    told = framed.told;
  }

  pub begins-of : (k : ℕ) (file : List ℕ)
      → BeginsTexture inputs.texture.shape done.blocks done.errors k file
      → BeginsPolish job inputs k file
  begins-of k file begun = (begun.0, polishes-of file begun.0 begun.1)

-- all blocks of a texture
pub all-polished : (job : AuditJob) (inputs : Inputs) (shape : Shape) (settings : Settings)
    (levels : List Pictures) (others blocks : List (List ℕ)) (errors : List ℕ) (count : ℕ)
    → shape ≡ inputs.texture.shape → settings ≡ settings_for job shape.flavour → levels
    ≡ chain_of inputs.images shape.levels → others ≡ inputs.texture.blocks → count
    ≡ all_blocks shape
    → AreBlocks inputs.texture.shape others
    → AreSettledFrom (way_of shape.name (unadvised settings)) others
    (sources shape levels) 0 blocks errors → length blocks ≡ count
    → ArePolished job inputs (blocks_of blocks errors)
all-polished job inputs shape settings levels others blocks errors count shape_is settings_is
    levels_is others_is count_is known settled full =
    let by : AreSettledFrom (way_of shape.name (unadvised (settings_for job shape.flavour))) others
    (sources shape levels) 0 blocks errors =
    subst (λ o. AreSettledFrom (way_of shape.name (unadvised o)) others
    (sources shape levels) 0 blocks errors) settings_is settled
    in
    let against : AreSettledFrom (way_of shape.name (unadvised (settings_for job shape.flavour)))
    inputs.texture.blocks (sources shape levels) 0 blocks errors =
    subst (λ o. AreSettledFrom (way_of shape.name (unadvised (settings_for job shape.flavour))) o
    (sources shape levels) 0 blocks errors) others_is by
    in
    let over : AreSettledFrom (way_of shape.name (unadvised (settings_for job shape.flavour)))
    inputs.texture.blocks (sources shape (chain_of inputs.images shape.levels)) 0 blocks
    errors =
    subst (λ l. AreSettledFrom (way_of shape.name (unadvised (settings_for job shape.flavour)))
    inputs.texture.blocks (sources shape l) 0 blocks errors) levels_is against
    in
    let all : length blocks ≡ all_blocks shape = full ∙ count_is in
    record {
      settled = subst (λ s. AreSettledFrom (way_of s.name (unadvised (settings_for job s.flavour)))
          inputs.texture.blocks (sources s (chain_of inputs.images s.levels)) 0 blocks errors)
          shape_is over;
      known = subst (AreBlocks inputs.texture.shape) others_is known;
      full = record { count = all ∙ ap all_blocks shape_is; sizes = settled.sizes };
    }
