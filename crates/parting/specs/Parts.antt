-- The part of a pack that is made of images.
use Rattle.std.specs.Prelude.{◌≡◌, ℕ, List, [], ◌∷◌, length}
use Rattle.astc_words.specs.declared.job.PackJob.{PackJob}
use Rattle.astc_words.specs.declared.more_jobs.PartJob.{PartJob}
use Rattle.images.specs.Pictures.{Pictures}
use Rattle.images.specs.Chains.{chain_of}
use Rattle.images.specs.Digests.{digest_of}
use Rattle.texture.specs.declared.shape.Shape.{Shape}
use Rattle.packed_levels.specs.Settling.{way_of, Places}
use Rattle.packed_levels.specs.Sources.{sources}
use Rattle.packing.specs.Packed.{shape_of, settings_of}
use Rattle.part_file.specs.Ranges.{part_start, part_count}
use Rattle.part_file.specs.declared.mark.JobMark.{JobMark}
use Rattle.part_file.specs.Marks.{mark_of}
use Rattle.part_file.specs.declared.front.Front.{Front}
use Rattle.part_file.specs.Pieces.{piece_of}
use Rattle.part_file.specs.Files.{part_bytes}
use Rattle.packed_levels.specs.Settled.{AreSettledFrom, unadvised}
use Rattle.packed_levels.specs.Reports.{range_lines}

-- each block with its error
abbrev pub pieces_of : List (List ℕ) → List ℕ → List (List ℕ)
pieces_of [] errors = []
pieces_of (block ∷ blocks) [] = []
pieces_of (block ∷ blocks) (error ∷ errors) = piece_of block error ∷ pieces_of blocks errors

-- the sources of the blocks that a pack of images has
abbrev pub pack_sources : PackJob → Pictures → List Places
pack_sources job images =
    sources (shape_of job images) (chain_of images (shape_of job images).levels)

-- the blocks of a part of a texture, settled for their sources in the images of its levels
pub record IsSettledPart (job : PartJob) (shape : Shape) (levels : List Pictures)
    (blocks : List (List ℕ)) (errors : List ℕ) : Type 0 where
  pub settled : AreSettledFrom (way_of shape.name
      (unadvised (settings_of job.pack job.pack.fitted))) [] (sources shape levels)
      (part_start shape job.at.place job.at.parts) blocks errors
  pub full : length blocks ≡ part_count shape job.at.place job.at.parts

-- what the parts of a pack have in common, by the images of the levels
abbrev pub job_mark : PartJob → List Pictures → JobMark
job_mark job levels = mark_of job.pack.preset job.pack.fitted job.pack.weights (digest_of levels)

-- the bytes before the blocks of a part
abbrev pub front_for : PartJob → Shape → List Pictures → Front
front_for job shape levels = record {
  layout = shape;
  mark = job_mark job levels;
  place = job.at.place;
  count = job.at.parts;
}

-- the file of the part with this prefix and these blocks with these errors, and the lines that
-- report it
pub record IsFramed (front : Front) (blocks : List (List ℕ)) (errors : List ℕ) (file : List ℕ)
    (lines : List (List ℕ)) : Type 0 where
  pub framed : file ≡ part_bytes (record { front = front; pieces = pieces_of blocks errors })
  pub told : lines ≡ range_lines front.layout (part_start front.layout front.place front.count)
      errors

-- the part at this place among this number of parts of a texture, from the images of its levels:
-- its blocks are settled without proposals, except fitted ones if the job has these, and are stored
-- with their errors after the mark of the job
pub record SettlesPart (job : PartJob) (shape : Shape) (levels : List Pictures) (file : List ℕ)
    (lines : List (List ℕ)) : Type 0 where
  pub blocks : List (List ℕ)
  pub errors : List ℕ
  pub settled : IsSettledPart job shape levels blocks errors
  pub framed : IsFramed (front_for job shape levels) blocks errors file lines

-- a prefix of k bytes of the part's file: all its blocks are settled before it begins
abbrev pub BeginsSettled : PartJob → Shape → List Pictures → ℕ → List ℕ → Type 0
BeginsSettled job shape levels k file = (lines : List (List ℕ))
    × SettlesPart job shape levels file lines

-- the part of what a pack makes of images
abbrev pub MakesPart : PartJob → Pictures → List ℕ → List (List ℕ) → Type 0
MakesPart job images = SettlesPart job (shape_of job.pack images)
    (chain_of images (shape_of job.pack images).levels)

-- and a prefix of k bytes of the part's file
abbrev pub BeginsPart : PartJob → Pictures → ℕ → List ℕ → Type 0
BeginsPart job images = BeginsSettled job (shape_of job.pack images)
    (chain_of images (shape_of job.pack images).levels)
