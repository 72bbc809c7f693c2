-- Parts that were made of the same images.
use Rattle.std.specs.Prelude.{ℕ, List, length}
use Rattle.astc_words.specs.declared.job.PackJob.{PackJob}
use Rattle.images.specs.Pictures.{Pictures}
use Rattle.part_file.specs.Files.{PartFile, part_bytes}
use Rattle.parting.specs.Numbered.{EachFrom}
use Rattle.parting.specs.Parts.{MakesPart}

-- a part is the result of `part` for these images and this pack, at this place among this number of
-- parts
abbrev pub IsMadeOf : PackJob → Pictures → ℕ → ℕ → PartFile → Type 0
IsMadeOf job images parts place part =
    (lines : List (List ℕ))
    × MakesPart (record { at = record { place = place; parts = parts }; pack = job }) images
    (part_bytes part) lines

-- each is so at its place among as many as there are
abbrev pub AreMadeOf : PackJob → Pictures → List PartFile → Type 0
AreMadeOf job images parts = EachFrom (IsMadeOf job images (length parts)) 0 parts
