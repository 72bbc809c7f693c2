-- The file that is made of the blocks of a part.
use Rattle.std.specs.Prelude.{ℕ, List}
use Rattle.part_file.specs.declared.front.Front.{Front}
use Rattle.packed_levels.specs.declared.settling.SettledBlocks.{SettledBlocks}
use Rattle.parting.specs.Parts.{IsFramed}

-- the file of the part with this prefix and these settled blocks, and the lines that report it
abbrev pub FramesPart : Front → SettledBlocks → List ℕ → List (List ℕ) → Type 0
FramesPart front settled file lines =
    IsFramed front settled.blocks.items settled.errors.items file lines

-- a prefix of k bytes of the file: all its blocks are settled before it begins
abbrev pub BeginsFrame : Front → SettledBlocks → ℕ → List ℕ → Type 0
BeginsFrame front settled k file = (lines : List (List ℕ)) × FramesPart front settled file lines
