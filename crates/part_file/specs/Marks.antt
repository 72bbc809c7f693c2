-- The values that parts of one job share beside the shape of the texture.
use Rattle.std.specs.Prelude.{◌≡◌, ◌<◌, ℕ, ◌+◌, ◌^◌, Bool, if◌then◌else◌, List, ◌++◌, length, take, drop}
use Rattle.std.specs.Int.{w32, w64, to_le_bytes, from_le_bytes}
use Rattle.ktx_header.specs.Orders.{number}
use Rattle.ktx_header.specs.declared.order.WordOrder.TheVariants.{Little}
use Rattle.astc_model.specs.Weights.{Weighting}
use Rattle.astc_model.specs.declared.preset.Preset.{Preset}
use Rattle.astc_model.specs.declared.preset.Preset.TheVariants.{Flat, Quick, Medium, Thorough, Pairs}
pub use Rattle.part_file.specs.declared.mark.JobMark.{JobMark}

-- the numbers of the presets, as callers from C give them
abbrev pub preset_number : Preset → ℕ
preset_number Flat = 0
preset_number Quick = 1
preset_number Medium = 2
preset_number Thorough = 3
preset_number Pairs = 4

-- the mark of a job: how its blocks are settled, and the digest of the images of its levels
abbrev pub mark_of : Preset → Bool → Weighting → ℕ → JobMark
mark_of preset fits weights digest =
    record {
      preset = preset_number preset + (if fits then 16 else 0);
      weights = weights;
      digest = digest;
    }

-- what a mark may be: its numbers have 4, 1 and 8 bytes
pub record IsMark (mark : JobMark) : Type 0 where
  pub preset : mark.preset < 2 ^ 32
  pub weights : length mark.weights ≡ 4
  pub digest : mark.digest < 2 ^ 64

-- the 16 bytes of a mark
unfoldable pub mark_bytes : JobMark → List ℕ
mark_bytes mark = to_le_bytes w32 mark.preset ++ mark.weights ++ to_le_bytes w64 mark.digest

-- the mark that 16 bytes are
unfoldable pub mark_in : List ℕ → JobMark
mark_in bytes = record {
  preset = number Little bytes;
  weights = take 4 (drop 4 bytes);
  digest = from_le_bytes w64 (take 8 (drop 8 bytes));
}
