-- The texture that is made of an image in blocks.
use Rattle.std.proofs.Common.{◌≡◌, ℕ, ◌*◌, ◌≤◌, List, [], ◌∷◌, ◌++◌, length, take, inl, refl, sym, ◌∙◌, ap, arith, append_assoc, one-mul}
use Rattle.std.specs.List.{flat_map}
use Rattle.std.specs.Int.{w32, to_le_bytes}
use Rattle.std.proofs.Math.Seq.{take_all}
use Rattle.astc_model.specs.Chains.{side_at_level, full_levels_of}
use Rattle.astc_model.specs.declared.flavour.Flavour.{Flavour}
use Rattle.astc_model.specs.FootprintNames.{sides_of}
use Rattle.texture.specs.Extents.{covering}
use Rattle.astc_file.specs.Counting.{block_count}
use Rattle.astc_file.specs.Files.{Image, IsImage}
use Rattle.texture.specs.Shapes.{IsValid, level_blocks}
use Rattle.ktx_file.specs.Framing.{header_of, level_size_of}
use Rattle.ktx_file.specs.Files.{ktx}
use Rattle.exchange.specs.Reports.{blocks_line}
use Rattle.exchange.specs.Imports.{shape_of, Imports}

some_levels : (width height : ℕ) → 1 ≤ full_levels_of width height
unfolding full_levels_of
some_levels width height = omega arith

pub shape-valid : (flavour : Flavour) (image : Image) → IsImage image
    → IsValid (shape_of flavour image)
shape-valid flavour image valid = record {
  width_some = valid.sides.width_some;
  width_most = valid.sides.width_most;
  height_some = valid.sides.height_some;
  height_most = valid.sides.height_most;
  elements_most = omega arith;
  faces_known = inl refl;
  square = λ six. absurd (omega arith);
  levels_some = omega arith;
  levels_few = omega arith;
  levels_most = some_levels image.width image.height;
  not_too_large = omega (arith, valid.sides.not_too_large);
}

side_whole : (side : ℕ) → 1 ≤ side → side_at_level side 0 ≡ side
side_whole side some = omega arith

-- the blocks of an image are those of its one level
all_blocks : (flavour : Flavour) (image : Image) → IsImage image → length image.blocks
    ≡ level_blocks (shape_of flavour image) 0
unfolding level_blocks block_count
all_blocks flavour image valid =
    let w : ℕ = (sides_of image.name).0 in
    let h : ℕ = (sides_of image.name).1 in
    let rows : covering (side_at_level image.height 0) h ≡ covering image.height h =
    ap (λ s. covering s h) (side_whole image.height valid.sides.height_some) in
    let columns : covering (side_at_level image.width 0) w ≡ covering image.width w =
    ap (λ s. covering s w) (side_whole image.width valid.sides.width_some) in
    valid.full.count_is ∙ ap (λ r. r * covering image.width w) (sym rows)
    ∙ ap (λ k. covering (side_at_level image.height 0) h * k) (sym columns) ∙ sym (one-mul _)

-- the header, the size of the one level and the blocks are the texture
pub framed-is : (flavour : Flavour) (image : Image) (header size flat : List ℕ) → IsImage image
    → header ≡ header_of (shape_of flavour image) → size
    ≡ to_le_bytes w32 (level_size_of (shape_of flavour image) 0)
    → flat ≡ flat_map (λ block. block) image.blocks → header ++ (size ++ (flat ++ []))
    ≡ ktx (shape_of flavour image) image.blocks
unfolding ktx
framed-is flavour image header size flat valid header_is size_is flat_is =
    let all : take (level_blocks (shape_of flavour image) 0) image.blocks ≡ image.blocks =
    take_all (level_blocks (shape_of flavour image) 0) image.blocks
    (omega (arith, all_blocks flavour image valid)) in
    ap (λ x. x ++ (size ++ (flat ++ []))) header_is
    ∙ ap (λ x. header_of (shape_of flavour image) ++ x)
    (sym (append_assoc size flat []) ∙ ap (λ x. x ++ flat ++ []) size_is
    ∙ ap (λ x. to_le_bytes w32 (level_size_of (shape_of flavour image) 0) ++ x ++ [])
    (flat_is ∙ ap (flat_map (λ block. block)) (sym all)))

pub imports-of : (flavour : Flavour) (image : Image) (header size flat : List ℕ)
    (blocks : List (List ℕ)) → IsImage image → header ≡ header_of (shape_of flavour image)
    → size ≡ to_le_bytes w32 (level_size_of (shape_of flavour image) 0) → blocks ≡ image.blocks
    → flat ≡ flat_map (λ block. block) blocks
    → Imports flavour image (header ++ (size ++ (flat ++ []))) (blocks_line (length blocks) ∷ [])
imports-of flavour image header size flat blocks valid header_is size_is blocks_are flat_is =
    record {
      framed = framed-is flavour image header size flat valid header_is size_is
          (flat_is ∙ ap (flat_map (λ block. block)) blocks_are);
      told = ap (λ bs. blocks_line (length bs) ∷ []) blocks_are;
    }
