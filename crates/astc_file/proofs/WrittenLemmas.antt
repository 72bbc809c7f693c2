-- A file that is written is read.
use Rattle.std.proofs.Common.{◌≡◌, ℕ, ◌*◌, ◌^◌, ◌<◌, List, [], ◌∷◌, ◌++◌, length, take, drop, Ok, refl, sym, ◌∙◌, ap, arith, lit<}
use Rattle.std.specs.List.{flat_map}
use Rattle.std.proofs.lemmas.Bool.{le-leb, le-ltb}
use Rattle.std.proofs.Math.Seq.{take-append_seam, drop-append_seam}
use Rattle.byteorder.specs.Endian.{little_bytes}
use Rattle.byteorder.specs.Numbers.{little_number-reads_back}
use Rattle.astc_model.specs.Limits.{most_texels}
use Rattle.astc_model.specs.FootprintNames.{sides_of}
use Rattle.astc_model.specs.declared.footprint_name.FootprintName.{FootprintName}
use Rattle.tex_shelf.specs.Pieces.{ArePieces, pieces_of}
use Rattle.tex_shelf.proofs.PieceLemmas.{pieces_again}
use Rattle.astc_file.specs.Counting.{AreFileSides, block_count}
use Rattle.astc_file.specs.Headers.{header_of, header_in, number_at, sides_fit}
use Rattle.astc_file.specs.Files.{astc, astc_of}
use Rattle.astc_file.proofs.FileLemmas.{file_is}
use Rattle.astc_file.proofs.FootprintLemmas.{footprint_at-sides}

-- a number of 24 bits that is written is read
number_again : (front rest : List ℕ) (n place : ℕ) → length front ≡ place → n < 2 ^ 24
    → number_at place (front ++ (little_bytes 3 n ++ rest)) ≡ n
unfolding number_at
number_again front rest n place long fits =
    let behind : drop place (front ++ (little_bytes 3 n ++ rest)) ≡ little_bytes 3 n ++ rest =
    ap (λ k. drop k (front ++ (little_bytes 3 n ++ rest))) (sym long)
    ∙ drop-append_seam front (little_bytes 3 n ++ rest) in
    rw behind (little_number-reads_back 3 n rest fits)

sides_again : (width height : ℕ) → AreFileSides width height → sides_fit width height 1 ≡ Ok tt
sides_again width height sides =
    rw (
      le-leb 1 width sides.width_some,
      le-leb width 8192 sides.width_most,
      le-leb 1 height
          sides.height_some,
      le-leb height 8192 sides.height_most,
      le-ltb most_texels
          (width * height) sides.not_too_large,
    ) refl

-- a header that is written is read
header_again : (name : FootprintName) (width height : ℕ) → AreFileSides width height
    → header_in (header_of name width height)
    ≡ Ok (record { name = name; width = width; height = height })
unfolding header_in header_of
header_again name width height sides =
    let front : List ℕ = 0x13 ∷ 0xAB ∷ 0xA1 ∷ 0x5C ∷ (sides_of name).0 ∷ (sides_of name).1 ∷ 1
    ∷ [] in
    let wide : number_at 7 (front
    ++ (little_bytes 3 width ++ (little_bytes 3 height ++ little_bytes 3 1))) ≡ width =
    number_again front (little_bytes 3 height ++ little_bytes 3 1) width 7 refl
    (omega (arith, sides.width_most)) in
    let high : number_at 10
    ((front ++ little_bytes 3 width) ++ (little_bytes 3 height ++ little_bytes 3 1)) ≡ height =
    number_again (front ++ little_bytes 3 width) (little_bytes 3 1) height 10 refl
    (omega (arith, sides.height_most)) in
    let deep : number_at 13 ((front ++ (little_bytes 3 width ++ little_bytes 3 height))
    ++ (little_bytes 3 1 ++ [])) ≡ 1 =
    number_again (front ++ (little_bytes 3 width ++ little_bytes 3 height)) [] 1 13 refl
    (lit< tt) in
    rw (footprint_at-sides name, wide, high, deep, sides_again width height sides) refl

length-header : (name : FootprintName) (width height : ℕ) → length (header_of name width height)
    ≡ 16
unfolding header_of
length-header name width height = refl

-- the law: reading the bytes written for a valid image gives the image
pub image_reads_back : (name : FootprintName) (width height : ℕ) (blocks : List (List ℕ))
    → AreFileSides width height → ArePieces 16 (block_count name width height) blocks
    → astc_of (astc name width height blocks)
    ≡ Ok (record { name = name; width = width; height = height; blocks = blocks })
unfolding astc
image_reads_back name width height blocks sides all =
    let header : List ℕ = header_of name width height in
    let flat : List ℕ = flat_map (λ b. b) blocks in
    let long : length header ≡ 16 = length-header name width height in
    let front : take 16 (header ++ flat) ≡ header = ap (λ k. take k (header ++ flat)) (sym long)
    ∙ take-append_seam header flat in
    let rear : drop 16 (header ++ flat) ≡ flat = ap (λ k. drop k (header ++ flat)) (sym long)
    ∙ drop-append_seam header flat in
    file_is (header ++ flat) (record { name = name; width = width; height = height })
    (block_count name width height) blocks
    (ap header_in front ∙ header_again name width height sides) refl
    (ap (pieces_of 16 (block_count name width height) 16) rear
    ∙ pieces_again 16 (block_count name width height) 16 blocks all)
