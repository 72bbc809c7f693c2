-- The bytes of a mark, and the prefix of a file.
use Rattle.std.proofs.Common.{◌≡◌, ℕ, ◌-◌, List, ◌++◌, length, take, drop, replicate, Ok, refl, sym, ◌∙◌, ap, arith, append_assoc, length-append, length-drop}
use Rattle.std.proofs.lemmas.List.{take_all}
use Rattle.std.specs.Int.{w32, w64, to_le_bytes}
use borrow.Rule.Slice.PartMut.{put_mid}
use Rattle.ktx_header.specs.Orders.{number}
use Rattle.ktx_header.specs.Words.{first_difference}
use Rattle.ktx_header.specs.declared.order.WordOrder.TheVariants.{Little}
use Rattle.texture.specs.declared.shape.Shape.{Shape}
use Rattle.ktx_file.specs.Framing.{header_of}
use Rattle.part_file.specs.Marks.{JobMark, mark_bytes, mark_in}
use Rattle.part_file.specs.Fronts.{no_other_file, long_enough, identified, own_identifier, shape_in, same_header, place_fits, front_in}
use Rattle.part_file.proofs.PieceLemmas.{put_behind, put_between}

-- the three numbers, put one after another
pub mark_put : (mark : JobMark) (preset weights digest : List ℕ) → preset
    ≡ to_le_bytes w32 mark.preset → weights ≡ mark.weights → digest ≡ to_le_bytes w64 mark.digest
    → length weights ≡ 4
    → put_mid 8 8 (put_mid 4 4 (preset ++ replicate 12 0) weights) digest ≡ mark_bytes mark
unfolding mark_bytes
mark_put mark preset weights digest preset_is weights_are digest_is long =
    let behind : List ℕ = replicate 8 0 in
    let four : length preset ≡ 4 = ap length preset_is in
    let eight : length (preset ++ weights) ≡ 8 = omega (arith, length-append preset weights) in
    ap (λ bytes. put_mid 8 8 bytes digest)
    (put_between 4 4 preset (replicate 4 0) behind weights four refl
    ∙ sym (append_assoc preset weights behind))
    ∙ put_behind 8 8 (preset ++ weights) behind digest eight refl
    ∙ append_assoc preset weights digest
    ∙ ap (λ bytes. bytes ++ (weights ++ digest)) preset_is
    ∙ ap (λ bytes. to_le_bytes w32 mark.preset ++ (bytes ++ digest)) weights_are
    ∙ ap (λ bytes. to_le_bytes w32 mark.preset ++ (mark.weights ++ bytes)) digest_is

-- bytes from a place on, as a slice of them to the end
pub rest_from : (n : ℕ) (bytes : List ℕ) → drop n bytes ≡ take (length bytes - n) (drop n bytes)
rest_from n bytes = sym
    (take_all (length bytes - n) (drop n bytes) (omega (arith, length-drop n bytes)))

-- a prefix without a fault
pub front_read : (front : List ℕ) (shape : Shape) (mark : JobMark) (place count : ℕ)
    → no_other_file front ≡ Ok tt → long_enough front ≡ Ok tt
    → identified (first_difference 0 own_identifier front) ≡ Ok tt
    → shape_in (drop 16 front) ≡ Ok shape
    → same_header (first_difference 16 (header_of shape) (drop 16 front)) ≡ Ok tt → place
    ≡ number Little (drop 108 front) → count ≡ number Little (drop 112 front)
    → place_fits place count ≡ Ok tt → mark ≡ mark_in (drop 116 front) → front_in front
    ≡ Ok (record { layout = shape; mark = mark; place = place; count = count })
unfolding front_in
front_read front shape mark place count own long mine shape_is same place_is count_is fits mark_is =
    let fit : place_fits (number Little (drop 108 front)) (number Little (drop 112 front)) ≡ Ok tt =
    rw (← place_is, ← count_is) fits in
    rw (place_is, count_is, mark_is, own, long, mine, shape_is, same, fit) refl
