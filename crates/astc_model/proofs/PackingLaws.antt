-- Each field of a packed number has the value that was packed.
use Rattle.std.proofs.Common.{◌≡◌, ℕ, zero, suc, ◌+◌, ◌*◌, ◌/◌, ◌%◌, ◌^◌, ◌<◌, List, [], ◌∷◌, length, get_or, take, sym, ◌∙◌, ap, arith}
use Rattle.std.proofs.lemmas.Nat.{mul-add-lt, pow-add, shr-shr, shr_high, mod_low}
use Rattle.std.proofs.Math.Nat.{div-one}
use Rattle.astc_model.specs.Bits.{field_of}
use Rattle.astc_model.specs.Packing.{packed, total_width, AllFit}
use Rattle.astc_model.proofs.BitLaws.{field_of-is}

-- a packed number is below 2 to the total width of its fields
pub packed-lt : (widths values : List ℕ) → AllFit widths values
    → packed widths values < 2 ^ total_width widths
unfolding packed
packed-lt [] [] fit = omega arith
packed-lt [] (v ∷ vs) fit = elim fit [ ]
packed-lt (w ∷ ws) [] fit = elim fit [ ]
packed-lt (w ∷ ws) (v ∷ vs) fit =
    rw (pow-add 2 w (total_width ws)) (mul-add-lt (packed ws vs) (2 ^ w) v (2 ^ total_width ws)
    (packed-lt ws vs fit.1) fit.0)

-- the lowest field of a packed number
field_of-first : (w v rest : ℕ) → v < 2 ^ w → field_of (rest * 2 ^ w + v) 0 w ≡ v
field_of-first w v rest lt = rw (field_of-is (rest * 2 ^ w + v) 0 w, div-one) (mod_low rest w v lt)

-- a field above the lowest is a field of the rest
field_of-above : (w v rest k n : ℕ) → v < 2 ^ w → field_of (rest * 2 ^ w + v) (w + k) n
    ≡ field_of rest k n
field_of-above w v rest k n lt =
    field_of-is (rest * 2 ^ w + v) (w + k) n
    ∙ ap (λ x. x % 2 ^ n) (sym (shr-shr (rest * 2 ^ w + v) w k)
    ∙ ap (λ x. x / 2 ^ k) (shr_high rest w v lt))
    ∙ sym (field_of-is rest k n)

-- field i of a packed number is value i
pub field_of-packed : (widths values : List ℕ) (i : ℕ) → AllFit widths values → i < length widths
    → field_of (packed widths values) (total_width (take i widths)) (get_or widths i 0)
    ≡ get_or values i 0
unfolding packed
field_of-packed [] values i fit lt = absurd (omega arith)
field_of-packed (w ∷ ws) [] i fit lt = elim fit [ ]
field_of-packed (w ∷ ws) (v ∷ vs) zero fit lt = field_of-first w v (packed ws vs) fit.0
field_of-packed (w ∷ ws) (v ∷ vs) (suc i) fit lt =
    field_of-above w v (packed ws vs) (total_width (take i ws)) (get_or ws i 0) fit.0
    ∙ field_of-packed ws vs i fit.1 (omega arith)
