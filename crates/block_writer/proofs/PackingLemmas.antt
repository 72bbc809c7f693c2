-- The recursion of the function that packs fields.
use Rattle.std.proofs.Common.{◌≡◌, ℕ, ◌+◌, ◌-◌, ◌*◌, ◌%◌, ◌^◌, ◌<◌, ◌≤◌, List, [], ◌∷◌, length, get_or, take, drop, refl, ap, arith}
use Rattle.std.proofs.lemmas.Nat.{shl_whole}
use Rattle.std.proofs.Math.Nat.{pow-le-pow_right}
use Rattle.std.proofs.Math.Seq.{take-length}
use Rattle.astc_model.specs.Packing.{packed, total_width, AllFit}
use Rattle.astc_model.proofs.PackingLaws.{packed-lt}

rest-is : (x : ℕ) (xs : List ℕ) → take (length (x ∷ xs) - 1) xs ≡ xs
rest-is x xs =
    let shorter : length (x ∷ xs) - 1 ≡ length xs = omega arith in
    rw shorter (take-length xs)

pub packed-none : (widths values : List ℕ) → length widths < 1 → 0 ≡ packed widths values
unfolding packed
packed-none [] values none = refl
packed-none (w ∷ ws) values none = absurd (omega arith)

pub packed-step : (widths values : List ℕ) (above : ℕ) → AllFit widths values
    → total_width widths ≤ 128 → 0 < length widths
    → above ≡ packed (take (length widths - 1) (drop 1 widths))
    (take (length values - 1) (drop 1 values))
    → above * 2 ^ get_or widths 0 0 % 2 ^ 128 + get_or values 0 0 ≡ packed widths values
unfolding packed
packed-step [] values above fit room some same = absurd (omega arith)
packed-step (w ∷ ws) [] above fit room some same = elim fit [ ]
packed-step (w ∷ ws) (v ∷ vs) above fit room some same =
    let here : above ≡ packed ws vs = rw (rest-is w ws, rest-is v vs) at same in
    rw here (ap (λ n. n + v) (shl_whole (packed ws vs) (total_width ws) w 128
    (packed-lt ws vs fit.1) (omega arith)))

pub packed-small : (widths values : List ℕ) → AllFit widths values → total_width widths ≤ 128
    → packed widths values < 2 ^ 128
packed-small widths values fit room =
    omega (arith, packed-lt widths values fit, pow-le-pow_right {n = 2} (omega arith) room)
