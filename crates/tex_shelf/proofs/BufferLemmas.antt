-- A buffer that is filled part by part.
use Rattle.std.proofs.Common.{◌≡◌, ℕ, ◌+◌, ◌-◌, ◌≤◌, List, ◌++◌, length, take, drop, sym, ◌∙◌, ap, arith, append-nil, length-drop, length-take-le, take_all, drop_of_length-le, drop-drop, take-append-drop}
use Rattle.std.proofs.Math.Seq.{take-append-add, drop-append-add}
use Rattle.std.proofs.lemmas.List.{take-append-le}
use borrow.Rule.Slice.PartMut.{put_mid}

-- after a write to the places that follow the first d
pub take-filled : (xs ys : List ℕ) (d n : ℕ) → d ≤ length xs → n ≤ length ys
    → take (d + n) (put_mid d (length xs - d) xs ys) ≡ take d xs ++ take n ys
take-filled xs ys d n within few =
    ap (λ m. take (m + n) (put_mid d (length xs - d) xs ys)) (sym (length-take-le d xs within))
    ∙ take-append-add (take d xs) (ys ++ drop (length xs - d) (drop d xs)) n
    ∙ ap (λ front. take d xs ++ front) (take-append-le n ys (drop (length xs - d) (drop d xs)) few)

-- the places after the n written ones
pub drop-filled : (xs ys : List ℕ) (d n : ℕ) → d ≤ length xs → drop n ys
    ≡ drop n (take (length xs - d) (drop d xs)) → drop (d + n) (put_mid d (length xs - d) xs ys)
    ≡ drop (d + n) xs
drop-filled xs ys d n within same =
    let last : length (drop d xs) ≤ length xs - d = omega (arith, length-drop d xs) in
    ap (λ m. drop (m + n) (put_mid d (length xs - d) xs ys)) (sym (length-take-le d xs within))
    ∙ drop-append-add (take d xs) (ys ++ drop (length xs - d) (drop d xs)) n
    ∙ ap (λ rest. drop n (ys ++ rest)) (drop_of_length-le (drop d xs) last)
    ∙ ap (drop n) (append-nil ys)
    ∙ same
    ∙ ap (drop n) (take_all (length xs - d) (drop d xs) last)
    ∙ drop-drop n d xs

-- the same, from where the buffer was before
pub drop_later : (xs ys : List ℕ) (d n : ℕ) → drop d xs ≡ drop d ys → drop (d + n) xs
    ≡ drop (d + n) ys
drop_later xs ys d n same = sym (drop-drop n d xs) ∙ ap (drop n) same ∙ drop-drop n d ys

-- what a slice from d on gives
pub take_from : (xs : List ℕ) (d n : ℕ) → take n (take (length xs - d) (drop d xs))
    ≡ take n (drop d xs)
take_from xs d n = ap (take n)
    (take_all (length xs - d) (drop d xs) (omega (arith, length-drop d xs)))

pub length_from : (xs : List ℕ) (d : ℕ) → length (take (length xs - d) (drop d xs)) ≡ length xs - d
length_from xs d = ap length
    (take_all (length xs - d) (drop d xs) (omega (arith, length-drop d xs))) ∙ length-drop d xs

-- the first n bytes, and the rest
pub drop-split : (xs : List ℕ) (at n : ℕ) → drop at xs ≡ take n (take (length xs - at) (drop at xs))
    ++ drop (at + n) xs
drop-split xs at n =
    sym (ap (λ front. front ++ drop (at + n) xs) (take_from xs at n)
    ∙ ap (λ rest. take n (drop at xs) ++ rest) (sym (drop-drop n at xs))
    ∙ take-append-drop n (drop at xs))
