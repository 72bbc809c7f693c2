-- Bytes put instead of others.
use Rattle.std.proofs.Common.{◌≡◌, ℕ, List, [], ◌++◌, length, take, drop, refl, sym, ◌∙◌, ap, arith, drop_of_length-le}
use Rattle.std.proofs.lemmas.List.{append-nil}
use Rattle.std.proofs.Math.Seq.{take-append_seam, drop-append_seam}
use borrow.Rule.Slice.PartMut.{put_mid}

-- bytes instead of the last of others
pub put_behind : (n m : ℕ) (front zeros word : List ℕ) → length front ≡ n → length zeros ≡ m
    → put_mid n m (front ++ zeros) word ≡ front ++ word
put_behind n m front zeros word long few =
    let first : take n (front ++ zeros) ≡ front = ap (λ k. take k (front ++ zeros)) (sym long)
    ∙ take-append_seam front zeros in
    let rear : drop n (front ++ zeros) ≡ zeros = ap (λ k. drop k (front ++ zeros)) (sym long)
    ∙ drop-append_seam front zeros in
    let none : drop m zeros ≡ [] = drop_of_length-le zeros {i = m} (omega arith) in
    rw (first, rear, none) (ap (λ xs. front ++ xs) (append-nil word))

-- bytes instead of others, before the rest
pub put_between : (n m : ℕ) (front zeros rest word : List ℕ) → length front ≡ n → length zeros ≡ m
    → put_mid n m (front ++ (zeros ++ rest)) word ≡ front ++ (word ++ rest)
put_between n m front zeros rest word long few =
    let first : take n (front ++ (zeros ++ rest)) ≡ front =
    ap (λ k. take k (front ++ (zeros ++ rest))) (sym long)
    ∙ take-append_seam front (zeros ++ rest) in
    let rear : drop n (front ++ (zeros ++ rest)) ≡ zeros ++ rest =
    ap (λ k. drop k (front ++ (zeros ++ rest))) (sym long)
    ∙ drop-append_seam front (zeros ++ rest) in
    let behind : drop m (zeros ++ rest) ≡ rest = ap (λ k. drop k (zeros ++ rest)) (sym few)
    ∙ drop-append_seam zeros rest in
    rw (first, rear, behind) refl
