-- Pieces cut from bytes, and bytes put together of pieces.
use Rattle.std.proofs.Common.{◌≡◌, ℕ, zero, suc, ◌+◌, ◌-◌, ◌*◌, ◌<◌, ◌≤◌, List, [], ◌∷◌, ◌++◌, length, take, drop, Ok, Err, refl, sym, ◌∙◌, ap, arith, append_assoc, length-append, length-drop, length-take-le, drop_of_length-le}
use Rattle.std.specs.List.{AllByRecursion, flat_map}
use Rattle.std.proofs.lemmas.Bool.{lt-ltb, le-ltb, ne_eqb}
use Rattle.std.proofs.lemmas.List.{append-nil, take-append-drop, take-append-le, drop-append-le}
use Rattle.std.proofs.Math.Seq.{take-append_seam, drop-append_seam}
use Rattle.tex_shelf.specs.declared.pieces.PieceFault.TheVariants.{ShortData, TrailingBytes}
use Rattle.tex_shelf.specs.Pieces.{ArePieces, pieces_at, pieces_of}

-- one piece more of those that are left
pub one_more : (size count counter : ℕ) → counter < count → size * (count - counter)
    ≡ size + size * (count - (counter + 1))
one_more size count counter less =
    let k : count - counter ≡ suc (count - (counter + 1)) = omega arith in
    ap (λ n. size * n) k ∙ omega arith

-- pieces of two runs of bytes, one after the other
pub pieces_at-append : (size a b : ℕ) (xs ys : List ℕ) → length xs ≡ size * a
    → pieces_at size a xs ++ pieces_at size b ys ≡ pieces_at size (a + b) (xs ++ ys)
pieces_at-append size zero b [] ys long = ap (λ n. pieces_at size n ys) (omega arith)
pieces_at-append size zero b (x ∷ xs) ys long = absurd (omega arith)
pieces_at-append size (suc a) b xs ys long =
    let many : suc a + b ≡ suc (a + b) = omega arith in
    let few : size ≤ length xs = omega arith in
    let front : take size (xs ++ ys) ≡ take size xs = take-append-le size xs ys few in
    let rear : drop size (xs ++ ys) ≡ drop size xs ++ ys = drop-append-le size xs ys few in
    rw (many, front, rear) (ap (λ ps. take size xs ∷ ps)
    (pieces_at-append size a b (drop size xs) ys (omega (arith, length-drop size xs))))

-- one piece more
pub piece_on : (size : ℕ) (pieces : List (List ℕ)) (count counter : ℕ) (rest piece behind : List ℕ)
    (total : List (List ℕ)) → counter < count → piece ≡ take size rest → behind ≡ drop size rest
    → pieces ++ pieces_at size (count - counter) rest ≡ total
    → (pieces ++ piece ∷ []) ++ pieces_at size (count - (counter + 1)) behind ≡ total
piece_on size pieces count counter rest piece behind total less b h so_far =
    let k : count - counter ≡ suc (count - (counter + 1)) = omega arith in
    let step : pieces_at size (count - counter) rest ≡ take size rest ∷ pieces_at size
    (count - (counter + 1)) (drop size rest) = rw k refl in
    rw (b, h) (append_assoc pieces (take size rest ∷ [])
    (pieces_at size (count - (counter + 1)) (drop size rest))
    ∙ ap (λ xs. pieces ++ xs) (sym step) ∙ so_far)

-- the pieces of a step more
pub pieces_on : (size : ℕ) (old now later : List (List ℕ)) (done step : ℕ) (before bytes : List ℕ)
    → length before ≡ size * done → now ≡ old ++ pieces_at size done before → later
    ≡ now ++ pieces_at size step bytes
    → later ≡ old ++ pieces_at size (done + step) (before ++ bytes)
pieces_on size old now later done step before bytes long so_far more =
    more ∙ ap (λ ps. ps ++ pieces_at size step bytes) so_far
    ∙ append_assoc old (pieces_at size done before) (pieces_at size step bytes)
    ∙ ap (λ ps. old ++ ps) (pieces_at-append size done step before bytes long)

-- the pieces of a prefix are pieces of the whole
pub pieces_at-take : (size n : ℕ) (xs : List ℕ) → size * n ≤ length xs
    → pieces_at size n (take (size * n) xs) ≡ pieces_at size n xs
pieces_at-take size n xs enough =
    let all : n + 0 ≡ n = omega arith in
    sym (append-nil (pieces_at size n (take (size * n) xs)))
    ∙ pieces_at-append size n 0 (take (size * n) xs) (drop (size * n) xs)
    (length-take-le (size * n) xs enough)
    ∙ ap (λ k. pieces_at size k (take (size * n) xs ++ drop (size * n) xs)) all
    ∙ ap (pieces_at size n) (take-append-drop (size * n) xs)

pub length-pieces_at : (size n : ℕ) (xs : List ℕ) → length (pieces_at size n xs) ≡ n
length-pieces_at size zero xs = refl
length-pieces_at size (suc n) xs = ap suc (length-pieces_at size n (drop size xs))

-- pieces that were cut have their size
pub all-pieces_at : (size n : ℕ) (bytes : List ℕ) → size * n ≤ length bytes
    → AllByRecursion (λ piece. length piece ≡ size) (pieces_at size n bytes)
all-pieces_at size zero bytes long = tt
all-pieces_at size (suc n) bytes long = (
  length-take-le size bytes (omega arith),
  all-pieces_at size n (drop size bytes)
      (omega (arith, length-drop size bytes)),
)

pub cut_pieces : (size n : ℕ) (bytes : List ℕ) (pieces : List (List ℕ)) → length bytes ≡ size * n
    → pieces ≡ pieces_at size n bytes → ArePieces size n pieces
cut_pieces size n bytes pieces long same =
    rw same (record {
      count_is = length-pieces_at size n bytes;
      sizes = all-pieces_at size n bytes
          (omega arith);
    })

-- what bytes are by their length
pub too_short : (size count before : ℕ) (bytes : List ℕ) → length bytes < size * count
    → pieces_of size count before bytes ≡ Err (ShortData (before + length bytes))
unfolding pieces_of
too_short size count before bytes less = rw (lt-ltb (length bytes) (size * count) less) refl

pub too_long : (size count before : ℕ) (bytes : List ℕ) → size * count < length bytes
    → pieces_of size count before bytes ≡ Err TrailingBytes
unfolding pieces_of
too_long size count before bytes more =
    let some : (length (drop (size * count) bytes) ≡ 0) → ⊥ = λ none.
    absurd (omega (arith, length-drop (size * count) bytes)) in
    rw (
      le-ltb (length bytes) (size * count) (omega arith),
      ne_eqb
          (length (drop (size * count) bytes)) 0 some,
    ) refl

pub as_long : (size count before : ℕ) (bytes : List ℕ) → size * count ≤ length bytes
    → drop (size * count) bytes ≡ [] → pieces_of size count before bytes
    ≡ Ok (pieces_at size count bytes)
unfolding pieces_of
as_long size count before bytes all none = rw (le-ltb (length bytes) (size * count) all, none) refl

-- pieces one after another are cut again
pub cut_again : (size n : ℕ) (pieces : List (List ℕ)) → ArePieces size n pieces
    → pieces_at size n (flat_map (λ piece. piece) pieces) ≡ pieces
cut_again size zero [] are = refl
cut_again size (suc n) (piece ∷ pieces) are =
    let behind : List ℕ = flat_map (λ p. p) pieces in
    let front : take size (piece ++ behind) ≡ piece = ap (λ k. take k (piece ++ behind))
    (sym are.sizes.0) ∙ take-append_seam piece behind in
    let rear : drop size (piece ++ behind) ≡ behind = ap (λ k. drop k (piece ++ behind))
    (sym are.sizes.0) ∙ drop-append_seam piece behind in
    let count : suc (length pieces) ≡ suc n = are.count_is in
    rw (front, rear) (ap (λ ps. piece ∷ ps)
    (cut_again size n pieces (record { count_is = omega arith; sizes = are.sizes.1 })))
cut_again size zero (piece ∷ pieces) are = absurd (omega (arith, are.count_is))
cut_again size (suc n) [] are = absurd (omega (arith, are.count_is))

pub length-flat : (size : ℕ) (pieces : List (List ℕ))
    → AllByRecursion (λ piece. length piece ≡ size) pieces
    → length (flat_map (λ piece. piece) pieces) ≡ size * length pieces
length-flat size [] sizes = omega arith
length-flat size (piece ∷ pieces) sizes =
    omega (
      arith,
      sizes.0,
      length-append piece (flat_map (λ p. p) pieces),
      length-flat size pieces
          sizes.1,
    )

-- pieces that are written are read
pub pieces_again : (size n before : ℕ) (pieces : List (List ℕ)) → ArePieces size n pieces
    → pieces_of size n before (flat_map (λ piece. piece) pieces) ≡ Ok pieces
pieces_again size n before pieces are =
    let flat : List ℕ = flat_map (λ p. p) pieces in
    let long : length flat ≡ size * n = length-flat size pieces are.sizes
    ∙ ap (λ k. size * k) are.count_is in
    as_long size n before flat (omega arith) (drop_of_length-le flat (omega arith))
    ∙ ap Ok (cut_again size n pieces are)

-- a property of all things of a list holds for its prefix and its rest
pub all-take : {A : Type 0} (P : A → Type 0) (n : ℕ) (xs : List A) → AllByRecursion P xs
    → AllByRecursion P (take n xs)
all-take P zero xs each = tt
all-take P (suc n) [] each = tt
all-take P (suc n) (x ∷ xs) each = (each.0, all-take P n xs each.1)

pub all-drop : {A : Type 0} (P : A → Type 0) (n : ℕ) (xs : List A) → AllByRecursion P xs
    → AllByRecursion P (drop n xs)
all-drop P zero xs each = each
all-drop P (suc n) [] each = tt
all-drop P (suc n) (x ∷ xs) each = all-drop P n xs each.1
