-- Steps of loops with an index that rises from 0.
use Rattle.std.proofs.Common.{◌≡◌, ℕ, zero, suc, ◌+◌, ◌*◌, ◌/◌, ◌<◌, List, [], ◌∷◌, ◌++◌, map, length, refl, ap, ◌∙◌, arith, add-one, length-append, div-lt_iff_lt-mul}
use Rattle.std.specs.List.{range_with_len, flat_map}
use Rattle.std.proofs.lemmas.List.{append-nil}
use Rattle.std.proofs.lemmas.List.FromFn.{map-range_with_len_more}
use Rattle.std.proofs.lemmas.Grind.{flat_map-append}

range_more : (a n b : ℕ) → a + n ≡ b → range_with_len a (n + 1) ≡ range_with_len a n ++ b ∷ []
range_more a zero b e = let same : a ≡ b = omega arith in rw same refl
range_more a (suc n) b e =
    let rest : range_with_len (a + 1) (n + 1) ≡ range_with_len (a + 1) n ++ b ∷ [] =
    range_more (a + 1) n b (omega arith) in
    rw (add-one (suc n)) (ap (λ xs. a ∷ xs) (rw (add-one n) at rest))

pub flat_map_range_more : {X : Type 0} (f : ℕ → List X) (n : ℕ)
    → flat_map f (range_with_len 0 (n + 1)) ≡ flat_map f (range_with_len 0 n) ++ f n
flat_map_range_more f n = rw (range_more 0 n n (omega arith))
    (flat_map-append f (range_with_len 0 n) (n ∷ [])
    ∙ ap (λ ys. flat_map f (range_with_len 0 n) ++ ys) (append-nil (f n)))

pub map_range_more : {X : Type 0} (f : ℕ → X) (n : ℕ) → map f (range_with_len 0 (n + 1))
    ≡ map f (range_with_len 0 n) ++ f n ∷ []
map_range_more f n = map-range_with_len_more f 0 n n (omega arith)

pub point_below : (at planes points : ℕ) → 0 < planes → at < points * planes → at / planes < points
point_below at planes points some below = (div-lt_iff_lt-mul some).1 below

-- ---- the colours after one more partition

pub colours_more : (f : ℕ → List ℕ) (n : ℕ) (new old slice integers : List ℕ) → new ≡ old ++ slice
    → slice ≡ integers → integers ≡ f n → old ≡ flat_map f (range_with_len 0 n) → new
    ≡ flat_map f (range_with_len 0 (n + 1))
colours_more f n new old slice integers a b c d = let more = flat_map_range_more f n in cc

pub length_more : (n k : ℕ) (new old slice integers : List ℕ) → new ≡ old ++ slice → slice
    ≡ integers → length integers ≡ k → length old ≡ n * k → length new ≡ (n + 1) * k
length_more n k new old slice integers a b c d =
    let same : length slice ≡ k = ap length b ∙ c in
    let whole : length new ≡ length old + length slice = ap length a ∙ length-append old slice in
    omega (arith, same, whole, d)

pub ends_more : {X : Type 0} (f : ℕ → X) (n : ℕ) (new old : List X) (e : X) → new ≡ old ++ e ∷ []
    → e ≡ f n → old ≡ map f (range_with_len 0 n) → new ≡ map f (range_with_len 0 (n + 1))
ends_more f n new old e a b c = let more = map_range_more f n in cc
