-- The tables equal the standard's cases, row by row.
use Rattle.std.proofs.Common.{◌≡◌, ℕ, ◌+◌, ◌*◌, ◌/◌, ◌%◌, ◌<◌, List, [], ◌∷◌, map, get_or, refl, ◌∙◌, ap, arith}
use Rattle.std.specs.List.{range_with_len}
use Rattle.std.proofs.lemmas.List.FromFn.{get_or-map-range_with_len}
use Rattle.astc_model.specs.Sequences.{low_trits, trits, low_quints, quints, least_trits, least_quints}
use Rattle.ise_codec.specs.declared.tables.TheConstants.{TRITS, QUINTS, TRIT_CODES, QUINT_CODES}

TRITS-is : TRITS ≡ map trits (range_with_len 0 256)
unfolding trits low_trits
TRITS-is = refl

QUINTS-is : QUINTS ≡ map quints (range_with_len 0 128)
unfolding quints low_quints
QUINTS-is = refl

abbrev trits_by_place : ℕ → List ℕ
trits_by_place e = e % 3 ∷ e / 3 % 3 ∷ e / 9 % 3 ∷ e / 27 % 3 ∷ e / 81 ∷ []

TRIT_CODES-is : TRIT_CODES ≡ map (λ e. least_trits (trits_by_place e)) (range_with_len 0 243)
unfolding least_trits trits low_trits
TRIT_CODES-is = refl

abbrev quints_by_place : ℕ → List ℕ
quints_by_place e = e % 5 ∷ e / 5 % 5 ∷ e / 25 ∷ []

QUINT_CODES-is : QUINT_CODES ≡ map (λ e. least_quints (quints_by_place e)) (range_with_len 0 125)
unfolding least_quints quints low_quints
QUINT_CODES-is = refl

pub TRITS-at : (t : ℕ) (d : List ℕ) → t < 256 → get_or TRITS t d ≡ trits t
TRITS-at t d lt = ap (λ xs. get_or xs t d) TRITS-is ∙ get_or-map-range_with_len trits 0 256 t t d lt
    (omega arith)

pub QUINTS-at : (q : ℕ) (d : List ℕ) → q < 128 → get_or QUINTS q d ≡ quints q
QUINTS-at q d lt = ap (λ xs. get_or xs q d) QUINTS-is
    ∙ get_or-map-range_with_len quints 0 128 q q d lt (omega arith)

list_five : {a b c d e a' b' c' d' e' : ℕ} → a ≡ a' → b ≡ b' → c ≡ c' → d ≡ d' → e ≡ e'
    → a ∷ b ∷ c ∷ d ∷ e ∷ [] ≡ a' ∷ b' ∷ c' ∷ d' ∷ e' ∷ []
list_five p q r s t = cc

list_three : {a b c a' b' c' : ℕ} → a ≡ a' → b ≡ b' → c ≡ c' → a ∷ b ∷ c ∷ [] ≡ a' ∷ b' ∷ c' ∷ []
list_three p q r = cc

pub TRIT_CODES-at : (a b c d e x : ℕ) → a < 3 → b < 3 → c < 3 → d < 3 → e < 3
    → get_or TRIT_CODES (a + 3 * b + 9 * c + 27 * d + 81 * e) x
    ≡ least_trits (a ∷ b ∷ c ∷ d ∷ e ∷ [])
TRIT_CODES-at a b c d e x la lb lc ld le =
    let i : ℕ = a + 3 * b + 9 * c + 27 * d + 81 * e in
    ap (λ xs. get_or xs i x) TRIT_CODES-is
    ∙ get_or-map-range_with_len (λ e. least_trits (trits_by_place e)) 0 243 i i x (omega arith)
    (omega arith)
    ∙ ap least_trits (list_five (omega arith) (omega arith) (omega arith) (omega arith)
    (omega arith))

pub QUINT_CODES-at : (a b c x : ℕ) → a < 5 → b < 5 → c < 5
    → get_or QUINT_CODES (a + 5 * b + 25 * c) x ≡ least_quints (a ∷ b ∷ c ∷ [])
QUINT_CODES-at a b c x la lb lc =
    let i : ℕ = a + 5 * b + 25 * c in
    ap (λ xs. get_or xs i x) QUINT_CODES-is
    ∙ get_or-map-range_with_len (λ e. least_quints (quints_by_place e)) 0 125 i i x (omega arith)
    (omega arith)
    ∙ ap least_quints (list_three (omega arith) (omega arith) (omega arith))
