-- Decoded blocks, and the rows of their texels.
use Rattle.std.proofs.Common.{◌≡◌, ℕ, zero, suc, ◌+◌, ◌-◌, ◌*◌, ◌^◌, ◌/◌, ◌%◌, ◌<◌, ◌≤◌, List, [], ◌∷◌, ◌++◌, length, take, drop, Result, Ok, Err, refl, sym, ◌∙◌, ap, arith, inl, inr, zero-add, append_assoc}
use Rattle.std.specs.Prelude.{slice_index_or, sum}
use Rattle.std.specs.List.{flat_map, range_with_len}
use Rattle.std.proofs.lemmas.Bool.{cases_lt}
use Rattle.std.proofs.lemmas.List.{length_push, get_or_append_left, get_or_push, take_more, map-append, take-map, drop-map, length-take}
use Rattle.std.proofs.lemmas.List.Sums.{sum_by-cons}
use Rattle.astc_model.specs.declared.block.Block.{Block}
use Rattle.astc_model.specs.declared.block.BlockFault.{BlockFault}
use Rattle.astc_model.specs.declared.flavour.Flavour.{Flavour}
use Rattle.astc_model.specs.Limits.{most_texels}
use Rattle.astc_model.specs.Shown.{shown}
use Rattle.astc_model.specs.Reading.{read}
use Rattle.outcomes.proofs.PieceLaws.{pieces-more}
use Rattle.unpacking.specs.Bands.{faults_in, illegal, faults_of, AreDecoded}

pub decoded-none : (w h : ℕ) (flavour : Flavour) (blocks : List (List ℕ))
    → AreDecoded w h flavour blocks 0 []
decoded-none w h flavour blocks = record {
  count = refl;
  each = λ k p below inside.
      absurd (omega arith);
}

pub decoded-more : (w h : ℕ) (flavour : Flavour) (blocks : List (List ℕ)) (n : ℕ)
    (decoded : List (List (List ℕ))) (texels : List (List ℕ))
    → AreDecoded w h flavour blocks n decoded
    → ((p : ℕ) → p < w * h → slice_index_or texels p []
    ≡ shown w h flavour (slice_index_or blocks n []) (p % w) (p / w))
    → AreDecoded w h flavour blocks (n + 1) (decoded ++ texels ∷ [])
decoded-more w h flavour blocks n decoded texels so_far shows = record {
  count = length_push decoded texels ∙ ap (λ k. k + 1) so_far.count;
  each = λ k p below inside. elim (cases_lt k n) [
    | inl before ↦
        let there : k < length decoded = omega (arith, so_far.count) in
        rw (get_or_append_left decoded (texels ∷ []) [] k there) (so_far.each k p before inside)
    | inr last ↦
        let same : k ≡ n = omega arith in
        rw (same, get_or_push decoded texels [] n so_far.count) (shows p inside)
  ];
}

-- one piece more
pub piece-more : (f : ℕ → List ℕ) (n : ℕ) (front so_far more longer : List ℕ) → so_far
    ≡ front ++ flat_map f (range_with_len 0 n) → longer ≡ so_far ++ more → more ≡ f n
    → longer ≡ front ++ flat_map f (range_with_len 0 (n + 1))
piece-more f n front so_far more longer before pushed is =
    pushed ∙ ap (λ xs. xs ++ more) before
    ∙ append_assoc front (flat_map f (range_with_len 0 n)) more
    ∙ ap (λ xs. front ++ xs) (ap (λ x. flat_map f (range_with_len 0 n) ++ x)
    (is ∙ ap f (sym (zero-add n))) ∙ sym (pieces-more f 0 n))

-- ---- blocks that can't be read

-- one block more
pub faults-more : (w h : ℕ) (blocks : List (List ℕ)) (k one : ℕ) (front so_far longer : List ℕ)
    → k < length blocks → so_far ≡ front ++ faults_of w h (take k blocks) → longer
    ≡ so_far ++ one ∷ []
    → one ≡ illegal w h (slice_index_or blocks k []) → longer
    ≡ front ++ faults_of w h (take (k + 1) blocks)
faults-more w h blocks k one front so_far longer inside before pushed is =
    pushed ∙ ap (λ xs. xs ++ one ∷ []) before ∙ append_assoc front (faults_of w h (take k blocks))
    (one ∷ [])
    ∙ ap (λ x. front ++ (faults_of w h (take k blocks) ++ x ∷ [])) is
    ∙ ap (λ xs. front ++ xs)
    (sym (ap (faults_of w h) (take_more blocks k [] inside)
    ∙ map-append (illegal w h) (take k blocks) (slice_index_or blocks k [] ∷ [])))

none-taken : {X : Type 0} (k : ℕ) → take {A = X} k [] ≡ []
none-taken zero = refl
none-taken (suc k) = refl

take-both : {X : Type 0} (n k : ℕ) (xs : List X) → take n xs ++ take k (drop n xs) ≡ take (n + k) xs
take-both zero k xs = ap (λ m. take m xs) (sym (zero-add k))
take-both (suc n) k [] =
    let longer : suc n + k ≡ suc (n + k) = omega arith in
    rw longer (none-taken k)
take-both (suc n) k (x ∷ xs) =
    let longer : suc n + k ≡ suc (n + k) = omega arith in
    rw longer (ap (λ ys. x ∷ ys) (take-both n k xs))

-- the faults of the next blocks, after those before
pub faults-both : (w h n k : ℕ) (blocks : List (List ℕ)) → faults_of w h (take n blocks)
    ++ faults_of w h (take k (drop n blocks)) ≡ faults_of w h (take (n + k) blocks)
faults-both w h n k blocks = sym (map-append (illegal w h) (take n blocks) (take k (drop n blocks)))
    ∙ ap (faults_of w h) (take-both n k blocks)

one-fault : (result : Result Block BlockFault) → faults_in result ≤ 1
one-fault (Ok block) = omega arith
one-fault (Err fault) = omega arith

illegal-one : (w h : ℕ) (bytes : List ℕ) → illegal w h bytes ≤ 1
unfolding illegal
illegal-one w h bytes = one-fault (read w h bytes)

-- no more than there are blocks
pub faults-few : (w h : ℕ) (blocks : List (List ℕ)) → sum (faults_of w h blocks) ≤ length blocks
faults-few w h [] = omega arith
faults-few w h (block ∷ blocks) =
    omega (
      arith,
      sum_by-cons (λ x. x) (illegal w h block) (faults_of w h blocks),
      illegal-one w h
          block,
      faults-few w h blocks,
    )

-- those of some of the blocks
pub faults-part : (w h a n : ℕ) (blocks : List (List ℕ)) (all : List ℕ) → all ≡ faults_of w h blocks
    → n ≤ most_texels → sum (take (a + n - a) (drop a all)) < 2 ^ 32
faults-part w h a n blocks all is few =
    let count : a + n - a ≡ n = omega arith in
    let part : take n (drop a (faults_of w h blocks)) ≡ faults_of w h (take n (drop a blocks)) =
    ap (take n) (drop-map (illegal w h) a blocks) ∙ take-map (illegal w h) n (drop a blocks) in
    rw (is, count, part) (omega (
      arith,
      faults-few w h (take n (drop a blocks)),
      length-take n
          (drop a blocks),
      few,
    ))
