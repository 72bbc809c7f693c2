-- A list that is written again at the places of a reach, and its sum.
use Rattle.std.proofs.Common.{◌≡◌, ℕ, zero, suc, ◌+◌, ◌<◌, ◌≤◌, ◌==◌, ◌||◌, nat_lt, Bool, true, false, cond, List, [], ◌∷◌, ◌++◌, length, get_or, set, refl, ap, sym, ◌∙◌, eq-eqb, arith, inl, inr}
use Rattle.std.specs.Prelude.{sum_by}
use Rattle.std.proofs.lemmas.Bool.{cases_eq, ne_eqb}
use Rattle.std.proofs.lemmas.List.{get_or-set_same, get_or-set_other}
use Rattle.std.proofs.lemmas.List.Folds.{list_any-append}
use Rattle.std.proofs.lemmas.List.Sums.{sum_by-cons}
use Rattle.astc_model.specs.Sums.{sum_to}
use Rattle.texel_error.specs.Counting.{sum_on}
use Rattle.error_tables.specs.Reached.{ArePlaces, is_among, renewed}

or_false : (b : Bool) → (b || false) ≡ b
or_false true = refl
or_false false = refl

or_true : (b : Bool) → (b || true) ≡ true
or_true true = refl
or_true false = refl

-- one place more is written
pub renew_step : (old new : ℕ → ℕ) (xs before : List ℕ) (q v : ℕ) → q < length xs → v ≡ new q
    → ((p : ℕ) → get_or xs p 0 ≡ renewed old new before p) → (p : ℕ) → get_or (set xs q v) p 0
    ≡ renewed old new (before ++ q ∷ []) p
renew_step old new xs before q v within is done p =
    elim (cases_eq q p) [
      | inl same ↦
          let own : is_among p (before ++ q ∷ []) ≡ true = list_any-append (λ k. k == p) before
          (q ∷ []) ∙ rw (eq-eqb q p same) (or_true (is_among p before)) in
          rw own (rw (← same) (get_or-set_same xs q v 0 within ∙ is))
      | inr other ↦
          let far : is_among p (before ++ q ∷ []) ≡ is_among p before =
          list_any-append (λ k. k == p) before (q ∷ [])
          ∙ rw (ne_eqb q p other) (or_false (is_among p before)) in
          rw far (get_or-set_other xs q p v 0 (λ back. other (sym back)) ∙ done p)
    ]

-- ---- which places are written

one_if : (b : Bool) → nat_lt 0 (cond b 1 0) ≡ b
one_if true = refl
one_if false = refl

some_more : (b : Bool) (n : ℕ) → nat_lt 0 (cond b 1 0 + n) ≡ (b || nat_lt 0 n)
some_more true n = grind arith
some_more false n = grind arith

among_count : (p : ℕ) (places : List ℕ) → is_among p places
    ≡ nat_lt 0 (sum_by (λ q. cond (q == p) 1 0) places)
among_count p [] = refl
among_count p (q ∷ places) =
    rw (
      sum_by-cons (λ k. cond (k == p) 1 0) q places,
      some_more (q == p)
          (sum_by (λ k. cond (k == p) 1 0) places),
      ← among_count p places,
    ) refl

nothing : (b : Bool) → ◌≡◌ {A = ℕ} (cond b 0 0) 0
nothing true = refl
nothing false = refl

none_before : (on : ℕ → Bool) (p n : ℕ) → n ≤ p → sum_on on (λ q. cond (q == p) 1 0) n ≡ 0
unfolding sum_to
none_before on p zero within = refl
none_before on p (suc n) within =
    let other : (n == p) ≡ false = ne_eqb n p (λ same. absurd (omega arith)) in
    rw other (omega (arith, none_before on p n (omega arith), nothing (on n)))

on_count : (on : ℕ → Bool) (p n : ℕ) → p < n → sum_on on (λ q. cond (q == p) 1 0) n
    ≡ cond (on p) 1 0
unfolding sum_to
on_count on p zero below = absurd (omega arith)
on_count on p (suc n) below =
    elim (cases_eq n p) [
      | inl last ↦
          let own : (n == p) ≡ true = eq-eqb n p last in
          rw own (rw last (omega (arith, none_before on p p (omega arith))))
      | inr other ↦
          rw (ne_eqb n p other) (omega (arith, on_count on p n (omega arith), nothing (on n)))
    ]

-- a place is among those of a test exactly if the test takes it
pub among_is : (on : ℕ → Bool) (n p : ℕ) (places : List ℕ) → ArePlaces on n places → p < n
    → is_among p places ≡ on p
among_is on n p places are below = among_count p places
    ∙ ap (nat_lt 0) (are.same (λ q. cond (q == p) 1 0) ∙ on_count on p n below) ∙ one_if (on p)

-- ---- the sum

pub set_sum : (xs : List ℕ) (q v n : ℕ) → q < n → q < length xs
    → sum_to (λ p. get_or (set xs q v) p 0) n + get_or xs q 0 ≡ sum_to (λ p. get_or xs p 0) n + v
unfolding sum_to
set_sum xs q v zero below within = absurd (omega arith)
set_sum xs q v (suc n) below within =
    elim (cases_eq n q) [
      | inl last ↦
          let here : get_or (set xs q v) n 0 ≡ v = rw last (get_or-set_same xs q v 0 within) in
          let there : get_or xs n 0 ≡ get_or xs q 0 = rw last refl in
          omega (arith, here, there, set_sum_before xs q v n (omega arith))
      | inr other ↦
          let same : get_or (set xs q v) n 0 ≡ get_or xs n 0 = get_or-set_other xs q n v 0 other in
          omega (arith, same, set_sum xs q v n (omega arith) within)
    ]
  where
    set_sum_before : (xs : List ℕ) (q v n : ℕ) → n ≤ q → sum_to (λ p. get_or (set xs q v) p 0) n
        ≡ sum_to (λ p. get_or xs p 0) n
    set_sum_before xs q v zero within = refl
    set_sum_before xs q v (suc n) within =
        let same : get_or (set xs q v) n 0 ≡ get_or xs n 0 =
        get_or-set_other xs q n v 0 (λ e. absurd (omega arith)) in
        omega (arith, same, set_sum_before xs q v n (omega arith))
