-- Counts of things that lack a property.
use Rattle.std.proofs.Common.{◌≡◌, ℕ, zero, suc, ◌+◌, ◌<◌, Bool, true, false, not, ◌&&◌, refl, subst, sym, add-one, arith, inl, inr}
use mir.Val.{bool_byte}
use Rattle.std.specs.Prelude.{IsTrue}
use Rattle.astc_audit.specs.Counts.{CountsOne, CountsOthers}

-- one more
pub counts-more : (P : ℕ → Type 0) (k before last : ℕ) → CountsOthers P k before
    → CountsOne (P k) last → CountsOthers P (k + 1) (before + last)
counts-more P k before last so_far one = subst (λ n. CountsOthers P n (before + last))
    (sym (add-one k)) (before, last, so_far, one, refl)

one-same : (P Q : Type 0) (n : ℕ) → (P → Q) → (Q → P) → CountsOne P n → CountsOne Q n
one-same P Q n there back (inl has) = inl (there has.0, has.1)
one-same P Q n there back (inr none) = inr (λ q. none.0 (back q), none.1)

-- the same things, the same count
pub counts-same : (P Q : ℕ → Type 0) (k n : ℕ) → ((i : ℕ) → i < k → P i → Q i)
    → ((i : ℕ) → i < k → Q i → P i) → CountsOthers P k n → CountsOthers Q k n
counts-same P Q zero n there back counts = counts
counts-same P Q (suc k) n there back counts = (
  counts.0,
  counts.1,
  counts-same P Q k counts.0 (λ i below. there i (omega arith))
      (λ i below. back i (omega arith)) counts.2,
  one-same (P k) (Q k) counts.1 (there k (omega arith)) (back k (omega arith)) counts.3,
  counts.4,
)

-- three truths that are all so exactly if it has the property
pub counts-one : (P : Type 0) (a b c : Bool) (n : ℕ) → (IsTrue a → IsTrue b → IsTrue c → P)
    → (P → IsTrue a) → (P → IsTrue b) → (P → IsTrue c)
    → n ≡ bool_byte (not (a && (b && c))) → CountsOne P n
counts-one P true true true n all first second third is = inl (all refl refl refl, is)
counts-one P true true false n all first second third is =
    inr (λ p. let no : IsTrue false = third p in absurd (cc), is)
counts-one P true false c n all first second third is =
    inr (λ p. let no : IsTrue false = second p in absurd (cc), is)
counts-one P false b c n all first second third is =
    inr (λ p. let no : IsTrue false = first p in absurd (cc), is)
