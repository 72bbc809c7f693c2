-- A trial's error under a limit, from the errors that the change removes and adds.
use Rattle.std.proofs.Common.{◌≡◌, ℕ, ◌+◌, ◌-◌, ◌<◌, ◌≤◌, None, Some, refl, sym, ap, ◌∙◌, arith, inl, inr}
use Rattle.std.proofs.lemmas.Bool.{cases_lt, lt-ltb, le-ltb}
use Rattle.texel_error.specs.Limited.{under}

under_below : (bar n : ℕ) → n < bar → under bar n ≡ Some n
under_below bar n below = rw (lt-ltb n bar below) refl

under_over : (bar n : ℕ) → bar ≤ n → under bar n ≡ None
under_over bar n over = rw (le-ltb n bar over) refl

pub of_none : (bar n : ℕ) → None ≡ under bar n → bar ≤ n
of_none bar n none = elim (cases_lt n bar) [
  | inl below ↦ let some : under bar n ≡ Some n = under_below bar n below in absurd (cc)
  | inr over ↦ over
]

pub of_some : (bar n m : ℕ) → Some m ≡ under bar n → (n < bar) × (m ≡ n)
of_some bar n m some = elim (cases_lt n bar) [
  | inl below ↦ let is : under bar n ≡ Some n = under_below bar n below in (below, cc)
  | inr over ↦ let none : under bar n ≡ None = under_over bar n over in absurd (cc)
]

module _ (limit less total n bar e : ℕ) (bar_is : bar ≡ limit + less - total)
    (sum : e + less ≡ total + n) where
  pub none_under : None ≡ under bar n → None ≡ under limit e
  none_under none = let over : bar ≤ n = of_none bar n none in
      sym (under_over limit e (omega arith))

  pub no_borrow : (more : ℕ) → Some more ≡ under bar n → less ≤ total + more
  no_borrow more some = let is = of_some bar n more some in omega (arith, is.1)

  pub some_under : (more : ℕ) → Some more ≡ under bar n → Some (total + more - less) ≡ under limit e
  some_under more some =
      let is = of_some bar n more some in
      let same : total + more - less ≡ e = omega (arith, is.1) in
      ap Some same ∙ sym (under_below limit e (omega (arith, is.0)))
