-- Laws of the places that a change reaches.
use Rattle.std.proofs.Common.{◌≡◌, ℕ, zero, suc, ◌+◌, ◌<◌, ◌≤◌, Bool, true, false, cond, List, [], ◌∷◌, ◌++◌, length, refl, ap, sym, ◌∙◌, arith}
use Rattle.std.specs.Prelude.{sum_by, map}
use Rattle.std.proofs.lemmas.List.Sums.{sum_by_push, sum_by-cons}
use Rattle.astc_model.specs.Sums.{sum_to}
use Rattle.astc_model.proofs.SumLaws.{sum_to-more}
use Rattle.texel_error.specs.Counting.{sum_on, count_on}
use Rattle.error_tables.specs.Reached.{ArePlaces}

pub none : (on : ℕ → Bool) → ArePlaces on 0 []
unfolding sum_to
none on = record { same = λ f. refl }

pub taken : (on : ℕ → Bool) (n : ℕ) (places : List ℕ) → ArePlaces on n places → on n ≡ true
    → ArePlaces on (n + 1) (places ++ n ∷ [])
taken on n places h is_on = record {
  same = λ f.
      sum_by_push f places n ∙ ap (λ s. s + f n) (h.same f)
      ∙ sym (sum_to-more (λ p. cond (on p) (f p) 0) n ∙ rw is_on refl);
}

pub left_out : (on : ℕ → Bool) (n : ℕ) (places : List ℕ) → ArePlaces on n places → on n ≡ false
    → ArePlaces on (n + 1) places
left_out on n places h is_off = record {
  same = λ f.
      h.same f ∙ sym (sum_to-more (λ p. cond (on p) (f p) 0) n ∙ rw is_off (omega arith));
}

length_is : (places : List ℕ) → sum_by (λ p. 1) places ≡ length places
length_is [] = refl
length_is (p ∷ places) = omega (arith, sum_by-cons (λ q. 1) p places, length_is places)

-- the length of the list is the number of the places
pub count_is : (on : ℕ → Bool) (n : ℕ) (places : List ℕ) → ArePlaces on n places → length places
    ≡ count_on on n
count_is on n places h = sym (length_is places) ∙ h.same (λ p. 1)

-- a sum whose terms change at the places alone that a test takes
pub sum_change : (old new : ℕ → ℕ) (on : ℕ → Bool) (n : ℕ)
    → ((p : ℕ) → p < n → on p ≡ false → new p ≡ old p)
    → sum_to new n + sum_on on old n ≡ sum_to old n + sum_on on new n
unfolding sum_to
sum_change old new on zero stays = refl
sum_change old new on (suc n) stays =
    one (on n) (old n) (new n) _ _ _ _ (sum_change old new on n (λ p below. stays p (omega arith)))
    (stays n (omega arith))
  where
    one : (b : Bool) (x y s t u v : ℕ) → s + t ≡ u + v → (b ≡ false → y ≡ x)
        → (s + y) + (t + cond b x 0) ≡ (u + x) + (v + cond b y 0)
    one true x y s t u v h same = omega (arith, h)
    one false x y s t u v h same = let e : y ≡ x = same refl in omega (arith, h, e)

-- the part of the sum that the change removes is at most the sum
pub sum_on_le : (on : ℕ → Bool) (f : ℕ → ℕ) (n : ℕ) → sum_on on f n ≤ sum_to f n
unfolding sum_to
sum_on_le on f zero = omega arith
sum_on_le on f (suc n) = one (on n) (f n) _ _ (sum_on_le on f n)
  where
    one : (b : Bool) (x s t : ℕ) → s ≤ t → s + cond b x 0 ≤ t + x
    one true x s t h = omega (arith, h)
    one false x s t h = omega (arith, h)

-- so the new sum comes from the old one by a list of the places
pub changed_sum : (old new : ℕ → ℕ) (on : ℕ → Bool) (n : ℕ) (places : List ℕ)
    → ArePlaces on n places
    → ((p : ℕ) → p < n → on p ≡ false → new p ≡ old p)
    → sum_to new n + sum_by old places ≡ sum_to old n + sum_by new places
changed_sum old new on n places are stays = rw (are.same old, are.same new)
    (sum_change old new on n stays)

pub part_of_sum : (on : ℕ → Bool) (f : ℕ → ℕ) (n : ℕ) (places : List ℕ) → ArePlaces on n places
    → sum_by f places ≤ sum_to f n
part_of_sum on f n places are = rw (are.same f) (sum_on_le on f n)

-- sums over lists with something beside each place
pub sum_by-map : {X Y : Type 0} (f : Y → ℕ) (g : X → Y) (xs : List X) → sum_by f (map g xs)
    ≡ sum_by (λ x. f (g x)) xs
sum_by-map f g [] = refl
sum_by-map f g (x ∷ xs) =
    omega (
      arith,
      sum_by-cons f (g x) (map g xs),
      sum_by-cons
          (λ y. f (g y)) x xs,
      sum_by-map f g xs,
    )

-- a test takes at most all places
pub count_on-le : (on : ℕ → Bool) (n : ℕ) → count_on on n ≤ n
unfolding sum_to
count_on-le on zero = omega arith
count_on-le on (suc n) = one (on n) _ n (count_on-le on n)
  where
    one : (b : Bool) (s n : ℕ) → s ≤ n → s + cond b 1 0 ≤ suc n
    one true s n h = omega (arith, h)
    one false s n h = omega (arith, h)
