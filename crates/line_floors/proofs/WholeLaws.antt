-- Products of integers, and the squares of a linear function after one more texel.
use Rattle.std.proofs.Common.{◌≡◌, ℕ, zero, suc, ◌+◌, ◌*◌, ◌-◌, refl, ap, ◌∙◌, arith, inl, inr, ℤ, pos, negsuc, neg_ℤ, ◌+ℤ◌, ◌-ℤ◌, ◌*ℤ◌, ◌≤ℤ◌, ◌≤◌, ◌<◌, ◌^◌, w64, FitsSigned, to_z, of_z}
use Rattle.std.proofs.Math.IntN.{ℤ_ind, zero-*ℤ, suc_ℤ-*ℤ, pred_ℤ-*ℤ, *ℤ_comm, +ℤ_one, -ℤ_one, suc_ℤ-+ℤ, pred_ℤ-+ℤ, +ℤ_idl, +ℤ_invr, *ℤ-zero}
use Rattle.std.proofs.lemmas.Nat.{mul-le}
use Rattle.std.proofs.lemmas.Bool.{cases_lt}
use Rattle.std.proofs.lemmas.Int.{ints, to_z-of_z, to_z_pos, fits_signed_mul, unsigned_abs-mul}
use Rattle.std.specs.Int.RustNames.{unsigned_abs}

pub plus_times : (x y k : ℤ) → (x +ℤ y) *ℤ k ≡ x *ℤ k +ℤ y *ℤ k
plus_times x y k =
    ℤ_ind (λ x. (x +ℤ y) *ℤ k ≡ x *ℤ k +ℤ y *ℤ k) none (λ n. up (pos n))
    (λ n. down (neg_ℤ (pos n))) x
  where
    none : (pos 0 +ℤ y) *ℤ k ≡ pos 0 *ℤ k +ℤ y *ℤ k
    none = rw (+ℤ_idl y, zero-*ℤ k, +ℤ_idl (y *ℤ k)) refl

    up : (x : ℤ) → (x +ℤ y) *ℤ k ≡ x *ℤ k +ℤ y *ℤ k
        → (x +ℤ pos 1 +ℤ y) *ℤ k ≡ (x +ℤ pos 1) *ℤ k +ℤ y *ℤ k
    up x is =
        rw (+ℤ_one x, suc_ℤ-+ℤ x y, suc_ℤ-*ℤ (x +ℤ y) k, suc_ℤ-*ℤ x k) (omega (arith, ints, is))

    down : (x : ℤ) → (x +ℤ y) *ℤ k ≡ x *ℤ k +ℤ y *ℤ k
        → (x -ℤ pos 1 +ℤ y) *ℤ k ≡ (x -ℤ pos 1) *ℤ k +ℤ y *ℤ k
    down x is =
        rw (-ℤ_one x, pred_ℤ-+ℤ x y, pred_ℤ-*ℤ (x +ℤ y) k, pred_ℤ-*ℤ x k)
        (omega (arith, ints, is))

pub times_plus : (k x y : ℤ) → k *ℤ (x +ℤ y) ≡ k *ℤ x +ℤ k *ℤ y
times_plus k x y = rw (*ℤ_comm k (x +ℤ y), *ℤ_comm k x, *ℤ_comm k y) (plus_times x y k)

pub four_terms : (k a b c d : ℤ)
    → k *ℤ (a +ℤ b +ℤ c +ℤ d) ≡ k *ℤ a +ℤ k *ℤ b +ℤ k *ℤ c +ℤ k *ℤ d
four_terms k a b c d =
    rw (times_plus k (a +ℤ b +ℤ c) d, times_plus k (a +ℤ b) c, times_plus k a b) refl

pub times_neg : (k z : ℤ) → k *ℤ neg_ℤ z ≡ neg_ℤ (k *ℤ z)
times_neg k z =
    omega (arith, ints, rw (+ℤ_invr z) at (times_plus k z (neg_ℤ z)), *ℤ-zero k)

pub neg_times : (z k : ℤ) → neg_ℤ z *ℤ k ≡ neg_ℤ (z *ℤ k)
neg_times z k = rw (*ℤ_comm (neg_ℤ z) k, *ℤ_comm z k) (times_neg k z)

pub times_times : (x y k : ℤ) → (x *ℤ y) *ℤ k ≡ x *ℤ (y *ℤ k)
times_times x y k =
    ℤ_ind (λ x. (x *ℤ y) *ℤ k ≡ x *ℤ (y *ℤ k)) none (λ n. up (pos n))
    (λ n. down (neg_ℤ (pos n))) x
  where
    none : (pos 0 *ℤ y) *ℤ k ≡ pos 0 *ℤ (y *ℤ k)
    none = rw (zero-*ℤ y, zero-*ℤ k, zero-*ℤ (y *ℤ k)) refl

    up : (x : ℤ) → (x *ℤ y) *ℤ k ≡ x *ℤ (y *ℤ k)
        → ((x +ℤ pos 1) *ℤ y) *ℤ k ≡ (x +ℤ pos 1) *ℤ (y *ℤ k)
    up x is = rw (+ℤ_one x, suc_ℤ-*ℤ x y, suc_ℤ-*ℤ x (y *ℤ k))
        (omega (arith, ints, is, plus_times (x *ℤ y) y k))

    down : (x : ℤ) → (x *ℤ y) *ℤ k ≡ x *ℤ (y *ℤ k)
        → ((x -ℤ pos 1) *ℤ y) *ℤ k ≡ (x -ℤ pos 1) *ℤ (y *ℤ k)
    down x is = rw (-ℤ_one x, pred_ℤ-*ℤ x y, pred_ℤ-*ℤ x (y *ℤ k))
        (omega (arith, ints, is, plus_times (x *ℤ y) (neg_ℤ y) k, neg_times y k))

times_one : (k : ℤ) → k *ℤ pos 1 ≡ k
times_one (pos n) = omega (arith, ints)
times_one (negsuc n) = omega (arith, ints)

-- the product of numbers within these ranges, in the form of a computed one
pub times_small : (z : ℤ) (k n top : ℕ) → FitsSigned w64 z → unsigned_abs z ≤ k → n ≤ top
    → k * top < 2 ^ 63 → top < 2 ^ 63
    → unsigned_abs (to_z w64 (of_z w64 (to_z w64 (of_z w64 z) *ℤ to_z w64 n))) ≤ k * n
times_small z k n top fits small few room fit =
    let value : to_z w64 n ≡ pos n = to_z_pos w64 n (omega (arith, few, fit)) in
    rw (
      to_z-of_z w64 z fits,
      value,
      to_z-of_z w64 (z *ℤ pos n) (fits_signed_mul w64 z (pos n) k top small few room),
      unsigned_abs-mul z (pos n),
    ) (mul-le (unsigned_abs z) n k n small (omega arith))

pub above : (z : ℤ) → (pos 1024 *ℤ z) ≤ℤ pos (1024 * unsigned_abs z)
above (pos n) = omega (arith, ints)
above (negsuc n) = omega (arith, ints)

-- a sum of targets, a sum of products with a channel, and the squares, after one more texel
pub value_more : (c d e f g : ℤ) (n s u w x t v y z : ℕ)
    → c *ℤ pos (n + 1) +ℤ (d *ℤ pos (s + t) +ℤ e *ℤ pos (u + v) +ℤ f *ℤ pos (w + y)
    +ℤ g *ℤ pos (x + z))
    ≡ c *ℤ pos n +ℤ (d *ℤ pos s +ℤ e *ℤ pos u +ℤ f *ℤ pos w +ℤ g *ℤ pos x)
    +ℤ (c +ℤ (d *ℤ pos t +ℤ e *ℤ pos v +ℤ f *ℤ pos y +ℤ g *ℤ pos z))
value_more c d e f g n s u w x t v y z =
    omega (
      arith,
      ints,
      times_plus c (pos n) (pos 1),
      times_one c,
      times_plus d (pos s) (pos t),
      times_plus e (pos u) (pos v),
      times_plus f (pos w) (pos y),
      times_plus g (pos x) (pos z),
    )

one_product : (d : ℤ) (s k t : ℕ) → d *ℤ pos (s + k * t) ≡ d *ℤ pos s +ℤ pos k *ℤ (d *ℤ pos t)
one_product d s k t =
    times_plus d (pos s) (pos (k * t))
    ∙ ap (λ z. d *ℤ pos s +ℤ z)
    (rw (*ℤ_comm d (pos t)) (*ℤ_comm d (pos (k * t)) ∙ times_times (pos k) (pos t) d))

pub row_more : (c d e f g : ℤ) (n s u w x k t v y z : ℕ)
    → c *ℤ pos (n + k) +ℤ (d *ℤ pos (s + k * t) +ℤ e *ℤ pos (u + k * v) +ℤ f *ℤ pos (w + k * y)
    +ℤ g *ℤ pos (x + k * z))
    ≡ c *ℤ pos n +ℤ (d *ℤ pos s +ℤ e *ℤ pos u +ℤ f *ℤ pos w +ℤ g *ℤ pos x)
    +ℤ pos k *ℤ (c +ℤ (d *ℤ pos t +ℤ e *ℤ pos v +ℤ f *ℤ pos y +ℤ g *ℤ pos z))
row_more c d e f g n s u w x k t v y z =
    omega (
      arith,
      ints,
      times_plus c (pos n) (pos k),
      *ℤ_comm c (pos k),
      one_product d s k t,
      one_product e u k v,
      one_product f w k y,
      one_product g x k z,
      times_plus (pos k) c (d *ℤ pos t +ℤ e *ℤ pos v +ℤ f *ℤ pos y +ℤ g *ℤ pos z),
      four_terms (pos k) (d *ℤ pos t) (e *ℤ pos v) (f *ℤ pos y) (g *ℤ pos z),
    )

pub times_more : (c d e f g m a b o h l p q r j : ℤ) (v : ℤ) (t u w x : ℕ)
    → m ≡ l +ℤ v → a ≡ p +ℤ pos t *ℤ v → b ≡ q +ℤ pos u *ℤ v → o ≡ r +ℤ pos w *ℤ v
    → h ≡ j +ℤ pos x *ℤ v
    → v ≡ c +ℤ (d *ℤ pos t +ℤ e *ℤ pos u +ℤ f *ℤ pos w +ℤ g *ℤ pos x)
    → c *ℤ m +ℤ (d *ℤ a +ℤ e *ℤ b +ℤ f *ℤ o +ℤ g *ℤ h)
    ≡ c *ℤ l +ℤ (d *ℤ p +ℤ e *ℤ q +ℤ f *ℤ r +ℤ g *ℤ j) +ℤ v *ℤ v
times_more c d e f g m a b o h l p q r j v t u w x count red green blue alpha is =
    rw (count, red, green, blue, alpha)
    (omega (
      arith,
      ints,
      times_plus c l v,
      one d p t,
      one e q u,
      one f r w,
      one g j x,
      five_times c (d *ℤ pos t) (e *ℤ pos u) (f *ℤ pos w) (g *ℤ pos x) v,
      ap (λ z. z *ℤ v) is,
    ))
  where
    one : (d p : ℤ) (t : ℕ) → d *ℤ (p +ℤ pos t *ℤ v) ≡ d *ℤ p +ℤ (d *ℤ pos t) *ℤ v
    one d p t = rw times_times (times_plus d p (pos t *ℤ v))

    five_times : (a b c d e k : ℤ) → (a +ℤ (b +ℤ c +ℤ d +ℤ e)) *ℤ k
        ≡ a *ℤ k +ℤ (b *ℤ k +ℤ c *ℤ k +ℤ d *ℤ k +ℤ e *ℤ k)
    five_times a b c d e k =
        rw (
          plus_times a (b +ℤ c +ℤ d +ℤ e) k,
          plus_times (b +ℤ c +ℤ d) e k,
          plus_times (b +ℤ c) d k,
          plus_times b c k,
        ) refl

pub square_is : (v : ℤ) (a b : ℕ) → v ≡ pos a -ℤ pos b
    → v *ℤ v ≡ pos ((a - b) * (a - b) + (b - a) * (b - a))
square_is v a b is =
    elim (cases_lt a b) [
      | inl less ↦
          let none : a - b ≡ 0 = omega arith in
          rw none (under (b - a - 1) (b - a) (omega (arith, ints, is)) (omega arith))
      | inr more ↦
          let none : b - a ≡ 0 = omega arith in
          let same : v ≡ pos (a - b) = omega (arith, ints, is) in
          rw (same, none) (omega (arith, ints))
    ]
  where
    under : (d n : ℕ) → v ≡ negsuc d → n ≡ suc d → v *ℤ v ≡ pos (0 * 0 + n * n)
    under d n same size = rw (same, size) (omega (arith, ints))

pub own_square : (z : ℤ) → z *ℤ z ≡ pos (unsigned_abs z * unsigned_abs z)
own_square (pos n) = refl
own_square (negsuc n) = refl

pub turned_square : (z : ℤ) → neg_ℤ z *ℤ neg_ℤ z ≡ pos (unsigned_abs z * unsigned_abs z)
turned_square (pos zero) = refl
turned_square (pos (suc n)) = refl
turned_square (negsuc n) = refl
