-- The distance that is computed from the sums of a partition is at most the distance of its texels
-- from any blends.
use Rattle.std.proofs.Common.{◌≡◌, ℕ, zero, suc, ◌+◌, ◌-◌, ◌*◌, ◌/◌, ◌<◌, ◌≤◌, ◌==◌, Bool, true, false, cond, max, List, Option, None, Some, get_or, refl, ap, ◌∙◌, arith, inl, inr, ℤ, pos, ◌+ℤ◌, ◌-ℤ◌, ◌*ℤ◌, ◌≤ℤ◌}
use Rattle.std.specs.Prelude.{slice_index_or}
use Rattle.std.proofs.lemmas.Bool.{cases_lt}
use Rattle.std.proofs.Math.IntN.{*ℤ-zero}
use Rattle.std.proofs.Math.Nat.{mul-le-mul_left, lt-mul-div-succ}
use Rattle.std.proofs.lemmas.Int.{ints}
use Rattle.std.specs.Int.RustNames.{unsigned_abs}
use Rattle.astc_model.specs.Sums.{sum_to}
use Rattle.astc_model.specs.Errors.{squared_difference}
use Rattle.astc_model.specs.Places.{Texel}
use Rattle.astc_model.specs.Candidates.{Ends}
use Rattle.astc_model.specs.declared.flavour.Flavour.{Flavour}
use Rattle.moments.proofs.MeanSquareLaws.{square_law}
use Rattle.line_floors.specs.declared.part_sums.PartitionSums.{PartitionSums}
use Rattle.line_floors.specs.declared.line.PartitionLine.{PartitionLine}
use Rattle.line_floors.specs.Sums.{scale, targets, no_sums, with_texel, plus_products, with_place, sums_below}
use Rattle.line_floors.specs.Lengths.{scaled, doubled, dot, length_of, line_of, more_of, less_of, sum_of, squares_of, distance_of}
use Rattle.line_floors.proofs.WholeLaws.{times_plus, value_more, row_more, times_more, own_square, turned_square, above}
use Rattle.line_floors.proofs.LineLaws.{mixed_distance, first_distance, short_of, value_is, texel_floor}

-- ---- linear functions of the sums are sums over the places

-- a function of the targets of an inside place; 0 outside the image
abbrev pub at_place : Flavour → (List ℕ → ℕ) → Option Texel → ℕ
at_place flavour f None = 0
at_place flavour f (Some wanted) = f (targets flavour wanted)

-- the sum of f over the first n places that belong to a partition
unfoldable pub sum_in : List ℕ → (part : ℕ) → (ℕ → ℕ) → ℕ → ℕ
sum_in parts part f n = sum_to (λ p. cond (get_or parts p 0 == part) (f p) 0) n

module _ (flavour : Flavour) (places : List (Option Texel)) (parts : List ℕ) (part : ℕ)
    (F : PartitionSums → ℕ) (f : List ℕ → ℕ) (none : F no_sums ≡ 0)
    (step : (part_sums : PartitionSums) (t : List ℕ) → F (with_texel part_sums t)
    ≡ F part_sums + f t) where
  one_place : (part_sums : PartitionSums) (place : Option Texel)
      → F (with_place flavour part_sums place) ≡ F part_sums + at_place flavour f place
  one_place part_sums None = omega arith
  one_place part_sums (Some wanted) = step part_sums (targets flavour wanted)

  where_in : (b : Bool) (part_sums : PartitionSums) (place : Option Texel)
      → F (cond b (with_place flavour part_sums place) part_sums)
      ≡ F part_sums + cond b (at_place flavour f place) 0
  where_in true part_sums place = one_place part_sums place
  where_in false part_sums place = omega arith

  pub summed : (n : ℕ) → F (sums_below flavour places parts part n)
      ≡ sum_in parts part (λ p. at_place flavour f (slice_index_or places p None)) n
  unfolding sums_below sum_in sum_to
  summed zero = none
  summed (suc n) =
      where_in (get_or parts n 0 == part) (sums_below flavour places parts part n)
      (slice_index_or places n None)
      ∙ ap (λ s. s + cond (get_or parts n 0 == part)
      (at_place flavour f (slice_index_or places n None)) 0) (summed n)

-- ---- one texel more

-- the linear function of the line at the targets of a texel
abbrev pub value_of : PartitionLine → (targets : List ℕ) → ℤ
value_of line t = line.constant +ℤ dot line.slopes t

squares_more : (line : PartitionLine) (s : PartitionSums) (t : List ℕ)
    → squares_of line (with_texel s t)
    ≡ squares_of line s +ℤ value_of line t *ℤ value_of line t
squares_more line s t =
    times_more line.constant line.slopes.red line.slopes.green line.slopes.blue line.slopes.alpha
    _ _ _ _ _ (sum_of line s.count s.sums) (sum_of line (get_or s.sums 0 0) s.red)
    (sum_of line (get_or s.sums 1 0) s.green) (sum_of line (get_or s.sums 2 0) s.blue)
    (sum_of line (get_or s.sums 3 0) s.alpha) (value_of line t) (get_or t 0 0) (get_or t 1 0)
    (get_or t 2 0) (get_or t 3 0)
    (value_more line.constant line.slopes.red line.slopes.green line.slopes.blue
    line.slopes.alpha s.count (get_or s.sums 0 0) (get_or s.sums 1 0) (get_or s.sums 2 0)
    (get_or s.sums 3 0) (get_or t 0 0) (get_or t 1 0) (get_or t 2 0) (get_or t 3 0))
    (row 0 s.red) (row 1 s.green) (row 2 s.blue) (row 3 s.alpha) refl
  where
    row : (c : ℕ) (values : List ℕ)
        → sum_of line (get_or s.sums c 0 + get_or t c 0) (plus_products values (get_or t c 0) t)
        ≡ sum_of line (get_or s.sums c 0) values +ℤ pos (get_or t c 0) *ℤ value_of line t
    row c values =
        row_more line.constant line.slopes.red line.slopes.green line.slopes.blue
        line.slopes.alpha (get_or s.sums c 0) (get_or values 0 0) (get_or values 1 0)
        (get_or values 2 0) (get_or values 3 0) (get_or t c 0) (get_or t 0 0) (get_or t 1 0)
        (get_or t 2 0) (get_or t 3 0)

-- the squared distance of a texel's targets from the first endpoint
abbrev pub start_distance : PartitionLine → (targets : List ℕ) → ℕ
start_distance line t =
    get_or line.gains 0 0 * squared_difference (get_or line.starts 0 0) (get_or t 0 0)
    + get_or line.gains 1 0 * squared_difference (get_or line.starts 1 0) (get_or t 1 0)
    + get_or line.gains 2 0 * squared_difference (get_or line.starts 2 0) (get_or t 2 0)
    + get_or line.gains 3 0 * squared_difference (get_or line.starts 3 0) (get_or t 3 0)

first_more : (line : PartitionLine) (s : PartitionSums) (t : List ℕ)
    → more_of line (with_texel s t) + less_of line s
    ≡ more_of line s + less_of line (with_texel s t) + start_distance line t
first_more line s t =
    four _ _ _ _ _ _ _ _ _ _ _ _ _ _ _ _ _ _ _ _
    (one (get_or line.gains 0 0) (get_or line.starts 0 0) s.count (get_or s.red 0 0)
    (get_or s.sums 0 0) (get_or t 0 0))
    (one (get_or line.gains 1 0) (get_or line.starts 1 0) s.count (get_or s.green 1 0)
    (get_or s.sums 1 0) (get_or t 1 0))
    (one (get_or line.gains 2 0) (get_or line.starts 2 0) s.count (get_or s.blue 2 0)
    (get_or s.sums 2 0) (get_or t 2 0))
    (one (get_or line.gains 3 0) (get_or line.starts 3 0) s.count (get_or s.alpha 3 0)
    (get_or s.sums 3 0) (get_or t 3 0))
  where
    one : (g p n r s t : ℕ) → g * (p * p * (n + 1) + (r + t * t)) + 2 * (g * (p * s))
        ≡ g * (p * p * n + r) + 2 * (g * (p * (s + t))) + g * squared_difference p t
    one g p n r s t = omega (arith, ap (λ n. g * n) (square_law p t))

    four : (a b c d e f g h i j k l m n o p q r s t : ℕ) → a + 2 * e ≡ i + 2 * m + q
        → b + 2 * f ≡ j + 2 * n + r → c + 2 * g ≡ k + 2 * o + s → d + 2 * h ≡ l + 2 * p + t
        → a + b + c + d + 2 * (e + f + g + h)
        ≡ i + j + k + l + 2 * (m + n + o + p) + (q + r + s + t)
    four a b c d e f g h i j k l m n o p q r s t one two three last =
        omega (arith, one, two, three, last)

-- ---- the squared distances from the line, times its length and 1024

unfoldable rest_of : PartitionLine → PartitionSums → ℤ
rest_of line s =
    pos (1024 * (line.length * more_of line s)) -ℤ pos (1024 * (line.length * less_of line s))
    -ℤ pos 1024 *ℤ squares_of line s

unfoldable rest_at : PartitionLine → (targets : List ℕ) → ℤ
rest_at line t =
    pos (1024 * (line.length * start_distance line t))
    -ℤ pos 1024 *ℤ (value_of line t *ℤ value_of line t)

rest_more : (line : PartitionLine) (s : PartitionSums) (t : List ℕ)
    → rest_of line (with_texel s t) ≡ rest_of line s +ℤ rest_at line t
unfolding rest_of rest_at
rest_more line s t = rw (squares_more line s t)
    (plain line.length (more_of line (with_texel s t)) (more_of line s)
    (less_of line (with_texel s t)) (less_of line s) (start_distance line t) (squares_of line s)
    (value_of line t *ℤ value_of line t) (first_more line s t))
  where
    plain : (n a b c d f : ℕ) (x y : ℤ) → a + d ≡ b + c + f
        → pos (1024 * (n * a)) -ℤ pos (1024 * (n * c)) -ℤ pos 1024 *ℤ (x +ℤ y)
        ≡ (pos (1024 * (n * b)) -ℤ pos (1024 * (n * d)) -ℤ pos 1024 *ℤ x)
        +ℤ (pos (1024 * (n * f)) -ℤ pos 1024 *ℤ y)
    plain n a b c d f x y first =
        omega (arith, ints, ap (λ m. n * m) first, times_plus (pos 1024) x y)

rest_none : (line : PartitionLine) → rest_of line no_sums ≤ℤ pos 0
unfolding rest_of
rest_none line = simp *ℤ-zero (omega (arith, ints))

-- ---- a texel

texel_under : (flavour : Flavour) (g : List ℕ) (ends : Ends) (t : List ℕ) (w : ℕ) → w ≤ 64
    → rest_at (line_of flavour g ends) t
    ≤ℤ pos ((line_of flavour g ends).length * mixed_distance g (scaled flavour ends.0)
    (scaled flavour ends.1) t w)
unfolding line_of rest_at
texel_under flavour g ends t w fits =
    let f : List ℕ = scaled flavour ends.0 in
    let y : ℤ = short_of g (doubled f) ends.0 ends.1 t in
    plain (max (length_of g ends.0 ends.1) 1) (first_distance g f t)
    (mixed_distance g f (scaled flavour ends.1) t w) (unsigned_abs y * unsigned_abs y)
    (value_of (line_of flavour g ends) t *ℤ value_of (line_of flavour g ends) t)
    (texel_floor (scale flavour) g ends.0 ends.1 t w (unsigned_abs y * unsigned_abs y) fits
    (own_square y))
    (rw (value_is g (doubled f) ends.0 ends.1 t) (turned_square y))
  where
    plain : (n x q d : ℕ) (v : ℤ) → n * (1024 * x) ≤ n * q + 1024 * d → v ≡ pos d
        → (pos (1024 * (n * x)) -ℤ pos 1024 *ℤ v) ≤ℤ pos (n * q)
    plain n x q d v least square = rw square (omega (arith, ints, least))

-- ---- a place

-- the squared distance of a place's targets from the blend of the endpoints with a weight
abbrev pub mixed_at : Flavour → (gains : List ℕ) → Ends → (w : ℕ) → Option Texel → ℕ
mixed_at flavour g ends w None = 0
mixed_at flavour g ends w (Some wanted) = mixed_distance g (scaled flavour ends.0)
    (scaled flavour ends.1) (targets flavour wanted) w

rest_below : (flavour : Flavour) (places : List (Option Texel)) (parts : List ℕ) (part : ℕ)
    (g : List ℕ) (ends : Ends) (w : ℕ → ℕ) (n : ℕ) → ((p : ℕ) → p < n → w p ≤ 64)
    → rest_of (line_of flavour g ends) (sums_below flavour places parts part n)
    ≤ℤ pos ((line_of flavour g ends).length * sum_in parts part
    (λ p. mixed_at flavour g ends (w p) (slice_index_or places p None)) n)
unfolding sums_below sum_in sum_to
rest_below flavour places parts part g ends w zero fit =
    omega (arith, ints, rest_none (line_of flavour g ends))
rest_below flavour places parts part g ends w (suc n) fit =
    one_more (get_or parts n 0 == part) (slice_index_or places n None)
    (sums_below flavour places parts part n) _
    (rest_below flavour places parts part g ends w n (λ p below. fit p (omega arith)))
  where
    more : (n q r : ℕ) (x y : ℤ) → x ≤ℤ pos (n * q) → y ≤ℤ pos (n * r)
        → (x +ℤ y) ≤ℤ pos (n * (q + r))
    more n q r x y before own = omega (arith, ints, before, own)

    one_more : (b : Bool) (place : Option Texel) (s : PartitionSums) (q : ℕ)
        → rest_of (line_of flavour g ends) s ≤ℤ pos ((line_of flavour g ends).length * q)
        → rest_of (line_of flavour g ends) (cond b (with_place flavour s place) s)
        ≤ℤ pos ((line_of flavour g ends).length
        * (q + cond b (mixed_at flavour g ends (w n) place) 0))
    one_more false place s q before = omega (arith, ints, before)
    one_more true None s q before = omega (arith, ints, before)
    one_more true (Some wanted) s q before =
        rw (rest_more (line_of flavour g ends) s (targets flavour wanted))
        (more (line_of flavour g ends).length q _ _ _ before
        (texel_under flavour g ends (targets flavour wanted) (w n) (fit n (omega arith))))

-- ---- a partition

-- the step from a product with n to a bound, in plain numbers
under_more : (n d l s z : ℕ) → 1024 * (n * (l + d)) ≤ z + 1024 * (n * l + s)
    → 1024 * (n * d - s) ≤ z
under_more n d l s z least = omega (arith, least)

under : (n m l s z : ℕ) → 1024 * (n * m) ≤ z + 1024 * (n * l + s)
    → 1024 * (n * (m - l) - s) ≤ z
under n m l s z least =
    elim (cases_lt m l) [
      | inl fewer ↦ let none : m - l ≡ 0 = omega arith in rw none (omega arith)
      | inr more ↦
          let whole : m ≡ l + (m - l) = omega arith in
          under_more n (m - l) l s z (rw whole at least)
    ]

quotient : (n q m l saved : ℕ) → 0 < n → 1024 * (n * m) ≤ n * q + 1024 * (n * l + saved)
    → 4194304 * ((m - l) / 4096 - (saved / 4096 / n + 1)) ≤ q
quotient n q m l saved some least =
    whole ((m - l) / 4096) (saved / 4096 / n) (m - l) saved (omega arith) (beyond saved)
    (under n m l saved (n * q) least)
  where
    -- the computed reduction is at least the exact one
    beyond : (saved : ℕ) → saved ≤ n * (4096 * (saved / 4096 / n + 1))
    beyond saved = omega (arith, lt-mul-div-succ (saved / 4096) some)

    fewer : (d x : ℕ) → n * d ≤ x → 1024 * x ≤ n * q → 1024 * d ≤ q
    fewer d x fits small =
        elim (cases_lt q (1024 * d)) [
          | inl more ↦
              let far : n * suc q ≤ n * (1024 * d) = mul-le-mul_left n more in
              absurd (omega (arith, far, fits, small, some))
          | inr less ↦ less
        ]

    whole : (a b x saved : ℕ) → 4096 * a ≤ x → saved ≤ n * (4096 * (b + 1))
        → 1024 * (n * x - saved) ≤ n * q → 4194304 * (a - (b + 1)) ≤ q
    whole a b x saved first taken small =
        elim (cases_lt a (b + 1)) [
          | inl less ↦ let none : a - (b + 1) ≡ 0 = omega arith in rw none (omega arith)
          | inr more ↦
              let all : a ≡ b + 1 + (a - (b + 1)) = omega arith in
              with_rest (a - (b + 1)) all
        ]
      where
        with_rest : (d : ℕ) → a ≡ b + 1 + d → 4194304 * d ≤ q
        with_rest d same =
            let far : n * (4096 * a) ≤ n * x = mul-le-mul_left n first in
            let split : n * (4096 * a) ≡ n * (4096 * (b + 1)) + n * (4096 * d) =
            rw same (omega arith) in
            let own : n * (4096 * d) ≤ n * x - saved = omega (arith, far, split, taken) in
            omega (arith, fewer (4096 * d) (n * x - saved) own small)

positive : (flavour : Flavour) (g : List ℕ) (ends : Ends) → 0 < (line_of flavour g ends).length
unfolding line_of
positive flavour g ends = some (length_of g ends.0 ends.1)
  where
    some : (n : ℕ) → 0 < max n 1
    some n = omega arith

pub part_under : (flavour : Flavour) (places : List (Option Texel)) (parts : List ℕ) (part : ℕ)
    (g : List ℕ) (ends : Ends) (w : ℕ → ℕ) (n : ℕ) → ((p : ℕ) → p < n → w p ≤ 64)
    → 4194304 * distance_of (line_of flavour g ends) (sums_below flavour places parts part n)
    ≤ sum_in parts part (λ p. mixed_at flavour g ends (w p) (slice_index_or places p None)) n
unfolding distance_of rest_of
part_under flavour places parts part g ends w n fit =
    let line : PartitionLine = line_of flavour g ends in
    let part_sums : PartitionSums = sums_below flavour places parts part n in
    quotient line.length _ (more_of line part_sums) (less_of line part_sums)
    (unsigned_abs (squares_of line part_sums)) (positive flavour g ends)
    (plain line.length _ (more_of line part_sums) (less_of line part_sums)
    (squares_of line part_sums) (rest_below flavour places parts part g ends w n fit))
  where
    plain : (n q m l : ℕ) (z : ℤ)
        → (pos (1024 * (n * m)) -ℤ pos (1024 * (n * l)) -ℤ pos 1024 *ℤ z) ≤ℤ pos (n * q)
        → 1024 * (n * m) ≤ n * q + 1024 * (n * l + unsigned_abs z)
    plain n q m l z least = omega (arith, ints, least, above z)
