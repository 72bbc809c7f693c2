-- A changed weight integer changes the texels alone in which its point has a factor.
use Rattle.std.proofs.Common.{◌≡◌, ◌≢◌, ◌/◌, ◌%◌, ℕ, ◌+◌, ◌*◌, ◌<◌, ◌≤◌, ◌==◌, Bool, true, false, cond, List, [], ◌∷◌, length, get_or, set, refl, ap, sym, ◌∙◌, arith, inl, inr, eq-eqb}
use Rattle.std.specs.Prelude.{sum_by}
use Rattle.std.proofs.lemmas.Bool.{cases_eq, cases_lt, ne_eqb}
use Rattle.std.proofs.lemmas.List.{get_or-set_same, get_or-set_other, length-set}
use Rattle.std.proofs.lemmas.List.FromFn.{fill_by_all, length-map-range_with_len, get_or-map-range_with_len}
use Rattle.std.proofs.lemmas.List.Sums.{sum_by-cons, sum_by-le-sum_by}
use Rattle.std.proofs.lemmas.Nat.{mul-le, mul-add-lt}
use Rattle.std.proofs.Math.ListN.{get_or-eq_default}
use Rattle.std.specs.List.{All}
use Rattle.weight_infill.proofs.InfillLaws.{factors-total}
use Rattle.quant_tables.proofs.ValueLaws.{weight_value-le}
use Rattle.astc_model.specs.Levels.{count_of}
use Rattle.astc_model.specs.declared.mode.Mode.{Mode}
use Rattle.astc_model.specs.declared.block.Coded.{Coded as CodedFields}
use Rattle.astc_model.specs.WeightValues.{weight_value}
use Rattle.astc_model.specs.Infill.{factors, infill}
use Rattle.astc_model.specs.CodedTexels.{plane_weights}
use Rattle.texel_error.specs.Numerators.{share_sum, numerator}
use Rattle.texel_error.proofs.NumeratorLaws.{infill-is}
use Rattle.error_tables.specs.Changed.{with_weight}
use Rattle.weight_infill.specs.Touched.{factor_among, factor_of}

-- ---- the sum of points by their factors, if one point is set

one_share : (points : List ℕ) (point v q f : ℕ) → point < length points
    → get_or (set points point v) q 0 * f + get_or points point 0 * cond (q == point) f 0
    ≡ get_or points q 0 * f + v * cond (q == point) f 0
one_share points point v q f inside =
    elim (cases_eq q point) [
      | inl same ↦
          rw same (
          let hit : (point == point) ≡ true = eq-eqb point point refl in
          rw (hit, get_or-set_same points point v 0 inside) (omega arith))
      | inr other ↦ rw (ne_eqb q point other, get_or-set_other points point q v 0 other)
          (omega arith)
    ]

pub share_sum-set : (points : List ℕ) (point v : ℕ) (pairs : List (ℕ × ℕ)) → point < length points
    → share_sum (set points point v) pairs + get_or points point 0 * factor_among point pairs
    ≡ share_sum points pairs + v * factor_among point pairs
share_sum-set points point v [] inside = omega arith
share_sum-set points point v (pair ∷ pairs) inside =
    more (get_or points point 0) v _ _ _ _ _ _ _ _ _
    (sum_by-cons (λ k. get_or (set points point v) k.0 0 * k.1) pair pairs)
    (sum_by-cons (λ k. get_or points k.0 0 * k.1) pair pairs)
    (sum_by-cons (λ k. cond (k.0 == point) k.1 0) pair pairs)
    (one_share points point v pair.0 pair.1 inside) (share_sum-set points point v pairs inside)
  where
    more : (a v s_all t_all f_all s t f s_rest t_rest f_rest : ℕ) → s_all ≡ s + s_rest → t_all
        ≡ t + t_rest → f_all ≡ f + f_rest
        → s + a * f ≡ t + v * f → s_rest + a * f_rest ≡ t_rest + v * f_rest → s_all + a * f_all
        ≡ t_all + v * f_all
    more a v s_all t_all f_all s t f s_rest t_rest f_rest s_is t_is f_is here rest =
        rw (s_is, t_is, f_is) (omega (arith, here, rest))

-- ---- the weights of a plane, if one integer is set

-- the values of the other plane stay
other_place : (planes i plane q : ℕ) → 1 ≤ planes → planes ≤ 2 → plane < planes → plane ≢ i % planes
    → q * planes + plane ≢ i
other_place planes i plane q some few is other same =
    elim (cases_eq planes 1) [
      | inl one ↦ other (rw one (let z : plane ≡ 0 = omega arith in omega arith))
      | inr two ↦ let t : planes ≡ 2 = omega arith in
          let again : q * 2 + plane ≡ i = rw t at same in
          other (rw t (omega (arith, again)))
    ]

other_point : (planes i plane q : ℕ) → 1 ≤ planes → planes ≤ 2 → plane < planes → q ≢ i / planes
    → q * planes + plane ≢ i
other_point planes i plane q some few is other same =
    elim (cases_eq planes 1) [
      | inl one ↦
          let again : q * 1 + plane ≡ i = rw one at same in
          other (rw one (omega (arith, again)))
      | inr two ↦ let t : planes ≡ 2 = omega arith in
          let again : q * 2 + plane ≡ i = rw t at same in
          other (rw t (omega (arith, again)))
    ]

pub own_place : (planes i : ℕ) → 1 ≤ planes → planes ≤ 2 → (i / planes) * planes + i % planes ≡ i
own_place planes i some few =
    elim (cases_eq planes 1) [
      | inl one ↦ rw one (omega arith)
      | inr two ↦ let t : planes ≡ 2 = omega arith in rw t (omega arith)
    ]

pub plane_weights-other : (coded : CodedFields) (mode : Mode) (i v plane : ℕ) → 1 ≤ mode.planes
    → mode.planes ≤ 2 → plane < mode.planes → plane ≢ i % mode.planes
    → plane_weights (with_weight coded i v) mode plane ≡ plane_weights coded mode plane
plane_weights-other coded mode i v plane some few is other =
    fill_by_all (λ q. weight_value mode.level
    (get_or coded.weights.items (q * mode.planes + plane) 0))
    (plane_weights (with_weight coded i v) mode plane) (mode.across * mode.down) 0
    (length-map-range_with_len _ 0 (mode.across * mode.down))
    (λ q below.
    get_or-map-range_with_len
    (λ k. weight_value mode.level
    (get_or (set coded.weights.items i v) (k * mode.planes + plane) 0)) 0
    (mode.across * mode.down) q q 0 below (omega arith)
    ∙ ap (weight_value mode.level)
    (get_or-set_other coded.weights.items i (q * mode.planes + plane) v 0
    (other_place mode.planes i plane q some few is other)))

-- in its own plane one point is set
pub plane_weights-own : (coded : CodedFields) (mode : Mode) (i v : ℕ) → 1 ≤ mode.planes
    → mode.planes ≤ 2 → i < length coded.weights.items
    → plane_weights (with_weight coded i v) mode (i % mode.planes)
    ≡ set (plane_weights coded mode (i % mode.planes)) (i / mode.planes)
    (weight_value mode.level v)
plane_weights-own coded mode i v some few inside =
    let plane : ℕ = i % mode.planes in
    let n : ℕ = mode.across * mode.down in
    let old : ℕ → ℕ = λ k. weight_value mode.level
    (get_or coded.weights.items (k * mode.planes + plane) 0) in
    let new : ℕ → ℕ = λ k. weight_value mode.level
    (get_or (set coded.weights.items i v) (k * mode.planes + plane) 0) in
    sym (fill_by_all new (set (plane_weights coded mode plane) (i / mode.planes)
    (weight_value mode.level v)) n 0
    (length-set (plane_weights coded mode plane) (i / mode.planes) (weight_value mode.level v)
    ∙ length-map-range_with_len old 0 n)
    (λ q below. each q below))
  where
    each : (q : ℕ) → q < mode.across * mode.down
        → get_or (set (plane_weights coded mode (i % mode.planes)) (i / mode.planes)
        (weight_value mode.level v)) q 0
        ≡ weight_value mode.level
        (get_or (set coded.weights.items i v) (q * mode.planes + i % mode.planes) 0)
    each q below =
        elim (cases_eq q (i / mode.planes)) [
          | inl same ↦
              let long : i / mode.planes < length (plane_weights coded mode (i % mode.planes)) =
              rw (length-map-range_with_len
              (λ k. weight_value mode.level
              (get_or coded.weights.items (k * mode.planes + i % mode.planes) 0)) 0
              (mode.across * mode.down)) (rw same at below) in
              rw (same, own_place mode.planes i some few)
              (get_or-set_same (plane_weights coded mode (i % mode.planes)) (i / mode.planes)
              (weight_value mode.level v) 0 long
              ∙ ap (weight_value mode.level)
              (sym (get_or-set_same coded.weights.items i v 0 inside)))
          | inr other ↦
              get_or-set_other (plane_weights coded mode (i % mode.planes)) (i / mode.planes) q
              (weight_value mode.level v) 0 other
              ∙ get_or-map-range_with_len
              (λ k. weight_value mode.level
              (get_or coded.weights.items (k * mode.planes + i % mode.planes) 0)) 0
              (mode.across * mode.down) q q 0 below (omega arith)
              ∙ ap (weight_value mode.level)
              (sym (get_or-set_other coded.weights.items i (q * mode.planes + i % mode.planes) v
              0
              (other_point mode.planes i (i % mode.planes) q some few
              (below_planes mode.planes i some few) other)))
        ]
      where
        below_planes : (planes i : ℕ) → 1 ≤ planes → planes ≤ 2 → i % planes < planes
        below_planes planes i some few =
            elim (cases_eq planes 1) [
              | inl one ↦ rw one (omega arith)
              | inr two ↦ let t : planes ≡ 2 = omega arith in rw t (omega arith)
            ]

-- ---- the infilled weight

pub numerator-set : (w h n m x y : ℕ) (points : List ℕ) (point v : ℕ) → point < length points
    → numerator w h n m x y (set points point v) + get_or points point 0 * factor_of w h n m point x
    y ≡ numerator w h n m x y points + v * factor_of w h n m point x y
unfolding numerator factor_of
numerator-set w h n m x y points point v inside =
    share_sum-set points point v (factors w h n m x y) inside

-- a point without a factor changes no weight
pub infill-untouched : (w h n m x y : ℕ) (points : List ℕ) (point v : ℕ) → point < length points
    → factor_of w h n m point x y ≡ 0
    → infill w h n m x y (set points point v) ≡ infill w h n m x y points
infill-untouched w h n m x y points point v inside none =
    let law : numerator w h n m x y (set points point v) + get_or points point 0 * 0
    ≡ numerator w h n m x y points + v * 0 =
    rw none at (numerator-set w h n m x y points point v inside) in
    let same : numerator w h n m x y (set points point v) ≡ numerator w h n m x y points =
    omega (arith, law) in
    infill-is w h n m x y (set points point v) ∙ rw same (sym (infill-is w h n m x y points))

-- points of at most 64 give numerators of at most 1024
pub numerator-le : (w h n m x y : ℕ) (points : List ℕ) → All (λ weight. weight ≤ 64) points
    → numerator w h n m x y points ≤ 1024
unfolding numerator
numerator-le w h n m x y points small =
    let most : sum_by (λ pair. get_or points pair.0 0 * pair.1) (factors w h n m x y) ≤ sum_by
    (λ pair. 64 * pair.1) (factors w h n m x y) =
    sum_by-le-sum_by (λ pair. get_or points pair.0 0 * pair.1) (λ pair. 64 * pair.1)
    (factors w h n m x y) (λ pair. mul-le (get_or points pair.0 0) pair.1 64 pair.1
    (index_le pair.0) (omega arith)) in
    omega (arith, most, times (factors w h n m x y), factors-total w h n m x y)
  where
    index_le : (place : ℕ) → get_or points place 0 ≤ 64
    index_le place =
        elim (cases_lt place (length points)) [
          | inl inside ↦ small place 0 inside
          | inr out ↦ let none : get_or points place 0 ≡ 0 = get_or-eq_default points 0 out in
              omega arith
        ]

    times : (pairs : List (ℕ × ℕ)) → sum_by (λ pair. 64 * pair.1) pairs
        ≡ 64 * sum_by (λ pair. pair.1) pairs
    times [] = refl
    times (pair ∷ pairs) = omega (
      arith,
      sum_by-cons (λ k. 64 * k.1) pair pairs,
      sum_by-cons
          (λ k. k.1) pair pairs,
      times pairs,
    )

-- the weights of a plane are at most 64
pub plane_weights-le : (coded : CodedFields) (mode : Mode) (plane : ℕ) → plane < mode.planes
    → All (λ integer. integer < count_of mode.level) coded.weights.items
    → length coded.weights.items ≡ mode.across * mode.down * mode.planes
    → All (λ weight. weight ≤ 64) (plane_weights coded mode plane)
plane_weights-le coded mode plane is small all =
    λ q d below.
    let n : ℕ = mode.across * mode.down in
    let within : q < n = rw
    (length-map-range_with_len
    (λ k. weight_value mode.level (get_or coded.weights.items (k * mode.planes + plane) 0))
    0 n) at below in
    let place : q * mode.planes + plane < length coded.weights.items =
    rw all (omega (arith, mul-add-lt q mode.planes plane n within is)) in
    rw (get_or-map-range_with_len
    (λ k. weight_value mode.level (get_or coded.weights.items (k * mode.planes + plane) 0))
    0 n q q d within (omega arith))
    (weight_value-le mode.level (get_or coded.weights.items (q * mode.planes + plane) 0)
    (small (q * mode.planes + plane) 0 place))

-- a factor is at most 16
pub factor_of-le : (w h n m point x y : ℕ) → factor_of w h n m point x y ≤ 16
unfolding factor_of
factor_of-le w h n m point x y =
    omega (
      arith,
      sum_by-le-sum_by (λ pair. cond (pair.0 == point) pair.1 0) (λ pair. pair.1)
          (factors w h n m x y) (λ pair. least (pair.0 == point) pair.1),
      factors-total w h n m x
          y,
    )
  where
    least : (b : Bool) (f : ℕ) → cond b f 0 ≤ f
    least true f = omega arith
    least false f = omega arith

pub plane-lt : (planes i : ℕ) → 1 ≤ planes → planes ≤ 2 → i % planes < planes
plane-lt planes i some few =
    elim (cases_eq planes 1) [
      | inl one ↦ rw one (omega arith)
      | inr two ↦ let t : planes ≡ 2 = omega arith in rw t (omega arith)
    ]

pub point-lt : (planes i n : ℕ) → 1 ≤ planes → planes ≤ 2 → i < n * planes → i / planes < n
point-lt planes i n some few below =
    elim (cases_eq planes 1) [
      | inl one ↦ let b : i < n * 1 = rw one at below in rw one (omega (arith, b))
      | inr two ↦ let t : planes ≡ 2 = omega arith in let b : i < n * 2 = rw t at below in
          rw t (omega (arith, b))
    ]

-- the value that a plane has at the place of an integer
pub plane_weights-at : (coded : CodedFields) (mode : Mode) (i : ℕ) → 1 ≤ mode.planes
    → mode.planes ≤ 2 → i / mode.planes < mode.across * mode.down
    → get_or (plane_weights coded mode (i % mode.planes)) (i / mode.planes) 0
    ≡ weight_value mode.level (get_or coded.weights.items i 0)
plane_weights-at coded mode i some few below =
    get_or-map-range_with_len
    (λ k. weight_value mode.level
    (get_or coded.weights.items (k * mode.planes + i % mode.planes) 0)) 0
    (mode.across * mode.down) (i / mode.planes) (i / mode.planes) 0 below (omega arith)
    ∙ ap (λ k. weight_value mode.level (get_or coded.weights.items k 0))
    (own_place mode.planes i some few)

pub plane_weights-length : (coded : CodedFields) (mode : Mode) (plane : ℕ)
    → length (plane_weights coded mode plane) ≡ mode.across * mode.down
plane_weights-length coded mode plane =
    length-map-range_with_len
    (λ k. weight_value mode.level (get_or coded.weights.items (k * mode.planes + plane) 0)) 0
    (mode.across * mode.down)
