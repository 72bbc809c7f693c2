-- The form along linear endpoints is a quadratic polynomial, which three of its values determine.
use Rattle.std.proofs.Common.{◌≡◌, ℕ, ◌+◌, ◌-◌, ◌*◌, ◌<◌, ◌≤◌, get_or, sym, subst, arith, inl, inr}
use Rattle.std.proofs.lemmas.Bool.{cases_lt}
use Rattle.std.proofs.Math.Nat.{mul-le-mul_left}
use Rattle.astc_model.specs.Places.{channel}
use Rattle.moments.specs.Floors.{factor_of, more_of, less_of}
use Rattle.moments.specs.declared.Moments.{Moments}
use Rattle.texel_error.specs.Shown.{Ends}
use Rattle.error_tables.specs.Floors.{widening_of, form_more, form_less}
use Rattle.colour_bounds.specs.Curves.{curve_more, curve_less, IsAffine, IsQuadratic, AreStraight}
use Rattle.colour_bounds.specs.declared.curves.Curve.{Curve}
use Rattle.error_tables.specs.declared.floors.PartitionFloor.{PartitionFloor}
use Rattle.error_tables.specs.declared.tables.Tables.{Tables}

-- ---- sums and products

affine_times : (k : ℕ) (f : ℕ → ℕ) → IsAffine f → IsAffine (λ value. k * f value)
affine_times k f is = record {
  start = k * is.start;
  step = k * is.step;
  is = λ value.
      rw (is.is value) (plain is.start is.step value);
}
  where
    plain : (p q u : ℕ) → k * (p + q * u) ≡ k * p + k * q * u
    plain p q u = omega arith

affine_plus : (f g : ℕ → ℕ) → IsAffine f → IsAffine g → IsAffine (λ value. f value + g value)
affine_plus f g is and = record {
  start = is.start + and.start;
  step = is.step + and.step;
  is = λ value. rw (is.is value, and.is value)
      (plain is.start is.step and.start and.step value);
}
  where
    plain : (p q r s u : ℕ) → p + q * u + (r + s * u) ≡ p + r + (q + s) * u
    plain p q r s u = omega arith

quadratic_times : (k : ℕ) (f : ℕ → ℕ) → IsQuadratic f → IsQuadratic (λ value. k * f value)
quadratic_times k f is = record {
  start = k * is.start;
  slope = k * is.slope;
  square = k * is.square;
  is = λ value. rw (is.is value) (plain is.start is.slope is.square value);
}
  where
    plain : (c b a u : ℕ) → k * (a * (u * u) + b * u + c) ≡ k * a * (u * u) + k * b * u + k * c
    plain c b a u = omega arith

quadratic_plus : (f g : ℕ → ℕ) → IsQuadratic f → IsQuadratic g
    → IsQuadratic (λ value. f value + g value)
quadratic_plus f g is and = record {
  start = is.start + and.start;
  slope = is.slope + and.slope;
  square = is.square + and.square;
  is = λ value. rw (is.is value, and.is value)
      (plain is.start is.slope is.square and.start and.slope and.square value);
}
  where
    plain : (c b a z y x u : ℕ) → a * (u * u) + b * u + c + (x * (u * u) + y * u + z)
        ≡ (a + x) * (u * u) + (b + y) * u + (c + z)
    plain c b a z y x u = omega arith

-- ---- one channel

module _ (m : Moments) (f g : ℕ → ℕ) (first : IsAffine f) (second : IsAffine g) where
  more_quadratic : IsQuadratic (λ value. more_of m (f value) (g value))
  more_quadratic = record {
    start = first.start * first.start * m.first_squares + 2
        * (first.start * second.start * m.products) + second.start * second.start * m.second_squares
        + m.target_squares;
    slope = 2 * (first.start * first.step * m.first_squares) + 2
        * ((first.start * second.step + first.step * second.start) * m.products)
        + 2 * (second.start * second.step * m.second_squares);
    square = first.step * first.step * m.first_squares + 2 * (first.step * second.step * m.products)
        + second.step * second.step * m.second_squares;
    is = λ value. rw (first.is value, second.is value)
        (plain first.start first.step second.start second.step value m.first_squares m.products
        m.second_squares m.target_squares);
  }
    where
      plain : (p q r s u uu uw ww zz : ℕ)
          → (p + q * u) * (p + q * u) * uu + 2 * ((p + q * u) * (r + s * u) * uw) + (r + s * u)
          * (r + s * u) * ww + zz
          ≡ (q * q * uu + 2 * (q * s * uw) + s * s * ww) * (u * u)
          + (2 * (p * q * uu) + 2 * ((p * s + q * r) * uw) + 2 * (r * s * ww)) * u
          + (p * p * uu + 2 * (p * r * uw) + r * r * ww + zz)
      plain p q r s u uu uw ww zz = omega arith

  less_affine : IsAffine (λ value. less_of m (f value) (g value))
  less_affine = record {
    start = 2 * (first.start * m.first_targets + second.start * m.second_targets);
    step = 2 * (first.step * m.first_targets + second.step * m.second_targets);
    is = λ value. rw (first.is value, second.is value)
        (plain first.start first.step second.start second.step value m.first_targets
        m.second_targets);
  }
    where
      plain : (p q r s u uz wz : ℕ) → 2 * ((p + q * u) * uz + (r + s * u) * wz)
          ≡ 2 * (p * uz + r * wz) + 2 * (q * uz + s * wz) * u
      plain p q r s u uz wz = omega arith

-- the form of a channel with a weight
module _ (share k : ℕ) (m : Moments) (f g : ℕ → ℕ) (first : IsAffine f) (second : IsAffine g) where
  channel_more : IsQuadratic (λ value. share * more_of m (k * f value) (k * g value))
  channel_more =
      quadratic_times share (λ value. more_of m (k * f value) (k * g value))
      (more_quadratic m (λ value. k * f value) (λ value. k * g value) (affine_times k f first)
      (affine_times k g second))

  channel_less : IsAffine (λ value. share * less_of m (k * f value) (k * g value))
  channel_less =
      affine_times share (λ value. less_of m (k * f value) (k * g value))
      (less_affine m (λ value. k * f value) (λ value. k * g value) (affine_times k f first)
      (affine_times k g second))

-- ---- all channels

module _ (tables : Tables) (floor : PartitionFloor) (ends : ℕ → Ends)
    (straight : AreStraight ends) where
  abbrev factor : ℕ → ℕ
  factor c = factor_of (widening_of tables.decoded.flavour c)

  abbrev share : ℕ → ℕ
  share c = get_or tables.weights c 0

  abbrev more : Moments → ℕ → ℕ → ℕ
  more m c value = share c * more_of m (factor c * channel c (ends value).0)
      (factor c * channel c (ends value).1)

  abbrev less : Moments → ℕ → ℕ → ℕ
  less m c value = share c * less_of m (factor c * channel c (ends value).0)
      (factor c * channel c (ends value).1)

  pub form_quadratic : IsQuadratic (λ value. form_more tables floor (ends value))
  form_quadratic =
      quadratic_plus (λ value. more floor.red 0 value + more floor.green 1 value + more floor.blue 2
      value) (λ value. more floor.alpha 3 value)
      (quadratic_plus (λ value. more floor.red 0 value + more floor.green 1 value)
      (λ value. more floor.blue 2 value)
      (quadratic_plus (λ value. more floor.red 0 value) (λ value. more floor.green 1 value)
      (channel_more (share 0) (factor 0) floor.red (λ value. channel 0 (ends value).0)
      (λ value. channel 0 (ends value).1) straight.first_red straight.second_red)
      (channel_more (share 1) (factor 1) floor.green (λ value. channel 1 (ends value).0)
      (λ value. channel 1 (ends value).1) straight.first_green straight.second_green))
      (channel_more (share 2) (factor 2) floor.blue (λ value. channel 2 (ends value).0)
      (λ value. channel 2 (ends value).1) straight.first_blue straight.second_blue))
      (channel_more (share 3) (factor 3) floor.alpha (λ value. channel 3 (ends value).0)
      (λ value. channel 3 (ends value).1) straight.first_alpha straight.second_alpha)

  pub form_affine : IsAffine (λ value. form_less tables floor (ends value))
  form_affine =
      affine_plus (λ value. less floor.red 0 value + less floor.green 1 value + less floor.blue 2
      value) (λ value. less floor.alpha 3 value)
      (affine_plus (λ value. less floor.red 0 value + less floor.green 1 value)
      (λ value. less floor.blue 2 value)
      (affine_plus (λ value. less floor.red 0 value) (λ value. less floor.green 1 value)
      (channel_less (share 0) (factor 0) floor.red (λ value. channel 0 (ends value).0)
      (λ value. channel 0 (ends value).1) straight.first_red straight.second_red)
      (channel_less (share 1) (factor 1) floor.green (λ value. channel 1 (ends value).0)
      (λ value. channel 1 (ends value).1) straight.first_green straight.second_green))
      (channel_less (share 2) (factor 2) floor.blue (λ value. channel 2 (ends value).0)
      (λ value. channel 2 (ends value).1) straight.first_blue straight.second_blue))
      (channel_less (share 3) (factor 3) floor.alpha (λ value. channel 3 (ends value).0)
      (λ value. channel 3 (ends value).1) straight.first_alpha straight.second_alpha)

-- ---- a value between two near values is near

near_between : (a b c d e m x s t : ℕ) → 0 < s + t → a * (x * x) + b * x + c < d * x + e + m
    → a * ((x + s + t) * (x + s + t)) + b * (x + s + t) + c < d * (x + s + t) + e + m
    → a * ((x + s) * (x + s)) + b * (x + s) + c < d * (x + s) + e + m
near_between a b c d e m x s t some first last =
    elim (cases_lt (a * ((x + s) * (x + s)) + b * (x + s) + c) (d * (x + s) + e + m)) [
      | inl near ↦ near
      | inr far ↦
          let one : t * (a * (x * x) + b * x + c + 1) ≤ t * (d * x + e + m) =
          mul-le-mul_left t (omega (arith, first)) in
          let two : s * (a * ((x + s + t) * (x + s + t)) + b * (x + s + t) + c + 1) ≤ s
          * (d * (x + s + t) + e + m) = mul-le-mul_left s (omega (arith, last)) in
          let three : (s + t) * (d * (x + s) + e + m) ≤ (s + t)
          * (a * ((x + s) * (x + s)) + b * (x + s) + c) = mul-le-mul_left (s + t) far in
          absurd (omega arith)
    ]

module _ (curve : Curve) (most : ℕ) where
  abbrev IsNear : ℕ → Type 0
  IsNear value = curve_more curve value < curve_less curve value + most

  between : (x y z : ℕ) → x ≤ y → y ≤ z → x < z → IsNear x → IsNear z → IsNear y
  between x y z low high apart first last =
      let middle : y ≡ x + (y - x) = omega arith in
      let end : z ≡ x + (y - x) + (z - y) = omega arith in
      subst IsNear (sym middle)
      (near_between curve.square curve.slope curve.start curve.less_slope curve.less_start most x
      (y - x) (z - y) (omega arith) first (subst IsNear end last))

  -- on the side away from a near value, all values beyond a far one are far
  pub far_below : (value far near : ℕ) → value ≤ far → far < near
      → curve_less curve far + most ≤ curve_more curve far → IsNear near
      → curve_less curve value + most ≤ curve_more curve value
  far_below value far near low high is_far is_near =
      elim (cases_lt (curve_more curve value) (curve_less curve value + most)) [
        | inl close ↦ absurd (omega (
          arith,
          between value far near low (omega arith)
              (omega arith) close is_near,
          is_far,
        ))
        | inr beyond ↦ beyond
      ]

  pub far_above : (near far value : ℕ) → near < far → far ≤ value
      → curve_less curve far + most ≤ curve_more curve far → IsNear near
      → curve_less curve value + most ≤ curve_more curve value
  far_above near far value low high is_far is_near =
      elim (cases_lt (curve_more curve value) (curve_less curve value + most)) [
        | inl close ↦ absurd (omega (
          arith,
          between near far value (omega arith) high
              (omega arith) is_near close,
          is_far,
        ))
        | inr beyond ↦ beyond
      ]
