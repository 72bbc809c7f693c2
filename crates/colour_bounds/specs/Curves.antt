-- The form of a partition as a quadratic function of one colour value, called its curve.
use Rattle.std.specs.Prelude.{◌≡◌, ℕ, ◌+◌, ◌*◌, ◌≤◌, ◌^◌, List}
use Rattle.astc_model.specs.Places.{channel}
use Rattle.error_tables.specs.Floors.{form_more, form_less}
use Rattle.colour_bounds.specs.declared.curves.Curve.{Curve}
use Rattle.error_tables.specs.declared.floors.PartitionFloor.{PartitionFloor}
use Rattle.error_tables.specs.declared.tables.Tables.{Tables}

-- the form at a value is `curve_more` minus `curve_less`
abbrev pub curve_more : Curve → ℕ → ℕ
curve_more curve value = curve.square * (value * value) + curve.slope * value + curve.start

abbrev pub curve_less : Curve → ℕ → ℕ
curve_less curve value = curve.less_slope * value + curve.less_start

-- the coefficients are within the ranges of the forms of partitions
pub record IsSmallCurve (curve : Curve) : Type 0 where
  pub small_square : 32258 * curve.square ≤ 2 ^ 62
  pub small_slope : 127 * curve.slope ≤ 2 ^ 61
  pub small_start : curve.start ≤ 2 ^ 61
  pub small_less_slope : 127 * curve.less_slope ≤ 2 ^ 61
  pub small_less_start : curve.less_start ≤ 2 ^ 61

-- at this value the curve is the form with these endpoints
pub record IsOnCurve (tables : Tables) (floor : PartitionFloor) (curve : Curve) (value : ℕ)
    (ends : List ℕ × List ℕ) : Type 0 where
  pub more_is : form_more tables floor ends ≡ curve_more curve value
  pub less_is : form_less tables floor ends ≡ curve_less curve value

-- f is linear in its argument
pub record IsAffine (f : ℕ → ℕ) : Type 0 where
  pub start : ℕ
  pub step : ℕ
  pub is : (value : ℕ) → f value ≡ start + step * value

-- f is a polynomial of degree at most 2 in its argument
pub record IsQuadratic (f : ℕ → ℕ) : Type 0 where
  pub start : ℕ
  pub slope : ℕ
  pub square : ℕ
  pub is : (value : ℕ) → f value ≡ square * (value * value) + slope * value + start

-- each channel of both endpoints is linear in the value
pub record AreStraight (ends : ℕ → List ℕ × List ℕ) : Type 0 where
  pub first_red : IsAffine (λ value. channel 0 (ends value).0)
  pub first_green : IsAffine (λ value. channel 1 (ends value).0)
  pub first_blue : IsAffine (λ value. channel 2 (ends value).0)
  pub first_alpha : IsAffine (λ value. channel 3 (ends value).0)
  pub second_red : IsAffine (λ value. channel 0 (ends value).1)
  pub second_green : IsAffine (λ value. channel 1 (ends value).1)
  pub second_blue : IsAffine (λ value. channel 2 (ends value).1)
  pub second_alpha : IsAffine (λ value. channel 3 (ends value).1)
