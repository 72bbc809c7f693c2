-- The weights of a place in sixteenths, computed from the values of all weights of the block.
use Rattle.std.proofs.Common.{◌≡◌, ℕ, zero, suc, ◌+◌, ◌*◌, ◌<◌, ◌≤◌, IsTrue, List, [], ◌∷◌, length, get_or, map, refl, ap, sym, ◌∙◌, arith}
use Rattle.std.specs.List.{All}
use Rattle.std.proofs.lemmas.List.{get_or-map}
use Rattle.std.proofs.lemmas.List.FromFn.{get_or-map-range_with_len}
use Rattle.std.proofs.lemmas.Nat.{mul-add-lt}
use Rattle.astc_model.specs.Footprints.{is_footprint}
use Rattle.astc_model.specs.declared.mode.Mode.{Mode}
use Rattle.astc_model.specs.declared.block.Coded.{Coded as CodedFields}
use Rattle.astc_model.specs.WeightValues.{weight_value}
use Rattle.astc_model.specs.Infill.{factors, infill}
use Rattle.astc_model.specs.CodedTexels.{plane_weights}
use Rattle.astc_model.proofs.FootprintLaws.{IsSides, is_footprint-sides}
use Rattle.weight_infill.proofs.InfillLaws.{IsTexel, factors-inside}
use Rattle.texel_error.specs.Numerators.{numerator, rounded, plane_sum, last_plane}
use Rattle.texel_error.proofs.ListLaws.{sum_by-same}

pub infill-is : (w h n m x y : ℕ) (points : List ℕ) → infill w h n m x y points
    ≡ rounded (numerator w h n m x y points)
unfolding infill numerator
infill-is w h n m x y points = refl

module _ (w h : ℕ) (coded : CodedFields) (mode : Mode) (all : length coded.weights.items
    ≡ mode.across * mode.down * mode.planes) where
  -- the value of a grid point in one plane
  point-is : (plane q : ℕ) → plane < mode.planes → q < mode.across * mode.down
      → get_or (map (weight_value mode.level) coded.weights.items) (q * mode.planes + plane) 0
      ≡ get_or (plane_weights coded mode plane) q 0
  point-is plane q is within =
      let place : q * mode.planes + plane < length coded.weights.items =
      rw all (omega (arith, mul-add-lt q mode.planes plane (mode.across * mode.down) within is))
      in
      get_or-map (weight_value mode.level) coded.weights.items (q * mode.planes + plane) 0 0 place
      ∙ sym (get_or-map-range_with_len
      (λ k. weight_value mode.level
      (get_or coded.weights.items (k * mode.planes + plane) 0)) 0
      (mode.across * mode.down) q q 0 within (omega arith))

  pub plane_sum-is : (plane x y : ℕ) → plane < mode.planes
      → All (λ point. point.0 < mode.across * mode.down) (factors w h mode.across mode.down x y)
      → plane_sum mode.planes plane (map (weight_value mode.level) coded.weights.items)
      (factors w h mode.across mode.down x y)
      ≡ numerator w h mode.across mode.down x y (plane_weights coded mode plane)
  unfolding numerator
  plane_sum-is plane x y is inside =
      sum_by-same
      (λ point. get_or (map (weight_value mode.level) coded.weights.items)
      (point.0 * mode.planes + plane) 0 * point.1)
      (λ point. get_or (plane_weights coded mode plane) point.0 0 * point.1)
      (factors w h mode.across mode.down x y)
      (λ k d below. ap (λ value. value * (get_or (factors w h mode.across mode.down x y) k d).1)
      (point-is plane _ is (inside k d below)))

  -- the weights of a texel in both planes, in the form of the code
  pub pair-is : (plane x y : ℕ) (values : List ℕ) → 1 ≤ mode.planes → mode.planes ≤ 2
      → plane < mode.planes
      → values ≡ map (weight_value mode.level) coded.weights.items
      → All (λ point. point.0 < mode.across * mode.down) (factors w h mode.across mode.down x y)
      → get_or (plane_sum mode.planes 0 values (factors w h mode.across mode.down x y)
      ∷ plane_sum mode.planes (last_plane mode.planes) values
      (factors w h mode.across mode.down x y) ∷ []) plane 0
      ≡ numerator w h mode.across mode.down x y (plane_weights coded mode plane)
  pair-is zero x y values some few is values_are inside =
      rw values_are (plane_sum-is 0 x y is inside)
  pair-is (suc zero) x y values some few is values_are inside =
      let two : mode.planes ≡ 2 = omega arith in
      let last : last_plane mode.planes ≡ 1 = rw two refl in
      rw (values_are, last) (plane_sum-is 1 x y is inside)
  pair-is (suc (suc plane)) x y values some few is values_are inside = absurd (omega arith)

-- the indices of the points around a texel are within the grid
pub in_grid : (w h n m x y : ℕ) → IsTrue (is_footprint w h) → 2 ≤ n → n ≤ w → 2 ≤ m → m ≤ h → x < w
    → y < h → All (λ point. point.0 < n * m) (factors w h n m x y)
in_grid w h n m x y sides some_columns columns some_rows rows across down =
    let s : IsSides w h = is_footprint-sides w h sides in
    let at : IsTexel w h n m x y = record {
      width = s.most_width;
      height = s.most_height;
      some_columns = some_columns;
      some_rows = some_rows;
      columns = columns;
      rows = rows;
      across = across;
      down = down;
    } in
    factors-inside w h n m x y at
