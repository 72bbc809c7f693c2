-- The unquantized weights of a plane's grid points are those of the block.
use Rattle.std.proofs.Common.{◌≡◌, ℕ, zero, suc, ◌+◌, ◌*◌, ◌/◌, ◌%◌, ◌<◌, ◌≤◌, List, Option, sym, ap, ◌∙◌, arith}
use Rattle.std.specs.Prelude.{slice_index}
use Rattle.std.specs.List.{range_with_len}
use Rattle.std.proofs.lemmas.Simd.{map-map}
use Rattle.std.proofs.lemmas.List.FromFn.{get_or-map-range_with_len}
use Rattle.std.proofs.lemmas.Nat.{mul-add-lt}
use Rattle.astc_model.specs.Places.{Texel}
use Rattle.astc_model.specs.Shapes.{weight_count}
use Rattle.astc_model.specs.Targets.{place_of_point}
use Rattle.astc_model.specs.WeightValues.{weight_value}
use Rattle.astc_model.specs.CodedTexels.{plane_weights}
use Rattle.astc_model.specs.Candidates.{Ends, weight_at, weight, weights_of}
use Rattle.astc_model.specs.declared.mode.Mode.{Mode}
use Rattle.astc_model.specs.declared.block.Coded.{Coded as CodedFields}
use Rattle.candidates.specs.Pieces.{grid_places, target_map}
use Rattle.candidates.specs.PointValues.{point_value, plane_values}
use Rattle.candidates.proofs.PieceLaws.{map_same, by_place, place_within}

-- the weights of a point's planes are adjacent in the list
at_point : (planes plane k : ℕ) → 1 ≤ planes → planes ≤ 2 → plane < planes
    → ((k * planes + plane) / planes ≡ k) × ((k * planes + plane) % planes ≡ plane)
at_point zero plane k some few below = absurd (omega arith)
at_point (suc zero) plane k some few below = (omega arith, omega arith)
at_point (suc (suc zero)) plane k some few below = (omega arith, omega arith)
at_point (suc (suc (suc n))) plane k some few below = absurd (omega arith)

module _ (w h component : ℕ) (mode : Mode) (parts : List ℕ) (ends : List Ends)
    (places : List (Option Texel)) (coded : CodedFields) (plane : ℕ)
    (some : 1 ≤ mode.planes) (few : mode.planes ≤ 2) (below : plane < mode.planes)
    (weights_are : coded.weights.items ≡ weights_of w h component mode parts ends places) where
  weight_is : (k : ℕ) → k < mode.across * mode.down
      → slice_index coded.weights.items (k * mode.planes + plane)
      ≡ weight_at component mode.level parts ends places plane
      (place_of_point w h mode.across mode.down places k)
  unfolding weights_of weight
  weight_is k within =
      let at = k * mode.planes + plane in
      let place : at < weight_count mode =
      omega (arith, mul-add-lt k mode.planes plane (mode.across * mode.down) within below) in
      let by = at_point mode.planes plane k some few below in
      ap (λ items. slice_index items at) weights_are
      ∙ get_or-map-range_with_len (weight w h component mode parts ends places) 0
      (weight_count mode) at at 0 place (omega arith)
      ∙ ap (λ p. weight_at component mode.level parts ends places p
      (place_of_point w h mode.across mode.down places (at / mode.planes))) by.1
      ∙ ap (λ q. weight_at component mode.level parts ends places plane
      (place_of_point w h mode.across mode.down places q)) by.0

  pub plane_values-are : plane_values mode.level (grid_places w h mode.across mode.down places)
      (target_map component plane parts ends places (w * h)) ≡ plane_weights coded mode plane
  unfolding plane_values grid_places
  plane_values-are =
      let targets : List ℕ = target_map component plane parts ends places (w * h) in
      map-map (point_value mode.level targets) (place_of_point w h mode.across mode.down places)
      (range_with_len 0 (mode.across * mode.down))
      ∙ map_same (λ k. point_value mode.level targets
      (place_of_point w h mode.across mode.down places k))
      (λ k. weight_value mode.level (slice_index coded.weights.items (k * mode.planes + plane))) 0
      (mode.across * mode.down)
      (λ k low high.
      let within : k < mode.across * mode.down = omega arith in
      ap (weight_value mode.level)
      (by_place component mode.level plane parts ends places (w * h)
      (place_of_point w h mode.across mode.down places k)
      (place_within w h mode.across mode.down places k)
      ∙ sym (weight_is k within)))
