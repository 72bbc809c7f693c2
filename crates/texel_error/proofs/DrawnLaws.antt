-- The errors of the groups have the error of the block as their sum, in any order of the groups.
use Rattle.std.proofs.Common.{◌≡◌, ℕ, ◌*◌, ◌≤◌, ◌/◌, ◌%◌, false, List, get_or, length, take, Option, None, Some, refl, ap, sym, ◌∙◌, arith, inl, inr}
use Rattle.std.proofs.Math.Seq.{take_all}
use Rattle.std.proofs.lemmas.List.{get_or_past}
use Rattle.std.proofs.lemmas.Bool.{cases_lt}
use Rattle.std.specs.Prelude.{is_some, sum_by}
use Rattle.astc_model.specs.Places.{Texel}
use Rattle.astc_model.specs.Weights.{Weighting}
use Rattle.astc_model.specs.Errors.{error, place_error, texel}
use Rattle.astc_model.specs.declared.block.Block.{Block}
use Rattle.astc_model.specs.declared.block.Block.TheVariants.{Coded}
use Rattle.astc_model.specs.declared.block.Coded.{Coded as CodedFields}
use Rattle.texel_error.specs.Drawing.{CanDraw, IsDrawnFrom, block_error_at, drawn_error, drawn_texel}
use Rattle.texel_error.specs.Goals.{GoalView, error_to}
use Rattle.texel_error.specs.Orders.{AreGroups, IsNoneOutside, four_sum}
use Rattle.texel_error.specs.declared.drawn.Outline.{Outline}
use Rattle.texel_error.specs.declared.order.RankedGroup.{RankedGroup}
use Rattle.texel_error.proofs.LaneLaws.{four_same}
use Rattle.texel_error.proofs.PointLaws.{drawn_texel-is}

-- a place outside the image has no error
outside_none : (weights : Weighting) (shown : Texel) (place : Option Texel) → is_some place ≡ false
    → place_error weights shown place ≡ 0
outside_none weights shown None is = refl
outside_none weights shown (Some expected) is = cc

-- the sum over a prefix that is at least as long as the list
pub sum_all : (f : RankedGroup → ℕ) (groups : List RankedGroup) (n : ℕ) → length groups ≤ n
    → sum_by f (take n groups) ≡ sum_by f groups
sum_all f groups n enough = ap (sum_by f) (take_all n groups enough)

module _ (w h : ℕ) (goal : GoalView) (block : Block) where
  pub block_outside : IsNoneOutside goal.places
      (block_error_at w h goal.flavour goal.weights block goal.places)
  block_outside p is = outside_none goal.weights
      (texel w h goal.flavour block (p % w) (p / w)) (get_or goal.places p None) is

  pub sum-is : (groups : List RankedGroup) → AreGroups goal.places (w * h) groups
      → sum_by (λ one. four_sum
      (block_error_at w h goal.flavour goal.weights block goal.places) one.group) groups
      ≡ error_to w h goal block
  unfolding error
  sum-is groups are =
      are.sums (block_error_at w h goal.flavour goal.weights block goal.places) block_outside

module _ (w h : ℕ) (goal : GoalView) (outline : Outline) (can : CanDraw w h outline)
    (coded : CodedFields) (is : IsDrawnFrom w h goal.flavour outline coded)
    (all : length goal.places ≡ w * h) where
  place_same : (p : ℕ) → drawn_error goal.flavour outline goal.weights goal.places p
      ≡ block_error_at w h goal.flavour goal.weights (Coded coded) goal.places p
  place_same p =
      elim (cases_lt p (w * h)) [
        | inr past ↦
            let none : is_some (get_or goal.places p None) ≡ false =
            ap is_some (get_or_past goal.places p None (omega arith)) in
            outside_none goal.weights (drawn_texel goal.flavour outline p)
            (get_or goal.places p None) none
            ∙ sym (outside_none goal.weights
            (texel w h goal.flavour (Coded coded) (p % w) (p / w)) (get_or goal.places p None)
            none)
        | inl below ↦
            ap (λ shown. place_error goal.weights shown (get_or goal.places p None))
            (drawn_texel-is w h goal.flavour outline can coded is p below)
      ]

  -- the errors of a group are those that the block has there
  pub group_same : (g : ℕ)
      → four_sum (drawn_error goal.flavour outline goal.weights goal.places) g
      ≡ four_sum (block_error_at w h goal.flavour goal.weights (Coded coded) goal.places) g
  group_same g = four_same _ _ g (λ p least most. place_same p)
