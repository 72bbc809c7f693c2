-- The places that a change of one integer reaches.
use Rattle.std.specs.Prelude.{◌≡◌, ℕ, ◌+◌, ◌*◌, ◌/◌, ◌%◌, ◌<◌, ◌==◌, ◌&&◌, nat_lt, nat_le, slice_index, Bool, if◌then◌else◌, List, map, Option, sum_by}
use Rattle.std.specs.List.{All, list_any}
use Rattle.astc_model.specs.Places.{Texel}
use Rattle.astc_model.specs.Partitions.{part_of}
use Rattle.astc_model.specs.Shapes.{colour_count}
use Rattle.astc_model.specs.Endpoints.{endpoint_integers}
use Rattle.astc_model.specs.declared.mode.Mode.{Mode}
use Rattle.astc_model.specs.declared.block.Coded.{Coded as CodedFields}
use Rattle.weight_infill.specs.Touched.{factor_of}
use Rattle.texel_error.specs.Counting.{sum_on, is_inside}

-- each sum over the list is the sum over the places below n that a test takes
pub record ArePlaces (on : ℕ → Bool) (n : ℕ) (places : List ℕ) : Type 0 where
  pub same : (f : ℕ → ℕ) → sum_by f places ≡ sum_on on f n

-- whether a place is among these
abbrev pub is_among : ℕ → List ℕ → Bool
is_among p places = list_any (λ q. q == p) places

-- the value of a place after the places of a list have new ones
abbrev pub renewed : (old new : ℕ → ℕ) → List ℕ → ℕ → ℕ
renewed old new places p = if is_among p places then new p else old p

-- whether the point touches a place
abbrev pub is_touched : (w h n m point p : ℕ) → Bool
is_touched w h n m point p = nat_lt 0 (factor_of w h n m point (p % w) (p / w))

-- whether it touches a place inside the image
abbrev pub is_touched_inside : (w h : ℕ) → Mode → ℕ → List (Option Texel) → ℕ → Bool
is_touched_inside w h mode point places p = is_inside places p
    && is_touched w h mode.across mode.down point p

-- whether a place inside the image is of a part of the block
abbrev pub is_part_inside : (w h : ℕ) → CodedFields → ℕ → List (Option Texel) → ℕ → Bool
is_part_inside w h coded part places p = is_inside places p
    && (part_of w h coded.parts coded.seed (p % w) (p / w) == part)

-- whether a part of the block has the colour integer i
abbrev pub has_colour : CodedFields → (part i : ℕ) → Bool
has_colour coded part i = nat_le (colour_count part coded.cems) i
    && nat_lt i (colour_count part coded.cems + endpoint_integers (slice_index coded.cems part))

-- whether a place inside the image is of the part that has the colour integer i
abbrev pub is_coloured_inside : (w h : ℕ) → CodedFields → ℕ → List (Option Texel) → ℕ → Bool
is_coloured_inside w h coded i places p = is_inside places p
    && has_colour coded (part_of w h coded.parts coded.seed (p % w) (p / w)) i

-- the places inside below n that a point touches, each with its factor
pub record IsReachBelow (w h : ℕ) (mode : Mode) (point : ℕ) (places : List (Option Texel)) (n : ℕ)
    (reach : List (ℕ × ℕ)) : Type 0 where
  pub are : ArePlaces (is_touched_inside w h mode point places) n (map (λ touch. touch.0) reach)
  pub within : All (λ touch. touch.0 < w * h) reach
  pub factors_are : All (λ touch. touch.1 ≡ factor_of w h mode.across mode.down point (touch.0 % w)
      (touch.0 / w)) reach

-- all places inside that a point touches, each with its factor
abbrev pub IsReach : (w h : ℕ) → Mode → ℕ → List (Option Texel) → List (ℕ × ℕ) → Type 0
IsReach w h mode point places reach = IsReachBelow w h mode point places (w * h) reach

-- the places inside below n of a part
pub record IsPartReachBelow (w h : ℕ) (block : CodedFields) (part : ℕ)
    (places : List (Option Texel)) (n : ℕ) (reach : List ℕ) : Type 0 where
  pub are : ArePlaces (is_part_inside w h block part places) n reach
  pub within : All (λ p. p < w * h) reach
  pub parts_are : All (λ p. part_of w h block.parts block.seed (p % w) (p / w) ≡ part) reach

-- all places inside of a part
abbrev pub IsPartReach : (w h : ℕ) → CodedFields → ℕ → List (Option Texel) → List ℕ → Type 0
IsPartReach w h block part places reach = IsPartReachBelow w h block part places (w * h) reach
