-- The targets of weights by place, and the reach of texels along the axes of their partitions.
use Rattle.std.specs.Prelude.{◌≡◌, ℕ, ◌+◌, ◌*◌, ◌/◌, ◌%◌, ◌<◌, ◌≤◌, ℤ, pos, negsuc, List, [], ◌∷◌, Option, None, Some, length, slice_index, slice_index_or}
use Rattle.std.specs.List.{All}
use Rattle.std.specs.Int.RustNames.{unsigned_abs}
use Rattle.astc_model.specs.Places.{Texel, channel}
use Rattle.astc_model.specs.Candidates.{Ends}
use Rattle.candidates.specs.Axes.{AreAxes, IsAxis, no_axis}
use Rattle.candidates.specs.Pieces.{place_target}
use Rattle.candidates.specs.declared.targets.Axis.{Axis}
use Rattle.texel_lanes.specs.Lanes.{far_apart}
use Rattle.listed_walk.specs.declared.targets.AxisTables.{AxisTables}
use Rattle.listed_walk.specs.declared.targets.PlaneAxes.{PlaneAxes}

-- the targets of the weights of a plane at each of n places
pub record AreTargetsTo (component plane : ℕ) (parts : List ℕ) (ends : List Ends)
    (places : List (Option Texel)) (n : ℕ) (targets : List ℕ) : Type 0 where
  pub each : (p : ℕ) → p < n → slice_index targets p
      ≡ place_target component plane parts ends places p
  pub small : (p : ℕ) → p < n → slice_index targets p ≤ 64

-- the end of the range of bytes from which a value reaches along a rise
abbrev pub origin_of : ℤ → ℕ
origin_of (pos n) = 0
origin_of (negsuc n) = 255

-- the reach of a channel's value: its distance from there, times the rise
abbrev pub reach : ℤ → (value : ℕ) → ℕ
reach rise value = far_apart value (origin_of rise) * unsigned_abs rise

-- the reach of a texel along an axis
abbrev pub reach_of : Axis → Texel → ℕ
reach_of axis q =
    reach axis.red (channel 0 q) + reach axis.green (channel 1 q)
    + reach axis.blue (channel 2 q) + reach axis.alpha (channel 3 q)

-- the rise or fall of each channel
abbrev pub rises_of : Axis → List ℕ
rises_of axis = unsigned_abs axis.red ∷ unsigned_abs axis.green ∷ unsigned_abs axis.blue
    ∷ unsigned_abs axis.alpha ∷ []

-- the end of the range from which each channel reaches
abbrev pub origins_of : Axis → List ℕ
origins_of axis = origin_of axis.red ∷ origin_of axis.green ∷ origin_of axis.blue
    ∷ origin_of axis.alpha ∷ []

-- the axis of a partition
abbrev pub axis_at : List Axis → ℕ → Axis
axis_at axes part = slice_index_or axes part no_axis

-- the tables of the first n axes, four bytes for each
pub record AreAxisTables (axes : List Axis) (n : ℕ) (tables : AxisTables) : Type 0 where
  pub all_firsts : length tables.firsts ≡ 16
  pub all_rises : length tables.rises ≡ 16
  pub all_origins : length tables.origins ≡ 16
  pub firsts : (part c : ℕ) → part < n → c < 4 → slice_index tables.firsts (4 * part + c)
      ≡ channel c (axis_at axes part).first
  pub rises : (part c : ℕ) → part < n → c < 4 → slice_index tables.rises (4 * part + c)
      ≡ channel c (rises_of (axis_at axes part))
  pub origins : (part c : ℕ) → part < n → c < 4 → slice_index tables.origins (4 * part + c)
      ≡ channel c (origins_of (axis_at axes part))

-- the numbers of axes are within their ranges
pub record AreSmallAxes (axes : PlaneAxes) : Type 0 where
  pub all : All IsAxis axes.axes
  pub quarters : (k : ℕ) → k < 16 → slice_index axes.quarters k ≤ 63
  pub rests : (k : ℕ) → k < 16 → slice_index axes.rests k ≤ 3
  pub starts : (k : ℕ) → k < 4 → slice_index axes.starts k ≤ 260100

-- the axes of a plane, for partitions with these colours
pub record ArePlaneAxes (component plane : ℕ) (ends : List Ends)
    (own : PlaneAxes) : Type 0 where
  pub few : length ends ≤ 4
  pub axes : AreAxes component plane ends own.axes
  pub origins : (part c : ℕ) → part < length ends → c < 4
      → slice_index own.origins (4 * part + c)
      ≡ channel c (origins_of (axis_at own.axes part))
  pub quarters : (part c : ℕ) → part < length ends → c < 4
      → slice_index own.quarters (4 * part + c)
      ≡ channel c (rises_of (axis_at own.axes part)) / 4
  pub rests : (part c : ℕ) → part < length ends → c < 4
      → slice_index own.rests (4 * part + c)
      ≡ channel c (rises_of (axis_at own.axes part)) % 4
  pub starts : (part : ℕ) → part < length ends → slice_index own.starts part
      ≡ reach_of (axis_at own.axes part) (axis_at own.axes part).first
  pub firsts : (part c : ℕ) → part < length ends → c < 4
      → channel c (axis_at own.axes part).first ≤ 255

-- the lanes of texel t of four have this texel
abbrev pub IsTexelAt : (lanes : List ℕ) → (t : ℕ) → Texel → Type 0
IsTexelAt lanes t q = (c : ℕ) → c < 4 → slice_index lanes (4 * t + c) ≡ channel c q

-- the entries of texel t of four are those of a partition
abbrev pub AreEntriesAt : (lanes : List ℕ) → (t part : ℕ) → Type 0
AreEntriesAt lanes t part = (c : ℕ) → c < 4 → slice_index lanes (4 * t + c) ≡ 4 * part + c

-- a texel of bytes reaches so far along an axis
pub record IsReach (axis : Axis) (q : Texel) (reached : ℕ) : Type 0 where
  pub is : reached ≡ reach_of axis q
  pub bytes : (c : ℕ) → c < 4 → channel c q ≤ 255

-- these are the reaches of four texels with these partitions
pub record AreReaches (axes : PlaneAxes) (own texels reaches : List ℕ) : Type 0 where
  pub each : (component plane : ℕ) (ends : List Ends) (t part : ℕ) (q : Texel)
      → ArePlaneAxes component plane ends axes → t < 4 → part < length ends
      → AreEntriesAt own t part → IsTexelAt texels t q
      → IsReach (axis_at axes.axes part) q (slice_index reaches t)
  pub small : (t : ℕ) → t < 4 → slice_index reaches t ≤ 260100

-- these are the reaches of the texels of group g of four places
abbrev pub AreReachesOf : PlaneAxes → (parts : List ℕ) → List (Option Texel) → (g : ℕ)
    → (reaches : List ℕ) → Type 0
AreReachesOf axes parts places g reaches =
    (t : ℕ) (q : Texel) → t < 4 → 4 * g + t < length places
    → slice_index_or places (4 * g + t) None ≡ Some q
    → IsReach (axis_at axes.axes (slice_index parts (4 * g + t))) q (slice_index reaches t)
