-- The decoded channels of the lanes of a group, and their errors.
use Rattle.std.proofs.Common.{◌≡◌, ℕ, ◌+◌, ◌-◌, ◌*◌, ◌/◌, ◌%◌, ◌<◌, ◌≤◌, ◌==◌, Bool, true, false, cond, List, get_or, refl, ap, sym, ◌∙◌, arith}
use Rattle.std.proofs.lemmas.Bool.{eqb-true, eqb-false, eq-eqb, ne_eqb}
use Rattle.std.proofs.lemmas.Nat.{mul-le}
use Rattle.astc_model.specs.Places.{Texel}
use Rattle.astc_model.specs.Weights.{Weighting}
use Rattle.astc_model.specs.declared.flavour.Flavour.{Flavour}
use Rattle.astc_model.specs.declared.flavour.Flavour.TheVariants.{Linear, Srgb}
use Rattle.std.specs.Prelude.{Option}
use Rattle.texel_lanes.specs.Lanes.{HasLanes, eight_sum, squared_apart}
use Rattle.texel_lanes.proofs.LaneLaws.{eight_same}
use Rattle.texel_error.specs.Drawing.{drawn_error, drawn_lane, group_at, mix_of, values_of, weight_in}
use Rattle.texel_error.specs.Groups.{group_pairs}
use Rattle.texel_error.specs.Numerators.{rounded, share_sum}
use Rattle.texel_error.specs.Orders.{AreSourceLanes, four_sum, lane_error, lane_sum}
use Rattle.texel_error.specs.Shown.{top_of}
use Rattle.texel_error.specs.declared.drawn.Outline.{Outline}
use Rattle.texel_error.specs.declared.groups.GroupOrigins.{GroupOrigins}
use Rattle.texel_error.specs.declared.order.SourceLanes.{SourceLanes}

-- ---- the weights of channels

-- channel c is the component p of the second plane
pub channel_test : (p c : ℕ) → 0 < p → (c == p - 1) ≡ (p == c + 1)
channel_test p c some = by (c == p - 1) refl
  where
    by : (t : Bool) → (c == p - 1) ≡ t → (c == p - 1) ≡ (p == c + 1)
    by true is =
        let same = eqb-true c (p - 1) is in
        is ∙ sym (eq-eqb p (c + 1) (omega arith))
    by false is =
        let other = eqb-false c (p - 1) is in
        is ∙ sym (ne_eqb p (c + 1) (λ same. other (omega arith)))

pub one_plane : (outline : Outline) (own : GroupOrigins) (t c : ℕ) → outline.plane ≡ 0
    → rounded (share_sum (values_of outline.first) (group_pairs own t)) ≡ weight_in outline own t c
one_plane outline own t c none =
    ap (λ b. rounded (share_sum (values_of (cond b outline.second outline.first))
    (group_pairs own t))) (sym (ne_eqb outline.plane (c + 1) (λ same. absurd (omega arith))))

pub two_planes : (outline : Outline) (own : GroupOrigins) (t c p : ℕ) → p ≡ outline.plane → 0 < p
    → cond (c == p - 1) (rounded (share_sum (values_of outline.second) (group_pairs own t)))
    (rounded (share_sum (values_of outline.first) (group_pairs own t)))
    ≡ weight_in outline own t c
two_planes outline own t c p is some =
    ap (λ b. cond b (rounded (share_sum (values_of outline.second) (group_pairs own t)))
    (rounded (share_sum (values_of outline.first) (group_pairs own t))))
    (channel_test p c some ∙ ap (λ q. q == c + 1) is)
    ∙ by (outline.plane == c + 1)
  where
    by : (b : Bool)
        → cond b (rounded (share_sum (values_of outline.second) (group_pairs own t)))
        (rounded (share_sum (values_of outline.first) (group_pairs own t)))
        ≡ rounded (share_sum (values_of (cond b outline.second outline.first)) (group_pairs own t))
    by true = refl
    by false = refl

-- the weights of the channels of two texels, from texel t on, with two planes
pub chosen_is : (outline : Outline) (own : GroupOrigins) (t : ℕ) → t ≤ 2 → (p : ℕ)
    → p ≡ outline.plane → 0 < p → (first second ones others chosen : List ℕ)
    → HasLanes 4 first (λ t. rounded (share_sum (values_of outline.first) (group_pairs own t)))
    → HasLanes 4 second (λ t. rounded (share_sum (values_of outline.second) (group_pairs own t)))
    → HasLanes 8 ones (λ k. get_or first (t + k / 4) 0)
    → HasLanes 8 others (λ k. get_or second (t + k / 4) 0)
    → HasLanes 8 chosen (λ k. cond (k % 4 == p - 1) (get_or others k 0) (get_or ones k 0))
    → HasLanes 8 chosen (λ k. weight_in outline own (t + k / 4) (k % 4))
chosen_is outline own t few p is some first second ones others chosen are_first are_second are_ones
    are_others are_chosen = record {
      long = are_chosen.long;
      each = λ k l. are_chosen.each k l
          ∙ ap (λ x. cond (k % 4 == p - 1) x (get_or ones k 0))
          (are_others.each k l ∙ are_second.each (t + k / 4) (omega arith))
          ∙ ap (λ x. cond (k % 4 == p - 1)
          (rounded (share_sum (values_of outline.second) (group_pairs own (t + k / 4)))) x)
          (are_ones.each k l ∙ are_first.each (t + k / 4) (omega arith))
          ∙ two_planes outline own (t + k / 4) (k % 4) p is some;
    }

-- ---- decoded bytes of interpolations

pub mix_small : (a b w : ℕ) → a ≤ 255 → b ≤ 255 → w ≤ 64 → mix_of a b w ≤ 16320
mix_small a b w p q r =
    omega (
      arith,
      mul-le a (64 - w) 255 (64 - w) p (omega arith),
      mul-le b w 255 w q (omega arith),
    )

pub top_small : (flavour : Flavour) (c mix : ℕ) → mix ≤ 16320 → top_of flavour c mix ≤ 255
top_small Linear c mix small = omega arith
top_small Srgb c mix small = by (c == 3)
  where
    by : (b : Bool) → cond b ((257 * mix + 32) / 64 / 256) ((256 * mix + 8192 + 32) / 64 / 256)
        ≤ 255
    by true = omega arith
    by false = omega arith

pub repeated_top : (mix : ℕ) → mix ≤ 16320 → (mix + (mix + 32) / 256) / 64
    ≡ (257 * mix + 32) / 64 / 256
repeated_top mix small = omega arith

pub centred_top : (mix : ℕ) → mix ≤ 16320 → (mix + 32) / 64 ≡ (256 * mix + 8192 + 32) / 64 / 256
centred_top mix small = omega arith

pub srgb_top : (c mix : ℕ) → mix ≤ 16320 → cond (c == 3) ((mix + (mix + 32) / 256) / 64)
    ((mix + 32) / 64) ≡ top_of Srgb c mix
srgb_top c mix small = by (c == 3)
  where
    by : (b : Bool) → cond b ((mix + (mix + 32) / 256) / 64) ((mix + 32) / 64)
        ≡ cond b ((257 * mix + 32) / 64 / 256) ((256 * mix + 8192 + 32) / 64 / 256)
    by true = repeated_top mix small
    by false = centred_top mix small

-- ---- the errors of lanes

pub lane_at : (flavour : Flavour) (outline : Outline) (k g t c : ℕ) → k / 4 / 4 ≡ g → k / 4 % 4 ≡ t
    → k % 4 ≡ c → drawn_lane flavour outline k
    ≡ top_of flavour c (mix_of (get_or outline.colours.now.first k 0)
    (get_or outline.colours.now.second k 0) (weight_in outline (group_at outline g) t c))
lane_at flavour outline k g t c in_group is of_channel =
    ap (λ g. top_of flavour (k % 4) (mix_of (get_or outline.colours.now.first k 0)
    (get_or outline.colours.now.second k 0) (weight_in outline (group_at outline g) (k / 4 % 4)
    (k % 4)))) in_group
    ∙ ap (λ t. top_of flavour (k % 4) (mix_of (get_or outline.colours.now.first k 0)
    (get_or outline.colours.now.second k 0) (weight_in outline (group_at outline g) t
    (k % 4)))) is
    ∙ ap (λ c. top_of flavour c (mix_of (get_or outline.colours.now.first k 0)
    (get_or outline.colours.now.second k 0) (weight_in outline (group_at outline g) t c)))
    of_channel

module _ (flavour : Flavour) (outline : Outline) (lanes : SourceLanes) (g : ℕ) where
  -- eight lanes: two texels from texel t on
  pub eight_lanes : (at t : ℕ) → at ≡ 16 * g + 4 * t → t ≤ 2 → (weights shown squares : List ℕ)
      → HasLanes 8 weights (λ k. weight_in outline (group_at outline g) (t + k / 4) (k % 4))
      → HasLanes 8 shown (λ k. top_of flavour (k % 4)
      (mix_of (get_or outline.colours.now.first (at + k) 0)
      (get_or outline.colours.now.second (at + k) 0) (get_or weights k 0)))
      → HasLanes 8 squares (λ k. get_or lanes.gains (at + k) 0
      * squared_apart (get_or shown k 0) (get_or lanes.texels (at + k) 0))
      → eight_sum (λ k. get_or squares k 0)
      ≡ eight_sum (λ k. lane_error lanes (drawn_lane flavour outline) (at + k))
  eight_lanes at t is most weights shown squares are are_shown are_squares =
      eight_same _ _
      (λ k l. are_squares.each k l
      ∙ ap (λ s. get_or lanes.gains (at + k) 0
      * squared_apart s (get_or lanes.texels (at + k) 0))
      (are_shown.each k l
      ∙ ap (λ w. top_of flavour (k % 4) (mix_of (get_or outline.colours.now.first (at + k) 0)
      (get_or outline.colours.now.second (at + k) 0) w)) (are.each k l)
      ∙ sym (lane_at flavour outline (at + k) g (t + k / 4) (k % 4) (omega arith) (omega arith)
      (omega arith))))

pub both_same : (a b c d : ℕ) → a ≡ c → b ≡ d → a + b ≡ c + d
both_same a b c d p q = omega arith

-- the sum over sixteen lanes is the sum over the lanes of four places
pub sixteen_lanes : (f : ℕ → ℕ) (g : ℕ) → eight_sum (λ k. f (16 * g + k))
    + eight_sum (λ k. f (16 * g + 8 + k)) ≡ four_sum (lane_sum f) g
sixteen_lanes f g =
    let same : (a b : ℕ) → a ≡ b → f a ≡ f b = λ a b e. ap f e in
    omega (
      arith,
      same (16 * g + 0) (4 * (4 * g)) (omega arith),
      same (16 * g + 1) (4 * (4 * g) + 1) (omega arith),
      same (16 * g + 2) (4 * (4 * g) + 2) (omega arith),
      same (16 * g + 3) (4 * (4 * g) + 3) (omega arith),
      same (16 * g + 4) (4 * (4 * g + 1)) (omega arith),
      same (16 * g + 5) (4 * (4 * g + 1) + 1) (omega arith),
      same (16 * g + 6) (4 * (4 * g + 1) + 2) (omega arith),
      same (16 * g + 7) (4 * (4 * g + 1) + 3) (omega arith),
      same (16 * g + 8 + 0) (4 * (4 * g + 2)) (omega arith),
      same (16 * g + 8 + 1) (4 * (4 * g + 2) + 1) (omega arith),
      same (16 * g + 8 + 2) (4 * (4 * g + 2) + 2) (omega arith),
      same (16 * g + 8 + 3) (4 * (4 * g + 2) + 3) (omega arith),
      same (16 * g + 8 + 4) (4 * (4 * g + 3)) (omega arith),
      same (16 * g + 8 + 5) (4 * (4 * g + 3) + 1) (omega arith),
      same (16 * g + 8 + 6) (4 * (4 * g + 3) + 2) (omega arith),
      same (16 * g + 8 + 7) (4 * (4 * g + 3) + 3) (omega arith),
    )

pub four_same : (f h : ℕ → ℕ) (g : ℕ) → ((p : ℕ) → 4 * g ≤ p → p < 4 * g + 4 → f p ≡ h p)
    → four_sum f g ≡ four_sum h g
four_same f h g same =
    omega (
      arith,
      same (4 * g) (omega arith) (omega arith),
      same (4 * g + 1) (omega arith) (omega arith),
      same (4 * g + 2) (omega arith) (omega arith),
      same (4 * g + 3) (omega arith) (omega arith),
    )

-- the errors of the lanes of a group are those of its places
pub group_is : (flavour : Flavour) (outline : Outline) (lanes : SourceLanes) (weights : Weighting)
    (places : List (Option Texel)) (n g : ℕ) → AreSourceLanes places weights n lanes
    → eight_sum (λ k. lane_error lanes (drawn_lane flavour outline) (16 * g + k))
    + eight_sum (λ k. lane_error lanes (drawn_lane flavour outline) (16 * g + 8 + k))
    ≡ four_sum (drawn_error flavour outline weights places) g
group_is flavour outline lanes weights places n g are =
    sixteen_lanes (lane_error lanes (drawn_lane flavour outline)) g
    ∙ four_same _ _ g (λ p least most. are.errors p (drawn_lane flavour outline))
