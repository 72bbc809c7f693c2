-- The decoded texel of a place, computed from the values of the grid points on which its weights
-- depend.
use Rattle.std.proofs.Common.{◌≡◌, ℕ, zero, suc, ◌+◌, ◌*◌, ◌/◌, ◌%◌, ◌<◌, ◌≤◌, ◌==◌, Bool, true, false, cond, List, [], ◌∷◌, get_or, refl, ap, ◌∙◌, arith}
use Rattle.astc_model.specs.Places.{channel}
use Rattle.astc_model.specs.Errors.{texel}
use Rattle.astc_model.specs.CodedTexels.{widened, mixed}
use Rattle.astc_model.specs.declared.flavour.Flavour.{Flavour}
use Rattle.astc_model.specs.declared.block.Block.TheVariants.{Coded}
use Rattle.astc_model.specs.declared.block.Coded.{Coded as CodedFields}
use Rattle.astc_model.proofs.FootprintLaws.{sides_few}
use Rattle.texel_error.specs.Decoding.{numerator_at, shown_of}
use Rattle.texel_error.specs.Drawing.{CanDraw, HaveValues, IsDrawnFrom, colours_of_place, drawn_lane, drawn_texel, group_at, mix_of, origins_at, values_of, weight_in}
use Rattle.texel_error.specs.Numerators.{rounded, share_sum}
use Rattle.texel_error.specs.Shown.{Ends, plane_at, shown_channel, top_of}
use Rattle.texel_error.specs.declared.drawn.DrawnPoints.{DrawnPoints}
use Rattle.texel_error.specs.declared.drawn.Outline.{Outline}
use Rattle.texel_error.proofs.GroupLaws.{weight_small}
use Rattle.texel_error.proofs.LaneLaws.{lane_at}
use Rattle.texel_error.proofs.MixLaws.{top_of_mix}
use Rattle.texel_error.proofs.TexelLaws.{shown_of-is}

four_same : (a b c d e f g h : ℕ) → a ≡ e → b ≡ f → c ≡ g → d ≡ h
    → a ∷ b ∷ c ∷ d ∷ [] ≡ e ∷ f ∷ g ∷ h ∷ []
four_same a b c d e f g h p q r s = rw (p, q, r, s) refl

module _ (w h : ℕ) (flavour : Flavour) (outline : Outline) (can : CanDraw w h outline)
    (coded : CodedFields) (is : IsDrawnFrom w h flavour outline coded) (p : ℕ) (below : p < w * h)
  where
    own_ends : Ends
    own_ends = colours_of_place w h coded is.level p

    -- the weights of place p in both planes, in sixteenths
    own_numerators : List ℕ
    own_numerators = share_sum (values_of outline.first) (origins_at outline p)
        ∷ share_sum (values_of outline.second) (origins_at outline p) ∷ []

    are_numerators : (q : ℕ) → q < is.mode.planes → get_or own_numerators q 0
        ≡ numerator_at w h coded is.mode q p
    unfolding own_numerators
    are_numerators zero there = is.first p below
    are_numerators (suc zero) there = is.second (omega (arith, there)) p below
    are_numerators (suc (suc q)) there = absurd (omega (arith, there, is.shaped.two_planes))

    -- the weight of a channel, rounded
    own_weight : (c : ℕ) → weight_in outline (group_at outline (p / 4)) (p % 4) c
        ≡ rounded (get_or own_numerators (plane_at outline.plane c) 0)
    unfolding own_numerators
    own_weight c = by (outline.plane == c + 1)
      where
        by : (b : Bool)
            → rounded (share_sum (values_of (cond b outline.second outline.first))
            (origins_at outline p))
            ≡ rounded (get_or (share_sum (values_of outline.first) (origins_at outline p)
            ∷ share_sum (values_of outline.second) (origins_at outline p) ∷ []) (cond b 1 0) 0)
        by true = refl
        by false = refl

    small_weight : (c : ℕ) → weight_in outline (group_at outline (p / 4)) (p % 4) c ≤ 64
    small_weight c = by (outline.plane == c + 1)
      where
        own : (points : DrawnPoints) → HaveValues (w * h) points
            → rounded (share_sum (values_of points) (origins_at outline p)) ≤ 64
        own points have = weight_small (w * h) (sides_few w h can.sides) points have
            (group_at outline (p / 4)) (can.groups (p / 4) (omega arith)) (p % 4) (omega arith)

        by : (b : Bool) → rounded (share_sum (values_of (cond b outline.second outline.first))
            (origins_at outline p)) ≤ 64
        by true = own outline.second can.second
        by false = own outline.first can.first

    drawn_channel : (c k : ℕ) → c < 4 → k ≡ 4 * p + c → drawn_lane flavour outline k
        ≡ shown_channel flavour own_ends
        (rounded (get_or own_numerators (plane_at outline.plane c) 0)) c
    unfolding own_ends
    drawn_channel c k l at =
        let weight : ℕ = weight_in outline (group_at outline (p / 4)) (p % 4) c in
        let first : get_or outline.colours.now.first k 0 ≡ channel c own_ends.0 =
        ap (λ k. get_or outline.colours.now.first k 0) at ∙ is.colours.first p c below l in
        let second : get_or outline.colours.now.second k 0 ≡ channel c own_ends.1 =
        ap (λ k. get_or outline.colours.now.second k 0) at ∙ is.colours.second p c below l in
        let lane : drawn_lane flavour outline k ≡ top_of flavour c
        (mix_of (get_or outline.colours.now.first k 0) (get_or outline.colours.now.second k 0)
        weight) =
        lane_at flavour outline k (p / 4) (p % 4) c (omega arith) (omega arith) (omega arith) in
        lane
        ∙ ap (λ a. top_of flavour c (mix_of a (get_or outline.colours.now.second k 0) weight)) first
        ∙ ap (λ b. top_of flavour c (mix_of (channel c own_ends.0) b weight)) second
        ∙ top_of_mix flavour c (channel c own_ends.0) (channel c own_ends.1) weight _
        (small_weight c) refl
        ∙ ap (λ n. mixed (widened flavour c (channel c own_ends.0))
        (widened flavour c (channel c own_ends.1)) n / 256) (own_weight c)

    pub drawn_texel-is : drawn_texel flavour outline p
        ≡ texel w h flavour (Coded coded) (p % w) (p / w)
    unfolding shown_of own_ends
    drawn_texel-is =
        four_same _ _ _ _ _ _ _ _ (drawn_channel 0 (4 * p) (omega arith) (omega arith))
        (drawn_channel 1 (4 * p + 1) (omega arith) refl)
        (drawn_channel 2 (4 * p + 2) (omega arith) refl)
        (drawn_channel 3 (4 * p + 3) (omega arith) refl)
        ∙ shown_of-is w h flavour coded is.mode is.level is.shaped (p % w) (p / w) outline.plane
        own_ends own_numerators is.plane refl are_numerators
