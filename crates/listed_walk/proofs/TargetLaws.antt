-- How far texels reach along the axes of their partitions, and the targets that follow.
use Rattle.std.proofs.Common.{◌≡◌, ℕ, zero, suc, ◌+◌, ◌-◌, ◌*◌, ◌/◌, ◌%◌, ◌<◌, ◌≤◌, List, length, get_or, Option, Some, refl, ap, subst, ◌∙◌, arith, inl, inr, ℤ, pos, negsuc, neg_ℤ, ◌+ℤ◌, ◌-ℤ◌, ◌*ℤ◌}
use Rattle.std.proofs.Math.IntN.{pos-*ℤ-pos, negsuc-*ℤ-pos, *ℤ-negsuc}
use Rattle.std.proofs.lemmas.Bool.{cases_lt}
use Rattle.std.proofs.lemmas.Int.{ints}
use Rattle.astc_model.specs.Places.{Texel, channel}
use Rattle.astc_model.specs.Candidates.{Ends}
use Rattle.astc_model.specs.Targets.{difference, quotient}
use Rattle.candidates.specs.Axes.{axis_of, num_on}
use Rattle.candidates.specs.Pieces.{place_target, texel_target}
use Rattle.candidates.specs.declared.targets.Axis.{Axis}
use Rattle.candidates.proofs.AxisLaws.{axis_target}
use Rattle.texel_lanes.specs.Lanes.{along_channel, along_lane, far_apart}
use Rattle.texel_error.specs.Colours.{with_texel}
use Rattle.texel_error.proofs.SourceLaws.{all_lanes, lane_below, own_lane}
use Rattle.texel_error.proofs.ColourLaws.{lane_more}
use Rattle.listed_walk.specs.Targets.{AreAxisTables, AreTargetsTo, IsTexelAt, axis_at, origins_of, reach, reach_of, rises_of}

-- ---- the reach of a channel

above : (d f n : ℕ) → pos ((f + d) * n) -ℤ pos (f * n) ≡ difference (f + d) f *ℤ pos n
above d f n =
    let apart : difference (f + d) f ≡ pos d = omega (arith, ints) in
    rw (apart, pos-*ℤ-pos d n) (omega (arith, ints))

below : (d q n : ℕ) → pos (q * n) -ℤ pos ((q + suc d) * n) ≡ difference q (q + suc d) *ℤ pos n
below d q n =
    let apart : difference q (q + suc d) ≡ negsuc d = omega (arith, ints) in
    rw (apart, negsuc-*ℤ-pos d n) (omega (arith, ints))

by_rise : (q f n : ℕ) → pos (q * n) -ℤ pos (f * n) ≡ difference q f *ℤ pos n
by_rise q f n =
    elim (cases_lt q f) [
      | inl less ↦
          let at : q + suc (f - suc q) ≡ f = omega arith in
          subst (λ f. pos (q * n) -ℤ pos (f * n) ≡ difference q f *ℤ pos n) at
          (below (f - suc q) q n)
      | inr more ↦
          let at : f + (q - f) ≡ q = omega arith in
          subst (λ q. pos (q * n) -ℤ pos (f * n) ≡ difference q f *ℤ pos n) at
          (above (q - f) f n)
    ]

from_above : (q f n : ℕ) → q ≤ 255 → f ≤ 255
    → pos ((255 - q) * n) -ℤ pos ((255 - f) * n) ≡ neg_ℤ (pos (q * n) -ℤ pos (f * n))
from_above q f n small few =
    let one : (255 - q) * n + q * n ≡ 255 * n =
    let whole : 255 - q + q ≡ 255 = omega arith in
    (omega arith) ∙ ap (λ t. t * n) whole in
    let other : (255 - f) * n + f * n ≡ 255 * n =
    let whole : 255 - f + f ≡ 255 = omega arith in
    (omega arith) ∙ ap (λ t. t * n) whole in
    omega (arith, ints, one, other)

reach_is : (rise : ℤ) (q f : ℕ) → q ≤ 255 → f ≤ 255
    → pos (reach rise q) -ℤ pos (reach rise f) ≡ difference q f *ℤ rise
reach_is (pos n) q f small few =
    let one : far_apart q 0 ≡ q = omega arith in
    let other : far_apart f 0 ≡ f = omega arith in
    rw (one, other) (by_rise q f n)
reach_is (negsuc n) q f small few =
    let one : far_apart q 255 ≡ 255 - q = omega arith in
    let other : far_apart f 255 ≡ 255 - f = omega arith in
    rw (one, other, *ℤ-negsuc (difference q f) n)
    (from_above q f (suc n) small few ∙ ap neg_ℤ (by_rise q f (suc n)))

-- ---- the reach of a texel

sums : (a b c d e f g h : ℕ) → pos (a + b + c + d) -ℤ pos (e + f + g + h)
    ≡ (pos a -ℤ pos e) +ℤ (pos b -ℤ pos f) +ℤ (pos c -ℤ pos g) +ℤ (pos d -ℤ pos h)
sums a b c d e f g h = omega (arith, ints)

plus_same : (a b c d e f g h : ℤ) → a ≡ e → b ≡ f → c ≡ g → d ≡ h
    → a +ℤ b +ℤ c +ℤ d ≡ e +ℤ f +ℤ g +ℤ h
plus_same a b c d e f g h p q r s = rw (p, q, r, s) refl

pub reach_law : (axis : Axis) (q : Texel) → ((c : ℕ) → c < 4 → channel c q ≤ 255)
    → ((c : ℕ) → c < 4 → channel c axis.first ≤ 255)
    → pos (reach_of axis q) -ℤ pos (reach_of axis axis.first) ≡ num_on axis q
reach_law axis q small few =
    sums (reach axis.red (channel 0 q)) (reach axis.green (channel 1 q))
    (reach axis.blue (channel 2 q)) (reach axis.alpha (channel 3 q))
    (reach axis.red (channel 0 axis.first)) (reach axis.green (channel 1 axis.first))
    (reach axis.blue (channel 2 axis.first)) (reach axis.alpha (channel 3 axis.first))
    ∙ plus_same _ _ _ _ _ _ _ _
    (reach_is axis.red (channel 0 q) (channel 0 axis.first) (small 0 (omega arith))
    (few 0 (omega arith)))
    (reach_is axis.green (channel 1 q) (channel 1 axis.first) (small 1 (omega arith))
    (few 1 (omega arith)))
    (reach_is axis.blue (channel 2 q) (channel 2 axis.first) (small 2 (omega arith))
    (few 2 (omega arith)))
    (reach_is axis.alpha (channel 3 q) (channel 3 axis.first) (small 3 (omega arith))
    (few 3 (omega arith)))

pub target_is : (component plane : ℕ) (ends : Ends) (axis : Axis) (q : Texel) (reached start : ℕ)
    → axis ≡ axis_of component plane ends → ((c : ℕ) → c < 4 → channel c q ≤ 255)
    → ((c : ℕ) → c < 4 → channel c axis.first ≤ 255) → reached ≡ reach_of axis q
    → start ≡ reach_of axis axis.first
    → quotient (pos reached -ℤ pos start) axis.length
    ≡ texel_target component plane (Some q) ends
target_is component plane ends axis q reached start is small few own other =
    ap (λ r. quotient (pos r -ℤ pos start) axis.length) own
    ∙ ap (λ s. quotient (pos (reach_of axis q) -ℤ pos s) axis.length) other
    ∙ ap (λ n. quotient n axis.length) (reach_law axis q small few)
    ∙ ap (λ axis. quotient (num_on axis q) axis.length) is
    ∙ axis_target component plane ends q

-- ---- on lanes

channel_is : (value other origin own quarter rest rise : ℕ) → value ≡ other → origin ≡ own
    → quarter ≡ rise / 4 → rest ≡ rise % 4
    → along_channel value origin quarter rest ≡ far_apart other own * rise
channel_is value other origin own quarter rest rise p q r s =
    let whole : 4 * quarter + rest ≡ rise = omega arith in
    rw (p, q, whole) refl

four_same : (a b c d e f g h : ℕ) → a ≡ e → b ≡ f → c ≡ g → d ≡ h
    → a + b + c + d ≡ e + f + g + h
four_same a b c d e f g h p q r s = omega arith

pub along_of : (axis : Axis) (q : Texel) (texels origins quarters rests : List ℕ) (t : ℕ)
    → IsTexelAt texels t q → IsTexelAt origins t (origins_of axis)
    → ((c : ℕ) → c < 4 → get_or quarters (4 * t + c) 0 ≡ channel c (rises_of axis) / 4)
    → ((c : ℕ) → c < 4 → get_or rests (4 * t + c) 0 ≡ channel c (rises_of axis) % 4)
    → along_lane texels origins quarters rests t ≡ reach_of axis q
along_of axis q texels origins quarters rests t texel origin quarter rest =
    let at : 4 * t ≡ 4 * t + 0 = omega arith in
    four_same _ _ _ _ _ _ _ _
    (channel_is _ _ _ _ _ _ _ (ap (λ k. get_or texels k 0) at ∙ texel 0 (omega arith))
    (ap (λ k. get_or origins k 0) at ∙ origin 0 (omega arith))
    (ap (λ k. get_or quarters k 0) at ∙ quarter 0 (omega arith))
    (ap (λ k. get_or rests k 0) at ∙ rest 0 (omega arith)))
    (channel_is _ _ _ _ _ _ _ (texel 1 (omega arith)) (origin 1 (omega arith))
    (quarter 1 (omega arith)) (rest 1 (omega arith)))
    (channel_is _ _ _ _ _ _ _ (texel 2 (omega arith)) (origin 2 (omega arith))
    (quarter 2 (omega arith)) (rest 2 (omega arith)))
    (channel_is _ _ _ _ _ _ _ (texel 3 (omega arith)) (origin 3 (omega arith))
    (quarter 3 (omega arith)) (rest 3 (omega arith)))

-- ---- the tables of one axis more

pub tables_more : (axes : List Axis) (n : ℕ) (firsts rises origins : List ℕ)
    → AreAxisTables axes n
    (record { firsts = firsts; rises = rises; origins = origins }) → n < 4
    → (first rise origin : List ℕ) → first ≡ (axis_at axes n).first
    → rise ≡ rises_of (axis_at axes n) → origin ≡ origins_of (axis_at axes n)
    → AreAxisTables axes (n + 1) (record {
      firsts = with_texel firsts n first;
      rises = with_texel rises n rise;
      origins = with_texel origins n origin;
    })
tables_more axes n firsts rises origins are few first rise origin p q r =
    let one : 4 * n + 3 < length firsts = let all = are.all_firsts in omega arith in
    let two : 4 * n + 3 < length rises = let all = are.all_rises in omega arith in
    let three : 4 * n + 3 < length origins = let all = are.all_origins in omega arith in
    record {
      all_firsts = all_lanes firsts n first ∙ are.all_firsts;
      all_rises = all_lanes rises n rise ∙ are.all_rises;
      all_origins = all_lanes origins n origin ∙ are.all_origins;
      firsts = lane_more firsts (λ part. (axis_at axes part).first) n one are.firsts first p;
      rises = lane_more rises (λ part. rises_of (axis_at axes part)) n two are.rises rise q;
      origins = lane_more origins (λ part. origins_of (axis_at axes part)) n three are.origins
          origin r;
    }

-- ---- the targets of four places more

pub targets_more : (component plane : ℕ) (parts : List ℕ) (ends : List Ends)
    (places : List (Option Texel)) (g : ℕ) (targets : List ℕ)
    → AreTargetsTo component plane parts ends places (4 * g) targets
    → 4 * g + 3 < length targets → (own : List ℕ)
    → ((c : ℕ) → c < 4 → channel c own
    ≡ place_target component plane parts ends places (4 * g + c))
    → ((c : ℕ) → c < 4 → channel c own ≤ 64)
    → AreTargetsTo component plane parts ends places (4 * g + 4) (with_texel targets g own)
targets_more component plane parts ends places g targets are room own is small =
    let new : List ℕ = with_texel targets g own in
    record {
      each = λ p l.
          elim (cases_lt p (4 * g)) [
            | inl before ↦ lane_below targets g own p before ∙ are.each p before
            | inr from ↦
                let at : 4 * g + (p - 4 * g) ≡ p = omega arith in
                subst (λ p. get_or new p 0 ≡ place_target component plane parts ends places p) at
                (own_lane targets g own room (p - 4 * g) (omega arith)
                ∙ is (p - 4 * g) (omega arith))
          ];
      small = λ p l.
          elim (cases_lt p (4 * g)) [
            | inl before ↦
                omega (arith, lane_below targets g own p before, are.small p before)
            | inr from ↦
                let at : 4 * g + (p - 4 * g) ≡ p = omega arith in
                subst (λ p. get_or new p 0 ≤ 64) at
                (omega (
                  arith,
                  own_lane targets g own room (p - 4 * g) (omega arith),
                  small (p - 4 * g) (omega arith),
                ))
          ];
    }

pub four_cases : (P : ℕ → Type 0) → P 0 → P 1 → P 2 → P 3 → (c : ℕ) → c < 4 → P c
four_cases P p q r s zero l = p
four_cases P p q r s (suc zero) l = q
four_cases P p q r s (suc (suc zero)) l = r
four_cases P p q r s (suc (suc (suc zero))) l = s
four_cases P p q r s (suc (suc (suc (suc c)))) l = absurd (omega arith)
