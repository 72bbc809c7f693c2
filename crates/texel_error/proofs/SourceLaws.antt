-- The texels of a source in arrays with four bytes for each place.
use Rattle.std.proofs.Common.{◌≡◌, ◌≢◌, ℕ, zero, suc, ◌+◌, ◌*◌, ◌/◌, ◌%◌, ◌<◌, ◌≤◌, List, [], ◌∷◌, length, length-set, replicate, get_or, get_or-set_other, get_or-set_same, set, Option, None, Some, refl, ap, sym, subst, ◌∙◌, arith, inl, inr}
use Rattle.std.specs.List.{All}
use Rattle.std.proofs.lemmas.Bool.{cases_lt}
use Rattle.std.proofs.lemmas.List.{get_or_past}
use Rattle.astc_model.specs.Places.{Texel, channel}
use Rattle.astc_model.specs.Sums.{sum_to}
use Rattle.astc_model.specs.Weights.{Weighting}
use Rattle.astc_model.specs.Errors.{place_error}
use Rattle.texel_lanes.specs.Lanes.{squared_apart}
use Rattle.texel_error.specs.Colours.{with_texel}
use Rattle.texel_error.specs.Orders.{AreGroups, AreSourceLanes, AreTexelLanes, IsTexelLane, lane_error, lane_sum}
use Rattle.texel_error.specs.declared.order.SourceLanes.{SourceLanes}

-- ---- a texel that is stored at a place

module _ (lanes : List ℕ) (p : ℕ) (texel : Texel) where
  pub all_lanes : length (with_texel lanes p texel) ≡ length lanes
  all_lanes = length-set _ (4 * p + 3) _ ∙ length-set _ (4 * p + 2) _ ∙ length-set _ (4 * p + 1) _
      ∙ length-set lanes (4 * p) _

  -- the lanes of other places are unchanged
  pub kept_lane : (k : ℕ) → k ≢ 4 * p → k ≢ 4 * p + 1 → k ≢ 4 * p + 2 → k ≢ 4 * p + 3
      → get_or (with_texel lanes p texel) k 0 ≡ get_or lanes k 0
  kept_lane k first second third fourth = get_or-set_other _ (4 * p + 3) k _ 0 fourth
      ∙ get_or-set_other _ (4 * p + 2) k _ 0 third ∙ get_or-set_other _ (4 * p + 1) k _ 0 second
      ∙ get_or-set_other lanes (4 * p) k _ 0 first

  pub lane_below : (k : ℕ) → k < 4 * p
      → get_or (with_texel lanes p texel) k 0 ≡ get_or lanes k 0
  lane_below k below = kept_lane k (λ same. omega arith) (λ same. omega arith)
      (λ same. omega arith) (λ same. omega arith)

  pub lane_above : (k : ℕ) → 4 * p + 4 ≤ k
      → get_or (with_texel lanes p texel) k 0 ≡ get_or lanes k 0
  lane_above k above = kept_lane k (λ same. omega arith) (λ same. omega arith)
      (λ same. omega arith) (λ same. omega arith)

  module _ (room : 4 * p + 3 < length lanes) where
    first_lane : get_or (with_texel lanes p texel) (4 * p) 0 ≡ channel 0 texel
    first_lane = get_or-set_other _ (4 * p + 3) (4 * p) _ 0 (λ same. omega arith)
        ∙ get_or-set_other _ (4 * p + 2) (4 * p) _ 0 (λ same. omega arith)
        ∙ get_or-set_other _ (4 * p + 1) (4 * p) _ 0 (λ same. omega arith)
        ∙ get_or-set_same lanes (4 * p) _ 0 (omega arith)

    second_lane : get_or (with_texel lanes p texel) (4 * p + 1) 0 ≡ channel 1 texel
    second_lane = get_or-set_other _ (4 * p + 3) (4 * p + 1) _ 0 (λ same. omega arith)
        ∙ get_or-set_other _ (4 * p + 2) (4 * p + 1) _ 0 (λ same. omega arith)
        ∙ get_or-set_same _ (4 * p + 1) _ 0
        (omega (arith, length-set lanes (4 * p) (channel 0 texel)))

    third_lane : get_or (with_texel lanes p texel) (4 * p + 2) 0 ≡ channel 2 texel
    third_lane =
        let first : List ℕ = set lanes (4 * p) (channel 0 texel) in
        get_or-set_other _ (4 * p + 3) (4 * p + 2) _ 0 (λ same. omega arith)
        ∙ get_or-set_same _ (4 * p + 2) _ 0
        (omega (
          arith,
          length-set lanes (4 * p) (channel 0 texel),
          length-set first (4 * p + 1)
              (channel 1 texel),
        ))

    fourth_lane : get_or (with_texel lanes p texel) (4 * p + 3) 0 ≡ channel 3 texel
    fourth_lane =
        let first : List ℕ = set lanes (4 * p) (channel 0 texel) in
        let second : List ℕ = set first (4 * p + 1) (channel 1 texel) in
        get_or-set_same _ (4 * p + 3) _ 0
        (omega (
          arith,
          length-set lanes (4 * p) (channel 0 texel),
          length-set first (4 * p + 1)
              (channel 1 texel),
          length-set second (4 * p + 2) (channel 2 texel),
        ))

    pub own_lane : (c : ℕ) → c < 4
        → get_or (with_texel lanes p texel) (4 * p + c) 0 ≡ channel c texel
    own_lane zero l = ap (λ k. get_or (with_texel lanes p texel) k 0) (omega arith) ∙ first_lane
    own_lane (suc zero) l = second_lane
    own_lane (suc (suc zero)) l = third_lane
    own_lane (suc (suc (suc zero))) l = fourth_lane
    own_lane (suc (suc (suc (suc c)))) l = absurd (omega arith)

-- ---- the texels of a source

-- the property of a place depends on its four lanes only
same_lane : (weights : Weighting) (texels gains new others : List ℕ) (q : ℕ)
    → ((c : ℕ) → c < 4 → get_or new (4 * q + c) 0 ≡ get_or texels (4 * q + c) 0)
    → ((c : ℕ) → c < 4 → get_or others (4 * q + c) 0 ≡ get_or gains (4 * q + c) 0)
    → (place : Option Texel) → IsTexelLane weights place texels gains q
    → IsTexelLane weights place new others q
same_lane weights texels gains new others q same_texels same_gains None is = λ c l.
    same_gains c l ∙ is c l
same_lane weights texels gains new others q same_texels same_gains (Some texel) is = λ c l.
    (same_gains c l ∙ (is c l).0, same_texels c l ∙ (is c l).1)

module _ (places : List (Option Texel)) (weights : Weighting) (p : ℕ) (texels gains : List ℕ)
    (are : AreTexelLanes places weights p texels gains) where
  pub lanes_more : (texel : Texel) → get_or places p None ≡ Some texel → p < 144
      → AreTexelLanes places weights (p + 1) (with_texel texels p texel)
      (with_texel gains p weights)
  lanes_more texel is below =
      let new : List ℕ = with_texel texels p texel in
      let others : List ℕ = with_texel gains p weights in
      record {
        all_texels = all_lanes texels p texel ∙ are.all_texels;
        all_gains = all_lanes gains p weights ∙ are.all_gains;
        each = λ q most.
            elim (cases_lt q p) [
              | inl before ↦
                  same_lane weights texels gains new others q
                  (λ c l. lane_below texels p texel (4 * q + c) (omega arith))
                  (λ c l. lane_below gains p weights (4 * q + c) (omega arith))
                  (get_or places q None) (are.each q before)
              | inr last ↦
                  let same : p ≡ q = omega arith in
                  subst (λ q. IsTexelLane weights (get_or places q None) new others q) same
                  (subst (λ place. IsTexelLane weights place new others p) (sym is)
                  (λ c l. (
                    own_lane gains p weights (omega (arith, are.all_gains)) c l,
                    own_lane texels p texel (omega (arith, are.all_texels)) c l,
                  )))
            ];
        rest = λ k most. lane_above gains p weights k (omega arith) ∙ are.rest k (omega arith);
      }

  pub lanes_skip : get_or places p None ≡ None → AreTexelLanes places weights (p + 1) texels gains
  lanes_skip is = record {
    all_texels = are.all_texels;
    all_gains = are.all_gains;
    each = λ q most.
        elim (cases_lt q p) [
          | inl before ↦ are.each q before
          | inr last ↦
              let same : p ≡ q = omega arith in
              subst (λ q. IsTexelLane weights (get_or places q None) texels gains q) same
              (subst (λ place. IsTexelLane weights place texels gains p) (sym is)
              (λ c l. are.rest (4 * p + c) (omega arith)))
        ];
    rest = λ k most. are.rest k (omega arith);
  }

pub lanes_none : (places : List (Option Texel)) (weights : Weighting) (texels gains : List ℕ)
    → length texels ≡ 576 → length gains ≡ 576 → ((k : ℕ) → get_or gains k 0 ≡ 0)
    → AreTexelLanes places weights 0 texels gains
lanes_none places weights texels gains all_texels all_gains none = record {
  all_texels = all_texels;
  all_gains = all_gains;
  each = λ p below. absurd (omega arith);
  rest = λ k most. none k;
}

-- an entry of a list of zeros is 0
pub zeros : (n k : ℕ) → ◌≡◌ {A = ℕ} (get_or (replicate n 0) k 0) 0
zeros zero k = refl
zeros (suc n) zero = refl
zeros (suc n) (suc k) = zeros n k

-- ---- the errors of lanes

no_product : (g x : ℕ) → g ≡ 0 → g * x ≡ 0
no_product g x none = rw none (omega arith)

nothing : (lanes : SourceLanes) (shown : ℕ → ℕ) (p : ℕ)
    → ((c : ℕ) → c < 4 → get_or lanes.gains (4 * p + c) 0 ≡ 0)
    → lane_sum (lane_error lanes shown) p ≡ 0
nothing lanes shown p none =
    let first : get_or lanes.gains (4 * p) 0 ≡ 0 =
    ap (λ k. get_or lanes.gains k 0) (omega arith) ∙ none 0 (omega arith) in
    omega (
      arith,
      no_product (get_or lanes.gains (4 * p) 0)
          (squared_apart (shown (4 * p)) (get_or lanes.texels (4 * p) 0)) first,
      no_product (get_or lanes.gains (4 * p + 1) 0)
          (squared_apart (shown (4 * p + 1)) (get_or lanes.texels (4 * p + 1) 0))
          (none 1 (omega arith)),
      no_product (get_or lanes.gains (4 * p + 2) 0)
          (squared_apart (shown (4 * p + 2)) (get_or lanes.texels (4 * p + 2) 0))
          (none 2 (omega arith)),
      no_product (get_or lanes.gains (4 * p + 3) 0)
          (squared_apart (shown (4 * p + 3)) (get_or lanes.texels (4 * p + 3) 0))
          (none 3 (omega arith)),
    )

lane_same : (gain own s t u : ℕ) → gain ≡ own → t ≡ u
    → gain * squared_apart s t ≡ own * squared_apart s u
lane_same gain own s t u p q = ap (λ g. g * squared_apart s t) p
    ∙ ap (λ t. own * squared_apart s t) q

sums_same : (a b c d e f g h : ℕ) → a ≡ e → b ≡ f → c ≡ g → d ≡ h
    → a + b + c + d ≡ 0 + e + f + g + h
sums_same a b c d e f g h p q r s = omega arith

error_at : (weights : Weighting) (lanes : SourceLanes) (shown : ℕ → ℕ) (p : ℕ)
    → (place : Option Texel) → IsTexelLane weights place lanes.texels lanes.gains p
    → lane_sum (lane_error lanes shown) p
    ≡ place_error weights (shown (4 * p) ∷ shown (4 * p + 1) ∷ shown (4 * p + 2)
    ∷ shown (4 * p + 3) ∷ []) place
unfolding sum_to
error_at weights lanes shown p None is = nothing lanes shown p is
error_at weights lanes shown p (Some texel) is =
    let at : 4 * p ≡ 4 * p + 0 = omega arith in
    let first = is 0 (omega arith) in
    let second = is 1 (omega arith) in
    let third = is 2 (omega arith) in
    let fourth = is 3 (omega arith) in
    sums_same _ _ _ _ _ _ _ _
    (lane_same _ _ (shown (4 * p)) _ _ (ap (λ k. get_or lanes.gains k 0) at ∙ first.0)
    (ap (λ k. get_or lanes.texels k 0) at ∙ first.1))
    (lane_same _ _ (shown (4 * p + 1)) _ _ second.0 second.1)
    (lane_same _ _ (shown (4 * p + 2)) _ _ third.0 third.1)
    (lane_same _ _ (shown (4 * p + 3)) _ _ fourth.0 fourth.1)

weight_small : (weights : Weighting) → All (λ weight. weight ≤ 15) weights → (c : ℕ)
    → get_or weights c 0 ≤ 15
weight_small weights small c =
    elim (cases_lt c (length weights)) [
      | inl below ↦ small c 0 below
      | inr past ↦ let none : get_or weights c 0 ≡ 0 = get_or_past weights c 0 past in omega arith
    ]

gain_small : (weights : Weighting) → All (λ weight. weight ≤ 15) weights → (texels gains : List ℕ)
    (p c : ℕ) → c < 4 → (place : Option Texel) → IsTexelLane weights place texels gains p
    → get_or gains (4 * p + c) 0 ≤ 15
gain_small weights small texels gains p c l None is = let none = is c l in omega arith
gain_small weights small texels gains p c l (Some texel) is =
    let own = (is c l).0 in
    let less = weight_small weights small c in
    omega arith

module _ (places : List (Option Texel)) (weights : Weighting) (n : ℕ) (lanes : SourceLanes)
    (small : All (λ weight. weight ≤ 15) weights)
    (are : AreTexelLanes places weights n lanes.texels lanes.gains)
    (groups : AreGroups places n lanes.groups.items) where
  small_gains : (k : ℕ) → get_or lanes.gains k 0 ≤ 15
  small_gains k =
      elim (cases_lt k (4 * n)) [
        | inl below ↦
            let at : k ≡ 4 * (k / 4) + k % 4 = omega arith in
            subst (λ k. get_or lanes.gains k 0 ≤ 15) (sym at)
            (gain_small weights small lanes.texels lanes.gains (k / 4) (k % 4) (omega arith)
            (get_or places (k / 4) None) (are.each (k / 4) (omega arith)))
        | inr past ↦ let none = are.rest k past in omega arith
      ]

  errors_are : (p : ℕ) (shown : ℕ → ℕ) → lane_sum (lane_error lanes shown) p
      ≡ place_error weights (shown (4 * p) ∷ shown (4 * p + 1) ∷ shown (4 * p + 2)
      ∷ shown (4 * p + 3) ∷ []) (get_or places p None)
  errors_are p shown =
      elim (cases_lt p n) [
        | inl below ↦
            error_at weights lanes shown p (get_or places p None) (are.each p below)
        | inr past ↦
            let none : get_or places p None ≡ None =
            get_or_past places p None (omega (arith, groups.all)) in
            nothing lanes shown p (λ c l. are.rest (4 * p + c) (omega arith))
            ∙ ap (place_error weights (shown (4 * p) ∷ shown (4 * p + 1) ∷ shown (4 * p + 2)
            ∷ shown (4 * p + 3) ∷ [])) (sym none)
      ]

  texels_are : (p c : ℕ) (texel : Texel) → p < n → c < 4 → get_or places p None ≡ Some texel
      → get_or lanes.texels (4 * p + c) 0 ≡ channel c texel
  texels_are p c texel below l is =
      let own : IsTexelLane weights (Some texel) lanes.texels lanes.gains p =
      subst (λ place. IsTexelLane weights place lanes.texels lanes.gains p) is
      (are.each p below) in
      (own c l).1

  pub source_is : AreSourceLanes places weights n lanes
  source_is = record {
    all_texels = are.all_texels;
    all_gains = are.all_gains;
    small = small_gains;
    errors = errors_are;
    groups = groups;
    texels = texels_are;
  }
