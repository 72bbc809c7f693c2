-- The arrays with the endpoints of each place, and with the table indices of its partition.
use Rattle.std.proofs.Common.{◌≡◌, ℕ, zero, suc, ◌+◌, ◌-◌, ◌*◌, ◌/◌, ◌<◌, List, [], ◌∷◌, length, get_or, refl, ap, sym, subst, ◌∙◌, arith, inl, inr}
use Rattle.std.proofs.lemmas.Bool.{cases_lt}
use Rattle.astc_model.specs.Places.{Texel, channel}
use Rattle.texel_lanes.specs.Lanes.{HasLanes, IsPutAt}
use Rattle.texel_error.specs.Colours.{with_texel}
use Rattle.texel_error.specs.PlaceColours.{AreColoursTo, AreEndTables, ArePartitionLanesTo, ArePicked}
use Rattle.texel_error.specs.Shown.{Ends}
use Rattle.texel_error.specs.declared.colours.EndTables.{EndTables}
use Rattle.texel_error.proofs.SourceLaws.{all_lanes, lane_above, lane_below, own_lane}

-- a step that stores the texel of one more place
pub lane_more : (lanes : List ℕ) (texel : ℕ → Texel) (n : ℕ) → 4 * n + 3 < length lanes
    → ((p c : ℕ) → p < n → c < 4 → get_or lanes (4 * p + c) 0 ≡ channel c (texel p))
    → (own : Texel) → own ≡ texel n → (p c : ℕ) → p < n + 1 → c < 4
    → get_or (with_texel lanes n own) (4 * p + c) 0 ≡ channel c (texel p)
lane_more lanes texel n room are own is p c below l =
    elim (cases_lt p n) [
      | inl before ↦
          lane_below lanes n own (4 * p + c) (omega arith) ∙ are p c before l
      | inr last ↦
          let same : n ≡ p = omega arith in
          subst (λ p. get_or (with_texel lanes n own) (4 * p + c) 0 ≡ channel c (texel p)) same
          (own_lane lanes n own room c l ∙ ap (channel c) is)
    ]

-- ---- the endpoints of partitions

pub tables_more : (ends : List Ends) (n : ℕ) (firsts seconds : List ℕ)
    → AreEndTables ends n (record { firsts = firsts; seconds = seconds }) → n < 4 → (own : Ends)
    → own ≡ get_or ends n ([], []) → AreEndTables ends (n + 1)
    (record { firsts = with_texel firsts n own.0; seconds = with_texel seconds n own.1 })
tables_more ends n firsts seconds are few own is =
    let room : 4 * n + 3 < length firsts = let all = are.all_firsts in omega arith in
    let other_room : 4 * n + 3 < length seconds = let all = are.all_seconds in omega arith in
    record {
      all_firsts = all_lanes firsts n own.0 ∙ are.all_firsts;
      all_seconds = all_lanes seconds n own.1 ∙ are.all_seconds;
      first = lane_more firsts (λ p. (get_or ends p ([], [])).0) n room are.first own.0
          (ap (λ pair. pair.0) is);
      second = lane_more seconds (λ p. (get_or ends p ([], [])).1) n other_room are.second own.1
          (ap (λ pair. pair.1) is);
    }

-- ---- the table indices of places

-- the table indices of a partition
abbrev pub entries : ℕ → List ℕ
entries part = 4 * part ∷ (4 * part + 1) ∷ (4 * part + 2) ∷ (4 * part + 3) ∷ []

entry_at : (part c : ℕ) → c < 4 → channel c (entries part) ≡ 4 * part + c
entry_at part zero l = omega arith
entry_at part (suc zero) l = refl
entry_at part (suc (suc zero)) l = refl
entry_at part (suc (suc (suc zero))) l = refl
entry_at part (suc (suc (suc (suc c)))) l = absurd (omega arith)

small_more : (lanes : List ℕ) (p part : ℕ) → 4 * p + 3 < length lanes → part < 4
    → ((k : ℕ) → get_or lanes k 0 < 16) → (k : ℕ)
    → get_or (with_texel lanes p (entries part)) k 0 < 16
small_more lanes p part room few small k =
    elim (cases_lt k (4 * p)) [
      | inl below ↦ omega (arith, lane_below lanes p (entries part) k below, small k)
      | inr from ↦
          elim (cases_lt k (4 * p + 4)) [
            | inl own ↦
                let at : 4 * p + (k - 4 * p) ≡ k = omega arith in
                subst (λ k. get_or (with_texel lanes p (entries part)) k 0 < 16) at
                (omega (
                  arith,
                  own_lane lanes p (entries part) room (k - 4 * p) (omega arith),
                  entry_at part (k - 4 * p) (omega arith),
                ))
            | inr above ↦
                omega (arith, lane_above lanes p (entries part) k above, small k)
          ]
    ]

pub partitions_more : (parts : List ℕ) (p : ℕ) (lanes : List ℕ)
    → ArePartitionLanesTo parts p lanes → p < 144 → (part : ℕ) → part ≡ get_or parts p 0
    → part < 4 → ArePartitionLanesTo parts (p + 1) (with_texel lanes p (entries part))
partitions_more parts p lanes are below part is few =
    let room : 4 * p + 3 < length lanes = let all = are.all in omega arith in
    record {
      all = all_lanes lanes p (entries part) ∙ are.all;
      each = λ q c l m.
          lane_more lanes (λ q. entries (get_or parts q 0)) p room
          (λ q c l m. are.each q c l m ∙ sym (entry_at (get_or parts q 0) c m)) (entries part)
          (ap entries is) q c l m
          ∙ entry_at (get_or parts q 0) c m;
      small = small_more lanes p part room few are.small;
    }

-- ---- look-ups of table entries

pub picked_more : (g : ℕ) (table entries lanes own picked bytes new : List ℕ) → entries ≡ table
    → HasLanes 16 own (λ k. get_or lanes (16 * g + k) 0)
    → HasLanes 16 picked (λ k. get_or entries (get_or own k 0) 0)
    → IsPutAt bytes (16 * g) picked new → ArePicked g table lanes bytes
    → ArePicked (g + 1) table lanes new
picked_more g table entries lanes own picked bytes new whole h picks put are = record {
  all = put.long ∙ are.all;
  each = λ k l.
      elim (cases_lt k (16 * g)) [
        | inl below ↦ put.below k below ∙ are.each k below
        | inr from ↦
            let at : 16 * g + (k - 16 * g) ≡ k = omega arith in
            subst (λ k. get_or new k 0 ≡ get_or table (get_or lanes k 0) 0) at
            (put.own (k - 16 * g) (omega arith) ∙ picks.each (k - 16 * g) (omega arith)
            ∙ ap (λ xs. get_or xs (get_or own (k - 16 * g) 0) 0) whole
            ∙ ap (λ i. get_or table i 0) (h.each (k - 16 * g) (omega arith)))
      ];
}

pub colours_of_picks : (w h : ℕ) (parts : List ℕ) (ends : List Ends) (lanes : List ℕ)
    (tables : EndTables) (first second : List ℕ)
    → ArePartitionLanesTo parts (4 * ((w * h + 3) / 4)) lanes
    → AreEndTables ends (length ends) tables
    → ((p : ℕ) → p < w * h → get_or parts p 0 < length ends)
    → ArePicked ((w * h + 3) / 4) tables.firsts lanes first
    → ArePicked ((w * h + 3) / 4) tables.seconds lanes second
    → AreColoursTo parts ends (w * h) (record { first = first; second = second })
colours_of_picks w h parts ends lanes tables first second are ends_are within one other =
    let n : ℕ = w * h in
    record {
      all_first = one.all;
      all_second = other.all;
      first = λ p c l m.
          one.each (4 * p + c) (omega arith)
          ∙ ap (λ k. get_or tables.firsts k 0) (are.each p c (omega arith) m)
          ∙ ends_are.first (get_or parts p 0) c (within p l) m;
      second = λ p c l m.
          other.each (4 * p + c) (omega arith)
          ∙ ap (λ k. get_or tables.seconds k 0) (are.each p c (omega arith) m)
          ∙ ends_are.second (get_or parts p 0) c (within p l) m;
    }
