-- The endpoints at a level are computed from ideal values that all levels share.
use Rattle.std.proofs.Common.{◌≡◌, ℕ, ◌+◌, ◌<◌, ◌≤◌, List, [], ◌∷◌, ◌++◌, length, length-append, take, map, ap, sym, ◌∙◌, arith, inl, inr}
use Rattle.std.specs.Prelude.{slice_index_or}
use Rattle.std.specs.List.{range_with_len}
use Rattle.std.proofs.Math.Seq.{take_all}
use Rattle.std.proofs.lemmas.Bool.{cases_eq}
use Rattle.std.proofs.lemmas.List.{get_or_push, get_or_append_left}
use Rattle.std.proofs.lemmas.Simd.{map-map}
use Rattle.arrayvec.specs.ArrayVec.{ArrayVec}
use Rattle.astc_model.specs.ColourValues.{colour_value}
use Rattle.astc_model.specs.Endpoints.{endpoint_colours}
use Rattle.astc_model.specs.Ideal.{ideal}
use Rattle.astc_model.specs.Nearest.{nearest_colour}
use Rattle.astc_model.specs.Candidates.{Ends, integers_of, ends_of}
use Rattle.astc_model.specs.declared.bounds.Box8.{Box8}
use Rattle.astc_model.specs.declared.level.Level.{Level}
use Rattle.astc_model.specs.declared.recipe.Recipe.{Recipe}
use Rattle.candidates.specs.Pieces.{no_bounds, integers_from, ends_of_part_from, ends_from}
use Rattle.quant_tables.specs.Tables.{nearest_colour_value}
use Rattle.candidates.specs.LevelColours.{ideal_from, ideal_at, AreIdealsTo}
use Rattle.candidates.proofs.LoopLaws.{ends_more}

-- the values of the closest integers give the endpoints of these integers
pub ends_near-is : (cem : ℕ) (level : Level) (wanted : List ℕ) (n : ℕ) → length wanted ≤ n
    → (values slice : List ℕ) (ends : Ends) → values ≡ map (nearest_colour_value level)
    (take n wanted) → slice ≡ values
    → ends ≡ endpoint_colours cem slice → ends
    ≡ ends_of cem level (map (nearest_colour level) wanted)
unfolding ends_of
ends_near-is cem level wanted n whole values slice ends values_are same is =
    is
    ∙ ap (endpoint_colours cem) (same ∙ values_are ∙ ap (map (nearest_colour_value level))
    (take_all n wanted whole)
    ∙ sym (map-map (colour_value level) (nearest_colour level) wanted))

-- a step of the loop over partitions that computes the ideal values
pub ideals_more : (recipe : Recipe) (bounds : List Box8) (n i : ℕ) (old new : List (ArrayVec ℕ))
    (last : ArrayVec ℕ) → new ≡ old ++ last ∷ [] → AreIdealsTo recipe bounds n old → i ≡ n
    → last.items ≡ ideal recipe.cem recipe.flip (slice_index_or bounds i no_bounds).lo
    (slice_index_or bounds i no_bounds).hi → AreIdealsTo recipe bounds (n + 1) new
ideals_more recipe bounds n i old new last new_is are place own = rw new_is (record {
  all = omega (arith, are.all, length-append old (last ∷ []));
  each = λ part below. elim (cases_eq part n) [
    | inl same ↦
        let here : ideal_at (old ++ last ∷ []) n ≡ last.items =
        ap (λ one. one.items) (get_or_push old last (record { items = [] }) n are.all) in
        let its : last.items ≡ ideal_from recipe bounds n = own
        ∙ ap (ideal_from recipe bounds) place in
        rw same (here ∙ its)
    | inr other ↦ ap (λ one. one.items)
        (get_or_append_left old (last ∷ []) (record { items = [] }) part (omega (arith, are.all)))
        ∙ are.each part (omega arith)
  ];
})

module _ (recipe : Recipe) (level : Level) (bounds : List Box8) (ideals : List (ArrayVec ℕ))
    (are : AreIdealsTo recipe bounds recipe.parts ideals) where
  own_ends : (k : ℕ) → k < recipe.parts
      → ends_of recipe.cem level (map (nearest_colour level) (ideal_at ideals k))
      ≡ ends_of_part_from recipe level bounds k
  unfolding ends_of_part_from integers_from integers_of
  own_ends k below = ap (λ values. ends_of recipe.cem level (map (nearest_colour level) values))
      (are.each k below)

  -- a step of the loop over partitions that computes the endpoints
  pub level_ends_more : (k : ℕ) → k < length ideals → (slice : List ℕ) (ends : Ends)
      (old new : List Ends) → slice ≡ ideal_at ideals k → ends
      ≡ ends_of recipe.cem level (map (nearest_colour level) slice)
      → new ≡ old ++ ends ∷ [] → old ≡ map (ends_of_part_from recipe level bounds)
      (range_with_len 0 k) → new ≡ map (ends_of_part_from recipe level bounds)
      (range_with_len 0 (k + 1))
  level_ends_more k below slice ends old new slice_is ends_are new_is old_is =
      ends_more (ends_of_part_from recipe level bounds) k new old ends new_is
      (ends_are ∙ ap (λ values. ends_of recipe.cem level (map (nearest_colour level) values))
      slice_is ∙ own_ends k (omega (arith, are.all)))
      old_is

  -- the endpoints of all partitions
  pub level_ends_all : (n : ℕ) → length ideals ≤ n → n ≤ length ideals → (ends : List Ends) → ends
      ≡ map (ends_of_part_from recipe level bounds) (range_with_len 0 n) → ends
      ≡ ends_from recipe level bounds
  unfolding ends_from
  level_ends_all n whole within ends is =
      let count : n ≡ recipe.parts = omega (arith, are.all) in
      is ∙ ap (λ k. map (ends_of_part_from recipe level bounds) (range_with_len 0 k)) count
