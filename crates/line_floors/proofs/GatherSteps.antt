-- The sums after one more place.
use Rattle.std.proofs.Common.{◌≡◌, ℕ, zero, suc, ◌+◌, ◌*◌, ◌<◌, ◌≤◌, ◌==◌, true, false, List, [], ◌∷◌, Option, None, length, get_or, set, subst, sym, ◌∙◌, add-one, arith, inl, inr}
use Rattle.std.specs.Prelude.{slice_index_or}
use Rattle.std.specs.List.{All}
use Rattle.std.proofs.lemmas.Bool.{cases_eq, eq-eqb, ne_eqb}
use Rattle.std.proofs.lemmas.List.{get_or-set_same, get_or-set_other}
use Rattle.std.proofs.lemmas.List.Elements.{All-set, All-weaker, All-cons, All-nil}
use Rattle.astc_model.specs.Places.{Texel}
use Rattle.astc_model.specs.declared.flavour.Flavour.{Flavour}
use Rattle.line_floors.specs.declared.part_sums.PartitionSums.{PartitionSums}
use Rattle.line_floors.specs.Sums.{no_sums, no_part, with_place, sums_below, AreSumsWithin}

sums_more : (most n : ℕ) (sums : List ℕ) → All (λ sum. sum ≤ most * n) sums
    → All (λ sum. sum ≤ most * (n + 1)) sums
sums_more most n sums small = All-weaker (λ sum. sum ≤ most * n) (λ sum. sum ≤ most * (n + 1))
    (λ sum le. omega (arith, le)) sums small

-- the ranges for fewer texels are within those for more
within_one_more : (n : ℕ) (part_sums : PartitionSums) → AreSumsWithin n part_sums
    → AreSumsWithin (n + 1) part_sums
within_one_more n part_sums is = record {
  count_within = omega (arith, is.count_within);
  sums_within = sums_more 130815 n part_sums.sums is.sums_within;
  red_within = sums_more 17112564225 n part_sums.red is.red_within;
  green_within = sums_more 17112564225 n part_sums.green is.green_within;
  blue_within = sums_more 17112564225 n part_sums.blue is.blue_within;
  alpha_within = sums_more 17112564225 n part_sums.alpha is.alpha_within;
}

pub all_within_set : (n i : ℕ) (sums : List PartitionSums) (new : PartitionSums)
    → All (AreSumsWithin n) sums → AreSumsWithin (n + 1) new
    → All (AreSumsWithin (n + 1)) (set sums i new)
all_within_set n i sums new within own =
    All-set (AreSumsWithin (n + 1)) sums i new own
    (All-weaker (AreSumsWithin n) (AreSumsWithin (n + 1)) (λ part_sums is.
    within_one_more n part_sums is) sums within)

pub sums_none : (flavour : Flavour) (places : List (Option Texel)) (parts : List ℕ)
    (none : PartitionSums) → none ≡ no_sums → (part : ℕ) → part < 4
    → get_or (none ∷ none ∷ none ∷ none ∷ []) part no_part ≡ sums_below flavour places parts part 0
unfolding sums_below
sums_none flavour places parts none same zero below = same
sums_none flavour places parts none same (suc zero) below = same
sums_none flavour places parts none same (suc (suc zero)) below = same
sums_none flavour places parts none same (suc (suc (suc zero))) below = same
sums_none flavour places parts none same (suc (suc (suc (suc part)))) below = absurd (omega arith)

pub sums_more_at : (flavour : Flavour) (places : List (Option Texel)) (parts : List ℕ) (n i : ℕ)
    (sums : List PartitionSums) (new : PartitionSums) → length sums ≡ 4 → i < 4
    → i ≡ get_or parts n 0 → new ≡ with_place flavour (get_or sums i no_part)
    (slice_index_or places n None)
    → ((part : ℕ) → part < 4 → get_or sums part no_part ≡ sums_below flavour places parts part n)
    → (part : ℕ) → part < 4 → get_or (set sums i new) part no_part
    ≡ sums_below flavour places parts part (n + 1)
unfolding sums_below
sums_more_at flavour places parts n i sums new all within i_is new_is are part below =
    rw (add-one n, ← i_is)
    (elim (cases_eq i part) [
      | inl same ↦
          let own : (i == part) ≡ true = eq-eqb i part same in
          let set_is : get_or (set sums i new) part no_part ≡ new =
          rw (← same) (get_or-set_same sums i new no_part (omega arith)) in
          let old_is : get_or sums i no_part ≡ sums_below flavour places parts part n =
          rw same (are part below) in
          rw own (set_is ∙ rw old_is at new_is)
      | inr other ↦
          let out : (i == part) ≡ false = ne_eqb i part other in
          rw out (get_or-set_other sums i part new no_part (λ same. other (sym same))
          ∙ are part below)
    ])

nothing_within : (m : ℕ) → All (λ sum. sum ≤ m * 0) (0 ∷ 0 ∷ 0 ∷ 0 ∷ [])
nothing_within m =
    All-cons (λ sum. sum ≤ m * 0) 0 (0 ∷ 0 ∷ 0 ∷ []) (omega arith)
    (All-cons (λ sum. sum ≤ m * 0) 0 (0 ∷ 0 ∷ []) (omega arith)
    (All-cons (λ sum. sum ≤ m * 0) 0 (0 ∷ []) (omega arith)
    (All-cons (λ sum. sum ≤ m * 0) 0 [] (omega arith) (All-nil (λ sum. sum ≤ m * 0)))))

none_within : AreSumsWithin 0 no_sums
none_within = record {
  count_within = omega arith;
  sums_within = nothing_within 130815;
  red_within = nothing_within 17112564225;
  green_within = nothing_within 17112564225;
  blue_within = nothing_within 17112564225;
  alpha_within = nothing_within 17112564225;
}

pub all_within_none : (none : PartitionSums) → none ≡ no_sums
    → All (AreSumsWithin 0) (none ∷ none ∷ none ∷ none ∷ [])
all_within_none none same =
    let within : AreSumsWithin 0 none = subst (AreSumsWithin 0) (sym same) none_within in
    All-cons (AreSumsWithin 0) none (none ∷ none ∷ none ∷ []) within
    (All-cons (AreSumsWithin 0) none (none ∷ none ∷ []) within
    (All-cons (AreSumsWithin 0) none (none ∷ []) within
    (All-cons (AreSumsWithin 0) none [] within (All-nil (AreSumsWithin 0)))))
