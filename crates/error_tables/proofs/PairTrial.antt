-- The result of a trial of a pair is the error of the block with both integers changed; and the
-- list of pairs.
use Rattle.std.proofs.Common.{◌≡◌, ◌/◌, ℕ, suc, ◌+◌, ◌*◌, ◌<◌, ◌≤◌, ◌==◌, nat_lt, Bool, true, false, cond, List, length, get_or, set, take, drop, map, refl, ap, sym, subst, ◌∙◌, arith}
use Rattle.std.specs.Prelude.{sum_by, IsTrue}
use Rattle.std.proofs.lemmas.Bool.{eqb-true, ltb-true}
use Rattle.astc_model.specs.Levels.{count_of}
use Rattle.astc_model.specs.PairChanges.{has_pair, PairChange, pair_place}
use Rattle.astc_model.specs.Shapes.{colour_count}
use Rattle.std.proofs.lemmas.List.{drop-set-add, map-set}
use Rattle.std.proofs.Math.Seq.{take-set-lt}
use Rattle.astc_model.specs.Endpoints.{endpoint_integers, endpoint_colours}
use Rattle.astc_model.specs.ColourValues.{colour_value}
use Rattle.astc_model.specs.declared.level.Level.{Level}
use Rattle.astc_model.specs.CodedTexels.{part_colours, part_values}
use Rattle.astc_model.specs.declared.block.Coded.{Coded as CodedFields}
use Rattle.astc_model.specs.declared.block.Block.TheVariants.{Coded}
use Rattle.texel_error.specs.Shown.{Ends}
use Rattle.texel_error.specs.Shaped.{IsShaped}
use Rattle.texel_error.proofs.PartLaws.{part_fits}
use Rattle.error_tables.specs.State.{view_of, error_in}
use Rattle.error_tables.specs.Changed.{with_colour, HasColour}
use Rattle.error_tables.specs.Reached.{IsPartReach}
use Rattle.error_tables.specs.Trials.{coloured}
use Rattle.error_tables.specs.Kept.{IsKept}
use Rattle.error_tables.specs.declared.tables.Tables.{Tables}
use Rattle.error_tables.proofs.ChangedLaws.{shaped_colour}
use Rattle.error_tables.proofs.ColourLaws.{texel-other_part}
use Rattle.error_tables.proofs.PartTrial.{part_result}

-- both integers of a pair are among the part's
pub pair_within : (mode k : ℕ) → IsTrue (has_pair mode k) → k < mode / 4 + 1
pair_within mode k on = by_tests (mode == 6) (mode == 10) (eqb-true mode 10) on
  where
    by_tests : (six ten : Bool) → (ten ≡ true → mode ≡ 10)
        → IsTrue (cond six false (cond ten (k == 2) (nat_lt k (mode / 4 + 1)))) → k < mode / 4 + 1
    by_tests true ten is_ten on = let no : false ≡ true = on in absurd (cc)
    by_tests false true is_ten on = let same : k ≡ 2 = eqb-true k 2 on in let mode_is : mode ≡ 10 =
        is_ten refl in omega arith
    by_tests false false is_ten on = ltb-true k (mode / 4 + 1) on

module _ (w h : ℕ) (tables : Tables) (kept : IsKept w h tables)
    (q k : ℕ) (own : q < tables.block.parts) (pair : k < get_or tables.block.cems q 0 / 4 + 1) where
  abbrev i : ℕ
  i = pair_place tables.block q k

  pub place_fits : pair_place tables.block q k + 2 ≤ length tables.block.colours.items
  place_fits =
      let all = part_fits tables.block.cems q tables.block.parts own
      (omega (arith, kept.is_shaped.four_parts, kept.is_shaped.four_modes)) in
      omega (arith, pair, kept.is_shaped.legal.all_colours, all)

  pub has_first : HasColour tables.block q i
  has_first = record {
    own = own;
    one = omega (arith, own, kept.is_shaped.four_parts, kept.is_shaped.four_modes);
    from = omega arith;
    below = omega (arith, pair);
  }

  module _ (v u : ℕ) (v_range : v < count_of tables.level) (u_range : u < count_of tables.level)
    where
      pub has_second : HasColour (with_colour tables.block i v) q (suc i)
      has_second = record {
        own = own;
        one = has_first.one;
        from = omega arith;
        below = omega (arith, pair);
      }

      pub shaped_first : IsShaped w h (with_colour tables.block i v) tables.mode tables.level
      shaped_first = shaped_colour w h tables.block tables.mode tables.level i v kept.is_shaped
          v_range

      pub shaped_pair : IsShaped w h (with_colour (with_colour tables.block i v) (suc i) u)
          tables.mode tables.level
      shaped_pair = shaped_colour w h (with_colour tables.block i v) tables.mode tables.level
          (suc i) u shaped_first u_range

      pub pair_result : (reach : List ℕ) (ends : Ends) (less more : ℕ)
          → IsPartReach w h tables.block q tables.places.now reach
          → ends ≡ part_colours (with_colour (with_colour tables.block i v) (suc i) u) tables.level
          q
          → less ≡ sum_by (λ p. get_or tables.errors p 0) reach → more
          ≡ sum_by (λ p. coloured tables ends p) reach
          → error_in w h (view_of tables)
          (Coded (with_colour (with_colour tables.block i v) (suc i) u)) + less
          ≡ tables.total + more
      pair_result =
          part_result w h tables kept q (set (set tables.block.colours.items i v) (suc i) u)
          shaped_pair
          (λ x y few other.
          texel-other_part w h tables.decoded.flavour (with_colour tables.block i v) tables.mode
          tables.level kept.is_shaped.legal.mode_known kept.is_shaped.legal.no_colour_fault q
          (suc i) u x y has_second few other
          ∙ texel-other_part w h tables.decoded.flavour tables.block tables.mode tables.level
          kept.is_shaped.legal.mode_known kept.is_shaped.legal.no_colour_fault q i v x y has_first
          few other)

-- the block that the code makes
pub both_set : (block changed last : CodedFields) (place i v u : ℕ) → place ≡ i → changed
    ≡ with_colour block place v → last ≡ with_colour changed (place + 1) u
    → last ≡ with_colour (with_colour block i v) (suc i) u
both_set block changed last place i v u place_is changed_is last_is =
    let next : place + 1 ≡ suc i = omega arith in
    last_is ∙ ap (λ k. with_colour changed k u) next ∙ ap (λ b. with_colour b (suc i) u)
    (changed_is ∙ ap (λ k. with_colour block k v) place_is)

-- the first n of a list, with both of a pair replaced
pub take_pair : (n : ℕ) (l : List ℕ) (j v u : ℕ) → j + 1 < n → take n (set (set l j v) (j + 1) u)
    ≡ set (set (take n l) j v) (j + 1) u
take_pair n l j v u below = take-set-lt n (set l j v) (j + 1) u below
    ∙ ap (λ m. set m (j + 1) u) (take-set-lt n l j v (omega arith))

-- the values of a part, with both of a pair replaced
pub pair_values : (f : ℕ → ℕ) (items : List ℕ) (k n j v u : ℕ) → j + 1 < n
    → map f (take n (drop k (set (set items (k + j) v) (suc (k + j)) u)))
    ≡ set (set (map f (take n (drop k items))) j (f v)) (j + 1) (f u)
pair_values f items k n j v u below =
    let behind : suc (k + j) ≡ k + (j + 1) = omega arith in
    ap (λ i. map f (take n (drop k (set (set items (k + j) v) i u)))) behind
    ∙ ap (λ l. map f (take n l)) (drop-set-add k (set items (k + j) v) (j + 1) u
    ∙ ap (λ l. set l (j + 1) u) (drop-set-add k items j v))
    ∙ ap (map f) (take_pair n (drop k items) j v u below)
    ∙ map-set f (set (take n (drop k items)) j v) (j + 1) u
    ∙ ap (λ l. set l (j + 1) (f u)) (map-set f (take n (drop k items)) j v)

-- the ends of a part, with both of a pair replaced
pub pair_ends-is : (block : CodedFields) (level : Level) (q k v u cem : ℕ) (values : List ℕ) → cem
    ≡ get_or block.cems q 0 → k < cem / 4 + 1 → values ≡ part_values block level q
    → endpoint_colours cem (set (set values (2 * k) (colour_value level v)) (2 * k + 1)
    (colour_value level u))
    ≡ part_colours (with_colour (with_colour block (pair_place block q k) v)
    (suc (pair_place block q k)) u) level q
pair_ends-is block level q k v u cem values cem_is within values_are =
    rw (cem_is, values_are)
    (ap (endpoint_colours (get_or block.cems q 0))
    (sym (pair_values (colour_value level) block.colours.items (colour_count q block.cems)
    (endpoint_integers (get_or block.cems q 0)) (2 * k) v u
    (omega (arith, cem_is, within)))))

-- a change of a pair by its numbers
pub same_change : (part pair first second : ℕ) (change : PairChange) → change.part ≡ part
    → change.pair ≡ pair → change.first ≡ first → change.second ≡ second
    → (P : PairChange → Type 0)
    → P (record { part = part; pair = pair; first = first; second = second }) → P change
same_change part pair first second change part_is pair_is first_is second_is P here =
    subst (λ x. P (record {
      part = change.part;
      pair = change.pair;
      first = change.first;
      second = x;
    })) (sym second_is)
    (subst (λ x. P (record { part = change.part; pair = change.pair; first = x; second = second }))
    (sym first_is)
    (subst (λ x. P (record { part = change.part; pair = x; first = first; second = second }))
    (sym pair_is)
    (subst (λ x. P (record { part = x; pair = pair; first = first; second = second }))
    (sym part_is) here)))
