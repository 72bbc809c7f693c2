-- The result of a trial of one weight is the error of the changed block.
use Rattle.std.proofs.Common.{◌≡◌, ◌/◌, ◌%◌, ℕ, ◌+◌, ◌-◌, ◌*◌, ◌<◌, ◌≤◌, nat_lt, false, List, [], length, get_or, set, map, refl, ap, sym, ◌∙◌, arith, inl, inr, Option, None, Some}
use Rattle.std.specs.Prelude.{sum_by, is_some}
use Rattle.std.specs.List.{All}
use Rattle.std.proofs.lemmas.Bool.{cases_eq, and_cases, ltb-false}
use Rattle.std.proofs.lemmas.List.{get_or-set_same, get_or-set_other, length-map}
use Rattle.std.proofs.lemmas.List.Elements.{All-set}
use Rattle.astc_model.specs.Sums.{sum_to}
use Rattle.astc_model.specs.Places.{Texel}
use Rattle.astc_model.specs.Errors.{place_error, error}
use Rattle.astc_model.specs.Levels.{count_of}
use Rattle.astc_model.specs.WeightValues.{weight_value}
use Rattle.astc_model.specs.CodedTexels.{plane_weights}
use Rattle.astc_model.specs.declared.mode.Mode.{Mode}
use Rattle.astc_model.specs.declared.block.Block.TheVariants.{Coded}
use Rattle.texel_error.specs.Counting.{is_inside, count_on}
use Rattle.texel_error.specs.Numerators.{numerator}
use Rattle.texel_error.specs.Shaped.{IsShaped}
use Rattle.texel_error.specs.Decoding.{ends_at, numerators_at, numerator_at}
use Rattle.astc_model.proofs.FootprintLaws.{sides_few}
use Rattle.texel_error.proofs.ListLaws.{sum_by-same}
use Rattle.texel_error.proofs.TexelLaws.{shown_of-is, ends_at-is, planes_are}
use Rattle.error_tables.specs.State.{view_of, error_in}
use Rattle.error_tables.specs.Changed.{with_weight}
use Rattle.weight_infill.specs.Touched.{factor_of}
use Rattle.error_tables.specs.Reached.{is_touched_inside, IsReach}
use Rattle.error_tables.specs.Trials.{error_with, moved_at, weighed}
use Rattle.error_tables.specs.Kept.{error_at, IsKept}
use Rattle.error_tables.specs.declared.tables.Tables.{Tables}
use Rattle.error_tables.proofs.ChangedLaws.{shaped_weight}
use Rattle.error_tables.proofs.ReachLaws.{changed_sum, count_is, count_on-le, sum_by-map}
use Rattle.error_tables.proofs.TouchLaws.{numerator-set, numerator-le, plane_weights-other, plane_weights-own, plane_weights-at, plane_weights-length, plane_weights-le, plane-lt, point-lt}
use Rattle.error_tables.proofs.ColourLaws.{texel-untouched}

exchanged : (a b f old new : ℕ) → a + old * f ≡ b + new * f → b + f * new - f * old ≡ a
exchanged a b f old new h = omega (arith, h)

pub outside : (place : Option Texel) → is_some place ≡ false → place ≡ None
outside None h = refl
outside (Some t) h = cc

module _ (w h : ℕ) (tables : Tables) (kept : IsKept w h tables)
    (i v : ℕ) (inside : i < length tables.block.weights.items)
    (range : v < count_of tables.mode.level) where
  pub point_is : i / tables.mode.planes < tables.mode.across * tables.mode.down
  point_is =
      let all : i < tables.mode.across * tables.mode.down * tables.mode.planes =
      rw kept.is_shaped.all_weights at inside in
      point-lt tables.mode.planes i (tables.mode.across * tables.mode.down)
      kept.is_shaped.some_plane kept.is_shaped.two_planes all

  changed : IsShaped w h (with_weight tables.block i v) tables.mode tables.level
  changed = shaped_weight w h tables.block tables.mode tables.level i v kept.is_shaped range

  abbrev factor_at : ℕ → ℕ
  factor_at p = factor_of w h tables.mode.across tables.mode.down (i / tables.mode.planes) (p % w)
      (p / w)

  abbrev old_value : ℕ
  old_value = weight_value tables.mode.level (get_or tables.block.weights.items i 0)

  abbrev new_value : ℕ
  new_value = weight_value tables.mode.level v

  -- the numerators after the change
  own-is : (p : ℕ) → p < w * h
      → get_or (numerators_at tables.decoded p) (i % tables.mode.planes) 0 + factor_at
      p * new_value - factor_at p * old_value
      ≡ numerator_at w h (with_weight tables.block i v) tables.mode (i % tables.mode.planes) p
  own-is p below =
      let plane : ℕ = i % tables.mode.planes in
      let small : plane < tables.mode.planes =
      plane-lt tables.mode.planes i kept.is_shaped.some_plane kept.is_shaped.two_planes in
      let points : List ℕ = plane_weights tables.block tables.mode plane in
      let long : i / tables.mode.planes < length points =
      rw (plane_weights-length tables.block tables.mode plane) point_is in
      let value : get_or points (i / tables.mode.planes) 0 ≡ old_value =
      plane_weights-at tables.block tables.mode i kept.is_shaped.some_plane
      kept.is_shaped.two_planes point_is
      in
      let law : numerator w h tables.mode.across tables.mode.down (p % w) (p / w)
      (set points (i / tables.mode.planes) new_value) + old_value * factor_at p
      ≡ numerator_at w h tables.block tables.mode plane p + new_value * factor_at p =
      rw value at (numerator-set w h tables.mode.across tables.mode.down (p % w) (p / w) points
      (i / tables.mode.planes) new_value long)
      in
      rw (plane_weights-own tables.block tables.mode i v kept.is_shaped.some_plane
      kept.is_shaped.two_planes inside)
      (rw (kept.is_decoded.numerators_are p plane below small)
      (exchanged _ _ (factor_at p) old_value new_value law))

  pub moved-is : (p q : ℕ) → p < w * h → q < tables.mode.planes
      → get_or (moved_at tables (i % tables.mode.planes) old_value new_value p (factor_at p)) q 0
      ≡ numerator_at w h (with_weight tables.block i v) tables.mode q p
  moved-is p q below is =
      elim (cases_eq q (i % tables.mode.planes)) [
        | inl own ↦
            let plane : ℕ = i % tables.mode.planes in
            let pair : List ℕ = numerators_at tables.decoded p in
            let small : plane < tables.mode.planes =
            plane-lt tables.mode.planes i kept.is_shaped.some_plane kept.is_shaped.two_planes in
            let two : plane < length pair =
            omega (arith, kept.is_decoded.pairs p below, kept.is_shaped.two_planes) in
            rw own (get_or-set_same pair plane
            (get_or pair plane 0 + factor_at p * new_value - factor_at p * old_value) 0 two
            ∙ own-is p below)
        | inr other ↦
            rw (plane_weights-other tables.block tables.mode i v q kept.is_shaped.some_plane
            kept.is_shaped.two_planes is other)
            (get_or-set_other (numerators_at tables.decoded p) (i % tables.mode.planes) q _ 0 other
            ∙ kept.is_decoded.numerators_are p q below is)
      ]

  -- the error of a place after it
  pub weighed-is : (p : ℕ) → p < w * h
      → weighed tables (i % tables.mode.planes) old_value new_value p (factor_at p)
      ≡ error_at w h tables (with_weight tables.block i v) p
  unfolding weighed error_with
  weighed-is p below =
      ap (λ texel. place_error tables.weights texel (get_or tables.places.now p None))
      (shown_of-is w h tables.decoded.flavour (with_weight tables.block i v) tables.mode
      tables.level changed (p % w) (p / w)
      tables.decoded.plane (ends_at tables.decoded p)
      (moved_at tables (i % tables.mode.planes) old_value new_value p (factor_at p))
      kept.is_decoded.plane_is
      (ends_at-is w h tables.decoded.flavour tables.block tables.mode tables.level kept.is_shaped
      tables.decoded kept.is_decoded p below)
      (λ q within. moved-is p q below within))

  -- the places that it does not reach
  pub untouched_stays : (p : ℕ) → p < w * h → is_touched_inside w h tables.mode
      (i / tables.mode.planes) tables.places.now p ≡ false
      → error_at w h tables (with_weight tables.block i v) p ≡ error_at w h tables tables.block p
  untouched_stays p below off =
      elim (and_cases (is_inside tables.places.now p) (nat_lt 0 (factor_at p)) off) [
        | inl out ↦ let none : get_or tables.places.now p None ≡ None =
            outside (get_or tables.places.now p None) out in rw none refl
        | inr free ↦
            let least : factor_at p ≤ 0 = ltb-false 0 (factor_at p) free in
            let none : factor_at p ≡ 0 = omega arith in
            ap (λ texel. place_error tables.weights texel (get_or tables.places.now p None))
            (texel-untouched w h tables.decoded.flavour tables.block tables.mode tables.level
            kept.is_shaped.legal.mode_known kept.is_shaped.legal.no_colour_fault i v (p % w)
            (p / w)
            kept.is_shaped.some_plane kept.is_shaped.two_planes inside point_is
            (planes_are w h tables.decoded.flavour tables.block tables.mode tables.level
            kept.is_shaped) none)
      ]

  -- so the kept sum, what the touched places had and what they have give the error of the changed
  -- block
  pub weight_sum : (reach : List (ℕ × ℕ))
      → IsReach w h tables.mode (i / tables.mode.planes) tables.places.now reach
      → error_in w h (view_of tables) (Coded (with_weight tables.block i v)) + sum_by
      (λ touch. get_or tables.errors touch.0 0) reach
      ≡ tables.total + sum_by
      (λ touch. weighed tables (i % tables.mode.planes) old_value new_value touch.0 touch.1)
      reach
  unfolding error
  weight_sum reach is =
      let old_at : ℕ → ℕ = error_at w h tables tables.block in
      let new_at : ℕ → ℕ = error_at w h tables (with_weight tables.block i v) in
      let law : sum_to new_at (w * h) + sum_by old_at (map (λ touch. touch.0) reach)
      ≡ sum_to old_at (w * h) + sum_by new_at (map (λ touch. touch.0) reach) =
      changed_sum old_at new_at
      (is_touched_inside w h tables.mode (i / tables.mode.planes) tables.places.now) (w * h)
      (map (λ touch. touch.0) reach) is.are untouched_stays
      in
      let less : sum_by old_at (map (λ touch. touch.0) reach)
      ≡ sum_by (λ touch. get_or tables.errors touch.0 0) reach =
      sum_by-map old_at (λ touch. touch.0) reach
      ∙ sum_by-same (λ touch. old_at touch.0) (λ touch. get_or tables.errors touch.0 0) reach
      (λ k d lt. sym (kept.errors_are _ (is.within k d lt)))
      in
      let more : sum_by new_at (map (λ touch. touch.0) reach)
      ≡ sum_by (λ touch. weighed tables (i % tables.mode.planes) old_value new_value touch.0
      touch.1) reach =
      sum_by-map new_at (λ touch. touch.0) reach
      ∙ sum_by-same (λ touch. new_at touch.0)
      (λ touch. weighed tables (i % tables.mode.planes) old_value new_value touch.0 touch.1)
      reach
      (λ k d lt. sym (rw (is.factors_are k d lt) (weighed-is _ (is.within k d lt))))
      in
      let total : tables.total ≡ sum_to old_at (w * h) = kept.total_is in
      omega (arith, law, less, more, total)

  -- the same with names for what the code has
  pub weight_result : (reach : List (ℕ × ℕ)) (plane old new less more : ℕ)
      → IsReach w h tables.mode (i / tables.mode.planes) tables.places.now reach
      → plane ≡ i % tables.mode.planes → old ≡ old_value → new ≡ new_value
      → less ≡ sum_by (λ touch. get_or tables.errors touch.0 0) reach → more
      ≡ sum_by (λ touch. weighed tables plane old new touch.0 touch.1) reach
      → error_in w h (view_of tables) (Coded (with_weight tables.block i v)) + less
      ≡ tables.total + more
  weight_result reach plane old new less more is plane_is old_is new_is less_is more_is =
      let all : more ≡ sum_by
      (λ touch. weighed tables (i % tables.mode.planes) old_value new_value touch.0 touch.1)
      reach = rw (plane_is, old_is, new_is) at more_is in
      omega (arith, all, less_is, weight_sum reach is)

  -- the numerators stay small
  pub moved_small : (p : ℕ) → p < w * h
      → All (λ n. n ≤ 1024) (moved_at tables (i % tables.mode.planes) old_value new_value p
      (factor_at p))
  moved_small p below =
      let few : w * h ≤ 144 = sides_few w h kept.sides in
      let plane : ℕ = i % tables.mode.planes in
      let small : plane < tables.mode.planes =
      plane-lt tables.mode.planes i kept.is_shaped.some_plane kept.is_shaped.two_planes in
      let least : numerator_at w h (with_weight tables.block i v) tables.mode plane p ≤ 1024 =
      numerator-le w h tables.mode.across tables.mode.down (p % w) (p / w)
      (plane_weights (with_weight tables.block i v) tables.mode plane)
      (plane_weights-le (with_weight tables.block i v) tables.mode plane small changed.weight_ranges
      changed.all_weights)
      in
      All-set (λ n. n ≤ 1024) (numerators_at tables.decoded p) plane _ (rw (own-is p below) least)
      (kept.small.sound.small_numerators p [] (omega (arith, kept.small.sound.all_numerators)))

  pub all_small : (reach : List (ℕ × ℕ)) (plane old new : ℕ)
      → IsReach w h tables.mode (i / tables.mode.planes) tables.places.now reach
      → plane ≡ i % tables.mode.planes → old ≡ old_value → new ≡ new_value
      → All (λ touch. All (λ n. n ≤ 1024) (moved_at tables plane old new touch.0 touch.1)) reach
  all_small reach plane old new is plane_is old_is new_is =
      λ k d lt. rw (plane_is, old_is, new_is, is.factors_are k d lt)
      (moved_small _ (is.within k d lt))

-- as many places are touched as the list has
pub reach_count : (w h : ℕ) (mode : Mode) (point : ℕ) (places : List (Option Texel))
    (reach : List (ℕ × ℕ)) → IsReach w h mode point places reach
    → length reach ≡ count_on (is_touched_inside w h mode point places) (w * h)
reach_count w h mode point places reach is =
    sym (length-map reach (λ touch. touch.0)) ∙ count_is (is_touched_inside w h mode point places)
    (w * h) (map (λ touch. touch.0) reach) is.are

pub reach_few : (w h : ℕ) (mode : Mode) (point : ℕ) (places : List (Option Texel))
    (reach : List (ℕ × ℕ)) → IsReach w h mode point places reach → length reach ≤ w * h
reach_few w h mode point places reach is = rw (reach_count w h mode point places reach is)
    (count_on-le (is_touched_inside w h mode point places) (w * h))
