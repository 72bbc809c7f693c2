-- The lists of reached places, place by place.
use Rattle.std.proofs.Common.{◌≡◌, ◌/◌, ◌%◌, ℕ, ◌+◌, ◌*◌, ◌<◌, ◌==◌, ◌&&◌, true, false, List, [], ◌∷◌, ◌++◌, map, sym, subst, arith, Option}
use Rattle.std.specs.List.{All}
use Rattle.std.proofs.lemmas.List.{map-append}
use Rattle.arrayvec.specs.ArrayVec.{ArrayVec}
use Rattle.error_tables.specs.PartReaches.{ArePartReaches, reach_at}
use Rattle.texel_error.specs.Counting.{is_inside}
use Rattle.std.proofs.lemmas.List.Elements.{All-push}
use Rattle.astc_model.specs.Places.{Texel}
use Rattle.astc_model.specs.Partitions.{part_of}
use Rattle.astc_model.specs.declared.mode.Mode.{Mode}
use Rattle.astc_model.specs.declared.block.Coded.{Coded as CodedFields}
use Rattle.weight_infill.specs.Touched.{factor_of}
use Rattle.error_tables.specs.Reached.{ArePlaces, is_touched_inside, is_part_inside, IsReachBelow, IsPartReachBelow}
use Rattle.error_tables.proofs.ReachLaws.{none, taken, left_out}

-- ---- the places that a point touches

module _ (w h : ℕ) (mode : Mode) (point : ℕ) (places : List (Option Texel)) where
  pub touch_none : IsReachBelow w h mode point places 0 []
  touch_none = record {
    are = none (is_touched_inside w h mode point places);
    within = λ k d lt.
        absurd (omega arith);
    factors_are = λ k d lt. absurd (omega arith);
  }

  pub touch_taken : (n f : ℕ) (reach : List (ℕ × ℕ)) → IsReachBelow w h mode point places n reach
      → n < w * h → is_touched_inside w h mode point places n ≡ true
      → f ≡ factor_of w h mode.across mode.down point (n % w) (n / w)
      → IsReachBelow w h mode point places (n + 1) (reach ++ (n, f) ∷ [])
  touch_taken n f reach is below on f_is = record {
    are = rw (map-append (λ touch. touch.0) reach ((n, f) ∷ []))
        (taken (is_touched_inside w h mode point places) n (map (λ touch. touch.0) reach) is.are
        on);
    within = All-push (λ touch. touch.0 < w * h) reach (n, f) is.within below;
    factors_are = All-push (λ touch. touch.1 ≡ factor_of w h mode.across mode.down point
        (touch.0 % w) (touch.0 / w)) reach (n, f) is.factors_are f_is;
  }

  pub touch_left : (n : ℕ) (reach : List (ℕ × ℕ)) → IsReachBelow w h mode point places n reach
      → is_touched_inside w h mode point places n ≡ false
      → IsReachBelow w h mode point places (n + 1) reach
  touch_left n reach is off =
      record {
        are = left_out (is_touched_inside w h mode point places) n
            (map (λ touch. touch.0) reach) is.are off;
        within = is.within;
        factors_are = is.factors_are;
      }

-- ---- the places of a part

module _ (w h : ℕ) (block : CodedFields) (part : ℕ) (places : List (Option Texel)) where
  pub part_none : IsPartReachBelow w h block part places 0 []
  part_none = record {
    are = none (is_part_inside w h block part places);
    within = λ k d lt.
        absurd (omega arith);
    parts_are = λ k d lt. absurd (omega arith);
  }

  pub part_taken : (n : ℕ) (reach : List ℕ) → IsPartReachBelow w h block part places n reach
      → n < w * h → is_part_inside w h block part places n ≡ true
      → part_of w h block.parts block.seed (n % w) (n / w) ≡ part
      → IsPartReachBelow w h block part places (n + 1) (reach ++ n ∷ [])
  part_taken n reach is below on own = record {
    are = taken (is_part_inside w h block part places) n reach is.are on;
    within = All-push (λ p. p < w * h) reach n is.within below;
    parts_are = All-push (λ p. part_of w h block.parts block.seed (p % w) (p / w)
        ≡ part) reach n is.parts_are own;
  }

  pub part_left : (n : ℕ) (reach : List ℕ) → IsPartReachBelow w h block part places n reach
      → is_part_inside w h block part places n ≡ false
      → IsPartReachBelow w h block part places (n + 1) reach
  part_left n reach is off =
      record {
        are = left_out (is_part_inside w h block part places) n reach is.are off;
        within = is.within;
        parts_are = is.parts_are;
      }

-- another block of the same parts has the same places
pub reaches_same : (w h : ℕ) (old new : CodedFields) (places : List (Option Texel))
    (reaches : List (ArrayVec ℕ)) → new.parts ≡ old.parts → new.seed ≡ old.seed
    → ArePartReaches w h old places reaches → ArePartReaches w h new places reaches
reaches_same w h old new places reaches parts seed are = record {
  all = are.all;
  each = λ part below.
      let is = are.each part below in
      let P : ℕ → ℕ → Type 0 = λ n k.
      ArePlaces (λ p. is_inside places p && (part_of w h n k (p % w) (p / w) == part)) (w * h)
      (reach_at reaches part) in
      let Q : ℕ → ℕ → Type 0 = λ n k. All (λ p. part_of w h n k (p % w) (p / w) ≡ part)
      (reach_at reaches part) in
      record {
        are = subst (λ n. P n new.seed) (sym parts) (subst (λ k. P old.parts k) (sym seed) is.are);
        within = is.within;
        parts_are = subst (λ n. Q n new.seed) (sym parts)
            (subst (λ k. Q old.parts k) (sym seed) is.parts_are);
      };
}
