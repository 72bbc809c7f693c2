-- The factor of a point in a texel, from the corners around each place.
use Rattle.std.proofs.Common.{◌≡◌, ◌/◌, ◌%◌, ℕ, ◌+◌, ◌*◌, ◌<◌, ◌≤◌, ◌==◌, nat_lt, ◌&&◌, Bool, true, false, cond, List, [], ◌∷◌, get_or, refl, ◌∙◌, arith, Option}
use Rattle.std.proofs.lemmas.Bool.{lt-ltb, le-ltb}
use Rattle.astc_model.specs.Places.{Texel}
use Rattle.astc_model.specs.Infill.{corners, factors}
use Rattle.astc_model.specs.declared.mode.Mode.{Mode}
use Rattle.texel_error.specs.Counting.{is_inside}
use Rattle.weight_infill.specs.Touched.{factor_among, factor_of}
use Rattle.error_tables.specs.Arounds.{corner_at, factor_inside, AreCorners}
use Rattle.error_tables.specs.Reached.{is_touched_inside}
use Rattle.error_tables.specs.declared.around.Around.{Around}

nothing : (b : Bool) → ◌≡◌ {A = ℕ} (cond b 0 0) 0
nothing true = refl
nothing false = refl

four : (point : ℕ) (inside : Bool) (a b c d : ℕ × ℕ)
    → cond (a.0 == point) (cond inside a.1 0) 0 + cond (b.0 == point) (cond inside b.1 0) 0 + cond
    (c.0 == point) (cond inside c.1 0) 0 + cond (d.0 == point) (cond inside d.1 0) 0
    ≡ cond inside (factor_among point (a ∷ b ∷ c ∷ d ∷ [])) 0
four point true a b c d = omega arith
four point false a b c d =
    omega (
      arith,
      nothing (a.0 == point),
      nothing (b.0 == point),
      nothing (c.0 == point),
      nothing
          (d.0 == point),
    )

pub factor_is : (w h : ℕ) (mode : Mode) (places : List (Option Texel)) (around : Around)
    (point p : ℕ) → AreCorners w h mode places around → p < w * h
    → cond (get_or around.first.points p 0 == point) (get_or around.first.factors p 0) 0 + cond
    (get_or around.second.points p 0 == point) (get_or around.second.factors p 0) 0
    + cond (get_or around.third.points p 0 == point) (get_or around.third.factors p 0) 0 + cond
    (get_or around.fourth.points p 0 == point) (get_or around.fourth.factors p 0) 0
    ≡ factor_inside places p (factor_of w h mode.across mode.down point (p % w) (p / w))
unfolding factor_of factors corners
factor_is w h mode places around point p are below =
    rw (
      are.first.points_are p below,
      are.first.factors_are p below,
      are.second.points_are p below,
      are.second.factors_are p below,
    )
    (rw (
      are.third.points_are p below,
      are.third.factors_are p below,
      are.fourth.points_are p below,
      are.fourth.factors_are p below,
    )
    (four point (is_inside places p) (corner_at w h mode 0 p) (corner_at w h mode 1 p)
    (corner_at w h mode 2 p) (corner_at w h mode 3 p)))

-- a factor over 0 is that of a place inside which the point touches
on : (inside : Bool) (f : ℕ) → 0 < cond inside f 0 → ((inside && nat_lt 0 f) ≡ true)
    × (cond inside f 0 ≡ f)
on true f some = (lt-ltb 0 f some, refl)
on false f some = absurd (omega (arith, some))

off : (inside : Bool) (f : ℕ) → cond inside f 0 ≤ 0 → (inside && nat_lt 0 f) ≡ false
off true f least = le-ltb 0 f least
off false f least = refl

module _ (w h : ℕ) (mode : Mode) (point : ℕ) (places : List (Option Texel)) (p f : ℕ)
    (is : f ≡ factor_inside places p (factor_of w h mode.across mode.down point (p % w) (p / w)))
  where
    pub touched : 0 < f → (is_touched_inside w h mode point places p ≡ true)
        × (f ≡ factor_of w h mode.across mode.down point (p % w) (p / w))
    touched some =
        let both : _ = on (is_inside places p) (factor_of w h mode.across mode.down point (p % w)
        (p / w)) (rw is at some) in
        (both.0, is ∙ both.1)

    pub untouched : f ≤ 0 → is_touched_inside w h mode point places p ≡ false
    untouched least = off (is_inside places p) (factor_of w h mode.across mode.down point (p % w)
        (p / w)) (rw is at least)
