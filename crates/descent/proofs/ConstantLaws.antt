-- A constant block that no change of one value improves is no worse than the mean constant.
use Rattle.std.proofs.Common.{◌≡◌, ◌≢◌, ℕ, ◌+◌, ◌*◌, ◌/◌, ◌^◌, ◌<◌, ◌≤◌, List, [], ◌∷◌, length, get_or, set, refl, sym, ap, subst, ◌∙◌, arith, inl, inr, lit<}
use Rattle.std.specs.Prelude.{Option, None, Some, sum_by}
use Rattle.std.proofs.lemmas.Bool.{cases_eq}
use Rattle.std.proofs.lemmas.List.Sums.{sum_by-cons}
use Rattle.astc_model.specs.Sums.{sum_to}
use Rattle.astc_model.specs.Places.{Texel, channel}
use Rattle.astc_model.specs.Weights.{Weighting}
use Rattle.astc_model.specs.Errors.{squared_difference, place_error, error}
use Rattle.astc_model.specs.Changes.{IntegerKind, ConstantValue, Colour, Weight, integer_count, with_integer}
use Rattle.astc_model.specs.declared.flavour.Flavour.{Flavour}
use Rattle.astc_model.specs.declared.block.Constant.{Constant as ConstantFields}
use Rattle.astc_model.specs.declared.block.Block.TheVariants.{Constant}
use Rattle.astc_model.proofs.ErrorLaws.{error-constant}
use Rattle.astc_model.proofs.ConstantLaws.{four_entries}
use Rattle.descent.specs.Least.{NoChangeIsBetter}

-- what a channel adds to the error of a place
unfoldable channel_error : Weighting → (c value : ℕ) → Option Texel → ℕ
channel_error weights c value None = 0
channel_error weights c value (Some texel) = get_or weights c 0 * squared_difference value
    (channel c texel)

by_channels : (weights : Weighting) (r g b a : ℕ) (place : Option Texel)
    → place_error weights (r ∷ g ∷ b ∷ a ∷ []) place
    ≡ channel_error weights 0 r place + channel_error weights 1 g place + channel_error weights 2 b
    place + channel_error weights 3 a place
unfolding channel_error sum_to
by_channels weights r g b a None = omega arith
by_channels weights r g b a (Some texel) = omega arith

-- over plain numbers: one place more
more : (e e_rest e_all x x_rest x_all y y_rest y_all z z_rest z_all v v_rest v_all : ℕ) → e_all
    ≡ e + e_rest → x_all ≡ x + x_rest → y_all ≡ y + y_rest → z_all ≡ z + z_rest
    → v_all ≡ v + v_rest → e ≡ x + y + z + v → e_rest ≡ x_rest + y_rest + z_rest + v_rest → e_all
    ≡ x_all + y_all + z_all + v_all
more e e_rest e_all x x_rest x_all y y_rest y_all z z_rest z_all v v_rest v_all e_is x_is y_is z_is
    v_is first rest = omega arith

-- what a channel adds to the error of a constant
abbrev channel_sum : Weighting → List (Option Texel) → (c value : ℕ) → ℕ
channel_sum weights places c value = sum_by (channel_error weights c (value / 256)) places

channels : (weights : Weighting) (r g b a : ℕ) (places : List (Option Texel))
    → sum_by (place_error weights (r ∷ g ∷ b ∷ a ∷ [])) places
    ≡ sum_by (channel_error weights 0 r) places + sum_by (channel_error weights 1 g) places + sum_by
    (channel_error weights 2 b) places + sum_by (channel_error weights 3 a) places
channels weights r g b a [] = refl
channels weights r g b a (place ∷ places) =
    more _ _ _ _ _ _ _ _ _ _ _ _ _ _ _
    (sum_by-cons (place_error weights (r ∷ g ∷ b ∷ a ∷ [])) place places)
    (sum_by-cons (channel_error weights 0 r) place places)
    (sum_by-cons (channel_error weights 1 g) place places)
    (sum_by-cons (channel_error weights 2 b) place places)
    (sum_by-cons (channel_error weights 3 a) place places)
    (by_channels weights r g b a place) (channels weights r g b a places)

module _ (w h : ℕ) (flavour : Flavour) (weights : Weighting) (places : List (Option Texel))
    (full : length places ≡ w * h) (extent : List ℕ) where
  abbrev of_values : ℕ → ℕ → ℕ → ℕ → ConstantFields
  of_values r g b a = record { rgba = r ∷ g ∷ b ∷ a ∷ []; extent = extent }

  error_by_channels : (r g b a : ℕ)
      → error w h flavour weights (Constant (of_values r g b a)) places
      ≡ channel_sum weights places 0 r + channel_sum weights places 1 g + channel_sum weights places
      2 b + channel_sum weights places 3 a
  error_by_channels r g b a = error-constant w h flavour weights (of_values r g b a) places full
      ∙ channels weights (r / 256) (g / 256) (b / 256) (a / 256) places

  -- if no change of one of four values improves it, each channel adds no more than with any other
  -- value
  module _ (r g b a x y z v : ℕ) (none : NoChangeIsBetter w h flavour weights places
      (Constant (of_values r g b a)))
      (x_fits : x < 2 ^ 16) (y_fits : y < 2 ^ 16) (z_fits : z < 2 ^ 16) (v_fits : v < 2 ^ 16) where
    change : (at value : ℕ) → at < 4 → value < 2 ^ 16 → value ≢ get_or (r ∷ g ∷ b ∷ a ∷ []) at 0
        → error w h flavour weights (Constant (of_values r g b a)) places ≤ error w h flavour
        weights (with_integer (Constant (of_values r g b a)) ConstantValue at value) places
    change at value place range other =
        none (with_integer (Constant (of_values r g b a)) ConstantValue at value) (
          record { kind = ConstantValue; at = at; value = value },
          record {
            place = place;
            range = range;
            other = other;
          },
          refl,
        )

    red : channel_sum weights places 0 r ≤ channel_sum weights places 0 x
    red = elim (cases_eq x r) [
      | inl same ↦ rw same (omega arith)
      | inr other ↦ omega (
        arith,
        change 0 x (lit< tt) x_fits other,
        error_by_channels r g b a,
        error_by_channels x g b a,
      )
    ]

    green : channel_sum weights places 1 g ≤ channel_sum weights places 1 y
    green = elim (cases_eq y g) [
      | inl same ↦ rw same (omega arith)
      | inr other ↦ omega (
        arith,
        change 1 y (lit< tt) y_fits other,
        error_by_channels r g b a,
        error_by_channels r y b a,
      )
    ]

    blue : channel_sum weights places 2 b ≤ channel_sum weights places 2 z
    blue = elim (cases_eq z b) [
      | inl same ↦ rw same (omega arith)
      | inr other ↦ omega (
        arith,
        change 2 z (lit< tt) z_fits other,
        error_by_channels r g b a,
        error_by_channels r g z a,
      )
    ]

    alpha : channel_sum weights places 3 a ≤ channel_sum weights places 3 v
    alpha = elim (cases_eq v a) [
      | inl same ↦ rw same (omega arith)
      | inr other ↦ omega (
        arith,
        change 3 v (lit< tt) v_fits other,
        error_by_channels r g b a,
        error_by_channels r g b v,
      )
    ]

    no_worse : error w h flavour weights (Constant (of_values r g b a)) places ≤ error w h flavour
        weights (Constant (of_values x y z v)) places
    no_worse = omega (
      arith,
      red,
      green,
      blue,
      alpha,
      error_by_channels r g b a,
      error_by_channels x
          y z v,
    )

-- the error does not depend on the extent
any_extent : (w h : ℕ) (flavour : Flavour) (weights : Weighting) (places : List (Option Texel))
    (rgba one other : List ℕ) → length places ≡ w * h
    → error w h flavour weights (Constant (record { rgba = rgba; extent = one })) places
    ≡ error w h flavour weights (Constant (record { rgba = rgba; extent = other })) places
any_extent w h flavour weights places rgba one other full =
    error-constant w h flavour weights (record { rgba = rgba; extent = one }) places full
    ∙ sym (error-constant w h flavour weights (record { rgba = rgba; extent = other }) places
    full)

-- such a constant has no greater error than one of any four values
pub least_constant : (w h : ℕ) (flavour : Flavour) (weights : Weighting)
    (places : List (Option Texel)) (constant other : ConstantFields)
    → length places ≡ w * h → length constant.rgba ≡ 4 → length other.rgba ≡ 4
    → get_or other.rgba 0 0 < 2 ^ 16 → get_or other.rgba 1 0 < 2 ^ 16
    → get_or other.rgba 2 0 < 2 ^ 16 → get_or other.rgba 3 0 < 2 ^ 16
    → NoChangeIsBetter w h flavour weights places (Constant constant)
    → error w h flavour weights (Constant constant) places ≤ error w h flavour weights
    (Constant other) places
least_constant w h flavour weights places constant other full four other_four x_fits y_fits z_fits
    v_fits none =
    subst P (sym (four_entries constant.rgba four)) (λ still. rw same
    (no_worse w h flavour weights places full constant.extent (get_or constant.rgba 0 0)
    (get_or constant.rgba 1 0) (get_or constant.rgba 2 0) (get_or constant.rgba 3 0)
    (get_or other.rgba 0 0) (get_or other.rgba 1 0) (get_or other.rgba 2 0)
    (get_or other.rgba 3 0) still x_fits y_fits z_fits v_fits)) none
  where
    P : List ℕ → Type 0
    P rgba = NoChangeIsBetter w h flavour weights places
        (Constant (record { rgba = rgba; extent = constant.extent }))
        → error w h flavour weights (Constant (record { rgba = rgba; extent = constant.extent }))
        places ≤ error w h flavour weights (Constant other) places

    same : error w h flavour weights (Constant other) places
        ≡ error w h flavour weights
        (Constant (of_values w h flavour weights places full constant.extent
        (get_or other.rgba 0 0) (get_or other.rgba 1 0) (get_or other.rgba 2 0)
        (get_or other.rgba 3 0))) places
    same = any_extent w h flavour weights places other.rgba other.extent constant.extent full
        ∙ ap (λ rgba. error w h flavour weights
        (Constant (record { rgba = rgba; extent = constant.extent })) places)
        (four_entries other.rgba other_four)

-- a constant block that changes is a constant block
changed_to : (constant : ConstantFields) (kind : IntegerKind) (at value : ℕ)
    → at < integer_count (Constant constant) kind
    → (other : ConstantFields) × (with_integer (Constant constant) kind at value ≡ Constant other)
changed_to constant ConstantValue at value place =
    (record { rgba = set constant.rgba at value; extent = constant.extent }, refl)
changed_to constant Colour at value place = absurd (omega arith)
changed_to constant Weight at value place = absurd (omega arith)

-- if no constant has a smaller error, no change gives one
pub no_change_of_least : (w h : ℕ) (flavour : Flavour) (weights : Weighting)
    (places : List (Option Texel)) (constant : ConstantFields)
    → ((other : ConstantFields) → error w h flavour weights (Constant constant) places ≤ error w h
    flavour weights (Constant other) places)
    → NoChangeIsBetter w h flavour weights places (Constant constant)
no_change_of_least w h flavour weights places constant least = λ changed differs.
    let other = changed_to constant differs.0.kind differs.0.at differs.0.value differs.1.place in
    rw (differs.2, other.1) (least other.0)
