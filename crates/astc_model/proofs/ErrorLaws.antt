-- The error of a void-extent block is a sum over its channels, and is least for the mean.
use Rattle.std.proofs.Common.{◌≡◌, ℕ, zero, suc, ◌+◌, ◌*◌, ◌/◌, ◌^◌, ◌<◌, ◌≤◌, List, [], ◌∷◌, length, get_or, take, set, map, add-one, refl, sym, ◌∙◌, ap, arith}
use Rattle.std.specs.Prelude.{Option, None, Some, sum_by}
use Rattle.std.proofs.lemmas.List.Sums.{sum_by-cons, sum_by_more}
use Rattle.std.proofs.lemmas.Bool.{lt-ltb}
use Rattle.std.proofs.Math.Nat.{mul-le-mul_left}
use Rattle.std.proofs.Math.Seq.{take-length}
use Rattle.astc_model.specs.Sums.{sum_to}
use Rattle.astc_model.specs.Places.{Texel, channel, channel_mean}
use Rattle.astc_model.specs.FootprintNames.{Flavour}
use Rattle.astc_model.specs.Blocks.{Legal, no_extent, constant_of, mean_values}
use Rattle.astc_model.specs.Changes.{IntegerKind, ConstantValue, Colour, Weight, integer_count, with_integer}
use Rattle.astc_model.specs.Recipes.{recipes, groups}
use Rattle.astc_model.specs.Settled.{Settled, NoneUnder, listed, mean_block}
use Rattle.astc_model.specs.declared.preset.Preset.{Preset}
use Rattle.astc_model.specs.declared.preset.Preset.TheVariants.{Flat}
use Rattle.astc_model.specs.declared.block.Constant.{Constant as ConstantFields}
use Rattle.astc_model.specs.declared.block.Block.TheVariants.{Constant}
use Rattle.astc_model.specs.Weights.{Weighting}
use Rattle.astc_model.specs.Errors.{place_error, error}
use Rattle.astc_model.proofs.MeanLaws.{square_at, squares, mean_is_least}

-- a sum over indices is a sum over the list
pub sum_to-sum_by : {X : Type 0} (f : X → ℕ) (xs : List X) (d : X) (n : ℕ) → n ≤ length xs
    → sum_to (λ p. f (get_or xs p d)) n ≡ sum_by f (take n xs)
unfolding sum_to
sum_to-sum_by f xs d zero within = refl
sum_to-sum_by f xs d (suc n) within =
    let before : sum_to (λ p. f (get_or xs p d)) n ≡ sum_by f (take n xs) =
    sum_to-sum_by f xs d n (omega arith) in
    omega (arith, before, rw (add-one n) at (sum_by_more f xs n d (omega arith)))

-- the error of a place as a sum over the channels
place_error-is : (weights : Weighting) (shown : Texel) (place : Option Texel)
    → place_error weights shown place
    ≡ get_or weights 0 0 * square_at (channel 0 shown) 0 place + get_or weights 1 0 * square_at
    (channel 1 shown) 1 place
    + get_or weights 2 0 * square_at (channel 2 shown) 2 place + get_or weights 3 0 * square_at
    (channel 3 shown) 3 place
unfolding square_at sum_to
place_error-is weights shown None = omega arith
place_error-is weights shown (Some wanted) = omega arith

-- an equation of sums after one more place
more : (w x y z a b c d a_rest b_rest c_rest d_rest a_all b_all c_all d_all e e_rest e_all : ℕ)
    → a_all ≡ a + a_rest → b_all ≡ b + b_rest → c_all ≡ c + c_rest → d_all ≡ d + d_rest → e_all
    ≡ e + e_rest
    → e ≡ w * a + x * b + y * c + z * d → e_rest ≡ w * a_rest + x * b_rest + y * c_rest + z * d_rest
    → e_all ≡ w * a_all + x * b_all + y * c_all + z * d_all
more w x y z a b c d a_rest b_rest c_rest d_rest a_all b_all c_all d_all e e_rest e_all a_is b_is
    c_is d_is e_is first rest =
    rw (a_is, b_is, c_is, d_is, e_is) (omega (arith, first, rest))

-- the error of one texel value against all places as a sum over the channels
channels : (weights : Weighting) (shown : Texel) (places : List (Option Texel))
    → sum_by (place_error weights shown) places
    ≡ get_or weights 0 0 * squares (channel 0 shown) 0 places + get_or weights 1 0 * squares
    (channel 1 shown) 1 places
    + get_or weights 2 0 * squares (channel 2 shown) 2 places + get_or weights 3 0 * squares
    (channel 3 shown) 3 places
unfolding squares
channels weights shown [] = omega arith
channels weights shown (place ∷ places) =
    more (get_or weights 0 0) (get_or weights 1 0) (get_or weights 2 0)
    (get_or weights 3 0) _ _ _ _ _ _ _ _ _ _ _ _ _ _ _
    (sum_by-cons (square_at (channel 0 shown) 0) place places)
    (sum_by-cons (square_at (channel 1 shown) 1) place places)
    (sum_by-cons (square_at (channel 2 shown) 2) place places)
    (sum_by-cons (square_at (channel 3 shown) 3) place places)
    (sum_by-cons (place_error weights shown) place places)
    (place_error-is weights shown place) (channels weights shown places)

-- the texel of the means has the least error of all texel values
mean_below : (weights : Weighting) (shown : Texel) (places : List (Option Texel))
    → sum_by (place_error weights (channel_mean places 0 ∷ channel_mean places 1
    ∷ channel_mean places 2 ∷ channel_mean places 3 ∷ [])) places
    ≤ sum_by (place_error weights shown) places
mean_below weights shown places =
    let mean : Texel = channel_mean places 0 ∷ channel_mean places 1 ∷ channel_mean places 2
    ∷ channel_mean places 3 ∷ [] in
    let red : _ = mul-le-mul_left (get_or weights 0 0) (mean_is_least 0 (channel 0 shown) places) in
    let green : _ = mul-le-mul_left (get_or weights 1 0)
    (mean_is_least 1 (channel 1 shown) places) in
    let blue : _ = mul-le-mul_left (get_or weights 2 0)
    (mean_is_least 2 (channel 2 shown) places) in
    let alpha : _ = mul-le-mul_left (get_or weights 3 0)
    (mean_is_least 3 (channel 3 shown) places) in
    omega (
      arith,
      channels weights mean places,
      channels weights shown places,
      red,
      green,
      blue,
      alpha,
    )

-- the error of a void-extent block is that of its one texel value at all places
pub error-constant : (w h : ℕ) (flavour : Flavour) (weights : Weighting) (constant : ConstantFields)
    (places : List (Option Texel))
    → length places ≡ w * h → error w h flavour weights (Constant constant) places
    ≡ sum_by (place_error weights (map (λ value. value / 256) constant.rgba)) places
unfolding error
error-constant w h flavour weights constant places full =
    let shown : Texel = map (λ value. value / 256) constant.rgba in
    ap (λ n. sum_to (λ p. place_error weights shown (get_or places p None)) n) (sym full)
    ∙ sum_to-sum_by (place_error weights shown) places None (length places) (omega arith)
    ∙ ap (λ ps. sum_by (place_error weights shown) ps) (take-length places)

-- the high byte of a mean that is widened to 16 bits is the mean
top_byte : (m : ℕ) → 257 * m < 2 ^ 16 → 257 * m / 256 ≡ m
top_byte m small = omega arith

-- four values below 2 ^ 16
pub record FitsWide (values : List ℕ) : Type 0 where
  pub red : get_or values 0 0 < 2 ^ 16
  pub green : get_or values 1 0 < 2 ^ 16
  pub blue : get_or values 2 0 < 2 ^ 16
  pub alpha : get_or values 3 0 < 2 ^ 16

-- for all channel weights, no void-extent block has a smaller error than that of the mean
pub mean_block_is_least : (w h : ℕ) (flavour : Flavour) (weights : Weighting)
    (constant : ConstantFields) (places : List (Option Texel))
    → length places ≡ w * h → FitsWide (mean_values places)
    → error w h flavour weights (constant_of (mean_values places)) places ≤ error w h flavour
    weights (Constant constant) places
mean_block_is_least w h flavour weights constant places full fits =
    let means : Texel = channel_mean places 0 ∷ channel_mean places 1 ∷ channel_mean places 2
    ∷ channel_mean places 3 ∷ [] in
    let same : map (λ value. value / 256) (mean_values places) ≡ means =
    rw (
      top_byte (channel_mean places 0) fits.red,
      top_byte (channel_mean places 1) fits.green,
      top_byte (channel_mean places 2) fits.blue,
      top_byte (channel_mean places 3) fits.alpha,
    ) refl
    in
    let mean_error : error w h flavour weights (constant_of (mean_values places)) places
    ≡ sum_by (place_error weights means) places =
    error-constant w h flavour weights (record { rgba = mean_values places; extent = no_extent })
    places full
    ∙ ap (λ shown. sum_by (place_error weights shown) places) same
    in
    let other_error : error w h flavour weights (Constant constant) places
    ≡ sum_by (place_error weights (map (λ value. value / 256) constant.rgba)) places =
    error-constant w h flavour weights constant places full
    in
    omega (
      arith,
      mean_error,
      other_error,
      mean_below weights
          (map (λ value. value / 256) constant.rgba) places,
    )

-- a void-extent block with four values below 2 ^ 16 is legal
legal_constant : (w h r g b a : ℕ) → r < 2 ^ 16 → g < 2 ^ 16 → b < 2 ^ 16 → a < 2 ^ 16
    → Legal w h (constant_of (r ∷ g ∷ b ∷ a ∷ []))
legal_constant w h r g b a r_fits g_fits b_fits a_fits = record {
  four_values = refl;
  values = rw (
    lt-ltb r (2 ^ 16) r_fits,
    lt-ltb g (2 ^ 16) g_fits,
    lt-ltb b
        (2 ^ 16) b_fits,
    lt-ltb a (2 ^ 16) a_fits,
  ) refl;
  four_coordinates = refl;
  coordinates = refl;
  order = refl;
}

-- no change of a value of the mean's block gives a smaller error; the block has no other integers
no_integer_is_better : (w h : ℕ) (flavour : Flavour) (weights : Weighting)
    (places : List (Option Texel)) (kind : IntegerKind) (at value : ℕ)
    → length places ≡ w * h → FitsWide (mean_values places)
    → at < integer_count (mean_block places) kind
    → error w h flavour weights (mean_block places) places ≤ error w h flavour weights
    (with_integer (mean_block places) kind at value) places
no_integer_is_better w h flavour weights places ConstantValue at value full fits within =
    mean_block_is_least w h flavour weights
    (record { rgba = set (mean_values places) at value; extent = no_extent }) places full fits
no_integer_is_better w h flavour weights places Colour at value full fits within =
    absurd (omega arith)
no_integer_is_better w h flavour weights places Weight at value full fits within =
    absurd (omega arith)

-- the block of the mean is settled if no listed block has a smaller error
mean_is_settled : (w h : ℕ) (flavour : Flavour) (weights : Weighting) (preset : Preset)
    (places : List (Option Texel))
    → length places ≡ w * h → FitsWide (mean_values places)
    → NoneUnder w h flavour weights places (error w h flavour weights (mean_block places) places)
    (listed w h preset places)
    → Settled w h flavour weights preset places (mean_block places)
    (error w h flavour weights (mean_block places) places)
mean_is_settled w h flavour weights preset places full fits none = record {
  legal = legal_constant w h _ _ _ _ fits.red fits.green fits.blue fits.alpha;
  exact = refl;
  none_listed = none;
  no_change = λ changed differs.
      rw differs.2 (no_integer_is_better w h flavour weights places differs.0.kind differs.0.at
      differs.0.value full fits differs.1.place);
}

-- the preset flat lists only the block of the mean
none_under_flat : (w h : ℕ) (flavour : Flavour) (weights : Weighting) (places : List (Option Texel))
    → NoneUnder w h flavour weights places (error w h flavour weights (mean_block places) places)
    (listed w h Flat places)
unfolding listed recipes groups
none_under_flat w h flavour weights places = (omega arith, tt)

-- the laws above for values that equal the means
module _ (w h : ℕ) (flavour : Flavour) (weights : Weighting) (places : List (Option Texel))
    (values : List ℕ)
    (same : values ≡ mean_values places) (full : length places ≡ w * h)
    (fits : FitsWide values) where
  pub means_are_least : (other : ConstantFields)
      → error w h flavour weights (constant_of values) places ≤ error w h flavour weights
      (Constant other) places
  means_are_least other =
      rw same (mean_block_is_least w h flavour weights other places full (rw same at fits))

  pub means_are_settled : (preset : Preset) → NoneUnder w h flavour weights places
      (error w h flavour weights (constant_of values) places) (listed w h preset places)
      → Settled w h flavour weights preset places (constant_of values)
      (error w h flavour weights (constant_of values) places)
  means_are_settled preset none =
      rw same (mean_is_settled w h flavour weights preset places full (rw same at fits)
      (rw same at none))

  pub means_are_settled_alone : Settled w h flavour weights Flat places (constant_of values)
      (error w h flavour weights (constant_of values) places)
  means_are_settled_alone =
      rw same (mean_is_settled w h flavour weights Flat places full (rw same at fits)
      (none_under_flat w h flavour weights places))
