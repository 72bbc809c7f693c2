-- The texels of a coded block, from its partitions, endpoints and weights.
use Rattle.std.proofs.Common.{◌≡◌, ◌/◌, ◌%◌, ◌^◌, ℕ, ◌+◌, ◌*◌, ◌<◌, ◌≤◌, ◌==◌, Bool, true, false, IsTrue, cond, List, [], ◌∷◌, length, get_or, refl, ap, sym, ◌∙◌, arith, inl, inr}
use Rattle.std.specs.Prelude.{nat_lt, map, replicate}
use Rattle.std.specs.List.{All, list_all}
use Rattle.std.proofs.lemmas.Bool.{cases_eq, ne_eqb}
use Rattle.std.proofs.lemmas.List.{length-map, get_or-replicate}
use Rattle.std.proofs.lemmas.List.Elements.{All-map}
use Rattle.astc_model.specs.declared.flavour.Flavour.{Flavour}
use Rattle.astc_model.specs.declared.level.Level.{Level}
use Rattle.astc_model.specs.declared.mode.Mode.{Mode}
use Rattle.astc_model.specs.declared.block.Coded.{Coded as CodedFields}
use Rattle.astc_model.specs.declared.block.Constant.{Constant as ConstantFields}
use Rattle.astc_model.specs.declared.flavour.Flavour.TheVariants.{Linear}
use Rattle.astc_model.specs.declared.block.Block.TheVariants.{Constant, Coded}
use Rattle.astc_model.specs.Blocks.{IsLegalConstant}
use Rattle.block_mode.proofs.ChangeLaws.{below-from}
use Rattle.astc_model.specs.Errors.{texel}
use Rattle.astc_model.specs.Infill.{infill}
use Rattle.astc_model.specs.Partitions.{part_of}
use Rattle.astc_model.specs.CodedTexels.{coded_texel, part_colours, plane_weights, plane_of, mixed, error_colour}
use Rattle.partition_hash.proofs.PartitionLaws.{part_of-lt}
use Rattle.texel_error.specs.declared.block_texels.TheConstants.{MAGENTA}
use Rattle.texel_error.specs.Shown.{Ends, shown_texel}
use Rattle.texel_error.specs.Numerators.{numerator, rounded}
use Rattle.texel_error.specs.Shaped.{IsShaped}
use Rattle.texel_error.specs.declared.decoded.Decoded.{Decoded}
use Rattle.texel_error.specs.Decoding.{shown_of, shown_at, ends_at, numerators_at, IsDecoded, Shows}
use Rattle.texel_error.proofs.NumeratorLaws.{infill-is}

-- ---- illegal encodings

pub MAGENTA-is : MAGENTA ≡ error_colour
MAGENTA-is = refl

-- ---- void-extent blocks

-- the interpolation of a byte with itself, widened by repetition, has this byte as high byte
same_mixed : (value : ℕ) → value < 256 → mixed (257 * value) (257 * value) 0 / 256 ≡ value
same_mixed value small = omega arith

four : (xs : List ℕ) → length xs ≡ 4 → get_or xs 0 0 ∷ get_or xs 1 0 ∷ get_or xs 2 0 ∷ get_or xs 3 0
    ∷ [] ≡ xs
four [] long = absurd (omega arith)
four (a ∷ []) long = absurd (omega arith)
four (a ∷ b ∷ []) long = absurd (omega arith)
four (a ∷ b ∷ c ∷ []) long = absurd (omega arith)
four (a ∷ b ∷ c ∷ d ∷ []) long = refl
four (a ∷ b ∷ c ∷ d ∷ e ∷ xs) long = absurd (omega arith)

-- two equal endpoints decode to themselves
pub same_ends : (colour : List ℕ) → length colour ≡ 4 → All (λ value. value < 256) colour
    → shown_texel Linear (colour, colour) (λ c. 0) ≡ colour
same_ends colour long small =
    rw (
      same_mixed (get_or colour 0 0) (small 0 0 (omega arith)),
      same_mixed (get_or colour 1 0) (small 1 0 (omega arith)),
      same_mixed (get_or colour 2 0) (small 2 0 (omega arith)),
      same_mixed (get_or colour 3 0) (small 3 0 (omega arith)),
    )
    (four colour long)

-- the high bytes of the values of a void-extent block
top_bytes_small : (values : List ℕ) → IsTrue (list_all (λ value. nat_lt value (2 ^ 16)) values)
    → All (λ value. value < 256) (map (λ value. value / 256) values)
top_bytes_small values all =
    All-map (λ value. value < 256) (λ value. value / 256) values
    (λ k d below. let small : get_or values k d < 2 ^ 16 = below-from
    (2 ^ 16) values all k d below in omega (arith, small))

pub constant_shows : (w h : ℕ) (flavour : Flavour) (constant : ConstantFields) (decoded : Decoded)
    → w * h ≤ 144 → IsLegalConstant constant
    → decoded.flavour ≡ Linear → decoded.plane ≡ 0 → decoded.parts ≡ replicate 144 0
    → decoded.ends ≡ replicate 4 (
      map (λ value. value / 256) constant.rgba,
      map
          (λ value. value / 256) constant.rgba,
    )
    → decoded.numerators ≡ replicate 144 (0 ∷ 0 ∷ [])
    → Shows w h flavour (Constant constant) decoded
unfolding shown_of
constant_shows w h flavour constant decoded few legal flavour_is plane_is parts_are ends_are
    numerators_are = record { at = at }
  where
    at : (p : ℕ) → p < w * h → shown_at decoded p ≡ texel w h flavour (Constant constant) (p % w)
        (p / w)
    at p below =
        let colour : List ℕ = map (λ value. value / 256) constant.rgba in
        let none : ℕ = 0 in
        let part : get_or (replicate 144 none) p 0 ≡ none =
        get_or-replicate 144 p 0 0 (omega arith) in
        let numerators : ◌≡◌ {A = List ℕ} (get_or (replicate 144 (0 ∷ 0 ∷ [])) p []) (0 ∷ 0 ∷ []) =
        get_or-replicate 144 p (0 ∷ 0 ∷ []) [] (omega arith) in
        rw (flavour_is, plane_is, ends_are, parts_are, numerators_are, part, numerators)
        (same_ends colour (length-map constant.rgba (λ value. value / 256) ∙ legal.four_values)
        (top_bytes_small constant.rgba legal.values))

-- ---- coded blocks

-- the weight of the texel (x, y) in one plane
abbrev pub weight_of : (w h : ℕ) (coded : CodedFields) (mode : Mode) (x y plane : ℕ) → ℕ
weight_of w h coded mode x y plane = infill w h mode.across mode.down x y
    (plane_weights coded mode plane)

pub shown_same : (flavour : Flavour) (ends other : Ends) (f g : ℕ → ℕ) → ends ≡ other → f 0 ≡ g 0
    → f 1 ≡ g 1 → f 2 ≡ g 2 → f 3 ≡ g 3
    → shown_texel flavour ends f ≡ shown_texel flavour other g
shown_same flavour ends other f g e a b c d = rw (e, a, b, c, d) refl

-- the plane of a channel is a plane of the block
pub plane_of-lt : (plane c planes : ℕ) → 1 ≤ planes → (planes ≡ 1 → plane ≡ 0)
    → cond (plane == c + 1) 1 0 < planes
plane_of-lt plane c planes some one =
    elim (cases_eq planes 1) [
      | inl single ↦
          let none : plane ≡ 0 = one single in
          let miss : (plane == c + 1) ≡ false =
          ne_eqb plane (c + 1) (λ same. absurd (omega arith)) in
          rw miss (omega arith)
      | inr two ↦ either (plane == c + 1) (omega arith)
    ]
  where
    either : (b : Bool) → 2 ≤ planes → cond b 1 0 < planes
    either true large = omega arith
    either false large = omega arith

module _ (w h : ℕ) (flavour : Flavour) (coded : CodedFields) (mode : Mode) (level : Level)
    (is : IsShaped w h coded mode level) where
  -- the texel from the endpoints of its partition and the weights of its planes
  pub coded_texel-is : (x y : ℕ) → coded_texel w h flavour coded x y
      ≡ shown_texel flavour (part_colours coded level (part_of w h coded.parts coded.seed x y))
      (λ c. weight_of w h coded mode x y (plane_of coded c))
  unfolding coded_texel
  coded_texel-is x y = rw (is.legal.mode_known, is.legal.no_colour_fault) refl

  pub part_is : (x y : ℕ) → part_of w h coded.parts coded.seed x y < coded.parts
  part_is x y = part_of-lt w h coded.parts coded.seed x y is.some_part is.four_parts

  pub planes_are : (c : ℕ) → plane_of coded c < mode.planes
  planes_are c = plane_of-lt coded.plane c mode.planes is.some_plane is.legal.plane_named.one

  -- the texel between these endpoints with these weights in sixteenths
  pub shown_of-is : (x y plane : ℕ) (ends : Ends) (numerators : List ℕ) → plane ≡ coded.plane → ends
      ≡ part_colours coded level (part_of w h coded.parts coded.seed x y)
      → ((q : ℕ) → q < mode.planes → get_or numerators q 0 ≡ numerator w h mode.across mode.down x y
      (plane_weights coded mode q))
      → shown_of flavour plane ends numerators ≡ texel w h flavour (Coded coded) x y
  unfolding shown_of
  shown_of-is x y plane ends numerators plane_is ends_are numerators_are =
      rw plane_is (shown_same flavour ends
      (part_colours coded level (part_of w h coded.parts coded.seed x y))
      (λ c. rounded (get_or numerators (plane_of coded c) 0))
      (λ c. weight_of w h coded mode x y (plane_of coded c))
      ends_are (at 0) (at 1) (at 2) (at 3))
      ∙ sym (coded_texel-is x y)
    where
      at : (c : ℕ) → rounded (get_or numerators (plane_of coded c) 0) ≡ weight_of w h coded mode x y
          (plane_of coded c)
      at c = ap rounded (numerators_are (plane_of coded c) (planes_are c))
          ∙ sym (infill-is w h mode.across mode.down x y
          (plane_weights coded mode (plane_of coded c)))

  pub ends_at-is : (decoded : Decoded) → IsDecoded w h flavour coded mode level decoded → (p : ℕ)
      → p < w * h
      → ends_at decoded p ≡ part_colours coded level
      (part_of w h coded.parts coded.seed (p % w) (p / w))
  ends_at-is decoded taken p below =
      rw (taken.parts_are p below) (taken.ends_are _ (part_is (p % w) (p / w)))

  pub decoded_shows : (decoded : Decoded) → IsDecoded w h flavour coded mode level decoded
      → Shows w h flavour (Coded coded) decoded
  decoded_shows decoded taken = record {
    at = λ p below.
        rw taken.flavour_is (shown_of-is (p % w) (p / w) decoded.plane (ends_at decoded p)
        (numerators_at decoded p)
        taken.plane_is (ends_at-is decoded taken p below)
        (λ q within. taken.numerators_are p q below within));
  }
