-- A changed colour integer changes the ends of its part alone; the texels of a block from its ends
-- and weights.
use Rattle.std.proofs.Common.{◌≡◌, ◌/◌, ◌%◌, ℕ, ◌+◌, ◌-◌, ◌*◌, ◌<◌, ◌≤◌, List, length, get_or, take, drop, set, refl, ap, ◌∙◌, arith, inl, inr, Some, Ok}
use Rattle.std.proofs.lemmas.Bool.{cases_lt, cases_eq}
use Rattle.std.proofs.lemmas.List.{drop-set-lt, drop-set-add, take-set-le}
use Rattle.std.proofs.lemmas.List.Sums.{sum_by_more}
use Rattle.astc_model.specs.declared.flavour.Flavour.{Flavour}
use Rattle.astc_model.specs.Modes.{decoded_mode}
use Rattle.astc_model.specs.declared.mode.Mode.{Mode}
use Rattle.astc_model.specs.declared.block.Coded.{Coded as CodedFields}
use Rattle.astc_model.specs.Shapes.{colour_shape, colour_count}
use Rattle.astc_model.specs.Endpoints.{endpoint_integers}
use Rattle.astc_model.specs.Partitions.{part_of}
use Rattle.astc_model.specs.CodedTexels.{coded_texel, part_colours, plane_weights, plane_of}
use Rattle.astc_model.specs.declared.level.Level.{Level}
use Rattle.texel_error.proofs.PartLaws.{count_below}
use Rattle.texel_error.proofs.TexelLaws.{weight_of}
use Rattle.error_tables.specs.Changed.{with_weight, with_colour, HasColour}
use Rattle.weight_infill.specs.Touched.{factor_of}
use Rattle.error_tables.proofs.TouchLaws.{plane_weights-other, plane_weights-own, infill-untouched}
use Rattle.std.proofs.lemmas.List.FromFn.{length-map-range_with_len}
use Rattle.astc_model.specs.WeightValues.{weight_value}

-- ---- the ends

range_before : (items : List ℕ) (k e i v : ℕ) → i < k → take e (drop k (set items i v))
    ≡ take e (drop k items)
range_before items k e i v before = ap (take e) (drop-set-lt k items i v before)

range_behind : (items : List ℕ) (k e j v : ℕ) → e ≤ j → take e (drop k (set items (k + j) v))
    ≡ take e (drop k items)
range_behind items k e j v behind = ap (take e) (drop-set-add k items j v)
    ∙ take-set-le e (drop k items) j v behind

pub other_ends : (coded : CodedFields) (level : Level) (q r i v : ℕ) → HasColour coded q i
    → r < length coded.cems → (r ≡ q → ⊥)
    → part_colours (with_colour coded i v) level r ≡ part_colours coded level r
other_ends coded level q r i v has r_is other =
    elim (cases_lt r q) [
      | inl before ↦
          let more : colour_count (r + 1) coded.cems ≡ colour_count r coded.cems + endpoint_integers
          (get_or coded.cems r 0) = sum_by_more endpoint_integers coded.cems r 0 r_is in
          let least : colour_count (r + 1) coded.cems ≤ colour_count q coded.cems =
          count_below coded.cems (r + 1) q (omega arith) (omega (arith, has.one)) in
          let k : ℕ = colour_count r coded.cems in
          let whole : i ≡ k + (i - k) = omega (arith, has.from) in
          behind (i - k) whole (range_behind coded.colours.items k
          (endpoint_integers (get_or coded.cems r 0)) (i - k) v (omega (arith, has.from)))
      | inr after ↦
          let more : colour_count (q + 1) coded.cems ≡ colour_count q coded.cems + endpoint_integers
          (get_or coded.cems q 0) = sum_by_more endpoint_integers coded.cems q 0 has.one in
          let later : q < r = omega arith in
          let least : colour_count (q + 1) coded.cems ≤ colour_count r coded.cems =
          count_below coded.cems (q + 1) r (omega arith) (omega arith) in
          rw (range_before coded.colours.items (colour_count r coded.cems)
          (endpoint_integers (get_or coded.cems r 0)) i v (omega (arith, has.below))) refl
    ]
  where
    behind : (j : ℕ) → i ≡ colour_count r coded.cems + j
        → take (endpoint_integers (get_or coded.cems r 0))
        (drop (colour_count r coded.cems)
        (set coded.colours.items (colour_count r coded.cems + j) v))
        ≡ take (endpoint_integers (get_or coded.cems r 0))
        (drop (colour_count r coded.cems) coded.colours.items)
        → part_colours (with_colour coded i v) level r ≡ part_colours coded level r
    behind j whole same = rw whole (rw same refl)

-- ---- the texels

-- texels that a change leaves
module _ (w h : ℕ) (flavour : Flavour) (coded : CodedFields) (mode : Mode) (level : Level)
    (known : decoded_mode coded.mode ≡ Some mode)
    (shaped : colour_shape mode coded.parts coded.selector coded.cems ≡ Ok level) where
  -- a colour integer of another part
  pub texel-other_part : (q i v x y : ℕ) → HasColour coded q i
      → part_of w h coded.parts coded.seed x y < length coded.cems
      → (part_of w h coded.parts coded.seed x y ≡ q → ⊥)
      → coded_texel w h flavour (with_colour coded i v) x y ≡ coded_texel w h flavour coded x y
  unfolding coded_texel
  texel-other_part q i v x y has r_is other =
      rw (known, shaped) (rw (other_ends coded level q (part_of w h coded.parts coded.seed x y) i v
      has r_is other) refl)

  -- a weight integer of a point without a factor
  pub texel-untouched : (i v x y : ℕ) → 1 ≤ mode.planes → mode.planes ≤ 2
      → i < length coded.weights.items → i / mode.planes < mode.across * mode.down
      → ((c : ℕ) → plane_of coded c < mode.planes)
      → factor_of w h mode.across mode.down (i / mode.planes) x y ≡ 0
      → coded_texel w h flavour (with_weight coded i v) x y ≡ coded_texel w h flavour coded x y
  unfolding coded_texel
  texel-untouched i v x y some few inside point planes none =
      let same : (plane : ℕ) → plane < mode.planes
      → weight_of w h (with_weight coded i v) mode x y plane
      ≡ weight_of w h coded mode x y plane = λ plane is. each plane is in
      rw (known, shaped) (rw (
        same (plane_of coded 0) (planes 0),
        same (plane_of coded 1)
            (planes 1),
        same (plane_of coded 2) (planes 2),
        same (plane_of coded 3)
            (planes 3),
      ) refl)
    where
      each : (plane : ℕ) → plane < mode.planes
          → weight_of w h (with_weight coded i v) mode x y plane
          ≡ weight_of w h coded mode x y plane
      each plane is =
          elim (cases_eq plane (i % mode.planes)) [
            | inl own ↦
                let long : i / mode.planes < length (plane_weights coded mode (i % mode.planes)) =
                rw (length-map-range_with_len
                (λ k. weight_value mode.level
                (get_or coded.weights.items (k * mode.planes + i % mode.planes) 0)) 0
                (mode.across * mode.down)) point in
                rw (own, plane_weights-own coded mode i v some few inside)
                (infill-untouched w h mode.across mode.down x y
                (plane_weights coded mode (i % mode.planes)) (i / mode.planes)
                (weight_value mode.level v) long none)
            | inr other ↦ rw (plane_weights-other coded mode i v plane some few is other) refl
          ]
