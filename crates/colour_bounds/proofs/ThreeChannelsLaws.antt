-- The endpoints of a partition while a value moves red, green and blue of one of them.
use Rattle.std.proofs.Common.{◌≡◌, ◌≢◌, ℕ, zero, suc, ◌+◌, ◌*◌, ◌%◌, ◌<◌, true, false, List, [], ◌∷◌, length, set, refl, sym, ap, subst, ◌∙◌, arith, inl, inr}
use Rattle.std.specs.Prelude.{IsTrue, slice_index, pos, if◌then◌else◌}
use Rattle.std.proofs.lemmas.Bool.{cases_eq, ne_eqb, eqb-true}
use Rattle.astc_model.specs.Endpoints.{endpoint_colours, endpoint_integers, blue_contract, is_ascending, direct}
use Rattle.texel_error.specs.Shown.{Ends}
use Rattle.error_tables.specs.Floors.{form_more, form_less, channel_more, channel_less}
use Rattle.error_tables.specs.declared.floors.PartitionFloor.{PartitionFloor}
use Rattle.error_tables.specs.declared.tables.Tables.{Tables}
use Rattle.error_tables.proofs.RowLaws.{eight_entries}
use Rattle.colour_bounds.specs.Bounds.{ends_of}
use Rattle.colour_bounds.specs.ThreeChannels.{moves_three, moved_red, moved_green, moved_blue, with_colour_at}
use Rattle.colour_bounds.proofs.OneChannelLaws.{turned, falling_colours}

-- colours that the decoder exchanges
direct_moves : (v k : ℕ → ℕ) (a b l m place red green blue : ℕ)
    → (if is_ascending v then false else true) ≡ true → (if is_ascending k then false else true)
    ≡ true
    → (
      blue_contract (pos (v 1)) (pos (v 3)) (pos (v 5)) (pos b),
      blue_contract (pos (v 0)) (pos (v 2)) (pos (v 4)) (pos a),
    )
    ≡ with_colour_at place red green blue (
      blue_contract (pos (k 1)) (pos (k 3)) (pos (k 5)) (pos m),
      blue_contract (pos (k 0)) (pos (k 2)) (pos (k 4)) (pos l),
    )
    → direct v a b ≡ with_colour_at place red green blue (direct k l m)
direct_moves v k a b l m place red green blue fall still same =
    falling_colours v a b (turned (is_ascending v) fall) ∙ same
    ∙ ap (with_colour_at place red green blue)
    (sym (falling_colours k l m (turned (is_ascending k) still)))

module _ (a b c d e g h i u k : ℕ) where
  abbrev eight : List ℕ
  eight = a ∷ b ∷ c ∷ d ∷ e ∷ g ∷ h ∷ i ∷ []

  abbrev Moves : (mode place : ℕ) → Type 0
  Moves mode place = ends_of mode eight place u
      ≡ with_colour_at place (moved_red mode (set eight place u) place)
      (moved_green mode (set eight place u) place) (moved_blue mode (set eight place u) place)
      (ends_of mode eight place k)

  scale_rgb : Moves 6 3
  unfolding endpoint_colours
  scale_rgb = refl

  scale_rgba : Moves 10 3
  unfolding endpoint_colours
  scale_rgba = refl

  falling_rgb : (place : ℕ) → place < 6 → IsTrue (moves_three 8 (set eight place u) place)
      → IsTrue (moves_three 8 (set eight place k) place) → Moves 8 place
  unfolding endpoint_colours blue_contract
  falling_rgb zero within fall still = absurd (cc)
  falling_rgb (suc zero) within fall still = absurd (cc)
  falling_rgb (suc (suc zero)) within fall still = absurd (cc)
  falling_rgb (suc (suc (suc zero))) within fall still = absurd (cc)
  falling_rgb (suc (suc (suc (suc zero)))) within fall still =
      direct_moves (slice_index (a ∷ b ∷ c ∷ d ∷ u ∷ g ∷ []))
      (slice_index (a ∷ b ∷ c ∷ d ∷ k ∷ g ∷ [])) 255 255 255 255 4 _ _ _ fall still refl
  falling_rgb (suc (suc (suc (suc (suc zero))))) within fall still =
      direct_moves (slice_index (a ∷ b ∷ c ∷ d ∷ e ∷ u ∷ []))
      (slice_index (a ∷ b ∷ c ∷ d ∷ e ∷ k ∷ [])) 255 255 255 255 5 _ _ _ fall still refl
  falling_rgb (suc (suc (suc (suc (suc (suc n)))))) within fall still = absurd (omega arith)

  falling_rgba : (place : ℕ) → place < 8 → IsTrue (moves_three 12 (set eight place u) place)
      → IsTrue (moves_three 12 (set eight place k) place) → Moves 12 place
  unfolding endpoint_colours blue_contract
  falling_rgba zero within fall still = absurd (cc)
  falling_rgba (suc zero) within fall still = absurd (cc)
  falling_rgba (suc (suc zero)) within fall still = absurd (cc)
  falling_rgba (suc (suc (suc zero))) within fall still = absurd (cc)
  falling_rgba (suc (suc (suc (suc zero)))) within fall still =
      direct_moves (slice_index (a ∷ b ∷ c ∷ d ∷ u ∷ g ∷ h ∷ i ∷ []))
      (slice_index (a ∷ b ∷ c ∷ d ∷ k ∷ g ∷ h ∷ i ∷ [])) h i h i 4 _ _ _ fall still refl
  falling_rgba (suc (suc (suc (suc (suc zero))))) within fall still =
      direct_moves (slice_index (a ∷ b ∷ c ∷ d ∷ e ∷ u ∷ h ∷ i ∷ []))
      (slice_index (a ∷ b ∷ c ∷ d ∷ e ∷ k ∷ h ∷ i ∷ [])) h i h i 5 _ _ _ fall still refl
  falling_rgba (suc (suc (suc (suc (suc (suc zero)))))) within fall still = absurd (cc)
  falling_rgba (suc (suc (suc (suc (suc (suc (suc zero))))))) within fall still = absurd (cc)
  falling_rgba (suc (suc (suc (suc (suc (suc (suc (suc n)))))))) within fall still =
      absurd (omega arith)

  of_mode : (mode place : ℕ) → place < endpoint_integers mode
      → IsTrue (moves_three mode (set eight place u) place)
      → IsTrue (moves_three mode (set eight place k) place) → Moves mode place
  of_mode mode place =
      elim (cases_eq mode 6) [
        | inl is ↦ rw is (λ within on also. subst (Moves 6) (sym (eqb-true place 3 on)) scale_rgb)
        | inr not_six ↦ elim (cases_eq mode 10) [
          | inl is ↦ rw is (λ within on also. subst (Moves 10) (sym (eqb-true place 3 on))
              scale_rgba)
          | inr not_ten ↦ elim (cases_eq mode 8) [
            | inl is ↦ rw is (falling_rgb place)
            | inr not_eight ↦ elim (cases_eq mode 12) [
              | inl is ↦ rw is (falling_rgba place)
              | inr not_twelve ↦ λ within on also.
                  let no : false ≡ true =
                  rw (
                    ne_eqb mode 6 not_six,
                    ne_eqb mode 10 not_ten,
                    ne_eqb mode 8 not_eight,
                    ne_eqb mode 12 not_twelve,
                  ) at on
                  in
                  absurd (cc)
            ]
          ]
        ]
      ]

-- for two values that both move three channels, the endpoints differ in these only
pub moves : (mode place u k : ℕ) (values : List ℕ) → length values ≡ 8
    → place < endpoint_integers mode
    → IsTrue (moves_three mode (set values place u) place)
    → IsTrue (moves_three mode (set values place k) place)
    → ends_of mode values place u
    ≡ with_colour_at place (moved_red mode (set values place u) place)
    (moved_green mode (set values place u) place) (moved_blue mode (set values place u) place)
    (ends_of mode values place k)
moves mode place u k values all within =
    subst (λ xs. IsTrue (moves_three mode (set xs place u) place)
    → IsTrue (moves_three mode (set xs place k) place)
    → ends_of mode xs place u
    ≡ with_colour_at place (moved_red mode (set xs place u) place)
    (moved_green mode (set xs place u) place) (moved_blue mode (set xs place u) place)
    (ends_of mode xs place k))
    (sym (eight_entries values all)) (of_mode _ _ _ _ _ _ _ _ u k mode place within)

-- the form of endpoints with three channels replaced is the sum of the forms of the channels
module _ (tables : Tables) (floor : PartitionFloor) (place r g b : ℕ) (ends : Ends) where
  pub first_more : place % 2 ≡ 1 → form_more tables floor (with_colour_at place r g b ends)
      ≡ channel_more tables floor 0 r (slice_index ends.1 0)
      + channel_more tables floor 1 g (slice_index ends.1 1)
      + channel_more tables floor 2 b (slice_index ends.1 2)
      + channel_more tables floor 3 (slice_index ends.0 3) (slice_index ends.1 3)
  first_more is = rw is refl

  pub first_less : place % 2 ≡ 1 → form_less tables floor (with_colour_at place r g b ends)
      ≡ channel_less tables floor 0 r (slice_index ends.1 0)
      + channel_less tables floor 1 g (slice_index ends.1 1)
      + channel_less tables floor 2 b (slice_index ends.1 2)
      + channel_less tables floor 3 (slice_index ends.0 3) (slice_index ends.1 3)
  first_less is = rw is refl

  pub second_more : place % 2 ≢ 1 → form_more tables floor (with_colour_at place r g b ends)
      ≡ channel_more tables floor 0 (slice_index ends.0 0) r
      + channel_more tables floor 1 (slice_index ends.0 1) g
      + channel_more tables floor 2 (slice_index ends.0 2) b
      + channel_more tables floor 3 (slice_index ends.0 3) (slice_index ends.1 3)
  second_more other = rw (ne_eqb (place % 2) 1 other) refl

  pub second_less : place % 2 ≢ 1 → form_less tables floor (with_colour_at place r g b ends)
      ≡ channel_less tables floor 0 (slice_index ends.0 0) r
      + channel_less tables floor 1 (slice_index ends.0 1) g
      + channel_less tables floor 2 (slice_index ends.0 2) b
      + channel_less tables floor 3 (slice_index ends.0 3) (slice_index ends.1 3)
  second_less other = rw (ne_eqb (place % 2) 1 other) refl

-- the sum of the terms of red, green and blue, if that of red contains alpha
pub with_alpha : (whole red green blue alpha own r g b none nothing : ℕ) → whole
    ≡ red + green + blue → red ≡ own + r → green ≡ none + g → blue ≡ nothing + b → own ≡ alpha
    → none ≡ 0 → nothing ≡ 0 → whole ≡ r + g + b + alpha
with_alpha whole red green blue alpha own r g b none nothing whole_is red_is green_is blue_is
    own_is none_is nothing_is =
    omega (arith, whole_is, red_is, green_is, blue_is, own_is, none_is, nothing_is)

-- the same sum for exchanged endpoints
pub with_alpha_exchanged : (whole x y z red green blue alpha own r g b none nothing : ℕ) → whole
    ≡ x + y + z → x ≡ red → y ≡ green → z ≡ blue → red ≡ own + r → green ≡ none + g
    → blue ≡ nothing + b → own ≡ alpha → none ≡ 0 → nothing ≡ 0 → whole ≡ r + g + b + alpha
with_alpha_exchanged whole x y z red green blue alpha own r g b none nothing whole_is x_is y_is z_is
    red_is green_is blue_is own_is none_is nothing_is =
    with_alpha whole red green blue alpha own r g b none nothing
    (omega (arith, whole_is, x_is, y_is, z_is)) red_is green_is blue_is own_is none_is nothing_is

-- the sum of three channels, each split into the terms of the moved endpoint and of the other
pub three_together : (er eg eb xr xg xb tr tg tb sr sg sb red green blue : ℕ) → er + xr + tr ≡ red
    → eg + xg + tg ≡ green → eb + xb + tb ≡ blue → sr ≡ xr + tr → sg ≡ xg + tg → sb ≡ xb + tb
    → er + eg + eb + (sr + sg + sb) ≡ red + green + blue
three_together er eg eb xr xg xb tr tg tb sr sg sb red green blue red_is green_is blue_is sr_is
    sg_is sb_is = omega (arith, red_is, green_is, blue_is, sr_is, sg_is, sb_is)

-- the term of a channel as a function of its first endpoint
pub by_first_more : (square product other start first second : ℕ)
    → square * (first * first) + product * second * first + other * (second * second) + start
    ≡ square * (first * first) + product * (first * second) + other * (second * second) + start
by_first_more square product other start first second = omega arith

-- channels whose moments are 0 add nothing
pub alone_more : (red green blue alpha a b c d e g : ℕ)
    → red * (a * a * 0 + 2 * (a * b * 0) + b * b * 0 + 0) + green
    * (c * c * 0 + 2 * (c * d * 0) + d * d * 0 + 0) + blue
    * (e * e * 0 + 2 * (e * g * 0) + g * g * 0 + 0) + alpha ≡ alpha
alone_more red green blue alpha a b c d e g = omega arith
