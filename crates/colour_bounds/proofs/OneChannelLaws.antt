-- The endpoints of a partition while a value moves one of their channels.
use Rattle.std.proofs.Common.{◌≡◌, ◌≢◌, ℕ, zero, suc, ◌+◌, ◌/◌, ◌<◌, Bool, true, false, List, [], ◌∷◌, length, set, refl, sym, ap, subst, ◌∙◌, arith, inl, inr}
use Rattle.std.specs.Prelude.{IsTrue, slice_index, ℤ, pos, if◌then◌else◌}
use Rattle.std.proofs.lemmas.Bool.{cases_eq, ne_eqb}
use Rattle.astc_model.specs.Endpoints.{endpoint_colours, endpoint_integers, base, offset, base_with_offset, clamped, blue_contract, is_ascending, is_rising, direct, base_offset}
use Rattle.texel_error.specs.Shown.{Ends}
use Rattle.error_tables.specs.Floors.{form_more, form_less, channel_more, channel_less, with_channel}
use Rattle.error_tables.specs.declared.floors.PartitionFloor.{PartitionFloor}
use Rattle.error_tables.specs.declared.tables.Tables.{Tables}
use Rattle.error_tables.proofs.ChannelFormLaws.{more_moves, less_moves}
use Rattle.error_tables.proofs.RowLaws.{eight_entries}
use Rattle.colour_bounds.specs.Bounds.{ends_of}
use Rattle.colour_bounds.specs.OneChannel.{moves_one, moved_channel, moved_ends, MovesOne}
use Rattle.colour_bounds.specs.declared.one_channel.Trend.{Trend}
use Rattle.colour_bounds.specs.declared.one_channel.Trend.TheVariants.{Rising, Falling}

-- the endpoints of modes 9 and 13 if the sum of the offsets is not negative
rising_ends : (v : ℕ → ℕ) (a b : ℤ) → is_rising v ≡ true
    → base_offset v a b ≡ (
      clamped (base v 0) (base v 2) (base v 4) a,
      clamped
          (base_with_offset v 0) (base_with_offset v 2) (base_with_offset v 4) b,
    )
rising_ends v a b rise = rw rise refl

rising_moves : (v k : ℕ → ℕ) (a b l m : ℤ) (c : ℕ) (pair : ℕ × ℕ) → is_rising v ≡ true → is_rising k
    ≡ true
    → (
      clamped (base v 0) (base v 2) (base v 4) a,
      clamped (base_with_offset v 0)
          (base_with_offset v 2) (base_with_offset v 4) b,
    )
    ≡ with_channel c pair (
      clamped (base k 0) (base k 2) (base k 4) l,
      clamped
          (base_with_offset k 0) (base_with_offset k 2) (base_with_offset k 4) m,
    )
    → MovesOne c pair (base_offset v a b) (base_offset k l m)
rising_moves v k a b l m c pair rise still same = record {
  is = rising_ends v a b rise ∙ same ∙ ap (with_channel c pair) (sym (rising_ends k l m still));
  first_four = rw (rising_ends k l m still) refl;
  second_four = rw (rising_ends k l m still) refl;
}

abbrev rgb_moves : (v k : ℕ → ℕ) (c : ℕ) (pair : ℕ × ℕ) → is_rising v ≡ true → is_rising k ≡ true
    → (
      clamped (base v 0) (base v 2) (base v 4) (pos 255),
      clamped (base_with_offset v 0)
          (base_with_offset v 2) (base_with_offset v 4) (pos 255),
    )
    ≡ with_channel c pair (
      clamped (base k 0) (base k 2) (base k 4) (pos 255),
      clamped
          (base_with_offset k 0) (base_with_offset k 2) (base_with_offset k 4) (pos 255),
    )
    → MovesOne c pair (base_offset v (pos 255) (pos 255)) (base_offset k (pos 255) (pos 255))
rgb_moves v k = rising_moves v k (pos 255) (pos 255) (pos 255) (pos 255)

abbrev rgba_moves : (v k : ℕ → ℕ) (c : ℕ) (pair : ℕ × ℕ) → is_rising v ≡ true → is_rising k ≡ true
    → (
      clamped (base v 0) (base v 2) (base v 4) (base v 6),
      clamped (base_with_offset v 0)
          (base_with_offset v 2) (base_with_offset v 4) (base_with_offset v 6),
    )
    ≡ with_channel c pair (
      clamped (base k 0) (base k 2) (base k 4) (base k 6),
      clamped
          (base_with_offset k 0) (base_with_offset k 2) (base_with_offset k 4)
          (base_with_offset k 6),
    )
    → MovesOne c pair (base_offset v (base v 6) (base_with_offset v 6))
    (base_offset k (base k 6) (base_with_offset k 6))
rgba_moves v k = rising_moves v k (base v 6) (base_with_offset v 6) (base k 6)
    (base_with_offset k 6)

-- the endpoints of modes 8 and 12 if the colours are not exchanged
rising_colours : (v : ℕ → ℕ) (a b : ℕ) → is_ascending v ≡ true → direct v a b
    ≡ (v 0 ∷ v 2 ∷ v 4 ∷ a ∷ [], v 1 ∷ v 3 ∷ v 5 ∷ b ∷ [])
rising_colours v a b rise = rw rise refl

colours_move : (v k : ℕ → ℕ) (a b l m : ℕ) (c : ℕ) (pair : ℕ × ℕ) → is_ascending v ≡ true
    → is_ascending k ≡ true
    → (v 0 ∷ v 2 ∷ v 4 ∷ a ∷ [], v 1 ∷ v 3 ∷ v 5 ∷ b ∷ [])
    ≡ with_channel c pair (k 0 ∷ k 2 ∷ k 4 ∷ l ∷ [], k 1 ∷ k 3 ∷ k 5 ∷ m ∷ [])
    → MovesOne c pair (direct v a b) (direct k l m)
colours_move v k a b l m c pair rise still same = record {
  is = rising_colours v a b rise ∙ same
      ∙ ap (with_channel c pair) (sym (rising_colours k l m still));
  first_four = rw (rising_colours k l m still) refl;
  second_four = rw (rising_colours k l m still) refl;
}

-- the endpoints if the colours are exchanged
pub turned : (r : Bool) → (if r then false else true) ≡ true → r ≡ false
turned true is = absurd (cc)
turned false is = refl

pub falling_colours : (v : ℕ → ℕ) (a b : ℕ) → is_ascending v ≡ false
    → direct v a b ≡ (
      blue_contract (pos (v 1)) (pos (v 3)) (pos (v 5)) (pos b),
      blue_contract
          (pos (v 0)) (pos (v 2)) (pos (v 4)) (pos a),
    )
falling_colours v a b fall = rw fall refl

falling_offsets : (v : ℕ → ℕ) (a b : ℤ) → is_rising v ≡ false
    → base_offset v a b ≡ (
      blue_contract (base_with_offset v 0) (base_with_offset v 2)
          (base_with_offset v 4) b,
      blue_contract (base v 0) (base v 2) (base v 4) a,
    )
falling_offsets v a b fall = rw fall refl

direct_moves : (v k : ℕ → ℕ) (a b l m : ℕ) (c : ℕ) (pair : ℕ × ℕ)
    → (if is_ascending v then false else true) ≡ true → (if is_ascending k then false else true)
    ≡ true
    → (
      blue_contract (pos (v 1)) (pos (v 3)) (pos (v 5)) (pos b),
      blue_contract (pos (v 0))
          (pos (v 2)) (pos (v 4)) (pos a),
    )
    ≡ with_channel c pair (
      blue_contract (pos (k 1)) (pos (k 3)) (pos (k 5)) (pos m),
      blue_contract
          (pos (k 0)) (pos (k 2)) (pos (k 4)) (pos l),
    )
    → MovesOne c pair (direct v a b) (direct k l m)
unfolding blue_contract
direct_moves v k a b l m c pair fall still same =
    let is : is_ascending v ≡ false = turned (is_ascending v) fall in
    let too : is_ascending k ≡ false = turned (is_ascending k) still in
    record {
      is = falling_colours v a b is ∙ same
          ∙ ap (with_channel c pair) (sym (falling_colours k l m too));
      first_four = rw (falling_colours k l m too) refl;
      second_four = rw (falling_colours k l m too) refl;
    }

offset_moves : (v k : ℕ → ℕ) (a b l m : ℤ) (c : ℕ) (pair : ℕ × ℕ)
    → (if is_rising v then false else true) ≡ true → (if is_rising k then false else true) ≡ true
    → (
      blue_contract (base_with_offset v 0) (base_with_offset v 2)
          (base_with_offset v 4) b,
      blue_contract (base v 0) (base v 2) (base v 4) a,
    )
    ≡ with_channel c pair (
      blue_contract (base_with_offset k 0) (base_with_offset k 2)
          (base_with_offset k 4) m,
      blue_contract (base k 0) (base k 2) (base k 4) l,
    )
    → MovesOne c pair (base_offset v a b) (base_offset k l m)
unfolding blue_contract
offset_moves v k a b l m c pair fall still same =
    let is : is_rising v ≡ false = turned (is_rising v) fall in
    let too : is_rising k ≡ false = turned (is_rising k) still in
    record {
      is = falling_offsets v a b is ∙ same
          ∙ ap (with_channel c pair) (sym (falling_offsets k l m too));
      first_four = rw (falling_offsets k l m too) refl;
      second_four = rw (falling_offsets k l m too) refl;
    }

module _ (a b c d e g h i u k : ℕ) where
  abbrev eight : List ℕ
  eight = a ∷ b ∷ c ∷ d ∷ e ∷ g ∷ h ∷ i ∷ []

  abbrev MovesIn : Trend → (mode place : ℕ) → Type 0
  MovesIn trend mode place = MovesOne (moved_channel mode place)
      (moved_ends trend mode (set eight place u) place) (ends_of mode eight place u)
      (ends_of mode eight place k)

  abbrev Moves : (mode place : ℕ) → Type 0
  Moves mode place = MovesIn Rising mode place

  scaled_rgb : (place : ℕ) → place < 4 → IsTrue (moves_one Rising 6 (set eight place u) place)
      → Moves 6 place
  unfolding endpoint_colours
  scaled_rgb zero within on = record { is = refl; first_four = refl; second_four = refl }
  scaled_rgb (suc zero) within on = record { is = refl; first_four = refl; second_four = refl }
  scaled_rgb (suc (suc zero)) within on =
      record { is = refl; first_four = refl; second_four = refl }
  scaled_rgb (suc (suc (suc zero))) within on = absurd (cc)
  scaled_rgb (suc (suc (suc (suc n)))) within on = absurd (omega arith)

  scaled_rgba : (place : ℕ) → place < 6 → IsTrue (moves_one Rising 10 (set eight place u) place)
      → Moves 10 place
  unfolding endpoint_colours
  scaled_rgba zero within on = record { is = refl; first_four = refl; second_four = refl }
  scaled_rgba (suc zero) within on = record { is = refl; first_four = refl; second_four = refl }
  scaled_rgba (suc (suc zero)) within on =
      record { is = refl; first_four = refl; second_four = refl }
  scaled_rgba (suc (suc (suc zero))) within on = absurd (cc)
  scaled_rgba (suc (suc (suc (suc zero)))) within on =
      record { is = refl; first_four = refl; second_four = refl }
  scaled_rgba (suc (suc (suc (suc (suc zero))))) within on =
      record { is = refl; first_four = refl; second_four = refl }
  scaled_rgba (suc (suc (suc (suc (suc (suc n)))))) within on = absurd (omega arith)

  abbrev Rises : (place value : ℕ) → Type 0
  Rises place value = is_rising (slice_index (set eight place value)) ≡ true

  offset_rgb : (place : ℕ) → place < 6 → Rises place u → Rises place k → Moves 9 place
  unfolding endpoint_colours base offset base_with_offset
  offset_rgb zero within rise still = rgb_moves (slice_index (u ∷ b ∷ c ∷ d ∷ e ∷ g ∷ []))
      (slice_index (k ∷ b ∷ c ∷ d ∷ e ∷ g ∷ [])) 0 _ rise still refl
  offset_rgb (suc zero) within rise still = rgb_moves (slice_index (a ∷ u ∷ c ∷ d ∷ e ∷ g ∷ []))
      (slice_index (a ∷ k ∷ c ∷ d ∷ e ∷ g ∷ [])) 0 _ rise still refl
  offset_rgb (suc (suc zero)) within rise still =
      rgb_moves (slice_index (a ∷ b ∷ u ∷ d ∷ e ∷ g ∷ []))
      (slice_index (a ∷ b ∷ k ∷ d ∷ e ∷ g ∷ [])) 1 _ rise still refl
  offset_rgb (suc (suc (suc zero))) within rise still =
      rgb_moves (slice_index (a ∷ b ∷ c ∷ u ∷ e ∷ g ∷ []))
      (slice_index (a ∷ b ∷ c ∷ k ∷ e ∷ g ∷ [])) 1 _ rise still refl
  offset_rgb (suc (suc (suc (suc zero)))) within rise still =
      rgb_moves (slice_index (a ∷ b ∷ c ∷ d ∷ u ∷ g ∷ []))
      (slice_index (a ∷ b ∷ c ∷ d ∷ k ∷ g ∷ [])) 2 _ rise still refl
  offset_rgb (suc (suc (suc (suc (suc zero))))) within rise still =
      rgb_moves (slice_index (a ∷ b ∷ c ∷ d ∷ e ∷ u ∷ []))
      (slice_index (a ∷ b ∷ c ∷ d ∷ e ∷ k ∷ [])) 2 _ rise still refl
  offset_rgb (suc (suc (suc (suc (suc (suc n)))))) within rise still = absurd (omega arith)

  offset_rgba : (place : ℕ) → place < 8 → Rises place u → Rises place k → Moves 13 place
  unfolding endpoint_colours base offset base_with_offset
  offset_rgba zero within rise still = rgba_moves (slice_index (u ∷ b ∷ c ∷ d ∷ e ∷ g ∷ h ∷ i ∷ []))
      (slice_index (k ∷ b ∷ c ∷ d ∷ e ∷ g ∷ h ∷ i ∷ [])) 0 _ rise still refl
  offset_rgba (suc zero) within rise still =
      rgba_moves (slice_index (a ∷ u ∷ c ∷ d ∷ e ∷ g ∷ h ∷ i ∷ []))
      (slice_index (a ∷ k ∷ c ∷ d ∷ e ∷ g ∷ h ∷ i ∷ [])) 0 _ rise still refl
  offset_rgba (suc (suc zero)) within rise still =
      rgba_moves (slice_index (a ∷ b ∷ u ∷ d ∷ e ∷ g ∷ h ∷ i ∷ []))
      (slice_index (a ∷ b ∷ k ∷ d ∷ e ∷ g ∷ h ∷ i ∷ [])) 1 _ rise still refl
  offset_rgba (suc (suc (suc zero))) within rise still =
      rgba_moves (slice_index (a ∷ b ∷ c ∷ u ∷ e ∷ g ∷ h ∷ i ∷ []))
      (slice_index (a ∷ b ∷ c ∷ k ∷ e ∷ g ∷ h ∷ i ∷ [])) 1 _ rise still refl
  offset_rgba (suc (suc (suc (suc zero)))) within rise still =
      rgba_moves (slice_index (a ∷ b ∷ c ∷ d ∷ u ∷ g ∷ h ∷ i ∷ []))
      (slice_index (a ∷ b ∷ c ∷ d ∷ k ∷ g ∷ h ∷ i ∷ [])) 2 _ rise still refl
  offset_rgba (suc (suc (suc (suc (suc zero))))) within rise still =
      rgba_moves (slice_index (a ∷ b ∷ c ∷ d ∷ e ∷ u ∷ h ∷ i ∷ []))
      (slice_index (a ∷ b ∷ c ∷ d ∷ e ∷ k ∷ h ∷ i ∷ [])) 2 _ rise still refl
  offset_rgba (suc (suc (suc (suc (suc (suc zero)))))) within rise still =
      rgba_moves (slice_index (a ∷ b ∷ c ∷ d ∷ e ∷ g ∷ u ∷ i ∷ []))
      (slice_index (a ∷ b ∷ c ∷ d ∷ e ∷ g ∷ k ∷ i ∷ [])) 3 _ rise still refl
  offset_rgba (suc (suc (suc (suc (suc (suc (suc zero))))))) within rise still =
      rgba_moves (slice_index (a ∷ b ∷ c ∷ d ∷ e ∷ g ∷ h ∷ u ∷ []))
      (slice_index (a ∷ b ∷ c ∷ d ∷ e ∷ g ∷ h ∷ k ∷ [])) 3 _ rise still refl
  offset_rgba (suc (suc (suc (suc (suc (suc (suc (suc n)))))))) within rise still =
      absurd (omega arith)

  rising_rgb : (place : ℕ) → place < 6 → IsTrue (moves_one Rising 8 (set eight place u) place)
      → IsTrue (moves_one Rising 8 (set eight place k) place) → Moves 8 place
  unfolding endpoint_colours
  rising_rgb zero within rise still = colours_move (slice_index (u ∷ b ∷ c ∷ d ∷ e ∷ g ∷ []))
      (slice_index (k ∷ b ∷ c ∷ d ∷ e ∷ g ∷ [])) 255 255 255 255 0 _ rise still refl
  rising_rgb (suc zero) within rise still = colours_move (slice_index (a ∷ u ∷ c ∷ d ∷ e ∷ g ∷ []))
      (slice_index (a ∷ k ∷ c ∷ d ∷ e ∷ g ∷ [])) 255 255 255 255 0 _ rise still refl
  rising_rgb (suc (suc zero)) within rise still =
      colours_move (slice_index (a ∷ b ∷ u ∷ d ∷ e ∷ g ∷ []))
      (slice_index (a ∷ b ∷ k ∷ d ∷ e ∷ g ∷ [])) 255 255 255 255 1 _ rise still refl
  rising_rgb (suc (suc (suc zero))) within rise still =
      colours_move (slice_index (a ∷ b ∷ c ∷ u ∷ e ∷ g ∷ []))
      (slice_index (a ∷ b ∷ c ∷ k ∷ e ∷ g ∷ [])) 255 255 255 255 1 _ rise still refl
  rising_rgb (suc (suc (suc (suc zero)))) within rise still =
      colours_move (slice_index (a ∷ b ∷ c ∷ d ∷ u ∷ g ∷ []))
      (slice_index (a ∷ b ∷ c ∷ d ∷ k ∷ g ∷ [])) 255 255 255 255 2 _ rise still refl
  rising_rgb (suc (suc (suc (suc (suc zero))))) within rise still =
      colours_move (slice_index (a ∷ b ∷ c ∷ d ∷ e ∷ u ∷ []))
      (slice_index (a ∷ b ∷ c ∷ d ∷ e ∷ k ∷ [])) 255 255 255 255 2 _ rise still refl
  rising_rgb (suc (suc (suc (suc (suc (suc n)))))) within rise still = absurd (omega arith)

  rising_rgba : (place : ℕ) → place < 8 → IsTrue (moves_one Rising 12 (set eight place u) place)
      → IsTrue (moves_one Rising 12 (set eight place k) place) → Moves 12 place
  unfolding endpoint_colours
  rising_rgba zero within rise still =
      colours_move (slice_index (u ∷ b ∷ c ∷ d ∷ e ∷ g ∷ h ∷ i ∷ []))
      (slice_index (k ∷ b ∷ c ∷ d ∷ e ∷ g ∷ h ∷ i ∷ [])) h i h i 0 _ rise still refl
  rising_rgba (suc zero) within rise still =
      colours_move (slice_index (a ∷ u ∷ c ∷ d ∷ e ∷ g ∷ h ∷ i ∷ []))
      (slice_index (a ∷ k ∷ c ∷ d ∷ e ∷ g ∷ h ∷ i ∷ [])) h i h i 0 _ rise still refl
  rising_rgba (suc (suc zero)) within rise still =
      colours_move (slice_index (a ∷ b ∷ u ∷ d ∷ e ∷ g ∷ h ∷ i ∷ []))
      (slice_index (a ∷ b ∷ k ∷ d ∷ e ∷ g ∷ h ∷ i ∷ [])) h i h i 1 _ rise still refl
  rising_rgba (suc (suc (suc zero))) within rise still =
      colours_move (slice_index (a ∷ b ∷ c ∷ u ∷ e ∷ g ∷ h ∷ i ∷ []))
      (slice_index (a ∷ b ∷ c ∷ k ∷ e ∷ g ∷ h ∷ i ∷ [])) h i h i 1 _ rise still refl
  rising_rgba (suc (suc (suc (suc zero)))) within rise still =
      colours_move (slice_index (a ∷ b ∷ c ∷ d ∷ u ∷ g ∷ h ∷ i ∷ []))
      (slice_index (a ∷ b ∷ c ∷ d ∷ k ∷ g ∷ h ∷ i ∷ [])) h i h i 2 _ rise still refl
  rising_rgba (suc (suc (suc (suc (suc zero))))) within rise still =
      colours_move (slice_index (a ∷ b ∷ c ∷ d ∷ e ∷ u ∷ h ∷ i ∷ []))
      (slice_index (a ∷ b ∷ c ∷ d ∷ e ∷ k ∷ h ∷ i ∷ [])) h i h i 2 _ rise still refl
  rising_rgba (suc (suc (suc (suc (suc (suc zero)))))) within rise still =
      colours_move (slice_index (a ∷ b ∷ c ∷ d ∷ e ∷ g ∷ u ∷ i ∷ []))
      (slice_index (a ∷ b ∷ c ∷ d ∷ e ∷ g ∷ k ∷ i ∷ [])) u i k i 3 _ rise still refl
  rising_rgba (suc (suc (suc (suc (suc (suc (suc zero))))))) within rise still =
      colours_move (slice_index (a ∷ b ∷ c ∷ d ∷ e ∷ g ∷ h ∷ u ∷ []))
      (slice_index (a ∷ b ∷ c ∷ d ∷ e ∷ g ∷ h ∷ k ∷ [])) h u h k 3 _ rise still refl
  rising_rgba (suc (suc (suc (suc (suc (suc (suc (suc n)))))))) within rise still =
      absurd (omega arith)

  falling_rgb : (place : ℕ) → place < 6 → IsTrue (moves_one Falling 8 (set eight place u) place)
      → IsTrue (moves_one Falling 8 (set eight place k) place) → MovesIn Falling 8 place
  unfolding endpoint_colours blue_contract
  falling_rgb zero within fall still = direct_moves (slice_index (u ∷ b ∷ c ∷ d ∷ e ∷ g ∷ []))
      (slice_index (k ∷ b ∷ c ∷ d ∷ e ∷ g ∷ [])) 255 255 255 255 0 _ fall still refl
  falling_rgb (suc zero) within fall still = direct_moves (slice_index (a ∷ u ∷ c ∷ d ∷ e ∷ g ∷ []))
      (slice_index (a ∷ k ∷ c ∷ d ∷ e ∷ g ∷ [])) 255 255 255 255 0 _ fall still refl
  falling_rgb (suc (suc zero)) within fall still =
      direct_moves (slice_index (a ∷ b ∷ u ∷ d ∷ e ∷ g ∷ []))
      (slice_index (a ∷ b ∷ k ∷ d ∷ e ∷ g ∷ [])) 255 255 255 255 1 _ fall still refl
  falling_rgb (suc (suc (suc zero))) within fall still =
      direct_moves (slice_index (a ∷ b ∷ c ∷ u ∷ e ∷ g ∷ []))
      (slice_index (a ∷ b ∷ c ∷ k ∷ e ∷ g ∷ [])) 255 255 255 255 1 _ fall still refl
  falling_rgb (suc (suc (suc (suc zero)))) within fall still = absurd (cc)
  falling_rgb (suc (suc (suc (suc (suc zero))))) within fall still = absurd (cc)
  falling_rgb (suc (suc (suc (suc (suc (suc n)))))) within fall still = absurd (omega arith)

  falling_rgba : (place : ℕ) → place < 8 → IsTrue (moves_one Falling 12 (set eight place u) place)
      → IsTrue (moves_one Falling 12 (set eight place k) place) → MovesIn Falling 12 place
  unfolding endpoint_colours blue_contract
  falling_rgba zero within fall still =
      direct_moves (slice_index (u ∷ b ∷ c ∷ d ∷ e ∷ g ∷ h ∷ i ∷ []))
      (slice_index (k ∷ b ∷ c ∷ d ∷ e ∷ g ∷ h ∷ i ∷ [])) h i h i 0 _ fall still refl
  falling_rgba (suc zero) within fall still =
      direct_moves (slice_index (a ∷ u ∷ c ∷ d ∷ e ∷ g ∷ h ∷ i ∷ []))
      (slice_index (a ∷ k ∷ c ∷ d ∷ e ∷ g ∷ h ∷ i ∷ [])) h i h i 0 _ fall still refl
  falling_rgba (suc (suc zero)) within fall still =
      direct_moves (slice_index (a ∷ b ∷ u ∷ d ∷ e ∷ g ∷ h ∷ i ∷ []))
      (slice_index (a ∷ b ∷ k ∷ d ∷ e ∷ g ∷ h ∷ i ∷ [])) h i h i 1 _ fall still refl
  falling_rgba (suc (suc (suc zero))) within fall still =
      direct_moves (slice_index (a ∷ b ∷ c ∷ u ∷ e ∷ g ∷ h ∷ i ∷ []))
      (slice_index (a ∷ b ∷ c ∷ k ∷ e ∷ g ∷ h ∷ i ∷ [])) h i h i 1 _ fall still refl
  falling_rgba (suc (suc (suc (suc zero)))) within fall still = absurd (cc)
  falling_rgba (suc (suc (suc (suc (suc zero))))) within fall still = absurd (cc)
  falling_rgba (suc (suc (suc (suc (suc (suc zero)))))) within fall still =
      direct_moves (slice_index (a ∷ b ∷ c ∷ d ∷ e ∷ g ∷ u ∷ i ∷ []))
      (slice_index (a ∷ b ∷ c ∷ d ∷ e ∷ g ∷ k ∷ i ∷ [])) u i k i 3 _ fall still refl
  falling_rgba (suc (suc (suc (suc (suc (suc (suc zero))))))) within fall still =
      direct_moves (slice_index (a ∷ b ∷ c ∷ d ∷ e ∷ g ∷ h ∷ u ∷ []))
      (slice_index (a ∷ b ∷ c ∷ d ∷ e ∷ g ∷ h ∷ k ∷ [])) h u h k 3 _ fall still refl
  falling_rgba (suc (suc (suc (suc (suc (suc (suc (suc n)))))))) within fall still =
      absurd (omega arith)

  falling_offset_rgb : (place : ℕ) → place < 6
      → IsTrue (moves_one Falling 9 (set eight place u) place)
      → IsTrue (moves_one Falling 9 (set eight place k) place) → MovesIn Falling 9 place
  unfolding endpoint_colours blue_contract base offset base_with_offset
  falling_offset_rgb zero within fall still =
      offset_moves (slice_index (u ∷ b ∷ c ∷ d ∷ e ∷ g ∷ []))
      (slice_index (k ∷ b ∷ c ∷ d ∷ e ∷ g ∷ [])) (pos 255) (pos 255) (pos 255)
      (pos 255) 0 _ fall still refl
  falling_offset_rgb (suc zero) within fall still =
      offset_moves (slice_index (a ∷ u ∷ c ∷ d ∷ e ∷ g ∷ []))
      (slice_index (a ∷ k ∷ c ∷ d ∷ e ∷ g ∷ [])) (pos 255) (pos 255) (pos 255)
      (pos 255) 0 _ fall still refl
  falling_offset_rgb (suc (suc zero)) within fall still =
      offset_moves (slice_index (a ∷ b ∷ u ∷ d ∷ e ∷ g ∷ []))
      (slice_index (a ∷ b ∷ k ∷ d ∷ e ∷ g ∷ [])) (pos 255) (pos 255) (pos 255)
      (pos 255) 1 _ fall still refl
  falling_offset_rgb (suc (suc (suc zero))) within fall still =
      offset_moves (slice_index (a ∷ b ∷ c ∷ u ∷ e ∷ g ∷ []))
      (slice_index (a ∷ b ∷ c ∷ k ∷ e ∷ g ∷ [])) (pos 255) (pos 255) (pos 255)
      (pos 255) 1 _ fall still refl
  falling_offset_rgb (suc (suc (suc (suc zero)))) within fall still = absurd (cc)
  falling_offset_rgb (suc (suc (suc (suc (suc zero))))) within fall still = absurd (cc)
  falling_offset_rgb (suc (suc (suc (suc (suc (suc n)))))) within fall still = absurd (omega arith)

  falling_offset_rgba : (place : ℕ) → place < 8
      → IsTrue (moves_one Falling 13 (set eight place u) place)
      → IsTrue (moves_one Falling 13 (set eight place k) place) → MovesIn Falling 13 place
  unfolding endpoint_colours blue_contract base offset base_with_offset
  falling_offset_rgba zero within fall still =
      offset_moves (slice_index (u ∷ b ∷ c ∷ d ∷ e ∷ g ∷ h ∷ i ∷ []))
      (slice_index (k ∷ b ∷ c ∷ d ∷ e ∷ g ∷ h ∷ i ∷ []))
      (base (slice_index (u ∷ b ∷ c ∷ d ∷ e ∷ g ∷ h ∷ i ∷ [])) 6)
      (base_with_offset (slice_index (u ∷ b ∷ c ∷ d ∷ e ∷ g ∷ h ∷ i ∷ [])) 6)
      (base (slice_index (k ∷ b ∷ c ∷ d ∷ e ∷ g ∷ h ∷ i ∷ [])) 6)
      (base_with_offset (slice_index (k ∷ b ∷ c ∷ d ∷ e ∷ g ∷ h ∷ i ∷ [])) 6) 0 _ fall still refl
  falling_offset_rgba (suc zero) within fall still =
      offset_moves (slice_index (a ∷ u ∷ c ∷ d ∷ e ∷ g ∷ h ∷ i ∷ []))
      (slice_index (a ∷ k ∷ c ∷ d ∷ e ∷ g ∷ h ∷ i ∷ []))
      (base (slice_index (a ∷ u ∷ c ∷ d ∷ e ∷ g ∷ h ∷ i ∷ [])) 6)
      (base_with_offset (slice_index (a ∷ u ∷ c ∷ d ∷ e ∷ g ∷ h ∷ i ∷ [])) 6)
      (base (slice_index (a ∷ k ∷ c ∷ d ∷ e ∷ g ∷ h ∷ i ∷ [])) 6)
      (base_with_offset (slice_index (a ∷ k ∷ c ∷ d ∷ e ∷ g ∷ h ∷ i ∷ [])) 6) 0 _ fall still refl
  falling_offset_rgba (suc (suc zero)) within fall still =
      offset_moves (slice_index (a ∷ b ∷ u ∷ d ∷ e ∷ g ∷ h ∷ i ∷ []))
      (slice_index (a ∷ b ∷ k ∷ d ∷ e ∷ g ∷ h ∷ i ∷ []))
      (base (slice_index (a ∷ b ∷ u ∷ d ∷ e ∷ g ∷ h ∷ i ∷ [])) 6)
      (base_with_offset (slice_index (a ∷ b ∷ u ∷ d ∷ e ∷ g ∷ h ∷ i ∷ [])) 6)
      (base (slice_index (a ∷ b ∷ k ∷ d ∷ e ∷ g ∷ h ∷ i ∷ [])) 6)
      (base_with_offset (slice_index (a ∷ b ∷ k ∷ d ∷ e ∷ g ∷ h ∷ i ∷ [])) 6) 1 _ fall still refl
  falling_offset_rgba (suc (suc (suc zero))) within fall still =
      offset_moves (slice_index (a ∷ b ∷ c ∷ u ∷ e ∷ g ∷ h ∷ i ∷ []))
      (slice_index (a ∷ b ∷ c ∷ k ∷ e ∷ g ∷ h ∷ i ∷ []))
      (base (slice_index (a ∷ b ∷ c ∷ u ∷ e ∷ g ∷ h ∷ i ∷ [])) 6)
      (base_with_offset (slice_index (a ∷ b ∷ c ∷ u ∷ e ∷ g ∷ h ∷ i ∷ [])) 6)
      (base (slice_index (a ∷ b ∷ c ∷ k ∷ e ∷ g ∷ h ∷ i ∷ [])) 6)
      (base_with_offset (slice_index (a ∷ b ∷ c ∷ k ∷ e ∷ g ∷ h ∷ i ∷ [])) 6) 1 _ fall still refl
  falling_offset_rgba (suc (suc (suc (suc zero)))) within fall still = absurd (cc)
  falling_offset_rgba (suc (suc (suc (suc (suc zero))))) within fall still = absurd (cc)
  falling_offset_rgba (suc (suc (suc (suc (suc (suc zero)))))) within fall still =
      offset_moves (slice_index (a ∷ b ∷ c ∷ d ∷ e ∷ g ∷ u ∷ i ∷ []))
      (slice_index (a ∷ b ∷ c ∷ d ∷ e ∷ g ∷ k ∷ i ∷ []))
      (base (slice_index (a ∷ b ∷ c ∷ d ∷ e ∷ g ∷ u ∷ i ∷ [])) 6)
      (base_with_offset (slice_index (a ∷ b ∷ c ∷ d ∷ e ∷ g ∷ u ∷ i ∷ [])) 6)
      (base (slice_index (a ∷ b ∷ c ∷ d ∷ e ∷ g ∷ k ∷ i ∷ [])) 6)
      (base_with_offset (slice_index (a ∷ b ∷ c ∷ d ∷ e ∷ g ∷ k ∷ i ∷ [])) 6) 3 _ fall still refl
  falling_offset_rgba (suc (suc (suc (suc (suc (suc (suc zero))))))) within fall still =
      offset_moves (slice_index (a ∷ b ∷ c ∷ d ∷ e ∷ g ∷ h ∷ u ∷ []))
      (slice_index (a ∷ b ∷ c ∷ d ∷ e ∷ g ∷ h ∷ k ∷ []))
      (base (slice_index (a ∷ b ∷ c ∷ d ∷ e ∷ g ∷ h ∷ u ∷ [])) 6)
      (base_with_offset (slice_index (a ∷ b ∷ c ∷ d ∷ e ∷ g ∷ h ∷ u ∷ [])) 6)
      (base (slice_index (a ∷ b ∷ c ∷ d ∷ e ∷ g ∷ h ∷ k ∷ [])) 6)
      (base_with_offset (slice_index (a ∷ b ∷ c ∷ d ∷ e ∷ g ∷ h ∷ k ∷ [])) 6) 3 _ fall still refl
  falling_offset_rgba (suc (suc (suc (suc (suc (suc (suc (suc n)))))))) within fall still =
      absurd (omega arith)

  of_mode : (mode place : ℕ) → place < endpoint_integers mode
      → IsTrue (moves_one Rising mode (set eight place u) place)
      → IsTrue (moves_one Rising mode (set eight place k) place) → Moves mode place
  of_mode mode place =
      elim (cases_eq mode 6) [
        | inl is ↦ rw is (λ within on also. scaled_rgb place within on)
        | inr not_six ↦ elim (cases_eq mode 10) [
          | inl is ↦ rw is (λ within on also. scaled_rgba place within on)
          | inr not_ten ↦ elim (cases_eq mode 9) [
            | inl is ↦ rw is (λ within on also. offset_rgb place within on also)
            | inr not_nine ↦ elim (cases_eq mode 13) [
              | inl is ↦ rw is (λ within on also. offset_rgba place within on also)
              | inr not_thirteen ↦ elim (cases_eq mode 8) [
                | inl is ↦ rw is (rising_rgb place)
                | inr not_eight ↦ elim (cases_eq mode 12) [
                  | inl is ↦ rw is (rising_rgba place)
                  | inr not_twelve ↦ λ within on also.
                      let no : false ≡ true =
                      rw (
                        ne_eqb mode 6 not_six,
                        ne_eqb mode 10 not_ten,
                        ne_eqb mode 8 not_eight,
                        ne_eqb mode 12 not_twelve,
                        ne_eqb mode 9 not_nine,
                        ne_eqb mode 13
                            not_thirteen,
                      ) at on
                      in
                      absurd (cc)
                ]
              ]
            ]
          ]
        ]
      ]

  none_falls : (mode place : ℕ) → mode ≢ 8 → mode ≢ 12 → mode ≢ 9 → mode ≢ 13
      → IsTrue (moves_one Falling mode (set eight place u) place) → (A : Type 0) → A
  none_falls mode place not_eight not_twelve not_nine not_thirteen on A =
      elim (cases_eq (place / 2) 2) [
        | inl is ↦ let no : false ≡ true = rw is at on in absurd (cc)
        | inr other ↦
            let no : false ≡ true =
            rw (
              ne_eqb (place / 2) 2 other,
              ne_eqb mode 8 not_eight,
              ne_eqb mode 12 not_twelve,
              ne_eqb mode 9 not_nine,
              ne_eqb mode 13 not_thirteen,
            ) at on in
            absurd (cc)
      ]

  of_falling_mode : (mode place : ℕ) → place < endpoint_integers mode
      → IsTrue (moves_one Falling mode (set eight place u) place)
      → IsTrue (moves_one Falling mode (set eight place k) place)
      → MovesIn Falling mode place
  of_falling_mode mode place =
      elim (cases_eq mode 8) [
        | inl is ↦ rw is (falling_rgb place)
        | inr not_eight ↦ elim (cases_eq mode 12) [
          | inl is ↦ rw is (falling_rgba place)
          | inr not_twelve ↦ elim (cases_eq mode 9) [
            | inl is ↦ rw is (falling_offset_rgb place)
            | inr not_nine ↦ elim (cases_eq mode 13) [
              | inl is ↦ rw is (falling_offset_rgba place)
              | inr not_thirteen ↦ λ within on also.
                  none_falls mode place not_eight not_twelve not_nine not_thirteen on _
            ]
          ]
        ]
      ]

  in_order : (trend : Trend) (mode place : ℕ) → place < endpoint_integers mode
      → IsTrue (moves_one trend mode (set eight place u) place)
      → IsTrue (moves_one trend mode (set eight place k) place)
      → MovesIn trend mode place
  in_order Rising mode place = of_mode mode place
  in_order Falling mode place = of_falling_mode mode place

-- for two values with the same trend that move one channel, the endpoints differ in this channel
-- only
pub moves : (trend : Trend) (mode place u k : ℕ) (values : List ℕ) → length values ≡ 8
    → place < endpoint_integers mode
    → IsTrue (moves_one trend mode (set values place u) place)
    → IsTrue (moves_one trend mode (set values place k) place)
    → MovesOne (moved_channel mode place) (moved_ends trend mode (set values place u) place)
    (ends_of mode values place u) (ends_of mode values place k)
moves trend mode place u k values all within =
    subst (λ xs. IsTrue (moves_one trend mode (set xs place u) place)
    → IsTrue (moves_one trend mode (set xs place k) place)
    → MovesOne (moved_channel mode place) (moved_ends trend mode (set xs place u) place)
    (ends_of mode xs place u) (ends_of mode xs place k))
    (sym (eight_entries values all)) (in_order _ _ _ _ _ _ _ _ u k trend mode place within)

pub channel_small : (trend : Trend) (mode place : ℕ) (values : List ℕ) → place < 8
    → IsTrue (moves_one trend mode values place) → moved_channel mode place < 4
channel_small trend mode place values small on =
    elim (cases_eq mode 6) [
      | inl is ↦ rw is (omega arith)
      | inr not_six ↦ elim (cases_eq mode 10) [
        | inl is ↦ rw is (omega arith)
        | inr not_ten ↦ rw (ne_eqb mode 6 not_six, ne_eqb mode 10 not_ten) (omega arith)
      ]
    ]

-- the form is that without the channel, plus the term of the channel
cancelled : (form others kept own whole : ℕ) → form + kept ≡ whole + own → others + kept ≡ whole
    → form ≡ others + own
cancelled form others kept own whole moved without = omega (arith, moved, without)

module _ (tables : Tables) (floor : PartitionFloor) (c : ℕ) (pair : ℕ × ℕ) (ends kept : Ends)
    (within : c < 4) (moved : MovesOne c pair ends kept) (others : ℕ) where
  pub more_of_others : others + channel_more tables floor c (slice_index kept.0 c)
      (slice_index kept.1 c) ≡ form_more tables floor kept
      → form_more tables floor ends ≡ others + channel_more tables floor c pair.0 pair.1
  more_of_others without =
      rw moved.is (cancelled _ others _ _ _
      (more_moves tables floor c pair within kept.0 kept.1 moved.first_four
      moved.second_four) without)

  pub less_of_others : others + channel_less tables floor c (slice_index kept.0 c)
      (slice_index kept.1 c) ≡ form_less tables floor kept
      → form_less tables floor ends ≡ others + channel_less tables floor c pair.0 pair.1
  less_of_others without =
      rw moved.is (cancelled _ others _ _ _
      (less_moves tables floor c pair within kept.0 kept.1 moved.first_four
      moved.second_four) without)
