-- The errors of a partition while a value moves one channel.
use Rattle.std.proofs.Common.{◌≡◌, ℕ, zero, suc, ◌+◌, ◌*◌, ◌<◌, ◌≤◌, List, [], ◌∷◌, length, get_or, set, take, refl, sym, ap, subst, ◌∙◌, arith}
use Rattle.std.specs.Prelude.{sum_by, IsTrue}
use Rattle.std.proofs.lemmas.List.{get_or-set_same, get_or-take, set-get_or}
use Rattle.std.proofs.lemmas.List.Elements.{All-get_or}
use Rattle.astc_model.specs.Endpoints.{endpoint_colours, endpoint_integers}
use Rattle.astc_model.proofs.ConstantLaws.{four_entries}
use Rattle.astc_model.specs.Levels.{count_of}
use Rattle.astc_model.specs.CodedTexels.{part_colours}
use Rattle.astc_model.specs.declared.block.Block.TheVariants.{Coded}
use Rattle.astc_model.specs.declared.block.Coded.{Coded as CodedFields}
use Rattle.texel_error.specs.Shown.{Ends}
use Rattle.texel_error.proofs.PartLaws.{part_fits}
use Rattle.error_tables.specs.Changed.{with_colour, HasColour}
use Rattle.error_tables.specs.Floors.{channel_part, with_channel}
use Rattle.error_tables.specs.State.{error_in, view_of}
use Rattle.error_tables.specs.Trials.{coloured}
use Rattle.error_tables.specs.declared.tables.Tables.{Tables}
use Rattle.error_tables.proofs.ColourTrial.{colour_result}
use Rattle.error_tables.proofs.FloorLaws.{coloured_sum}
use Rattle.colour_bounds.specs.PartScans.{integer_of}
use Rattle.colour_bounds.specs.Bounds.{ends_of, single_channel_of, IsSingleChannel}
use Rattle.colour_bounds.specs.OneChannel.{moves_one, moved_channel, moved_ends, MovesOne}
use Rattle.colour_bounds.specs.declared.one_channel.Trend.{Trend}
use Rattle.colour_bounds.specs.PartScans.{IsPartScan}
use Rattle.colour_bounds.specs.declared.part_scan.PartitionScan.{PartitionScan}
use Rattle.colour_bounds.proofs.BoundLaws.{small_place}
use Rattle.colour_bounds.proofs.OneChannelLaws.{moves, channel_small}
use Rattle.colour_bounds.proofs.PartScanLaws.{has_integer}

-- the errors of the partition's places are those of its present endpoints

module _ (w h : ℕ) (scan : PartitionScan) (place : ℕ) (is : IsPartScan w h scan)
    (within : place < endpoint_integers scan.cem) where
  abbrev block : CodedFields
  block = scan.tables.now.block

  abbrev integer : ℕ
  integer = get_or block.colours.items (integer_of scan place) 0

  same_block : with_colour block (integer_of scan place) integer ≡ block
  same_block = ap (λ items. record block { colours = record { items = items } })
      (set-get_or block.colours.items (integer_of scan place) 0)

  pub present_range : integer < count_of scan.tables.now.level
  present_range =
      let has : HasColour block scan.part (integer_of scan place) =
      has_integer w h scan place is within in
      let fits = part_fits block.cems scan.part block.parts is.own
      (omega (arith, is.kept.is_shaped.four_parts, is.kept.is_shaped.four_modes)) in
      All-get_or (λ i. i < count_of scan.tables.now.level) block.colours.items
      (integer_of scan place) 0
      (omega (arith, has.below, fits, is.kept.is_shaped.legal.all_colours))
      is.kept.is_shaped.colour_ranges

  pub taken_now : scan.floor.taken
      ≡ sum_by (coloured scan.tables.now
      (endpoint_colours scan.cem (take (endpoint_integers scan.cem) scan.values)))
      scan.reach.now
  taken_now =
      let ends : Ends = endpoint_colours scan.cem (take (endpoint_integers scan.cem) scan.values) in
      let has : HasColour block scan.part (integer_of scan place) =
      has_integer w h scan place is within in
      let own : ends ≡ part_colours block scan.tables.now.level scan.part =
      rw (is.values_are, is.mode_is) refl in
      let ends_are : ends ≡ part_colours (with_colour block (integer_of scan place) integer)
      scan.tables.now.level scan.part =
      subst (λ (b : CodedFields). ends ≡ part_colours b scan.tables.now.level scan.part)
      (sym same_block) own in
      let exchange = colour_result w h scan.tables.now is.kept
      (integer_of scan place) integer scan.part has present_range scan.reach.now ends _ _ is.reached
      ends_are is.floored.taken refl in
      let whole : error_in w h (view_of scan.tables.now)
      (Coded (with_colour block (integer_of scan place) integer)) ≡ scan.tables.now.total =
      ap (λ b. error_in w h (view_of scan.tables.now) (Coded b)) same_block ∙ sym is.kept.total_is
      in
      omega (arith, exchange, whole)

-- ---- one channel moves

module _ (a b c d moved : ℕ) where
  first : moved + b + c + d + a ≡ a + b + c + d + moved
  first = omega arith

  second : a + moved + c + d + b ≡ a + b + c + d + moved
  second = omega arith

  third : a + b + moved + d + c ≡ a + b + c + d + moved
  third = omega arith

  fourth : a + b + c + moved + d ≡ a + b + c + d + moved
  fourth = omega arith

module _ (tables : Tables) (reach : List ℕ) where
  abbrev channel_sum : (c first second : ℕ) → ℕ
  channel_sum c first second = get_or tables.weights c 0 * sum_by
      (channel_part tables c first second) reach

  abbrev Moves : ℕ → ℕ × ℕ → Ends → Type 0
  Moves c pair ends = sum_by (coloured tables (with_channel c pair ends)) reach + channel_sum c
      (get_or ends.0 c 0) (get_or ends.1 c 0)
      ≡ sum_by (coloured tables ends) reach + channel_sum c pair.0 pair.1

  module _ (pair : ℕ × ℕ) (r g b a s h e d : ℕ) where
    abbrev eight : Ends
    eight = (r ∷ g ∷ b ∷ a ∷ [], s ∷ h ∷ e ∷ d ∷ [])

    moves_at : (c : ℕ) → c < 4 → Moves c pair eight
    moves_at zero within = rw
        (coloured_sum tables (with_channel 0 pair eight) reach, coloured_sum tables eight reach)
        (first _ _ _ _ _)
    moves_at (suc zero) within =
        rw (coloured_sum tables (with_channel 1 pair eight) reach, coloured_sum tables eight reach)
        (second _ _ _ _ _)
    moves_at (suc (suc zero)) within =
        rw (coloured_sum tables (with_channel 2 pair eight) reach, coloured_sum tables eight reach)
        (third _ _ _ _ _)
    moves_at (suc (suc (suc zero))) within =
        rw (coloured_sum tables (with_channel 3 pair eight) reach, coloured_sum tables eight reach)
        (fourth _ _ _ _ _)
    moves_at (suc (suc (suc (suc k)))) within = absurd (omega arith)

  pub moves_channel : (c : ℕ) (pair : ℕ × ℕ) → c < 4 → (xs ys : List ℕ) → length xs ≡ 4 → length ys
      ≡ 4 → Moves c pair (xs, ys)
  moves_channel c pair within xs ys four also_four =
      subst (λ l. Moves c pair (l, ys)) (sym (four_entries xs four))
      (subst (λ l. Moves c pair (
        get_or xs 0 0 ∷ get_or xs 1 0 ∷ get_or xs 2 0 ∷ get_or xs 3 0
            ∷ [],
        l,
      )) (sym (four_entries ys also_four))
      (moves_at pair _ _ _ _ _ _ _ _ c within))

  -- the share of a channel is at most the sum over all channels
  pub channel_within : (c : ℕ) (ends : Ends) → c < 4 → channel_sum c (get_or ends.0 c 0)
      (get_or ends.1 c 0) ≤ sum_by (coloured tables ends) reach
  channel_within zero ends within = rw (coloured_sum tables ends reach) (omega arith)
  channel_within (suc zero) ends within = rw (coloured_sum tables ends reach) (omega arith)
  channel_within (suc (suc zero)) ends within = rw (coloured_sum tables ends reach) (omega arith)
  channel_within (suc (suc (suc zero))) ends within = rw (coloured_sum tables ends reach)
      (omega arith)
  channel_within (suc (suc (suc (suc c)))) ends within = absurd (omega arith)

module _ (w h : ℕ) (scan : PartitionScan) (trend : Trend) (place : ℕ) (is : IsPartScan w h scan)
    (within : place < endpoint_integers scan.cem)
    (on : IsTrue (moves_one trend scan.cem (set scan.values place (get_or scan.values place 0))
    place)) where
  abbrev c : ℕ
  c = moved_channel scan.cem place

  abbrev ends : ℕ → Ends
  ends value = ends_of scan.cem scan.values place value

  abbrev pair : ℕ → ℕ × ℕ
  pair value = moved_ends trend scan.cem (set scan.values place value) place

  abbrev present : ℕ
  present = get_or scan.values place 0

  small : c < 4
  small = channel_small trend scan.cem place (set scan.values place (get_or scan.values place 0))
      (small_place scan.cem place is.mode_fits within) on

  moved : (value : ℕ) → IsTrue (moves_one trend scan.cem (set scan.values place value) place)
      → MovesOne c (pair value) (ends value) (ends present)
  moved value also = moves trend scan.cem place value present scan.values is.eight_values within
      also on

  first_now : get_or (ends present).0 c 0 ≡ (pair present).0
  first_now =
      let m = moved present on in
      ap (λ (e : Ends). get_or e.0 c 0) m.is ∙ get_or-set_same (ends present).0 c (pair present).0 0
      (rw m.first_four small)

  second_now : get_or (ends present).1 c 0 ≡ (pair present).1
  second_now =
      let m = moved present on in
      ap (λ (e : Ends). get_or e.1 c 0) m.is ∙ get_or-set_same (ends present).1 c (pair present).1 0
      (rw m.second_four small)

  same_ends : ends present
      ≡ endpoint_colours scan.cem (take (endpoint_integers scan.cem) scan.values)
  same_ends =
      let front : get_or (take (endpoint_integers scan.cem) scan.values) place 0 ≡ present =
      get_or-take (endpoint_integers scan.cem) scan.values place 0 within in
      ap (endpoint_colours scan.cem)
      (ap (set (take (endpoint_integers scan.cem) scan.values) place) (sym front)
      ∙ set-get_or (take (endpoint_integers scan.cem) scan.values) place 0)

  taken_is : scan.floor.taken ≡ sum_by (coloured scan.tables.now (ends present)) scan.reach.now
  taken_is = taken_now w h scan place is within
      ∙ ap (λ e. sum_by (coloured scan.tables.now e) scan.reach.now) (sym same_ends)

  own_now : channel_sum scan.tables.now scan.reach.now c (get_or (ends present).0 c 0)
      (get_or (ends present).1 c 0) ≡ single_channel_of scan trend place present
  own_now = rw (first_now, second_now) refl

  -- the share of the channel that the value moves
  pub single_channel_is : (kept : ℕ) → kept ≡ single_channel_of scan trend place present
      → IsSingleChannel scan trend place kept
  single_channel_is kept kept_is = record {
    within = rw (kept_is, ← own_now, taken_is) (channel_within scan.tables.now scan.reach.now c
        (ends present) small);
    moves = λ value also.
        let m = moved value also in
        let sum : Ends → ℕ = λ e. sum_by (coloured scan.tables.now e) scan.reach.now in
        let law : sum (with_channel c (pair value) (ends present)) + channel_sum scan.tables.now
        scan.reach.now c (get_or (ends present).0 c 0) (get_or (ends present).1 c 0)
        ≡ sum (ends present) + channel_sum scan.tables.now scan.reach.now c (pair value).0
        (pair value).1 =
        moves_channel scan.tables.now scan.reach.now c (pair value) small (ends present).0
        (ends present).1 m.first_four m.second_four
        in
        plain _ _ _ _ _ _ _ _ (ap sum m.is) kept_is own_now taken_is law;
  }
    where
      plain : (n m kept now own taken old moved : ℕ) → n ≡ m → kept ≡ now → own ≡ now → taken ≡ old
          → m + own ≡ old + moved → n + kept ≡ taken + moved
      plain n m kept now own taken old moved n_is kept_is own_is taken_is law =
          omega (arith, n_is, kept_is, own_is, taken_is, law)
