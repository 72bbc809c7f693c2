use Rattle.std.proofs.Common.{◌≡◌, ℕ, ◌+◌, ◌<◌, List, set, sym, ◌∙◌}
use Rattle.std.specs.Prelude.{IsTrue, slice_index}
use Rattle.texel_error.specs.Shown.{Ends}
use Rattle.error_tables.specs.Floors.{form_more, form_less, channel_more, channel_less}
use Rattle.colour_bounds.specs.Bounds.{ends_of}
use Rattle.colour_bounds.specs.OneChannel.{moves_one, moved_channel, moved_ends, MovesOne}
use Rattle.colour_bounds.proofs.BoundLaws.{small_place}
use Rattle.colour_bounds.proofs.OneChannelLaws.{moves, channel_small, more_of_others, less_of_others}
use Rattle.colour_bounds.proofs.one_channel.others_form.Given.{Over}
use Rattle.colour_bounds.proofs.one_channel.others_form.Goals as goal
use Rattle.colour_bounds.proofs.one_channel.others_form.Goals.{After-form_without-others}

module _ (g : Over) (c : After-form_without-others g) where
  abbrev mode : ℕ
  mode = c.args.scan.now.cem

  abbrev values : List ℕ
  values = c.args.scan.now.values

  abbrev place : ℕ
  place = c.args.place

  abbrev kept : Ends
  kept = ends_of mode values place c.args.value

  on : IsTrue (moves_one c.args.trend mode (set values place c.args.value) place)
  on = rw c.from.ensures at (sym c.moves_one.ensures ∙ c.if-not-moves_one.false)

  within : moved_channel mode place < 4
  within = channel_small c.args.trend mode place (set values place c.args.value)
      (small_place mode place c.requires.scan.mode_fits c.requires.place) on

  moved : (value : ℕ) → IsTrue (moves_one c.args.trend mode (set values place value) place)
      → MovesOne (moved_channel mode place)
      (moved_ends c.args.trend mode (set values place value) place)
      (ends_of mode values place value) kept
  moved value also = moves c.args.trend mode place value c.args.value values
      c.requires.scan.eight_values c.requires.place also on

  more : c.form_without-others.result.more + channel_more c.args.scan.now.tables.now
      c.args.scan.now.floor (moved_channel mode place)
      (slice_index kept.0 (moved_channel mode place))
      (slice_index kept.1 (moved_channel mode place))
      ≡ form_more c.args.scan.now.tables.now c.args.scan.now.floor kept
  more = rw (c.ends_with-ends.ensures, c.moved_channel-channel.ensures)
      at c.form_without-others.ensures.more

  less : c.form_without-others.result.less + channel_less c.args.scan.now.tables.now
      c.args.scan.now.floor (moved_channel mode place)
      (slice_index kept.0 (moved_channel mode place))
      (slice_index kept.1 (moved_channel mode place))
      ≡ form_less c.args.scan.now.tables.now c.args.scan.now.floor kept
  less = rw (c.ends_with-ends.ensures, c.moved_channel-channel.ensures)
      at c.form_without-others.ensures.less

pub returns : goal.returns
returns g c =
    let after : After-form_without-others g = (goal.at.returns g c).After-form_without-others in
    record {
      small_more = c.form_without-others.ensures.small_more;
      small_less = c.form_without-others.ensures.small_less;
      within = within g after;
      more_is = λ value also.
          more_of_others c.args.scan.now.tables.now c.args.scan.now.floor _ _ _ _ (within g after)
          (moved g after value also) _ (more g after);
      less_is = λ value also.
          less_of_others c.args.scan.now.tables.now c.args.scan.now.floor _ _ _ _ (within g after)
          (moved g after value also) _ (less g after);
    }

pub form_without-others-requires-clause-channel : goal.form_without-others-requires-clause-channel
form_without-others-requires-clause-channel g c =
    rw c.moved_channel-channel.ensures
    (channel_small c.args.trend c.args.scan.now.cem c.args.place _
    (small_place c.args.scan.now.cem c.args.place c.requires.scan.mode_fits
    c.requires.place)
    (sym c.moves_one.ensures ∙ c.if-not-moves_one.false))
