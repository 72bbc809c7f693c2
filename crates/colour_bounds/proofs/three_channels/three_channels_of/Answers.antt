use Rattle.std.proofs.Common.{◌≡◌, ℕ, List, set, sym, ap, ◌∙◌}
use Rattle.std.specs.Prelude.{IsTrue}
use Rattle.texel_error.specs.Shown.{Ends}
use Rattle.error_tables.specs.Floors.{form_more, form_less}
use Rattle.colour_bounds.specs.Bounds.{ends_of}
use Rattle.colour_bounds.specs.ThreeChannels.{moves_three, moved_red, moved_green, moved_blue, with_colour_at}
use Rattle.colour_bounds.proofs.ThreeChannelsLaws.{moves}
use Rattle.colour_bounds.proofs.three_channels.three_channels_of.Given.{Over}
use Rattle.colour_bounds.proofs.three_channels.three_channels_of.Goals as goal
use Rattle.colour_bounds.proofs.three_channels.three_channels_of.Goals.{After-ends_with-ends}

module _ (g : Over) (c : After-ends_with-ends g) where
  abbrev mode : ℕ
  mode = c.args.scan.now.cem

  abbrev values : List ℕ
  values = c.args.scan.now.values

  abbrev place : ℕ
  place = c.args.place

  abbrev moved_ends : ℕ → Ends → Ends
  moved_ends value = with_colour_at place (moved_red mode (set values place value) place)
      (moved_green mode (set values place value) place)
      (moved_blue mode (set values place value) place)

  on : IsTrue (moves_three mode (set values place c.falling_value-value.result) place)
  on = rw c.from.ensures at (sym c.moves_three.ensures ∙ c.if-not-moves_three.false)

  ends_are : (value : ℕ) → IsTrue (moves_three mode (set values place value) place)
      → ends_of mode values place value ≡ moved_ends value c.ends_with-ends.result
  ends_are value also =
      moves mode place value c.falling_value-value.result values c.requires.scan.eight_values
      c.requires.place also on
      ∙ ap (moved_ends value) (sym c.ends_with-ends.ensures)

pub returns : goal.returns
returns g c =
    let after : After-ends_with-ends g = (goal.at.returns g c).After-ends_with-ends in
    record {
      small = c.three_channels.ensures.small;
      more_is = λ value also.
          ap (form_more c.args.scan.now.tables.now c.args.scan.now.floor)
          (ends_are g after value also) ∙ sym (c.three_channels.ensures.more _ _ _);
      less_is = λ value also.
          ap (form_less c.args.scan.now.tables.now c.args.scan.now.floor)
          (ends_are g after value also) ∙ sym (c.three_channels.ensures.less _ _ _);
    }
