use Rattle.std.proofs.Common.{◌+◌, ◌≤◌, ℕ, List, set, sym, ◌∙◌}
use Rattle.std.specs.Prelude.{IsTrue}
use Rattle.colour_bounds.specs.ThreeChannels.{moves_three, moved_red, moved_green, moved_blue, three_more, three_less}
use Rattle.colour_bounds.proofs.three_channels.is_far_with_three.Goals as goal

pub returns : goal.returns
returns g c = λ reached.
    let mode : ℕ = c.args.scan.now.cem in
    let values : List ℕ = set c.args.scan.now.values c.args.place c.args.value in
    let on : IsTrue (moves_three mode values c.args.place) =
    rw (c.from.ensures, c.mode_as-cem.ensures)
    at (sym c.moves_three.ensures ∙ c.if-not-moves_three.false) in
    let far : three_less c.args.three.now (moved_red mode values c.args.place)
    (moved_green mode values c.args.place) (moved_blue mode values c.args.place) + c.args.most
    ≤ three_more c.args.three.now (moved_red mode values c.args.place)
    (moved_green mode values c.args.place) (moved_blue mode values c.args.place) =
    rw (
      c.moved_red-red.ensures,
      c.moved_green-green.ensures,
      c.moved_blue-blue.ensures,
      c.from.ensures,
      c.mode_as-cem.ensures,
    ) at (c.reaches.ensures.0 reached)
    in
    rw (c.requires.three.less_is c.args.value on, c.requires.three.more_is c.args.value on) far
