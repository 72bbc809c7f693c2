use Rattle.std.proofs.Common.{◌≡◌, ℕ, ◌+◌, ◌*◌, ◌<◌, get_or, set, refl, sym, ap, ◌∙◌, inl, inr}
use Rattle.std.proofs.lemmas.Bool.{cases_lt}
use Rattle.std.proofs.lemmas.List.{set-get_or}
use Rattle.moments.specs.Floors.{factor_of}
use Rattle.moments.specs.declared.Moments.{Moments}
use Rattle.error_tables.specs.Floors.{widening_of, moments_at}
use Rattle.error_tables.specs.RowFloors.{plus_at, minus_at}
use Rattle.colour_bounds.specs.OneChannel.{moved_channel, moved_ends}
use Rattle.colour_bounds.specs.OwnWalks.{end_of, turned_moments}
use Rattle.colour_bounds.proofs.BoundLaws.{small_place}
use Rattle.colour_bounds.proofs.OneChannelLaws.{channel_small}
use Rattle.colour_bounds.proofs.SingleChannelLaws.{single_channel_is}
use Rattle.colour_bounds.proofs.WalkLaws.{walk_is}
use Rattle.colour_bounds.proofs.own_walk.walk_along.Goals as goal

pub returns-clause-walk : goal.returns-clause-walk
returns-clause-walk g c =
    let mode : ℕ = c.args.scan.now.cem in
    let place : ℕ = c.args.place in
    let channel : ℕ = moved_channel mode place in
    let present : ℕ = get_or c.args.scan.now.values place 0 in
    let e : ℕ × ℕ = moved_ends c.args.trend mode (set c.args.scan.now.values place present) place in
    let ends_are : c.moved_ends-ends.result ≡ e =
    c.moved_ends-ends.ensures
    ∙ ap (λ xs. moved_ends c.args.trend mode xs place)
    (sym (set-get_or c.args.scan.now.values place 0)) in
    let m : Moments = turned_moments c.args.is_first (moments_at c.args.scan.now.floor channel) in
    let k : ℕ = factor_of (widening_of c.args.scan.now.tables.now.decoded.flavour channel) in
    let small : channel < 4 =
    channel_small c.args.trend mode place (set c.args.scan.now.values place present)
    (small_place mode place c.requires.scan.mode_fits c.requires.place) c.requires.present in
    let moments_are : c.turned_moments-moments.result ≡ m =
    rw (c.moments_at.ensures.exact, c.moved_channel-channel.ensures)
    at c.turned_moments-moments.ensures.exact in
    let widening_is : c.widening_of-widening.result
    ≡ widening_of c.args.scan.now.tables.now.decoded.flavour channel =
    rw c.moved_channel-channel.ensures at c.widening_of-widening.ensures in
    let sum_is = rw (c.moved_channel-channel.ensures, ends_are)
    at c.channel_sum-sum.ensures.exact in
    let kept_is : c.shared-kept.result
    ≡ get_or c.args.scan.now.tables.now.weights channel 0 * c.channel_sum-sum.result =
    rw (c.share_at.ensures.exact, c.moved_channel-channel.ensures) at c.shared-kept.ensures.exact
    in
    let single = single_channel_is g.row.W g.row.H c.args.scan.now c.args.trend place
    c.requires.scan c.requires.place c.requires.present c.shared-kept.result
    (kept_is ∙ ap (λ n. get_or c.args.scan.now.tables.now.weights channel 0 * n) sum_is) in
    let near : plus_at m (k * end_of c.args.is_first e)
    < minus_at m (k * end_of c.args.is_first e) + m.second_squares * c.most-most.result =
    elim (cases_lt (plus_at m (k * end_of c.args.is_first e))
    (minus_at m (k * end_of c.args.is_first e) + m.second_squares * c.most-most.result)) [
      | inl less ↦ less
      | inr more ↦
          let far = c.is_far.ensures.1 (rw (moments_are, widening_is, ends_are) more) in
          absurd (cc)
    ] in
    walk_is g.row.W g.row.H c.args.scan.now place c.requires.scan c.requires.place c.args.trend
    c.args.is_first c.args.order c.args.start _ c.channel_sum-sum.result refl refl refl refl
    moments_are widening_is small sum_is
    kept_is (rw (c.from.ensures, c.from-2.ensures) at c.most-most.ensures.exact) single
    (rw moments_are at (c.is_convex.ensures c.if-not-is_convex.false)) c.requires.orders
    c.requires.starts c.requires.rises c.requires.alone c.requires.present near
    c.turned_moments-moments.ensures.small c.most-most.ensures.small

pub channel_sum-sum-requires-clause-channel : goal.channel_sum-sum-requires-clause-channel
channel_sum-sum-requires-clause-channel g c =
    rw c.moved_channel-channel.ensures
    (channel_small c.args.trend c.args.scan.now.cem c.args.place
    (set c.args.scan.now.values c.args.place (get_or c.args.scan.now.values c.args.place 0))
    (small_place c.args.scan.now.cem c.args.place c.requires.scan.mode_fits c.requires.place)
    c.requires.present)

pub share_at-requires-clause-channel : goal.share_at-requires-clause-channel
share_at-requires-clause-channel g c =
    rw c.moved_channel-channel.ensures
    (channel_small c.args.trend c.args.scan.now.cem c.args.place
    (set c.args.scan.now.values c.args.place (get_or c.args.scan.now.values c.args.place 0))
    (small_place c.args.scan.now.cem c.args.place c.requires.scan.mode_fits c.requires.place)
    c.requires.present)
