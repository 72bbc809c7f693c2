use Rattle.std.proofs.Common.{◌+◌, ◌/◌, ◌<◌, arith}
use Rattle.texel_error.proofs.LaneLaws.{chosen_is}
use Rattle.texel_error.proofs.drawn.channel_weights.Goals as goal

pub returns-then-plane-eq0-clause-small_first : goal.returns-then-plane-eq0-clause-small_first
returns-then-plane-eq0-clause-small_first g c = λ k l.
    omega (
      arith,
      c.spread.ensures.first.each k l,
      c.weights_of.ensures.small (0 + k / 4) (omega arith),
    )

pub returns-then-plane-eq0-clause-small_second : goal.returns-then-plane-eq0-clause-small_second
returns-then-plane-eq0-clause-small_second g c = λ k l.
    omega (
      arith,
      c.spread.ensures.second.each k l,
      c.weights_of.ensures.small (2 + k / 4) (omega arith),
    )

pub returns-else-plane-eq0-clause-first : goal.returns-else-plane-eq0-clause-first
returns-else-plane-eq0-clause-first g c =
    let some : 0 < c.args.plane = omega arith in
    chosen_is c.args.outline.now c.args.own.now 0 (omega arith) c.args.plane c.requires.plane some
    c.weights_of.result c.weights_of-else-plane-eq0.result c.spread.result.0
    c.spread-else-plane-eq0.result.0 c.at_channel.result c.weights_of.ensures.lanes
    c.weights_of-else-plane-eq0.ensures.lanes c.spread.ensures.first
    c.spread-else-plane-eq0.ensures.first c.at_channel.ensures

pub returns-else-plane-eq0-clause-second : goal.returns-else-plane-eq0-clause-second
returns-else-plane-eq0-clause-second g c =
    let some : 0 < c.args.plane = omega arith in
    chosen_is c.args.outline.now c.args.own.now 2 (omega arith) c.args.plane c.requires.plane some
    c.weights_of.result c.weights_of-else-plane-eq0.result c.spread.result.1
    c.spread-else-plane-eq0.result.1 c.at_channel-else-plane-eq0.result c.weights_of.ensures.lanes
    c.weights_of-else-plane-eq0.ensures.lanes c.spread.ensures.second
    c.spread-else-plane-eq0.ensures.second c.at_channel-else-plane-eq0.ensures
