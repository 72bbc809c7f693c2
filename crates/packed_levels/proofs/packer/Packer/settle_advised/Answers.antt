use Rattle.std.proofs.Common.{◌≡◌, length, rules}
use Rattle.packed_levels.specs.Settling.{SettlingWay}
use Rattle.encoder.proofs.EncodedLaws.{none-proposed}
use Rattle.packed_levels.proofs.ServingLaws.{serves-one, block-is}
use Rattle.packed_levels.proofs.packer.Packer.settle_advised.Goals as goal

pub returns-clause-settled : goal.returns-clause-settled
returns-clause-settled g c =
    let way : SettlingWay = record { w = g.row.W; h = g.row.H; options = c.args.self.now } in
    let size : length c.settle-error.result.0 ≡ 16 = search rules in
    record {
      size = size;
      proposals = _;
      proposed = λ none. absurd (cc (none, c.requires));
      settled = rw (c.self.invariant.settings, c.self.view_is) at c.settle-error.ensures.settled;
    }

pub returns-clause-served : goal.returns-clause-served
returns-clause-served g c =
    let way : SettlingWay = record { w = g.row.W; h = g.row.H; options = c.args.self.now } in
    let asked = c.ask-proposals.ensures in
    let settled = rw (c.self.invariant.settings, c.self.view_is)
    at c.settle-error.ensures.settled in
    let none = none-proposed way.w way.h way.options.settings c.args.source.now
    c.as_slice.result.now c.settle-error.result.0 c.settle-error.result.1 settled in
    serves-one way _ _ _ (record {
      places = c.args.source.now;
      bytes = c.settle-error.result.0;
      error = c.settle-error.result.1;
    }) c.ask-proposals.result.items
    (rw (c.ask_of-ask.ensures.ask, c.self.view_is) at asked.left)
    (rw (c.ask_of-ask.ensures.ask, c.self.view_is) at asked.echoing) asked.among
    c.settled.ensures.told
    (block-is g.row.W g.row.H _ settled.packed.settled.block settled.packed.settled.reads)
    (rw c.as_slice.ensures.value at none)
