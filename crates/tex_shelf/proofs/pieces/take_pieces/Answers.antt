use Rattle.std.proofs.Common.{◌≡◌, ◌≤◌, ◌+◌, ◌*◌, ◌++◌, arith, rules}
use Rattle.std.proofs.Math.Nat.{mul-le-mul_left}
use Rattle.std.proofs.lemmas.Slice.{overwrites}
use Rattle.tex_shelf.proofs.TakingLemmas.{front_on, front_short}
use Rattle.tex_shelf.proofs.PieceLemmas.{pieces_on}
use Rattle.tex_shelf.proofs.pieces.take_pieces.Goals as goal

pub returns-then-taken-step-clause-taken : goal.returns-then-taken-step-clause-taken
returns-then-taken-step-clause-taken g c =
    let size = g.row.N in
    let before = c.loop-done.invariant.taken in
    let more = c.in_ok-taken.ensures.taken in
    let most : size * (c.loop-done.done + c.min-step.result) ≤ size * c.args.count =
    mul-le-mul_left size (omega arith) in (
      before.0 ++ more.0,
      front_short (size * c.args.count) (size * c.loop-done.done)
          (size * c.min-step.result) c.in_ok-taken.taken before.0 more.0 _ _ _ before.1 more.1
          c.if-taken-step.true (omega arith),
      λ all. absurd (omega arith),
    )

pub loop-done-preserved : goal.loop-done-preserved
loop-done-preserved g c =
    let size = g.row.N in
    let before = c.loop-done.invariant.taken in
    let more = c.in_ok-taken.ensures.taken in
    let full : c.in_ok-taken.taken ≡ size * c.min-step.result = omega (arith, more.1.most) in
    record {
      within = omega arith;
      wide = search (rules, overwrites);
      taken = (
        before.0 ++ more.0,
        front_on (size * c.loop-done.done) (size * c.min-step.result) c.in_ok-taken.taken
            (size * (c.loop-done.done + c.min-step.result)) before.0 more.0 _ _ _ before.1 more.1
            (omega arith),
        pieces_on size c.args.pieces.now.items c.loop-done.pieces.items c.take_step.new.pieces.items
            c.loop-done.done c.min-step.result before.0 more.0 before.1.count before.2
            (more.2 full),
      );
      rest = search rules;
    }
