use Rattle.std.proofs.Common.{◌≡◌, ◌≤◌, ◌+◌, ◌++◌, length, take, arith, rules, length-take-le}
use Rattle.std.proofs.lemmas.Slice.{overwrites}
use Rattle.tex_shelf.proofs.TakingLemmas.{front_on, front_short}
use Rattle.tex_shelf.proofs.pieces.skip.Goals as goal

pub returns-then-taken-step-clause-taken : goal.returns-then-taken-step-clause-taken
returns-then-taken-step-clause-taken g c =
    let before = c.loop-done.invariant.taken in
    let n = c.in_ok-taken.taken in
    let room : c.min-step.result ≤ length c.loop-done.piece =
    omega (arith, c.loop-done.invariant.wide) in
    let size : length (take c.min-step.result c.loop-done.piece) ≡ c.min-step.result =
    length-take-le c.min-step.result c.loop-done.piece room in (
      before.0 ++ take n c.take_full.new.into,
      front_short c.args.wanted c.loop-done.done (length (take c.min-step.result c.loop-done.piece))
          n before.0 (take n c.take_full.new.into) _ _ _
          before.1 c.in_ok-taken.ensures.taken (omega arith) (omega arith),
    )

pub loop-done-preserved : goal.loop-done-preserved
loop-done-preserved g c =
    let before = c.loop-done.invariant.taken in
    let n = c.in_ok-taken.taken in
    let room : c.min-step.result ≤ length c.loop-done.piece =
    omega (arith, c.loop-done.invariant.wide) in
    let size : length (take c.min-step.result c.loop-done.piece) ≡ c.min-step.result =
    length-take-le c.min-step.result c.loop-done.piece room in
    record {
      within = omega arith;
      wide = search (rules, overwrites);
      taken = (
        before.0 ++ take n c.take_full.new.into,
        front_on c.loop-done.done (length (take c.min-step.result c.loop-done.piece)) n
            (c.loop-done.done + c.min-step.result) before.0 (take n c.take_full.new.into) _ _ _
            before.1 c.in_ok-taken.ensures.taken (omega (arith, c.in_ok-taken.ensures.taken.most)),
      );
      rest = search rules;
    }
