use Rattle.std.proofs.Common.{◌≡◌, ◌≤◌, ◌-◌, length, take, sym, ◌∙◌, ap, arith, rules}
use Rattle.std.proofs.lemmas.Slice.{overwrites}
use Rattle.tex_shelf.specs.Files.{with_front}
use Rattle.tex_shelf.proofs.BufferLemmas.{take-filled, drop-filled, drop_later, length_from}
use Rattle.tex_shelf.proofs.FilesLemmas.{with_front-with_front}
use Rattle.tex_shelf.proofs.transfer.take_full.Goals as goal

pub loop-done-preserved : goal.loop-done-preserved
loop-done-preserved g c =
    let before = c.loop-done.invariant in
    let call = c.in_ok-taken.ensures in
    let d = c.loop-done.done in
    let n = c.in_ok-taken.taken in
    let xs = c.loop-done.into in
    let ys = c.take.new.into in
    let long : length ys ≡ length xs - d = c.take.auto.into ∙ length_from xs d in
    let few : n ≤ length ys = omega (arith, call.within, c.take.auto.into) in
    record {
      within = search (rules, overwrites);
      left = before.left
          ∙ ap (with_front (take d xs)) call.bytes
          ∙ with_front-with_front (take d xs) (take n ys) (g.S.Shelf.left c.take.new.self)
          ∙ ap (λ front. with_front front (g.S.Shelf.left c.take.new.self))
          (sym (take-filled xs ys d n before.within few));
      places = drop-filled xs ys d n before.within call.places
          ∙ drop_later xs c.args.into.now d n before.places;
      files = call.files ∙ before.files;
      target = call.target ∙ before.target;
      later = omega (arith, before.later, call.counts.never_falls);
      other = call.counts.other ∙ before.other;
      can_open = λ q may. call.can_open q (before.can_open q may);
      can_create = λ q may. call.can_create q (before.can_create q may);
    }
