use Rattle.std.proofs.Common.{◌-◌, ◌++◌, take-add, length, take, drop, le_refl, refl, sym, ◌∙◌, ap, arith}
use Rattle.tex_shelf.specs.Files.{with_more}
use Rattle.tex_shelf.proofs.BufferLemmas.{length_from, take_from}
use Rattle.tex_shelf.proofs.FilesLemmas.{with_more-nil, with_more-with_more}
use Rattle.tex_shelf.proofs.transfer.put_all.Goals as goal

pub loop-done-init : goal.loop-done-init
loop-done-init g c = record {
  within = omega arith;
  files = sym (with_more-nil _ _);
  left = refl;
  target = refl;
  later = le_refl _;
  other = refl;
  can_open = λ n may. may;
  can_create = λ n may. may;
}

pub loop-done-preserved : goal.loop-done-preserved
loop-done-preserved g c =
    let before = c.loop-done.invariant in
    let call = c.in_ok-done.ensures in
    let d = c.loop-done.done in
    let n = c.in_ok-done.field-0 in
    let piece = c.args.piece.now in
    let files = g.S.Shelf.files c.args.shelf.now in
    let target = g.S.Shelf.target c.args.shelf.now in
    record {
      within = omega (arith, call.within, length_from piece d);
      files = call.bytes
          ∙ ap (λ t. with_more (g.S.Shelf.files c.loop-done.shelf) t
          (take n (take (length piece - d) (drop d piece)))) before.target
          ∙ ap (λ f. with_more f target (take n (take (length piece - d) (drop d piece))))
          before.files
          ∙ with_more-with_more files target (take d piece)
          (take n (take (length piece - d) (drop d piece)))
          ∙ ap (λ more. with_more files target (take d piece ++ more)) (take_from piece d n)
          ∙ ap (with_more files target) (sym (take-add d n piece));
      left = call.left ∙ before.left;
      target = call.target ∙ before.target;
      later = omega (arith, before.later, call.counts.never_falls);
      other = call.counts.other ∙ before.other;
      can_open = λ q may. call.can_open q (before.can_open q may);
      can_create = λ q may. call.can_create q (before.can_create q may);
    }
