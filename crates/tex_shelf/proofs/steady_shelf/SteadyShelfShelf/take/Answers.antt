use Rattle.std.proofs.Common.{◌+◌, ◌++◌, take, drop, Some, sym, ◌∙◌, ap}
use Rattle.tex_shelf.specs.States.{SteadyState}
use Rattle.tex_shelf.proofs.BufferLemmas.{drop-split}
use Rattle.tex_shelf.proofs.steady_shelf.SteadyShelfShelf.take.Goals as goal

pub returns-clause-bytes : goal.returns-clause-bytes
returns-clause-bytes c =
    let at = c.self.inside.at in
    let n = c.min-n.result in
    let input = c.deref.result.now in
    let moved = take n c.copy_front.new.into in
    ap Some
    (ap (λ (shelf : SteadyState). shelf.left) (sym c.self.view_is)
    ∙ ap (drop at) (sym c.deref.ensures.value)
    ∙ drop-split input at n
    ∙ ap (λ front. front ++ drop (at + n) input) (sym c.copy_front.ensures.bytes)
    ∙ ap (λ xs. moved ++ drop (at + n) xs) c.deref.ensures.value)
