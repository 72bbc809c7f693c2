use Rattle.std.proofs.Common.{◌≡◌, subst, sym}
use Rattle.error_tables.specs.State.{StateView}
use Rattle.error_state.specs.declared.kinds.CodedKind.{CodedKind}
use Rattle.error_state.specs.declared.kinds.CodedKind.TheVariants.{Colour, Weight}
use Rattle.descent.specs.Least.{NoneBetter, view_of}
use Rattle.descent.proofs.ChangeLaws.{none_of_kinds, kinds_of_none}
use Rattle.descent.proofs.least.is_least_coded.Goals as goal

pub returns-then-are_least-clause-exact : goal.returns-then-are_least-clause-exact
returns-then-are_least-clause-exact g c =
    let same : c.start-state.result
    ≡ view_of c.args.flavour c.args.weights c.args.source.now c.args.coded.now =
    c.start-state.ensures in
    let P : CodedKind → StateView → Type 0 =
    λ kind state. NoneBetter g.row.W g.row.H state kind in (
      λ last. none_of_kinds g.row.W g.row.H c.args.flavour c.args.weights c.args.source.now
          c.args.coded.now
          (subst (P Colour) same (c.are_least.ensures.least.0 c.if-are_least.true))
          (subst (P Weight) same (c.are_least-then-are_least.ensures.least.0 last)),
      λ none. c.are_least-then-are_least.ensures.least.1
          (subst (P Weight) (sym same)
          (kinds_of_none g.row.W g.row.H c.args.flavour c.args.weights c.args.source.now
          c.args.coded.now none Weight)),
    )

pub returns-else-are_least-clause-exact : goal.returns-else-are_least-clause-exact
returns-else-are_least-clause-exact g c =
    let same : c.start-state.result
    ≡ view_of c.args.flavour c.args.weights c.args.source.now c.args.coded.now =
    c.start-state.ensures in
    let P : CodedKind → StateView → Type 0 = λ kind state. NoneBetter g.row.W g.row.H state kind in
    let off = c.if-are_least.false in (
      λ on. absurd (cc (on, off)),
      λ none. c.are_least.ensures.least.1
          (subst (P Colour) (sym same)
          (kinds_of_none g.row.W g.row.H c.args.flavour c.args.weights c.args.source.now
          c.args.coded.now none Colour)),
    )
