use Rattle.std.proofs.Common.{◌≡◌, ap, sym, ◌∙◌, inl, inr, ◌⊎◌}
use Rattle.std.proofs.lemmas.Bool.{leb-true}
use Rattle.texel_error.specs.Shown.{Ends}
use Rattle.error_tables.specs.RowFloors.{pair_ends_of}
use Rattle.error_tables.proofs.RowLaws.{row_law, row_over}
use Rattle.error_state.proofs.pairs.is_row_over.Goals as goal

pub returns-then-least_with_first-scan : goal.returns-then-least_with_first-scan
returns-then-least_with_first-scan c = λ on second small forms.
    let ends : Ends = pair_ends_of c.args.scan.now.cem c.args.scan.now.values c.args.pair
    c.args.first second in
    let first_is : (pair_ends_of c.args.scan.now.cem c.args.scan.now.values c.args.pair c.args.first
    255).0 ≡ c.pair_ends.result.0 = ap (λ e. e.0) (sym c.pair_ends.ensures) in
    let second_is : (pair_ends_of c.args.scan.now.cem c.args.scan.now.values c.args.pair
    c.args.first 0).1 ≡ c.pair_ends-2.result.1 =
    ap (λ e. e.1) (sym c.pair_ends-2.ensures) in
    let given : (ends.0 ≡ c.pair_ends.result.0) ⊎ (ends.1 ≡ c.pair_ends-2.result.1) =
    elim (row_law c.args.scan.now.cem c.args.pair c.args.first second c.args.scan.now.values
    c.requires.eight c.requires.rows c.requires.pair small) [
      | inl same ↦ inl (same ∙ first_is)
      | inr same ↦ inr (same ∙ second_is)
    ]
    in
    row_over c.args.scan.now.tables.now c.args.scan.now.floor c.swapped_floor-swapped.result
    c.args.scan.now.most c.least_with_first.result
    c.least_with_first-then-least_with_first-scan.result
    ends c.pair_ends.result.0 c.pair_ends-2.result.1 c.swapped_floor-swapped.ensures.exact forms
    c.least_with_first.ensures c.least_with_first-then-least_with_first-scan.ensures
    c.if-least_with_first-scan.true
    (leb-true c.args.scan.now.most c.least_with_first-then-least_with_first-scan.result on) given
