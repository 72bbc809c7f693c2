use Rattle.std.proofs.Common.{◌≡◌, ℕ, ◌^◌, ◌<◌, get_or, length, rules, sym, ◌∙◌}
use Rattle.block_mode.proofs.LegalityLemmas.{legal-constant, constant-legal}
use Rattle.block_mode.proofs.legal.is_legal_constant.Goals as goal

pub returns : goal.returns
returns c =
    let four_values : length c.args.constant.rgba ≡ 4 = search rules in
    let four_coordinates : length c.args.constant.extent ≡ 4 = search rules in
    let values : (i : ℕ) → i < 4 → get_or c.args.constant.rgba i 0 < 2 ^ 16 = λ i within.
    search rules in (
      λ legal. legal-constant c.args.constant four_values four_coordinates values
          (sym c.is_legal_extent.ensures ∙ legal),
      λ legal. c.is_legal_extent.ensures ∙ constant-legal c.args.constant legal,
    )
