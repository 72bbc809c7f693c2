use Rattle.std.proofs.Common.{◌≡◌, ◌++◌, take, drop}
use Rattle.astc_words.specs.Weights.{before_comma, behind_comma}
use Rattle.astc_words.proofs.numbers.cut_at_comma.Given as goal

-- no comma so far
abbrev pub invariant-loop-at : goal.invariant-loop-at
invariant-loop-at l = record {
  front : before_comma l.text ≡ take l.at l.text ++ before_comma (drop l.at l.text);
  rest : behind_comma l.text ≡ behind_comma (drop l.at l.text);
}
