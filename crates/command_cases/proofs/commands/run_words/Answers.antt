use Rattle.std.proofs.Common.{ℕ, List}
use Rattle.astc_words.specs.Commands.{texts}
use Rattle.astc_words.specs.More.{opened, created}
use Rattle.astc_run.proofs.NameLaws.{all-of}
use Rattle.command_cases.proofs.commands.run_words.Goals as goal

pub run_more-requires-clause-can_open : goal.run_more-requires-clause-can_open
run_more-requires-clause-can_open g c = let P : List ℕ → Type 0 = λ name. Unit {0} in
    all-of P (λ name. tt) (opened (texts c.args.words.now))

pub run_more-requires-clause-can_create : goal.run_more-requires-clause-can_create
run_more-requires-clause-can_create g c = let P : List ℕ → Type 0 = λ name. Unit {0} in
    all-of P (λ name. tt) (created (texts c.args.words.now))
