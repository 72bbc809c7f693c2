-- The names that a job opens and creates, by its words.
use Rattle.std.proofs.Common.{◌≡◌, ℕ, ◌-◌, ◌≤◌, List, [], ◌∷◌, length, take, drop, Some, ap, sym, subst, arith}
use Rattle.std.specs.Prelude.{slice_index_or}
use Rattle.std.specs.List.{AllByRecursion}
use Rattle.std.specs.declared.string.String.{String}
use Rattle.std.specs.declared.alloc.Global.{Global}
use Rattle.std.proofs.Math.Seq.{take_all}
use Rattle.astc_words.specs.Commands.{texts}
use Rattle.astc_words.specs.declared.more.MoreCommand.{MoreCommand}
use Rattle.astc_words.specs.declared.more.MoreCommand.TheVariants.{Part, Join, Polish}
use Rattle.astc_words.specs.More.{more_command_of, opened_by, created_by, opened, created}
use Rattle.parting.proofs.GatherLaws.{texts-length}

-- the names among the words after the command
opens-by : (can_open : List ℕ → Type 0) (word : List ℕ) (words : List (List ℕ))
    (command : MoreCommand) → more_command_of word ≡ Some command
    → AllByRecursion can_open (opened (word ∷ words))
    → AllByRecursion can_open (opened_by (Some command) words)
opens-by can_open word words command is all =
    subst (λ found. AllByRecursion can_open (opened_by found words)) is all

creates-by : (can_create : List ℕ → Type 0) (word : List ℕ) (words : List (List ℕ))
    (command : MoreCommand) → more_command_of word ≡ Some command
    → AllByRecursion can_create (created (word ∷ words))
    → AllByRecursion can_create (created_by (Some command) words)
creates-by can_create word words command is all =
    subst (λ found. AllByRecursion can_create (created_by found words)) is all

module _ (can_open : List ℕ → Type 0) where
  pub part-opens : (words : List (List ℕ)) → more_command_of (slice_index_or words 0 [])
      ≡ Some Part → 3 ≤ length words → AllByRecursion can_open (opened words)
      → can_open (slice_index_or words 1 [])
  part-opens (word ∷ input ∷ output ∷ words) is long all =
      (opens-by can_open word (input ∷ output ∷ words) Part is all).0
  part-opens _ is long all = absurd (omega (arith, long))

  pub join-opens : (words : List (List ℕ)) → more_command_of (slice_index_or words 0 [])
      ≡ Some Join → 3 ≤ length words → AllByRecursion can_open (opened words)
      → AllByRecursion can_open (drop 2 words)
  join-opens (word ∷ output ∷ part ∷ parts) is long all =
      opens-by can_open word (output ∷ part ∷ parts) Join is all
  join-opens _ is long all = absurd (omega (arith, long))

  pub polish-opens : (words : List (List ℕ)) → more_command_of (slice_index_or words 0 [])
      ≡ Some Polish → 4 ≤ length words → AllByRecursion can_open (opened words)
      → can_open (slice_index_or words 1 []) × can_open (slice_index_or words 2 [])
  polish-opens (word ∷ images ∷ texture ∷ output ∷ words) is long all =
      let both = opens-by can_open word (images ∷ texture ∷ output ∷ words) Polish is all in
      (both.0, both.1.0)
  polish-opens _ is long all = absurd (omega (arith, long))

module _ (can_create : List ℕ → Type 0) where
  pub part-creates : (words : List (List ℕ)) → more_command_of (slice_index_or words 0 [])
      ≡ Some Part → 3 ≤ length words → AllByRecursion can_create (created words)
      → can_create (slice_index_or words 2 [])
  part-creates (word ∷ input ∷ output ∷ words) is long all =
      (creates-by can_create word (input ∷ output ∷ words) Part is all).0
  part-creates _ is long all = absurd (omega (arith, long))

  pub join-creates : (words : List (List ℕ)) → more_command_of (slice_index_or words 0 [])
      ≡ Some Join → 3 ≤ length words → AllByRecursion can_create (created words)
      → can_create (slice_index_or words 1 [])
  join-creates (word ∷ output ∷ part ∷ parts) is long all =
      (creates-by can_create word (output ∷ part ∷ parts) Join is all).0
  join-creates _ is long all = absurd (omega (arith, long))

  pub polish-creates : (words : List (List ℕ)) → more_command_of (slice_index_or words 0 [])
      ≡ Some Polish → 4 ≤ length words → AllByRecursion can_create (created words)
      → can_create (slice_index_or words 3 [])
  polish-creates (word ∷ images ∷ texture ∷ output ∷ words) is long all =
      (creates-by can_create word (images ∷ texture ∷ output ∷ words) Polish is all).0
  polish-creates _ is long all = absurd (omega (arith, long))

-- ---- words and their texts

pub texts-long : (words : List (String Global)) (n : ℕ) → n ≤ length words
    → n ≤ length (texts words)
texts-long words n long = omega (arith, long, texts-length words)

-- the words from 2 on
pub behind-two : (words : List (String Global)) → 3 ≤ length words → drop 2 (texts words)
    ≡ texts (take (length words - 2) (drop 2 words))
behind-two (first ∷ second ∷ words) long =
    sym (ap texts (take_all (length (first ∷ second ∷ words) - 2) words (omega arith)))
behind-two [] long = absurd (omega (arith, long))
behind-two (first ∷ []) long = absurd (omega (arith, long))
