-- Entries for partitions that a block has or does not have.
use Rattle.std.proofs.Common.{◌≡◌, ℕ, ◌<◌, ◌≤◌, refl}
use Rattle.std.proofs.lemmas.Bool.{lt-ltb, le-ltb}
use Rattle.astc_model.specs.Fields.{if_part}

pub if_part-beyond : (parts part mode : ℕ) → parts ≤ part → if_part parts part mode ≡ 0
if_part-beyond parts part mode above = rw (le-ltb part parts above) refl

pub if_part-inside : (parts part mode : ℕ) → part < parts → if_part parts part mode ≡ mode
if_part-inside parts part mode below = rw (lt-ltb part parts below) refl
