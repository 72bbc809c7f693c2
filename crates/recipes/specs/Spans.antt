-- The groups of recipes as runs of the table of all entries (spans).
use Rattle.std.specs.Prelude.{◌+◌, ◌≤◌, Bool, ◌&&◌, nat_le, take}
use Rattle.std.proofs.Common.{drop}
use Rattle.recipes.specs.declared.table.Span.{Span}
use Rattle.recipes.specs.declared.table.TheConstants.{ENTRIES}
use Rattle.astc_model.specs.Recipes.{Group}

-- the group of a span: its number of seeds, and its run of the table
abbrev pub group_of : Span → Group
group_of span = record { seeds = span.seeds; entries = take span.count (drop span.first ENTRIES) }

-- the run of the span lies in the table, and its counts are small
pub record IsSpan (span : Span) : Type 0 where
  pub within : span.first + span.count ≤ 64
  pub some : 1 ≤ span.count
  pub few : span.seeds ≤ 64

-- IsSpan as a test
abbrev pub is_span : Span → Bool
is_span span = nat_le (span.first + span.count) 64 && (nat_le 1 span.count && nat_le span.seeds 64)
