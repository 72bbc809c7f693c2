-- The groups in the code's table.
use Rattle.std.proofs.Common.{◌≡◌, ℕ, ◌+◌, ◌*◌, ◌/◌, ◌<◌, length, get_or, refl, sym, div-lt_iff_lt-mul}
use Rattle.std.specs.Prelude.{slice_index_or}
use Rattle.recipes.specs.declared.table.Span.{Span}
use Rattle.recipes.specs.declared.table.TheConstants.{ENTRIES}
use Rattle.recipes.specs.Entries.{no_recipe}
use Rattle.recipes.specs.Spans.{group_of, IsSpan}
use Rattle.recipes.proofs.EntryLaws.{length-cut, get_or-cut}

pub length_entries : (span : Span) → IsSpan span → span.count ≡ length (group_of span).entries
length_entries span is = sym (length-cut ENTRIES span.first span.count 64 refl is.within)

pub entry_is : (span : Span) (k : ℕ) → k < span.count
    → slice_index_or ENTRIES (span.first + k) no_recipe
    ≡ slice_index_or (group_of span).entries k no_recipe
entry_is span k below = sym (get_or-cut ENTRIES span.first span.count k no_recipe below)

pub seed_below : (i n seeds : ℕ) → 0 < n → i < seeds * n → i / n < seeds
seed_below i n seeds some below = (div-lt_iff_lt-mul some).1 below
