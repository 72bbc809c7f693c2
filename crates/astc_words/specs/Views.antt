-- The contents of parts of words, apart from the place of their bytes.
use Rattle.std.specs.Prelude.{ℕ, List, Option, Some, None}
use Rattle.std.specs.Borrow.{Bor}
use Rattle.astc_words.specs.declared.numbers.LeadingNumber.{LeadingNumber}
use Rattle.astc_words.specs.declared.options.OptionText.{OptionText}
use Rattle.astc_words.specs.declared.options.OptionRow.{OptionRow}
use Rattle.astc_words.specs.Options.{OptionLine, OptionWord}

-- the number at the start of a text, and the bytes after it
abbrev pub seen_number : Option LeadingNumber → Option (ℕ × List ℕ)
seen_number None = None
seen_number (Some front) = Some (front.number, front.rest.now)

-- the kind of an option, and the bytes of its value
abbrev pub seen_option : Option OptionText → Option OptionWord
seen_option None = None
seen_option (Some text) = Some (text.kind, text.value.now)

-- the bytes that are borrowed
abbrev pub seen_bytes : Option (Bor (List ℕ)) → Option (List ℕ)
seen_bytes None = None
seen_bytes (Some bytes) = Some bytes.now

-- a row of the code's table, with the bytes and the takers that it borrows
abbrev pub seen_row : OptionRow → OptionLine
seen_row row = record {
  name = row.name.now;
  has_value = row.has_value;
  kind = row.kind;
  takers = row.takers.now;
}
