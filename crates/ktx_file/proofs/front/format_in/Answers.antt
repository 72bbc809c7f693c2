use Rattle.std.proofs.Common.{refl}
use Rattle.ktx_file.proofs.FormatLemmas.{format_found, format_none}
use Rattle.ktx_file.proofs.front.format_in.Goals as goal

pub returns-in-Some : goal.returns-in-Some
returns-in-Some c =
    rw (
      c.if-words-ne0.false,
      c.if-words-ne0-2.false,
      format_found c.in-Some.format
          c.args.words.now.internal c.in-Some.ensures.found,
    ) refl

pub returns-in-None : goal.returns-in-None
returns-in-None c = rw (
  c.if-words-ne0.false,
  c.if-words-ne0-2.false,
  format_none
      c.args.words.now.internal c.in-None.ensures.none,
  c.from-in-None.ensures,
) refl
