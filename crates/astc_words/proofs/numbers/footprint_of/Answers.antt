use Rattle.astc_words.proofs.WordLaws.{footprint-is}
use Rattle.astc_words.proofs.numbers.footprint_of.Goals as goal

pub returns : goal.returns
returns c = footprint-is c.from_word.result c.args.word.now c.from_word.ensures.found
    c.from_word.ensures.none
