use Rattle.astc_words.proofs.WordLaws.{preset-is}
use Rattle.astc_words.proofs.numbers.preset_of.Goals as goal

pub returns : goal.returns
returns c = preset-is c.from_word.result c.args.word.now c.from_word.ensures.found
    c.from_word.ensures.none
