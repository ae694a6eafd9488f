use Rattle.std.proofs.Common.{◌≡◌, ◌<◌, get_or, length, rules, ◌∙◌}
use Rattle.mpy_endings.proofs.Said.{word_at, no_word}
use Rattle.mpy_endings.proofs.words.word_at.Goals as goal

pub returns-in-Some : goal.returns-in-Some
returns-in-Some c =
    let words = c.args.words.now in
    let at = c.args.at in
    let within : at < length words = search rules in
    let read : c.in-Some.word.now ≡ get_or words at c.in-Some.word.now = search rules in
    c.as_str.ensures.value ∙ word_at words at c.in-Some.word.now within read

pub returns-in-None : goal.returns-in-None
returns-in-None c = no_word c.args.words.now c.args.at (search rules)
