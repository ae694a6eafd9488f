use Rattle.py_tokens.proofs.Words.{one_word, apart}
use Rattle.py_tokens.proofs.word.word_law.Goals as goal

pub returns-clause-one_word : goal.returns-clause-one_word
returns-clause-one_word c = one_word

pub returns-clause-apart : goal.returns-clause-apart
returns-clause-apart c = apart
