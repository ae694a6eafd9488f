use Rattle.std.proofs.Common.{ap, ◌∙◌, arith}
use Rattle.py_tokens.proofs.Lexemes.{word_token, name_token}
use Rattle.py_tokens.specs.declared.token.Tok.TheVariants as toks
use Rattle.py_tokens.proofs.lexeme.word_at.Goals.{in-Word, in-Name+in_ok-new-in-Name}
use Rattle.py_tokens.proofs.lexeme.word_at.Goals as goal

pub returns : goal.returns
returns c = (
  c.requires.some,
  omega arith,
  elim c.match-read_word.branch [
    | in-Word w ↦ word_token c.args.opt c.args.name.now c.match-read_word.tok w.in-Word.word ((c.read_word.ensures.word w.in-Word.word).0 w.in-Word.is) w.tok-is
    | in-Name+in_ok-new-in-Name w ↦ (
        let none = c.read_word.ensures.name.0 w.in-Name.is in
        name_token c.args.opt c.args.name.now c.match-read_word.tok none.0 none.1 (w.tok-is ∙ ap (λ z. toks.Name z) w.in_ok-new-in-Name.ensures))
  ],
)
