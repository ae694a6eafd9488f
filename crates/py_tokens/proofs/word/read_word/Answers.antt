use Rattle.std.proofs.Common.{◌≡◌, codes, inl, inr, refl, ap, ◌∙◌, rules}
use Rattle.py_tokens.specs.declared.word.Spelled.TheVariants as spelled
use Rattle.py_tokens.specs.Word.{spelling}
use Rattle.py_tokens.proofs.Words.{refused_no_word, only_word}
use Rattle.py_tokens.proofs.word.read_word.Goals as goal

pub returns-in-Some-clause-word : goal.returns-in-Some-clause-word
returns-in-Some-clause-word c w =
    let is : c.args.text.now ≡ spelling c.in-Some.word = (c.in-Some.ensures c.in-Some.word).0 refl in
    (λ e. (let same : c.in-Some.word ≡ w = cc in inl (is ∙ ap spelling same)), λ its. ap (λ v. spelled.Word v) (only_word c.args.opt c.args.text.now c.in-Some.word w is its))

pub returns-in-Some-clause-refused : goal.returns-in-Some-clause-refused
returns-in-Some-clause-refused c =
    (λ e. absurd cc, λ h. absurd (refused_no_word c.args.opt c.args.text.now c.in-Some.word h (inl ((c.in-Some.ensures c.in-Some.word).0 refl))))

pub returns-in-Some-clause-name : goal.returns-in-Some-clause-name
returns-in-Some-clause-name c =
    (λ e. absurd cc, λ h. absurd (h.0 c.in-Some.word (inl ((c.in-Some.ensures c.in-Some.word).0 refl))))

pub returns-in-None-clause-name : goal.returns-in-None-clause-name
returns-in-None-clause-name c =
    let debug : c.args.text.now ≡ codes "__debug__" = search rules in
    (λ e. absurd cc, λ h. absurd (h.0 c.debug_value.result (inr (debug, c.debug_value.ensures))))
