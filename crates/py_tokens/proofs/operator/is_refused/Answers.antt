use Rattle.std.proofs.Common.{◌≡◌, codes, refl, sym, arith, rules}
use Rattle.std.proofs.lemmas.Slice.Eq.{text_from_reads}
use Rattle.py_tokens.proofs.operator.is_refused.Goals as goal

pub returns-in-47-2 : goal.returns-in-47-2
returns-in-47-2 c =
    let e : c.args.text.now ≡ codes "@" = text_from_reads _ (codes "@") (omega arith) (search rules) in
    (λ _. (2, omega arith, sym e), λ _. refl)

pub returns-in-47-4 : goal.returns-in-47-4
returns-in-47-4 c =
    let e : c.args.text.now ≡ codes "@=" = text_from_reads _ (codes "@=") (omega arith) (search rules) in
    (λ _. (3, omega arith, sym e), λ _. refl)

pub returns-in-47-5 : goal.returns-in-47-5
returns-in-47-5 c =
    let e : c.args.text.now ≡ codes ":=" = text_from_reads _ (codes ":=") (omega arith) (search rules) in
    (λ _. (4, omega arith, sym e), λ _. refl)

pub returns-in-47-6 : goal.returns-in-47-6
returns-in-47-6 c =
    let e : c.args.text.now ≡ codes "->" = text_from_reads _ (codes "->") (omega arith) (search rules) in
    (λ _. (5, omega arith, sym e), λ _. refl)
