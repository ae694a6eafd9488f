use Rattle.std.proofs.Common.{◌≡◌, codes, refl, sym, arith, rules}
use Rattle.std.proofs.lemmas.Slice.Eq.{text_from_reads}
use Rattle.py_tokens.proofs.word.is_refused.Goals as goal

pub returns-in-class : goal.returns-in-class
returns-in-class c =
    let e : c.args.text.now ≡ codes "with" = text_from_reads _ (codes "with") (omega arith) (search rules) in
    (λ _. (5, omega arith, sym e), λ _. refl)

pub returns-in-class-2 : goal.returns-in-class-2
returns-in-class-2 c =
    let e : c.args.text.now ≡ codes "class" = text_from_reads _ (codes "class") (omega arith) (search rules) in
    (λ _. (0, omega arith, sym e), λ _. refl)

pub returns-in-class-3 : goal.returns-in-class-3
returns-in-class-3 c =
    let e : c.args.text.now ≡ codes "async" = text_from_reads _ (codes "async") (omega arith) (search rules) in
    (λ _. (3, omega arith, sym e), λ _. refl)

pub returns-in-class-4 : goal.returns-in-class-4
returns-in-class-4 c =
    let e : c.args.text.now ≡ codes "await" = text_from_reads _ (codes "await") (omega arith) (search rules) in
    (λ _. (4, omega arith, sym e), λ _. refl)

pub returns-in-class-5 : goal.returns-in-class-5
returns-in-class-5 c =
    let e : c.args.text.now ≡ codes "yield" = text_from_reads _ (codes "yield") (omega arith) (search rules) in
    (λ _. (6, omega arith, sym e), λ _. refl)

pub returns-in-class-6 : goal.returns-in-class-6
returns-in-class-6 c =
    let e : c.args.text.now ≡ codes "lambda" = text_from_reads _ (codes "lambda") (omega arith) (search rules) in
    (λ _. (1, omega arith, sym e), λ _. refl)

pub returns-in-class-7 : goal.returns-in-class-7
returns-in-class-7 c =
    let e : c.args.text.now ≡ codes "nonlocal" = text_from_reads _ (codes "nonlocal") (omega arith) (search rules) in
    (λ _. (2, omega arith, sym e), λ _. refl)
