use Rattle.std.proofs.Common.{ℕ, List, Ok, ap, subst, arith}
use Rattle.std.proofs.lemmas.Result.{err_from_is_err_and}
use Rattle.image_grammar.specs.declared.entry.Entry.{Entry}
use Rattle.image_grammar.specs.declared.entry.Opened.{Opened}
use Rattle.image_grammar.specs.Opening.{entry, held}
use Rattle.image_grammar.specs.Steps.{Fails, goes_on}
use Rattle.image_grammar.proofs.Inversion.{read}
use Rattle.image_grammar.proofs.Steps.{exit, onward}
use Rattle.image_open.proofs.entry.add_entry.Goals as goal

pub overflow_cast-index : goal.overflow_cast-index
overflow_cast-index c = omega (arith, c.len-index.ensures, c.requires.few)

pub returns-in_err-name : goal.returns-in_err-name
unfolding entry
returns-in_err-name c =
    let p = err_from_is_err_and c.from_residual.result c.from_residual.ensures.1 in
    exit _ _ _ _ _ _ p.1 p.2 c.in_err-name.ensures

pub returns-in_err-held : goal.returns-in_err-held
unfolding entry
returns-in_err-held c =
    let p = err_from_is_err_and c.from_residual-in_err-held.result c.from_residual-in_err-held.ensures.1 in
    let fails = subst (λ (n : ℕ). Fails c.in_err-held.field-0.0 (held c.args.pool.now n c.in_ok-name.used c.in_ok-name.rest.now)) c.len-index.ensures c.in_err-held.ensures in
    onward _ _ _ _ ((c.in_ok-name.name, c.in_ok-name.used), c.in_ok-name.rest.now) c.in_ok-name.ensures (exit _ _ _ _ _ _ p.1 p.2 fails)

pub returns : goal.returns
unfolding entry
returns c =
    let is = subst (λ (n : ℕ). held c.args.pool.now n c.in_ok-name.used c.in_ok-name.rest.now (Ok ((c.in_ok-held.held, c.in_ok-held.used), c.in_ok-held.rest.now))) c.len-index.ensures c.in_ok-held.ensures in
    let made : List Entry → Opened = λ entries. record { entries = entries; used = c.in_ok-held.used } in
    goes_on ((c.in_ok-name.name, c.in_ok-name.used), c.in_ok-name.rest.now) c.in_ok-name.ensures
    (goes_on ((c.in_ok-held.held, c.in_ok-held.used), c.in_ok-held.rest.now) is (ap (λ (entries : List Entry). read (made entries) c.in_ok-held.rest.now) c.in_ok-push.ensures.ok))
