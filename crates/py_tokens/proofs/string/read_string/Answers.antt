use Rattle.std.proofs.Common.{◌+◌, List, ℕ, length, Ok, sym, ◌∙◌, subst}
use Rattle.py_tokens.specs.Literal.{Reads}
use Rattle.py_tokens.proofs.Reading.{Progress, rest_is, start, step, closed, failed}
use Rattle.py_tokens.proofs.string.read_string.Goals as goal

pub loop-piece-init : goal.loop-piece-init
loop-piece-init c =
    let quotes = c.quotes_of-quotes in
    subst (λ (t : List ℕ). Progress c.args.raw quotes.result.now c.args.bytes.now (length quotes.result.now) t) (sym (c.in_ok-text.ensures.items))
    (start c.args.raw quotes.result.now c.args.bytes.now quotes.ensures.0 quotes.ensures.1 quotes.ensures.2)

pub loop-piece-preserved : goal.loop-piece-preserved
loop-piece-preserved c =
    let front = rw c.in-Ok-Some.field-0-is at c.in-Ok-Some.ensures in
    subst (λ (t : List ℕ). Progress c.args.raw c.quotes_of-quotes.result.now c.args.bytes.now (c.loop-piece.at + c.in-Ok-Some.piece.len) t) (sym c.in_ok-add_given-in-Ok-Some.ensures)
    (step c.args.raw c.quotes_of-quotes.result.now c.args.bytes.now _ c.loop-piece.text.items _ c.loop-piece.at c.in-Ok-Some.piece.len c.loop-piece.invariant (rest_is c.args.bytes.now c.loop-piece.at) front.0 front.1)

pub returns-in-Ok-None : goal.returns-in-Ok-None
returns-in-Ok-None c =
    let stands = rw c.in-Ok-None.field-0-is at c.in-Ok-None.ensures in
    subst (λ (t : List ℕ). Reads c.args.raw c.args.bytes.now (Ok (t, c.loop-piece.at + length c.quotes_of-quotes.result.now))) (sym (c.in_ok-new-in-Ok-None.ensures ∙ c.deref.ensures.value))
    (closed c.args.raw c.quotes_of-quotes.result.now c.args.bytes.now _ c.loop-piece.text.items c.loop-piece.at c.loop-piece.invariant (rest_is c.args.bytes.now c.loop-piece.at) stands)

pub returns-in-Err : goal.returns-in-Err
returns-in-Err c =
    failed c.args.raw c.quotes_of-quotes.result.now c.args.bytes.now _ c.loop-piece.text.items c.loop-piece.at c.in-Err.kind c.loop-piece.invariant (rest_is c.args.bytes.now c.loop-piece.at) c.in-Err.ensures
