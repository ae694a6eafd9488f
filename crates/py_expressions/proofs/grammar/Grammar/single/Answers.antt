use Rattle.std.proofs.Common.{◌≡◌, true, false, sym, ap, ◌∙◌}
use Rattle.std.proofs.lemmas.Result.{err_from_is_err_and}
use Rattle.py_expressions.specs.Input.{input_of, kind}
use Rattle.py_expressions.specs.Reading.{all_trailers, atom, begins_trailer, expr, is_name}
use Rattle.py_expressions.specs.Targets.{alone_of, given, single, whole_of}
use Rattle.py_expressions.proofs.Singles.{passes_on, stops_at_atom, stands_alone, stops_at_trailers, goes_on}
use Rattle.py_expressions.proofs.grammar.Grammar.single.Goals as goal

pub returns-in_err-first : goal.returns-in_err-first
returns-in_err-first g c =
    let p = err_from_is_err_and c.from_residual.result c.from_residual.ensures.1 in
    let i = input_of c.args.tokens.now in
    let inner = expr c.args.self.now.depth in
    rw (p.1, p.2) (passes_on (atom inner i) (single (whole_of c.args.deletes) inner i) c.in_err-first.field-0.0 c.atom.new.tokens c.atom.new.tokens (stops_at_atom (whole_of c.args.deletes) inner i) c.in_err-first.ensures)

pub returns-then-not-begins_trailer : goal.returns-then-not-begins_trailer
returns-then-not-begins_trailer g c =
    let inner = expr c.args.self.now.depth in
    let j = input_of c.atom.new.tokens in
    let behind : begins_trailer (kind (input_of c.atom.new.tokens)) ≡ false = ap begins_trailer (sym c.peek-2.ensures) ∙ sym c.begins_trailer.ensures ∙ c.if-not-begins_trailer.true in
    let named = c.is_name-named.ensures ∙ ap is_name c.peek.ensures in
    rw (stands_alone (whole_of c.args.deletes) inner (input_of c.args.tokens.now) j c.in_ok-first.first c.in_ok-first.ensures behind
    ∙ ap (λ q. given (alone_of q c.in_ok-first.first) j) (sym named) ∙ ap (λ q. given q j) (sym c.alone.ensures)) c.given.ensures

pub returns-in_err-whole : goal.returns-in_err-whole
returns-in_err-whole g c =
    let p = err_from_is_err_and c.from_residual-in_err-whole.result c.from_residual-in_err-whole.ensures.1 in
    let i = input_of c.args.tokens.now in
    let j = input_of c.atom.new.tokens in
    let inner = expr c.args.self.now.depth in
    let behind : begins_trailer (kind (input_of c.atom.new.tokens)) ≡ true = ap begins_trailer (sym c.peek-2.ensures) ∙ sym c.begins_trailer.ensures ∙ c.if-not-begins_trailer.false in
    rw (p.1, p.2) (passes_on (all_trailers inner c.in_ok-first.first j) (single (whole_of c.args.deletes) inner i) c.in_err-whole.field-0.0 c.trailers.new.tokens c.trailers.new.tokens
    (λ d h. stops_at_trailers (whole_of c.args.deletes) inner i j c.in_ok-first.first d c.in_ok-first.ensures behind h) c.in_err-whole.ensures)

pub returns : goal.returns
returns g c =
    let inner = expr c.args.self.now.depth in
    let behind : begins_trailer (kind (input_of c.atom.new.tokens)) ≡ true = ap begins_trailer (sym c.peek-2.ensures) ∙ sym c.begins_trailer.ensures ∙ c.if-not-begins_trailer.false in
    rw (goes_on (whole_of c.args.deletes) inner (input_of c.args.tokens.now) (input_of c.atom.new.tokens) (input_of c.trailers.new.tokens) c.in_ok-first.first c.in_ok-whole.whole c.in_ok-first.ensures behind c.in_ok-whole.ensures
    ∙ ap (λ q. given q (input_of c.trailers.new.tokens)) (sym c.whole_of.ensures)) c.given-2.ensures
