use Rattle.std.proofs.Common.{ℕ, List, ap, subst}
use Rattle.std.proofs.lemmas.Result.{err_from_is_err_and}
use Rattle.image_grammar.specs.declared.entry.Entry.{Entry}
use Rattle.image_grammar.specs.declared.fault.ImageFault.TheVariants.{Twice}
use Rattle.image_grammar.specs.Opening.{name}
use Rattle.image_grammar.specs.Steps.{goes_on}
use Rattle.image_grammar.proofs.Inversion.{read}
use Rattle.image_grammar.proofs.Steps.{exit, onward, onward_judged, judged, unjudged}
use Rattle.image_open.proofs.Named.{IsNamed, other_name}
use Rattle.image_open.proofs.Told.{told}
use Rattle.image_open.proofs.entry.title.Goals as goal

pub returns-in_err-n : goal.returns-in_err-n
unfolding name
returns-in_err-n c =
    let p = err_from_is_err_and c.from_residual.result c.from_residual.ensures.1 in
    exit _ _ _ _ _ _ p.1 p.2 c.in_err-n.ensures

pub returns-in_err-name : goal.returns-in_err-name
unfolding name
returns-in_err-name c =
    let p = err_from_is_err_and c.from_residual-in_err-name.result c.from_residual-in_err-name.ensures.1 in
    onward _ _ _ _ (c.in_ok-n.n, c.in_ok-n.rest.now) c.in_ok-n.ensures (exit _ _ _ _ _ _ p.1 p.2 c.in_err-name.ensures)

pub returns-then-is_named : goal.returns-then-is_named
unfolding name
returns-then-is_named c =
    let given = c.in_ok-name.name.now in
    let there = subst (λ (z : List Entry). IsNamed c.args.below.now z given) c.as_slice.ensures (c.is_named.ensures.0 c.if-is_named.true) in
    told _ _ (Twice given) c.twice.ensures
    (goes_on (c.in_ok-n.n, c.in_ok-n.rest.now) c.in_ok-n.ensures (goes_on (given, c.in_ok-name.used) c.in_ok-name.ensures (unjudged (λ never. never there))))

pub returns-in_err-used : goal.returns-in_err-used
unfolding name
returns-in_err-used c =
    let p = err_from_is_err_and c.from_residual-in_err-used.result c.from_residual-in_err-used.ensures.1 in
    let given = c.in_ok-name.name.now in
    let never = other_name c.args.below.now _ c.args.opened.now.entries given c.is_named.result c.as_slice.ensures c.is_named.ensures c.if-is_named.false in
    onward _ _ _ _ (c.in_ok-n.n, c.in_ok-n.rest.now) c.in_ok-n.ensures (onward _ _ _ _ (given, c.in_ok-name.used) c.in_ok-name.ensures
    (onward_judged _ _ _ _ _ never (exit _ _ _ _ _ _ p.1 p.2 c.in_err-used.ensures)))

pub returns : goal.returns
unfolding name
returns c =
    let given = c.in_ok-name.name.now in
    let never = other_name c.args.below.now _ c.args.opened.now.entries given c.is_named.result c.as_slice.ensures c.is_named.ensures c.if-is_named.false in
    goes_on (c.in_ok-n.n, c.in_ok-n.rest.now) c.in_ok-n.ensures (goes_on (given, c.in_ok-name.used) c.in_ok-name.ensures
    (judged never (goes_on c.in_ok-used.used c.in_ok-used.ensures (ap (λ (t : List ℕ). read (t, c.in_ok-used.used) c.in_ok-n.rest.now) c.in_ok-new.ensures))))
