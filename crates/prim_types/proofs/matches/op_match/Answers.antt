use Rattle.std.proofs.Common.{Option, sym, ap, subst}
use Rattle.mpy_base.specs.declared.kind.Kind.{Kind}
use Rattle.mpy_base.specs.Val.{Val}
use Rattle.prim_builtins.specs.py_values.Shown.{shown}
use Rattle.prim_builtins.specs.py_primitives.Outcome.{Outcome}
use Rattle.prim_builtins.specs.py_primitives.Operators.{all_of, members, named_kind, match_kinds}
use Rattle.prim_builtins.specs.prim_walks.Plain.{plain, plain_heap}
use Rattle.prim_builtins.specs.prim_faults.Outcomes.{IsOutcome}
use Rattle.prim_builtins.proofs.prim_faults_lemmas.Outcomes.{raises_outcome}
use Rattle.prim_types.proofs.Decisions.{no_match}
use Rattle.prim_types.proofs.matches.op_match.Goals as goal

pub returns-in-Some : goal.returns-in-Some
returns-in-Some g c =
    let texts = g.C.Constants.text_of c.args.consts.now in
    let tuples = g.C.Constants.items_of c.args.consts.now in
    let h = c.args.arena.now in
    let heap = plain_heap texts tuples h in
    let right = plain texts tuples c.args.right in
    subst (λ (o : Outcome Val). IsOutcome texts tuples h h c.match_kind.result o) (sym (ap (λ (k : Option Kind). match_kinds heap k (all_of named_kind (members right (shown heap right)))) (c.in-Some.ensures texts tuples))) c.match_kind.ensures

pub returns-in-None : goal.returns-in-None
returns-in-None g c =
    let texts = g.C.Constants.text_of c.args.consts.now in
    let tuples = g.C.Constants.items_of c.args.consts.now in
    let h = c.args.arena.now in
    let heap = plain_heap texts tuples h in
    raises_outcome texts tuples h _ _ c.requires.all_told tt (no_match heap _ _ (c.in-None.ensures texts tuples))
