use Rattle.std.proofs.Common.{◌≡◌, ℕ, ◌<◌, List, length, sym, ap, ◌∙◌, subst, arith}
use Rattle.mpy_base.specs.Val.{Val}
use Rattle.prim_builtins.specs.arena_heap.Values.{IsStr}
use Rattle.prim_builtins.specs.arena_objects.Iterables.{spelled}
use Rattle.prim_builtins.specs.py_values.Shown.{Shown, shown}
use Rattle.prim_builtins.specs.py_primitives.Faults.{Fault}
use Rattle.prim_builtins.specs.py_primitives.Outcome.{Outcome, raises}
use Rattle.prim_builtins.specs.py_primitives.Methods.{of_str, split_by, list_of_texts}
use Rattle.prim_builtins.specs.prim_walks.Plain.{plain, plain_heap}
use Rattle.prim_builtins.specs.prim_faults.Outcomes.{IsOutcome}
use Rattle.prim_builtins.proofs.prim_faults_lemmas.Outcomes.{raises_outcome}
use Rattle.prim_builtins.proofs.prim_operators_lemmas.ItemsShown.{str_shown}
use Rattle.prim_str_methods.proofs.JoinParts.{not_both, no_str}
use Rattle.prim_str_methods.proofs.PieceSteps.{next_within}
use Rattle.prim_str_methods.proofs.PieceLists.{of_other, split_some}
use Rattle.prim_str_methods.proofs.splits.split_between.Goals as goal

pub returns-then-not-is_str : goal.returns-then-not-is_str
returns-then-not-is_str g c =
    let texts = g.C.Constants.text_of c.args.consts.now in
    let tuples = g.C.Constants.items_of c.args.consts.now in
    let h = c.args.arena.now in
    let heap = plain_heap texts tuples h in
    let object = plain texts tuples c.args.object in
    let v = plain texts tuples c.args.v in
    let bytes = spelled texts h c.args.object in
    let separator = spelled texts h c.args.v in
    let next : List ℕ → Outcome Val = split_by heap bytes in
    let other : IsStr c.args.v → ⊥ = λ str. not_both c.is_str.result c.if-not-is_str.true (c.is_str.ensures.1 str) in
    let fault = c.no_str.ensures texts tuples in
    raises_outcome texts tuples h c.no_str.result _ c.requires.all_told fault.0
    (of_other heap object v next (shown heap v) (no_str texts tuples h c.args.v other c.requires.known.leads) ∙ ap (λ (f : Fault). raises {A = Val} f heap) (sym fault.1))

pub returns : goal.returns
returns g c =
    let texts = g.C.Constants.text_of c.args.consts.now in
    let tuples = g.C.Constants.items_of c.args.consts.now in
    let h = c.args.arena.now in
    let heap = plain_heap texts tuples h in
    let object = plain texts tuples c.args.object in
    let v = plain texts tuples c.args.v in
    let bytes = spelled texts h c.args.object in
    let separator = spelled texts h c.args.v in
    let next : List ℕ → Outcome Val = split_by heap bytes in
    let str : IsStr c.args.v = c.is_str.ensures.0 c.if-not-is_str.false in
    let shows : of_str heap object v (shown heap v) next ≡ split_by heap bytes separator = ap (λ (s : Shown). of_str heap object v s next) (str_shown texts tuples h c.args.v str c.requires.known.leads) in
    let some : 0 < length separator = omega (arith, c.str_len.ensures, c.if-str_len-eq0.false) in
    subst (λ (o : Outcome Val). IsOutcome texts tuples h c.split_pieces.new.arena c.split_pieces.result o)
    (ap (λ (ps : List (List ℕ)). list_of_texts heap ps) (next_within separator bytes 0 (omega arith)) ∙ sym (shows ∙ split_some heap bytes separator some)) c.split_pieces.ensures
