use Rattle.std.proofs.Common.{◌≡◌, ℕ, List, sym, ap, ◌∙◌, subst}
use Rattle.prim_builtins.specs.arena_objects.Iterables.{or_nothing, spelled}
use Rattle.mpy_base.specs.Val.{Val}
use Rattle.prim_builtins.specs.py_values.Small.{checked}
use Rattle.prim_builtins.specs.py_values.Shown.{Shown}
use Rattle.prim_builtins.specs.py_primitives.Faults.{Fault}
use Rattle.prim_builtins.specs.py_primitives.Outcome.{Outcome, raises}
use Rattle.prim_builtins.specs.py_primitives.Operators.{gives_number}
use Rattle.prim_builtins.specs.py_primitives.Methods.{of_str, found_from}
use Rattle.prim_builtins.specs.prim_walks.Plain.{plain, plain_heap}
use Rattle.prim_builtins.specs.prim_faults.Outcomes.{IsOutcome}
use Rattle.prim_builtins.proofs.prim_faults_lemmas.Outcomes.{raises_outcome}
use Rattle.prim_str_methods.proofs.StrCalls.{refuses}
use Rattle.prim_str_methods.proofs.finds.find_in.Goals as goal

pub returns-in-Text : goal.returns-in-Text
returns-in-Text g c =
    let texts = g.C.Constants.text_of c.args.consts.now in
    let tuples = g.C.Constants.items_of c.args.consts.now in
    let h = c.args.arena.now in
    let heap = plain_heap texts tuples h in
    let object = plain texts tuples c.args.object in
    let v = plain texts tuples c.args.v in
    let part = c.in-Text.part.now in
    let bytes = spelled texts h c.args.object in
    let next : List ℕ → Outcome Val = λ p. gives_number heap (checked (found_from 0 p bytes)) in
    let same : c.text_bytes.result.now ≡ bytes = sym (ap or_nothing c.text_bytes.ensures.bytes) in
    subst (λ (o : Outcome Val). IsOutcome texts tuples h h c.place_in.result o)
    (ap (λ (bs : List ℕ). gives_number heap (checked (found_from 0 part bs))) same ∙ ap (λ (s : Shown). of_str heap object v s next) c.in-Text.ensures.shown)
    (c.place_in.ensures texts tuples h c.requires.all_told)

pub returns-in_default : goal.returns-in_default
returns-in_default g c =
    let texts = g.C.Constants.text_of c.args.consts.now in
    let tuples = g.C.Constants.items_of c.args.consts.now in
    let h = c.args.arena.now in
    let heap = plain_heap texts tuples h in
    let object = plain texts tuples c.args.object in
    let v = plain texts tuples c.args.v in
    let bytes = spelled texts h c.args.object in
    let next : List ℕ → Outcome Val = λ p. gives_number heap (checked (found_from 0 p bytes)) in
    let fault = c.no_str.ensures texts tuples in
    raises_outcome texts tuples h c.no_str.result _ c.requires.all_told fault.0
    (refuses texts tuples h heap object v next c.look_at.result c.args.v _ c.in_default.not-Text c.look_at.ensures.shown ∙ ap (λ (f : Fault). raises {A = Val} f heap) (sym fault.1))
