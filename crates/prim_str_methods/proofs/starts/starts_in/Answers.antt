use Rattle.std.proofs.Common.{◌≡◌, ℕ, List, Bool, sym, ap, ◌∙◌}
use Rattle.std.specs.Prelude.{nat_eq}
use Rattle.std.specs.List.{starts_with}
use Rattle.prim_builtins.specs.arena_heap.declared.value.Value.TheVariants as values
use Rattle.prim_builtins.specs.arena_objects.Iterables.{or_nothing, spelled}
use Rattle.mpy_base.specs.Val.{Val, Truth}
use Rattle.prim_builtins.specs.py_values.Shown.{Shown}
use Rattle.prim_builtins.specs.py_primitives.Faults.{Fault}
use Rattle.prim_builtins.specs.py_primitives.Outcome.{Outcome, gives, raises}
use Rattle.prim_builtins.specs.py_primitives.Methods.{of_str}
use Rattle.prim_builtins.specs.prim_walks.Plain.{plain, plain_heap}
use Rattle.prim_builtins.proofs.prim_faults_lemmas.Outcomes.{gives_outcome, raises_outcome}
use Rattle.prim_str_methods.proofs.StrCalls.{refuses}
use Rattle.prim_str_methods.proofs.starts.starts_in.Goals as goal

pub returns-in-Text : goal.returns-in-Text
returns-in-Text g c =
    let texts = g.C.Constants.text_of c.args.consts.now in
    let tuples = g.C.Constants.items_of c.args.consts.now in
    let h = c.args.arena.now in
    let heap = plain_heap texts tuples h in
    let object = plain texts tuples c.args.object in
    let v = plain texts tuples c.args.v in
    let part = c.in-Text.part.now in
    let bytes = spelled texts h c.args.object in
    let next : List ℕ → Outcome Val = λ p. gives (Truth (starts_with nat_eq bytes p)) heap in
    let same : c.text_bytes-bytes.result.now ≡ bytes = sym (ap or_nothing c.text_bytes-bytes.ensures.bytes) in
    gives_outcome texts tuples h (values.Bool c.begins_with.result) _ c.requires.all_told (record { meets = tt; small = tt }) tt
    (ap (λ (s : Shown). of_str heap object v s next) (sym c.in-Text.ensures.shown)
    ∙ ap (λ (b : Bool). gives (Truth b) heap) (sym (c.begins_with.ensures ∙ ap (λ (bs : List ℕ). starts_with nat_eq bs part) same)))

pub returns-in_default : goal.returns-in_default
returns-in_default g c =
    let texts = g.C.Constants.text_of c.args.consts.now in
    let tuples = g.C.Constants.items_of c.args.consts.now in
    let h = c.args.arena.now in
    let heap = plain_heap texts tuples h in
    let object = plain texts tuples c.args.object in
    let v = plain texts tuples c.args.v in
    let bytes = spelled texts h c.args.object in
    let next : List ℕ → Outcome Val = λ p. gives (Truth (starts_with nat_eq bytes p)) heap in
    let fault = c.no_str.ensures texts tuples in
    raises_outcome texts tuples h c.no_str.result _ c.requires.all_told fault.0
    (refuses texts tuples h heap object v next c.look_at.result c.args.v _ c.in_default.not-Text c.look_at.ensures.shown ∙ ap (λ (f : Fault). raises {A = Val} f heap) (sym fault.1))
