use Rattle.std.proofs.Common.{List, Some, ap, ◌∙◌}
use Rattle.mpy_base.specs.Val.{Val}
use Rattle.prim_builtins.specs.arena_heap.declared.value.Value.TheVariants as values
use Rattle.prim_builtins.specs.py_primitives.Operators.{all_of, named_kind, match_kinds}
use Rattle.prim_builtins.specs.prim_walks.Plain.{plain_heap}
use Rattle.prim_builtins.proofs.prim_faults_lemmas.Outcomes.{gives_outcome, raises_outcome}
use Rattle.prim_types.proofs.Decisions.{kinds_found, no_kinds}
use Rattle.prim_types.proofs.MemberItems.{members_plain}
use Rattle.prim_types.proofs.matches.match_kind.Goals as goal

pub returns-in-Some : goal.returns-in-Some
returns-in-Some g c =
    let texts = g.C.Constants.text_of c.args.consts.now in
    let tuples = g.C.Constants.items_of c.args.consts.now in
    let h = c.args.arena.now in
    let heap = plain_heap texts tuples h in
    let same = ap (λ (vs : List Val). match_kinds heap (Some c.args.kind) (all_of named_kind vs)) (members_plain texts tuples h c.args.kinds c.requires.leads c.items_law.ensures.nested) in
    gives_outcome texts tuples h (values.Bool c.in-Some.found) _ c.requires.all_told (record { meets = tt; small = tt }) tt (same ∙ kinds_found heap c.args.kind c.in-Some.found _ c.in-Some.ensures)

pub returns-in-None : goal.returns-in-None
returns-in-None g c =
    let texts = g.C.Constants.text_of c.args.consts.now in
    let tuples = g.C.Constants.items_of c.args.consts.now in
    let h = c.args.arena.now in
    let heap = plain_heap texts tuples h in
    let same = ap (λ (vs : List Val). match_kinds heap (Some c.args.kind) (all_of named_kind vs)) (members_plain texts tuples h c.args.kinds c.requires.leads c.items_law.ensures.nested) in
    raises_outcome texts tuples h _ _ c.requires.all_told tt (same ∙ no_kinds heap c.args.kind _ c.in-None.ensures)
