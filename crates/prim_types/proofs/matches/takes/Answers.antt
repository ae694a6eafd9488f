use Rattle.std.proofs.Common.{◌+◌, List, drop, map, Bool, ◌||◌, sym, ap, ◌∙◌, arith}
use Rattle.mpy_base.specs.Val.{Val}
use Rattle.prim_builtins.specs.py_primitives.Operators.{is_under, named_kind}
use Rattle.prim_builtins.specs.prim_walks.Plain.{plain}
use Rattle.prim_builtins.proofs.prim_walks_lemmas.EqualSteps.{none_left}
use Rattle.prim_types.specs.Members.{members_in}
use Rattle.prim_types.proofs.AnyOf.{any_from, whole, step, stops}
use Rattle.prim_types.proofs.matches.takes.Goals as goal

pub loop-at-preserved : goal.loop-at-preserved
loop-at-preserved g c =
    let texts = g.C.Constants.text_of c.args.consts.now in
    let tuples = g.C.Constants.items_of c.args.consts.now in
    let h = c.args.arena.now in
    let test = is_under c.args.kind in
    let members = members_in tuples h c.args.kinds in
    let kinds = map (plain texts tuples) members in
    let at = c.loop-at.at in
    let found = c.loop-at.found in
    ap (λ (b : Bool). any_from named_kind test (found || b) (drop (at + 1) kinds)) c.is_under-found.ensures
    ∙ (sym (step named_kind test (plain texts tuples) members found at c.member_at.result c.member_at.ensures.member c.in-Some.other (c.in-Some.ensures texts tuples)) ∙ c.loop-at.invariant)

pub returns-in-None : goal.returns-in-None
returns-in-None g c =
    let texts = g.C.Constants.text_of c.args.consts.now in
    let tuples = g.C.Constants.items_of c.args.consts.now in
    let h = c.args.arena.now in
    let test = is_under c.args.kind in
    let members = members_in tuples h c.args.kinds in
    let kinds = map (plain texts tuples) members in
    let at = c.loop-at.at in
    let found = c.loop-at.found in
    sym (stops named_kind test (plain texts tuples) members found at c.member_at.result c.member_at.ensures.member (c.in-None.ensures texts tuples)) ∙ (c.loop-at.invariant ∙ whole named_kind test kinds)

pub returns : goal.returns
returns g c =
    let texts = g.C.Constants.text_of c.args.consts.now in
    let tuples = g.C.Constants.items_of c.args.consts.now in
    let h = c.args.arena.now in
    let test = is_under c.args.kind in
    let members = members_in tuples h c.args.kinds in
    let kinds = map (plain texts tuples) members in
    let at = c.loop-at.at in
    let found = c.loop-at.found in
    let none = none_left (plain texts tuples) members at (omega (arith, c.loop-at-test.false, c.member_count-at-end.ensures)) in
    sym (ap (λ (vs : List Val). any_from named_kind test found vs) none) ∙ (c.loop-at.invariant ∙ whole named_kind test kinds)
