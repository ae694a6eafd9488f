use Rattle.std.proofs.Common.{◌≡◌, ℕ, map, min, sym, ap, ◌∙◌, subst}
use Rattle.mpy_base.specs.declared.builtin.Builtin.{Builtin}
use Rattle.prim_types.specs.py_primitives.Output.{printed}
use Rattle.prim_outputs.specs.py_effects.Calling.{call_builtin}
use Rattle.prim_methods.specs.prim_walks.Plain.{plain, plain_pair, plain_heap}
use Rattle.prim_methods.specs.prim_faults.Sights.{world_over}
use Rattle.prim_calls.proofs.FreeOutcomes.{nothing}
use Rattle.prim_calls.proofs.FreeBuiltins.{prints_visits, builtin_free}
use Rattle.prim_calls.proofs.visits.visits_call_builtin.Goals as goal

pub returns-in-Print : goal.returns-in-Print
returns-in-Print g c w =
    let texts = g.C.Constants.text_of c.args.consts.now in
    let tuples = g.C.Constants.items_of c.args.consts.now in
    let heap = plain_heap texts tuples c.args.arena.now in
    let args = map (plain texts tuples) c.args.args.now in
    let keys = map (plain_pair texts tuples) c.args.keys.now in
    subst (λ (b : Builtin). c.visits_call_print.result ≡ min (call_builtin (world_over texts tuples w c.args.arena.now) b args keys).visits c.args.most) (sym c.in-Print.is)
    (c.visits_call_print.ensures ∙ ap (λ (n : ℕ). min n c.args.most) (prints_visits (world_over texts tuples w c.args.arena.now) (printed heap args keys)))

pub returns-in-Str : goal.returns-in-Str
returns-in-Str g c w =
    let texts = g.C.Constants.text_of c.args.consts.now in
    let tuples = g.C.Constants.items_of c.args.consts.now in
    let args = map (plain texts tuples) c.args.args.now in
    let keys = map (plain_pair texts tuples) c.args.keys.now in
    subst (λ (b : Builtin). c.visits_call_shown.result ≡ min (call_builtin (world_over texts tuples w c.args.arena.now) b args keys).visits c.args.most) (sym c.in-Str.is) c.visits_call_shown.ensures

pub returns-in-Repr : goal.returns-in-Repr
returns-in-Repr g c w =
    let texts = g.C.Constants.text_of c.args.consts.now in
    let tuples = g.C.Constants.items_of c.args.consts.now in
    let args = map (plain texts tuples) c.args.args.now in
    let keys = map (plain_pair texts tuples) c.args.keys.now in
    subst (λ (b : Builtin). c.visits_call_shown-in-Repr.result ≡ min (call_builtin (world_over texts tuples w c.args.arena.now) b args keys).visits c.args.most) (sym c.in-Repr.is) c.visits_call_shown-in-Repr.ensures

pub returns-in-List : goal.returns-in-List
returns-in-List g c w =
    let texts = g.C.Constants.text_of c.args.consts.now in
    let tuples = g.C.Constants.items_of c.args.consts.now in
    let args = map (plain texts tuples) c.args.args.now in
    let keys = map (plain_pair texts tuples) c.args.keys.now in
    subst (λ (b : Builtin). c.visits_call_list.result ≡ min (call_builtin (world_over texts tuples w c.args.arena.now) b args keys).visits c.args.most) (sym c.in-List.is) c.visits_call_list.ensures

pub returns-in-Tuple : goal.returns-in-Tuple
returns-in-Tuple g c w =
    let texts = g.C.Constants.text_of c.args.consts.now in
    let tuples = g.C.Constants.items_of c.args.consts.now in
    let args = map (plain texts tuples) c.args.args.now in
    let keys = map (plain_pair texts tuples) c.args.keys.now in
    subst (λ (b : Builtin). c.visits_call_tuple.result ≡ min (call_builtin (world_over texts tuples w c.args.arena.now) b args keys).visits c.args.most) (sym c.in-Tuple.is) c.visits_call_tuple.ensures

pub returns-in-Min : goal.returns-in-Min
returns-in-Min g c w =
    let texts = g.C.Constants.text_of c.args.consts.now in
    let tuples = g.C.Constants.items_of c.args.consts.now in
    let args = map (plain texts tuples) c.args.args.now in
    let keys = map (plain_pair texts tuples) c.args.keys.now in
    subst (λ (b : Builtin). c.visits_call_min.result ≡ min (call_builtin (world_over texts tuples w c.args.arena.now) b args keys).visits c.args.most) (sym c.in-Min.is) c.visits_call_min.ensures

pub returns-in-Max : goal.returns-in-Max
returns-in-Max g c w =
    let texts = g.C.Constants.text_of c.args.consts.now in
    let tuples = g.C.Constants.items_of c.args.consts.now in
    let args = map (plain texts tuples) c.args.args.now in
    let keys = map (plain_pair texts tuples) c.args.keys.now in
    subst (λ (b : Builtin). c.visits_call_max.result ≡ min (call_builtin (world_over texts tuples w c.args.arena.now) b args keys).visits c.args.most) (sym c.in-Max.is) c.visits_call_max.ensures

pub returns-in_default : goal.returns-in_default
returns-in_default g c w =
    let texts = g.C.Constants.text_of c.args.consts.now in
    let tuples = g.C.Constants.items_of c.args.consts.now in
    let args = map (plain texts tuples) c.args.args.now in
    let keys = map (plain_pair texts tuples) c.args.keys.now in
    let world = world_over texts tuples w c.args.arena.now in
    nothing (call_builtin world c.args.b args keys).visits c.args.most
    (builtin_free world c.args.b args keys c.in_default.not-Print c.in_default.not-Str c.in_default.not-Repr c.in_default.not-List c.in_default.not-Tuple c.in_default.not-Min c.in_default.not-Max)
