use Rattle.std.proofs.Common.{Option, Ok, ap, ap₂, ◌∙◌, sym, subst, lit<}
use Rattle.mpy_base.specs.declared.kind.Kind.{Kind}
use Rattle.prim_types.specs.arena_heap.declared.value.Value.{Value}
use Rattle.prim_types.specs.arena_heap.declared.value.Value.TheVariants as values
use Rattle.prim_types.specs.arena_heap.Values.{Leads}
use Rattle.py_effects.specs.Names.{raise_by, raise_value}
use Rattle.prim_types.specs.py_primitives.Operators.{exception_kind}
use Rattle.prim_types.specs.prim_walks.Plain.{plain, plain_heap}
use Rattle.prim_raising.specs.Places.{plain_place}
use Rattle.prim_types.specs.prim_faults.Sights.{sight_of as sight, world_over}
use Rattle.prim_raising.specs.Worlds.{HasFailed}
use Rattle.prim_raising.proofs.Failures.{alike, replaced, nothing_raised}
use Rattle.prim_raising.proofs.raising.raise_value.Goals as goal

pub raised_by-requires : goal.raised_by-requires
raised_by-requires g c = (c.requires.known 0 values.None (lit< tt)).leads

pub returns-in-New : goal.returns-in-New
returns-in-New g c =
    let texts = g.C.Constants.text_of c.args.consts.now in
    let tuples = g.C.Constants.items_of c.args.consts.now in
    let h = c.args.arena.now in
    let v = plain texts tuples c.args.v in
    alike texts tuples h c.raise_kind.new.arena c.raise_kind.result _ _
    (λ w. ap (λ (k : Option Kind). raise_by (plain_place (sight texts tuples) c.args.place) (world_over texts tuples w h) v k (exception_kind (plain_heap texts tuples h) v)) (c.in-New.ensures texts tuples))
    c.raise_kind.ensures

pub returns-in-Nothing : goal.returns-in-Nothing
returns-in-Nothing g c =
    let texts = g.C.Constants.text_of c.args.consts.now in
    let tuples = g.C.Constants.items_of c.args.consts.now in
    let h = c.args.arena.now in
    let v = plain texts tuples c.args.v in
    let none = c.in-Nothing.ensures texts tuples in
    alike texts tuples h c.fault_at.new.arena c.fault_at.result _ _
    (λ w. ap₂ (λ (k l : Option Kind). raise_by (plain_place (sight texts tuples) c.args.place) (world_over texts tuples w h) v k l) none.0 none.1 ∙ nothing_raised (plain_place (sight texts tuples) c.args.place) (world_over texts tuples w h) v)
    c.fault_at.ensures

pub returns-in-Same : goal.returns-in-Same
returns-in-Same g c =
    let texts = g.C.Constants.text_of c.args.consts.now in
    let tuples = g.C.Constants.items_of c.args.consts.now in
    let h = c.args.arena.now in
    let x = c.in-Same.x in
    let leads = subst (λ (v : Value). Leads h.objects v) c.in-Same.ensures (c.requires.known 0 values.None (lit< tt)).leads in
    subst (λ (v : Value). HasFailed texts tuples h c.put_place.new.arena (Ok x) (λ w see. raise_value (plain_place see c.args.place) w (see.value v))) (sym c.in-Same.ensures)
    (replaced texts tuples h c.put_place.new.arena c.args.place x leads.meets c.requires.all_told c.put_place.ensures.placed c.put_place.ensures.later)
