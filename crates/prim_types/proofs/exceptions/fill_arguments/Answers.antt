use Rattle.std.proofs.Common.{ℕ, ◌≤◌, length, sym, subst, arith}
use Rattle.prim_builtins.specs.arena_heap.declared.value.Value.{Value}
use Rattle.prim_builtins.specs.arena_heap.declared.value.Value.TheVariants as values
use Rattle.mpy_base.specs.World.{Heap, ATuple, Later}
use Rattle.mpy_base.proofs.Worlds.{later_tuple}
use Rattle.prim_builtins.proofs.arena_heap_lemmas.Sounds.{leads_later}
use Rattle.prim_builtins.specs.prim_faults.Faults.{IsKnown}
use Rattle.prim_builtins.proofs.prim_operators_lemmas.ItemFills.{read_value, told_fill}
use Rattle.prim_types.proofs.ArgumentFills.{begins, room_there, step, ends}
use Rattle.prim_types.proofs.exceptions.fill_arguments.Goals as goal

pub loop-at-init : goal.loop-at-init
loop-at-init g c =
    let texts = g.C.Constants.text_of c.args._consts.now in
    let tuples = g.C.Constants.items_of c.args._consts.now in
    let h = c.args.arena.now in
    let t = c.args.t.cell in
    let is = c.requires.tuple in
    let args = c.args.args.now in
    let room = c.requires.room in
    (begins h t is args room, c.requires.all_told)

pub tuple_fill-requires-clause-tuple : goal.tuple_fill-requires-clause-tuple
tuple_fill-requires-clause-tuple g c =
    let texts = g.C.Constants.text_of c.args._consts.now in
    let tuples = g.C.Constants.items_of c.args._consts.now in
    let h = c.args.arena.now in
    let t = c.args.t.cell in
    let is = c.requires.tuple in
    let args = c.args.args.now in
    let room = c.requires.room in
    let later : Later h.objects c.loop-at.arena.objects = subst (λ (w : Heap Value ℕ). Later h.objects w.objects) (sym c.loop-at.invariant.0) (later_tuple h t _ is) in
    later.keeps ATuple t is

pub tuple_fill-requires-clause-leads : goal.tuple_fill-requires-clause-leads
tuple_fill-requires-clause-leads g c =
    let texts = g.C.Constants.text_of c.args._consts.now in
    let tuples = g.C.Constants.items_of c.args._consts.now in
    let h = c.args.arena.now in
    let t = c.args.t.cell in
    let is = c.requires.tuple in
    let args = c.args.args.now in
    let room = c.requires.room in
    let later : Later h.objects c.loop-at.arena.objects = subst (λ (w : Heap Value ℕ). Later h.objects w.objects) (sym c.loop-at.invariant.0) (later_tuple h t _ is) in
    let same = read_value args c.loop-at.at c.argument_at-argument.result c.argument_at-argument.ensures in
    let known = c.requires.known c.loop-at.at values.None (omega (arith, c.loop-at-test.true)) in
    leads_later later c.argument_at-argument.result (subst (IsKnown texts tuples h.objects) (sym same) known).leads

pub tuple_fill-requires-clause-within : goal.tuple_fill-requires-clause-within
tuple_fill-requires-clause-within g c =
    let texts = g.C.Constants.text_of c.args._consts.now in
    let tuples = g.C.Constants.items_of c.args._consts.now in
    let h = c.args.arena.now in
    let t = c.args.t.cell in
    let is = c.requires.tuple in
    let args = c.args.args.now in
    let room = c.requires.room in
    let le : c.loop-at.at ≤ length args = omega arith in
    omega (arith, c.loop-at-test.true, room_there h t is args room c.loop-at.arena c.loop-at.at c.loop-at.invariant.0 le)

pub loop-at-preserved : goal.loop-at-preserved
loop-at-preserved g c =
    let texts = g.C.Constants.text_of c.args._consts.now in
    let tuples = g.C.Constants.items_of c.args._consts.now in
    let h = c.args.arena.now in
    let t = c.args.t.cell in
    let is = c.requires.tuple in
    let args = c.args.args.now in
    let room = c.requires.room in
    let later : Later h.objects c.loop-at.arena.objects = subst (λ (w : Heap Value ℕ). Later h.objects w.objects) (sym c.loop-at.invariant.0) (later_tuple h t _ is) in
    let same = read_value args c.loop-at.at c.argument_at-argument.result c.argument_at-argument.ensures in
    let known = c.requires.known c.loop-at.at values.None (omega (arith, c.loop-at-test.true)) in
    let told = (subst (IsKnown texts tuples h.objects) (sym same) known).told in (
      step h t is args room c.loop-at.arena c.tuple_fill.new.arena c.loop-at.at c.argument_at-argument.result c.loop-at.invariant.0 c.loop-at-test.true c.argument_at-argument.ensures c.tuple_fill.ensures.filled,
      told_fill texts tuples c.loop-at.arena c.tuple_fill.new.arena t c.loop-at.at c.argument_at-argument.result (later.keeps ATuple t is) c.loop-at.invariant.1 told c.tuple_fill.ensures.filled,
    )

pub returns-clause-filled : goal.returns-clause-filled
returns-clause-filled g c =
    let texts = g.C.Constants.text_of c.args._consts.now in
    let tuples = g.C.Constants.items_of c.args._consts.now in
    let h = c.args.arena.now in
    let t = c.args.t.cell in
    let is = c.requires.tuple in
    let args = c.args.args.now in
    let room = c.requires.room in
    ends h t is args room c.loop-at.arena c.loop-at.at (omega arith) c.loop-at.invariant.0

pub returns-clause-later : goal.returns-clause-later
returns-clause-later g c =
    let texts = g.C.Constants.text_of c.args._consts.now in
    let tuples = g.C.Constants.items_of c.args._consts.now in
    let h = c.args.arena.now in
    let t = c.args.t.cell in
    let is = c.requires.tuple in
    let args = c.args.args.now in
    let room = c.requires.room in
    let later : Later h.objects c.loop-at.arena.objects = subst (λ (w : Heap Value ℕ). Later h.objects w.objects) (sym c.loop-at.invariant.0) (later_tuple h t _ is) in
    later
