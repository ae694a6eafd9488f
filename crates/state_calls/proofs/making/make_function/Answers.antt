use Rattle.std.proofs.Common.{◌<◌, length, sym, ap, subst, arith}
use Rattle.vm_states.specs.mpy_base.World.{ADict, IsA}
use Rattle.frame_calls.specs.arena_objects.Keys.{AllTold}
use Rattle.vm_states.specs.bc_library.Constants.{items_at, text_at}
use Rattle.vm_states.specs.bc_library.Shelf.{Shelf}
use Rattle.vm_states.specs.bc_ops.declared.instr.Op.TheVariants as ops
use Rattle.vm_states.specs.bc_ops.declared.instr.Instr.TheVariants as instrs
use Rattle.frame_calls.specs.bc_machine.Library.{Plain}
use Rattle.vm_states.specs.vm_frames.Calls.{Call, OfRunning}
use Rattle.vm_states.specs.frame_moves.Shown.{Tables, IsNext}
use Rattle.vm_states.specs.vm_fetching.declared.instruction.Fetched.{Fetched}
use Rattle.vm_states.specs.vm_fetching.Instructions as fetched
use Rattle.vm_states.specs.vm_fetching.declared.operations.MakeOp.TheVariants as make_ops
use Rattle.frame_calls.specs.Children.{IsChild}
use Rattle.frame_calls.specs.Coming.{ComesTo}
use Rattle.frame_calls.specs.Putting.{IsKnownStop}
use Rattle.state_calls.specs.Children.{HasChildIn, IsChildIn}
use Rattle.state_calls.proofs.Places as places
use Rattle.state_calls.proofs.Bases as bases
use Rattle.state_calls.proofs.Comings as comings
use Rattle.state_calls.proofs.Puttings as puttings
use Rattle.state_calls.proofs.Looking.{first_of}
use Rattle.state_calls.proofs.Keepings as keepings
use Rattle.state_calls.proofs.making.make_function.Goals as goal

pub running-module_number-requires : goal.running-module_number-requires
running-module_number-requires c = let h = c.requires.runs in let n = ap length h.ready.are in omega (arith, n)

pub child_in-child-requires : goal.child_in-child-requires
child_in-child-requires c =
    let h = c.requires.runs in
    let r = h.ready in
    let laws : places.Laws = record { runs = c.rows_law.ensures.runs; as_many = c.rows_law.ensures.as_many } in
    subst (λ (z : Shelf). HasChildIn z c.args.names.now c.running-module_number.result.0 c.running-module_number.result.1 c.args.number) (sym c.requires.rows)
    (bases.child_found laws h.program h.row h.means c.args.frames.now (record { instruction = fetched.make make_ops.MakeFunction c.args.number; end = c.args.end }) h.state.running r c.args.library.now h.shelf_is c.args.names.now c.requires.names
    c.args.number c.running-module_number.result.0 c.running-module_number.result.1 (first_of _ c.args.frames.now.calls r.first r.others r.are c.running-module_number.ensures.module_number) (first_of _ c.args.frames.now.calls r.first r.others r.are c.running-module_number.ensures.code)
    (h.program.plans (h.program.tables.module_name r.first.module_number) r.first.code) r.finds.0)

pub make_function-requires-clause-names : goal.make_function-requires-clause-names
make_function-requires-clause-names c =
    let h = c.requires.runs in
    bases.of_running (λ (d : Call). IsA c.args.arena.now.objects ADict d.names.cell) c.args.frames.now.calls h.ready.first h.ready.others h.ready.are
    (bases.first_known h.program c.args.arena.now.objects c.args.frames.now h.ready.first h.ready.others h.ready.are h.state).names

pub make_function-requires-clause-room : goal.make_function-requires-clause-room
make_function-requires-clause-room c =
    let h = c.requires.runs in
    bases.of_running (λ (d : Call). length d.slots < c.args.frames.now.slot_room) c.args.frames.now.calls h.ready.first h.ready.others h.ready.are h.ready.slots

pub make_function-requires-clause-all_told : goal.make_function-requires-clause-all_told
make_function-requires-clause-all_told c =
    let h = c.requires.runs in
    places.under h.program h.means c.args.library.now h.shelf_is (λ t u. AllTold t u c.args.arena.now.objects) h.state.all_told

pub returns-clause-acts : goal.returns-clause-acts
returns-clause-acts c p row means shelf_is state r =
    let old = c.args.frames.now in
    let new = c.make_function.new.frames in
    let before = c.args.arena.now in
    let behind = c.make_function.new.arena in
    let child = c.child_in-child.result in
    let result = c.make_function.result in
    let f : Fetched = record { instruction = fetched.make make_ops.MakeFunction c.args.number; end = c.args.end } in
    let laws : places.Laws = record { runs = c.rows_law.ensures.runs; as_many = c.rows_law.ensures.as_many } in
    let is = subst (λ (z : Shelf). IsChildIn z c.args.names.now c.running-module_number.result.0 c.running-module_number.result.1 c.args.number child) c.requires.rows c.child_in-child.ensures in
    let stands = bases.child_stands laws p row means old f state.running r c.args.library.now shelf_is c.args.names.now c.requires.names
    c.args.number c.running-module_number.result.0 c.running-module_number.result.1 (first_of _ old.calls r.first r.others r.are c.running-module_number.ensures.module_number) (first_of _ old.calls r.first r.others r.are c.running-module_number.ensures.code) child is in
    let comes = comings.with_tables p means c.args.library.now shelf_is
    (λ (t : Tables). IsNext t c.args.end old.calls → OfRunning (IsChild t p.library c.args.number child) old.calls → ComesTo t p.library (Plain (instrs.Num ops.MakeFunction c.args.number)) 0 before behind old.calls new.calls result)
    (λ layout. c.make_function.ensures.steps layout p.library c.args.number) r.next stands in
    puttings.acts_put (record { stays = c.known_law.ensures.stays; puts = c.known_law.ensures.puts; goes_on = c.keeps_law.ensures.goes_on }) p row means before behind old new f state r tt 0 result comes
    (places.over p means c.args.library.now shelf_is (λ t u. puttings.Put t u before behind c.args.end 0 old new result) (record { puts = c.make_function.ensures.moved; later = c.make_function.ensures.leaves.later; all_told = c.make_function.ensures.leaves.all_told }))
    (places.over p means c.args.library.now shelf_is (λ t u. IsKnownStop t u behind.objects result) c.make_function.ensures.leaves.stop)

pub returns-clause-stays : goal.returns-clause-stays
returns-clause-stays c =
    puttings.stays_put (text_at c.args.library.now) (items_at c.args.library.now) c.make_function.new.arena.objects c.args.end 0 c.args.frames.now c.make_function.new.frames c.make_function.result c.make_function.ensures.moved

pub returns-clause-keeps : goal.returns-clause-keeps
returns-clause-keeps c =
    keepings.put_keeps (text_at c.args.library.now) (items_at c.args.library.now) c.make_function.new.arena.objects c.args.end 0 c.args.frames.now c.make_function.new.frames c.make_function.result c.make_function.ensures.moved
