use Rattle.std.proofs.Common.{◌≡◌, ℕ, Option, refl, sym, ap, subst, ◌∙◌}
use Rattle.std.specs.Prelude.{IfSome}
use Rattle.mpy_base.specs.declared.room.NoRoom.{NoRoom}
use Rattle.mpy_base.specs.Val.{PlainWorld}
use Rattle.mpy_base.specs.World.{Heap}
use Rattle.frame_calls.specs.arena_heap.declared.value.Value.{Value}
use Rattle.frame_calls.specs.bc_machine.Library.{Name}
use Rattle.frame_calls.specs.bc_machine.Machine.{start}
use Rattle.bc_progress.specs.py_effects.Ends.{new_world}
use Rattle.vm_states.specs.vm_frames.Calls.{Calls}
use Rattle.vm_states.specs.frame_moves.Outcomes.{world_of}
use Rattle.vm_states.specs.frame_exits.declared.ends.End.{End}
use Rattle.vm_states.specs.frame_exits.declared.ends.End.TheVariants as ends
use Rattle.vm_states.specs.frame_exits.Ends.{with_modules, state_of}
use Rattle.vm_starting.specs.Starting.{Begins}
use Rattle.vm_starting.proofs.Openings.{rooms, main_in, fresh_world}
use Rattle.vm_starting.proofs.opening.Vm.open.Goals as goal

pub returns-in-Ok-clause-starts : goal.returns-in-Ok-clause-starts
returns-in-Ok-clause-starts c p name ports of name_is =
    let r = c.main_locals-locals.ensures.row in
    let main = main_in p c.args.library.now c.args.rows.now c.args.number c.main_locals-locals.result name of c.requires.rows name_is r.0 r.1 r.2 in
    let fresh = c.in_ok-vm.ensures.fresh in
    let w : PlainWorld = new_world c.args.room.cells c.args.room.bytes ports in
    let w1 : PlainWorld = world_of p.tables (with_modules p.tables w c.start_main.new.modules) c.start_main.new.arena in
    ap (λ (z : PlainWorld). start p.library name z) (sym (fresh_world p c.args.room.cells c.args.room.bytes ports c.in_ok-vm.vm.modules c.in_ok-vm.vm.arena fresh.modules fresh.arena))
    ∙ (c.in-Ok.ensures.starts p name w of.shelf_is of.means main
    ∙ ap (λ (o : Option End). state_of p.tables o c.start_main.new.frames.calls w1) (sym fresh.end))

pub returns-in-Ok-clause-state : goal.returns-in-Ok-clause-state
returns-in-Ok-clause-state c end p of =
    let name : Name = p.tables.module_name c.args.number in
    let r = c.main_locals-locals.ensures.row in
    let main = main_in p c.args.library.now c.args.rows.now c.args.number c.main_locals-locals.result name of c.requires.rows refl r.0 r.1 r.2 in
    let memory = c.in_ok-vm.ensures.memory in
    c.in-Ok.ensures.state p name of.shelf_is of.means main
    (rooms p c.args.library.now of c.greatest_of-slots.result.0 c.greatest_of-slots.result.1 memory.greatest c.in_ok-vm.vm.frames memory.slot_room memory.entry_room)

pub returns-in-Err-clause-starts : goal.returns-in-Err-clause-starts
returns-in-Err-clause-starts c p name ports of name_is =
    let r = c.main_locals-locals.ensures.row in
    let main = main_in p c.args.library.now c.args.rows.now c.args.number c.main_locals-locals.result name of c.requires.rows name_is r.0 r.1 r.2 in
    let fresh = c.in_ok-vm.ensures.fresh in
    let w : PlainWorld = new_world c.args.room.cells c.args.room.bytes ports in
    ap (λ (z : PlainWorld). start p.library name z) (sym (fresh_world p c.args.room.cells c.args.room.bytes ports c.in_ok-vm.vm.modules c.in_ok-vm.vm.arena fresh.modules fresh.arena))
    ∙ c.in-Err.ensures.starts p name w of.shelf_is of.means main

pub returns-in-Err-clause-memory : goal.returns-in-Err-clause-memory
returns-in-Err-clause-memory c =
    let m = c.in_ok-vm.ensures.memory in (
      c.greatest_of-slots.result.0,
      c.greatest_of-slots.result.1,
      record {
        greatest = m.greatest;
        slot_room = ap (λ (s : Calls). s.slot_room) c.in-Err.ensures.rooms ∙ m.slot_room;
        entry_room = ap (λ (s : Calls). s.entry_room) c.in-Err.ensures.rooms ∙ m.entry_room;
        registry = c.in-Err.ensures.kept ∙ m.registry;
        names = m.names;
        operands = m.operands;
        bindings = m.bindings;
        items = m.items;
      },
    )

pub returns-in-Ok-clause-begun : goal.returns-in-Ok-clause-begun
returns-in-Ok-clause-begun c end =
    let fresh = c.in_ok-vm.ensures.fresh in
    record {
      locals = c.main_locals-locals.result;
      before = c.in_ok-vm.vm.modules;
      none = fresh.modules;
      begins = subst (λ (h : Heap Value ℕ). Begins c.args.library.now c.args.number c.main_locals-locals.result h c.start_main.new.arena c.in_ok-vm.vm.modules c.start_main.new.modules c.start_main.new.frames.calls) fresh.arena c.in-Ok.ensures.begins;
    }

pub returns-in-Ok-clause-ended : goal.returns-in-Ok-clause-ended
returns-in-Ok-clause-ended c = subst (λ (o : Option End). IfSome o (λ end. (no_room : NoRoom) × (end ≡ ends.Memory no_room))) (sym c.in_ok-vm.ensures.fresh.end) tt

pub returns-in-Err-clause-ended : goal.returns-in-Err-clause-ended
returns-in-Err-clause-ended c = (c.in-Err.room, refl)
