-- What the machine's instruction finds that was fetched.
use Rattle.std.proofs.Common.{◌≡◌, ℕ, List, Option, ap, sym, subst, ◌∙◌, arith}
use Rattle.std.specs.Prelude.{◌<◌, ◌^◌, min}
use Rattle.state_steps.specs.prim_faults.arena_heap.declared.value.StrNo.{StrNo}
use Rattle.state_steps.specs.prim_faults.arena_heap.declared.value.ConstNo.{ConstNo}
use Rattle.mpy_base.specs.World.{Heap}
use Rattle.state_steps.specs.prim_faults.arena_heap.declared.value.Value.{Value}
use Rattle.bc_library.specs.Constants.{items_at, text_at}
use Rattle.bc_library.specs.Shelf.{Shelf}
use Rattle.vm_kept.specs.state_calls.bc_rows.declared.row.Row.{Row}
use Rattle.state_steps.specs.prim_modules.Registry.{Registry}
use Rattle.state_steps.specs.vm_frames.Calls.{Call, Calls}
use Rattle.vm_kept.specs.state_calls.frame_exits.declared.ends.End.{End}
use Rattle.vm_kept.specs.state_calls.frame_exits.declared.names.ModuleName.{ModuleName}
use Rattle.vm_kept.specs.state_calls.vm_fetching.declared.instruction.Fetched.{Fetched}
use Rattle.vm_kept.specs.state_calls.vm_fetching.declared.instruction.Instruction.{Instruction}
use Rattle.vm_kept.specs.state_calls.vm_fetching.Fetches.{IsVerifiedRow}
use Rattle.vm_starting.specs.frame_calls.Operands.{Given}
use Rattle.vm_starting.specs.vm_states.Means.{Program, Means}
use Rattle.vm_starting.specs.vm_states.Ready.{IsReady}
use Rattle.vm_starting.specs.vm_states.Acting.{Tells, RunsOver}
use Rattle.vm_starting.specs.vm_states.State.{IsState}
use Rattle.vm_kept.specs.state_exits.Modules.{AreNames, AreRegistered}
use Rattle.vm_kept.specs.state_exits.Running.{RunsWith, RunsOn}
use Rattle.vm_kept.specs.state_calls.Runs.{RunsWithin}
use Rattle.vm_starting.specs.Programs.{IsProgramOf}
use Rattle.state_steps.specs.Comes.{ComesOn}
use Rattle.vm_starting.specs.declared.opening.Vm.{Vm}
use Rattle.vm_machine.proofs.Texts.{few_slots}
use Rattle.vm_machine.specs.Acting.{HasFetched, Acted}
use Rattle.vm_machine.specs.Machine.{IsVm}
use Rattle.vm_machine.proofs.Machines.{tells, vm_holding}

-- the slots of each call are few
pub few : (shelf : Shelf) (vm : Vm) → IsVm shelf vm → vm.frames.slot_room < 2 ^ 32
few shelf vm h = let n = few_slots shelf h.n_state h.n_exc h.memory.greatest in let m = h.memory.slot_room in omega (arith, n, m)

module _ (shelf : Shelf) (vm : Vm) (row : Row) (f : Fetched) (h : HasFetched shelf vm row f) where
  -- of a program
  module _ (p : Program) (of : IsProgramOf shelf p) where
    pub state_in : IsState p vm.arena.objects vm.frames
    state_in = (h.is_vm.runs h.goes_on p of).state

    -- what is promised of calls that run it
    pub in_program : (names : List ModuleName) → names ≡ vm.names.items → {T : Type 0}
        → (Means p → Tells (text_at shelf) (items_at shelf) p → AreNames p names → IsState p vm.arena.objects vm.frames → AreRegistered p vm.arena vm.modules → IsReady p vm.frames row f → T) → T
    in_program names e g = let r = h.is_vm.runs h.goes_on p of in g of.means (tells shelf p of) (subst (AreNames p) (sym e) (h.named p of)) r.state r.registered (h.ready p of)

    pub in_ready : (names : List ModuleName) → names ≡ vm.names.items → (T : IsReady p vm.frames row f → Type 0)
        → (Means p → Tells (text_at shelf) (items_at shelf) p → AreNames p names → IsState p vm.arena.objects vm.frames → AreRegistered p vm.arena vm.modules → (r : IsReady p vm.frames row f) → T r) → T (h.ready p of)
    in_ready names e T g = let r = h.is_vm.runs h.goes_on p of in g of.means (tells shelf p of) (subst (AreNames p) (sym e) (h.named p of)) r.state r.registered (h.ready p of)

  abbrev pub runs_with : (names : List ModuleName) → names ≡ vm.names.items → RunsWith (text_at shelf) (items_at shelf) names shelf vm.arena vm.modules vm.frames row f
  runs_with names e =
      let p = h.program in
      let of = h.is_program in
      let r = h.is_vm.runs h.goes_on p of in
      record {
        runs = record {
          program = p;
          means = of.means;
          tells = tells shelf p of;
          named = subst (AreNames p) (sym e) (h.named p of);
          state = r.state;
          ready = h.ready p of;
          number = h.number;
          verified = subst (λ (z : Shelf). IsVerifiedRow z h.number row) (sym of.shelf_is) h.verified;
        };
        shelf_is = of.shelf_is;
        registered = r.registered;
      }

  pub runs_over : RunsOver (text_at shelf) (items_at shelf) vm.arena vm.frames f
  runs_over =
      let p = h.program in
      let of = h.is_program in
      record { program = p; row = row; means = of.means; tells = tells shelf p of; state = state_in p of; ready = h.ready p of }

  pub runs_within : (room : ℕ) → room ≡ vm.frames.slot_room → RunsWithin room shelf vm.arena vm.frames f
  runs_within room same =
      let p = h.program in
      let of = h.is_program in
      let state = state_in p of in
      record {
        runs = record { program = p; row = row; means = of.means; shelf_is = of.shelf_is; state = state; ready = h.ready p of };
        roomy = λ name number code is. (let r = state.running.rooms.slots name number code is in omega (arith, r, same));
      }

  -- by the form of its instruction
  pub at_form : (i : Instruction) → f.instruction ≡ i → HasFetched shelf vm row (record { instruction = i; end = f.end })
  at_form i is = subst (λ (j : Instruction). HasFetched shelf vm row (record { instruction = j; end = f.end })) is h

  -- other operands are held
  pub fetched_holding : (given : Given) → given.room ≡ vm.operands.room → HasFetched shelf (record vm { operands = given }) row f
  fetched_holding given room = record {
    is_vm = vm_holding shelf vm given room h.is_vm;
    goes_on = h.goes_on;
    program = h.program;
    is_program = h.is_program;
    named = h.named;
    ready = h.ready;
    read = h.read;
    number = h.number;
    verified = h.verified;
  }

-- a step without visits
pub without_visits : (p : Program) (before behind : Heap Value ℕ) (earlier later : Registry) (old new : Calls) (end : Option End) → RunsOn p before behind earlier later old new end → ComesOn p 0 before behind earlier later old new end
without_visits p before behind earlier later old new end r = record {
  pays = λ paid w less. absurd (omega (arith, less));
  steps = λ paid w enough. r.steps paid w;
  run = r.run;
  objects = r.objects;
}
