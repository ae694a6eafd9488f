-- A snapshot is a state of a library just where its shape is that of one and no more is paid than may be.
use Rattle.std.proofs.Common.{◌≡◌, ℕ, ◌<◌, ◌^◌, List, Option, None, Result, Ok, Err, refl, sym, ap, ◌∙◌, subst}
use Rattle.std.specs.Prelude.{IsErrOf}
use Rattle.mpy_base.specs.declared.refused.Refused.{Refused}
use Rattle.mpy_base.specs.declared.refused.Refused.TheVariants as refused
use Rattle.mpy_base.specs.Val.{PlainWorld}
use Rattle.mpy_base.specs.World.{Heap}
use Rattle.arena_heap.specs.declared.value.Value.{Value}
use Rattle.bc_library.specs.Shelf.{Shelf}
use Rattle.vm_starting.specs.vm_states.frame_exits.declared.ends.End.{End}
use Rattle.vm_starting.specs.vm_states.frame_exits.Ends.{with_modules}
use Rattle.vm_starting.specs.vm_states.frame_moves.Outcomes.{world_of}
use Rattle.vm_starting.specs.vm_states.frame_moves.Shown.{running_of}
use Rattle.vm_starting.specs.vm_states.prim_modules.Registry.{Registry}
use Rattle.vm_starting.specs.vm_states.vm_frames.Calls.{Call}
use Rattle.vm_starting.specs.vm_states.Means.{Program}
use Rattle.vm_starting.specs.Programs.{IsProgramOf}
use Rattle.vm_starting.specs.declared.opening.Vm.{Vm}
use Rattle.vm_machine.specs.Machine.{machine_of, paid_state, world_in}
use Rattle.snap_laws.specs.Kept.{IsPaid}
use Rattle.snap_grammar.specs.declared.fault.SnapFault.{SnapFault as Fault}
use Rattle.snap_grammar.specs.declared.parts.Snapshot.{Snapshot}
use Rattle.snap_grammar.specs.Spelling.{Fits, spelling}
use Rattle.snap_saving.specs.Shown.{snapshot_of}
use Rattle.snap_states.specs.States.{IsShaped, IsStateOf}
use Rattle.snap_states.specs.Decoded.{IsDecoded}
use Rattle.snap_loading.specs.Loaded.{IsLoaded}
use Rattle.snap_loading.specs.Paid.{PaysNoMore}

-- a snapshot stands for one state
abbrev pub StandsForOne : Shelf → Snapshot → Type 0
StandsForOne shelf s =
    (heap other : Heap Value ℕ) (modules others : Registry) (calls more : List Call) → IsDecoded shelf s heap modules calls → IsDecoded shelf s other others more
    → (heap ≡ other) × (modules ≡ others) × (calls ≡ more)

module _ (shelf : Shelf) (s : Snapshot) (vm : Vm) (goes_on : vm.end ≡ None) (paid : vm.paid ≡ s.paid) (is : IsDecoded shelf s vm.arena vm.modules vm.frames.calls) where
  -- where the machine is
  stands_at : (p : Program) (w : PlainWorld) → machine_of p vm w ≡ running_of p.tables s.paid vm.frames.calls (world_of p.tables (with_modules p.tables w vm.modules) vm.arena)
  stands_at p w =
      ap (λ (o : Option End). paid_state p o vm.paid vm.frames.calls (world_in p vm w)) goes_on
      ∙ ap (λ (k : ℕ). running_of p.tables k vm.frames.calls (world_in p vm w)) paid

  pub is_state : IsShaped shelf s → s.paid < 2 ^ 63 → StandsForOne shelf s → PaysNoMore shelf vm → IsStateOf shelf s
  is_state shaped few one pays = record {
    shaped = shaped;
    few_paid = few;
    paid = λ heap modules calls other p of w. (
        let same = one vm.arena heap vm.modules modules vm.frames.calls calls is other in
        subst (λ (h : Heap Value ℕ). IsPaid p.library (running_of p.tables s.paid calls (world_of p.tables (with_modules p.tables w modules) h))) same.0
        (subst (λ (m : Registry). IsPaid p.library (running_of p.tables s.paid calls (world_of p.tables (with_modules p.tables w m) vm.arena))) same.1
        (subst (λ (cs : List Call). IsPaid p.library (running_of p.tables s.paid cs (world_of p.tables (with_modules p.tables w vm.modules) vm.arena))) same.2
        (subst (IsPaid p.library) (stands_at p w) (pays p of w))))
        );
  }

  pub pays_no_more : IsStateOf shelf s → PaysNoMore shelf vm
  pays_no_more h p of w = subst (IsPaid p.library) (sym (stands_at p w)) (h.paid vm.arena vm.modules vm.frames.calls is p of w)

-- the machine that is loaded
-- ==========================

module _ (shelf : Shelf) (s : Snapshot) (old vm : Vm) (goes_on : old.end ≡ None) (paid : old.paid ≡ s.paid) (is : IsDecoded shelf s old.arena old.modules old.frames.calls) where
  -- it is loaded where only its place for operands is another's
  pub loaded : Fits s → IsShaped shelf s → s.paid < 2 ^ 63 → StandsForOne shelf s → PaysNoMore shelf old → snapshot_of shelf old.arena old.modules old.frames.calls s.paid ≡ s
      → vm ≡ record old { operands = vm.operands } → IsLoaded shelf (spelling s) vm
  loaded fits shaped few one pays shown same =
      let there : IsLoaded shelf (spelling s) (record old { operands = vm.operands }) = record {
        goes_on = goes_on;
        s = s;
        fits = fits;
        spelled = refl;
        is_state = is_state shelf s old goes_on paid is shaped few one pays;
        shown = ap (λ (k : ℕ). snapshot_of shelf old.arena old.modules old.frames.calls k) paid ∙ shown;
        decoded = is;
      } in
      subst (IsLoaded shelf (spelling s)) (sym same) there

-- a refusal
pub one_fault : {A : Type 0} (e f : Fault) → IsErrOf {T = A} (Err (refused.Fault e)) (refused.Fault f) → f ≡ e
one_fault e f h = cc
