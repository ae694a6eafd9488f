-- The frames of a machine that keeps what a run keeps: the snapshot's are those of a state.
use Rattle.std.proofs.Common.{◌≡◌, ℕ, true, false, List, [], ◌∷◌, length, map, reverse, Option, Some, None, refl, sym, ap, ◌∙◌, subst}
use Rattle.std.specs.List.{AllByRecursion as Each}
use Rattle.std.proofs.lemmas.List.Elements.{recursion_from_All}
use Rattle.mpy_base.specs.World.{Heap, Objects, Object, ListObject, TupleObject, TextObject, DictObject, FunctionObject, ExceptionObject, MethodObject, RangeObject, ModuleObject, ObjectKind, ATuple, AnException, AModule, object, kind_of, IsA}
use Rattle.mpy_base.specs.Val.{Val, At}
use Rattle.arena_heap.specs.declared.value.Value.{Value}
use Rattle.arena_heap.specs.declared.value.Value.TheVariants as values
use Rattle.arena_heap.specs.declared.value.StrNo.{StrNo}
use Rattle.arena_heap.specs.declared.value.ConstNo.{ConstNo}
use Rattle.bc_library.specs.Constants.{items_at, text_at}
use Rattle.bc_library.specs.Shelf.{Shelf}
use Rattle.bc_machine.specs.py_values.Shown.{PlainHeap}
use Rattle.bc_machine.specs.Library.{Name, Code, Library, code_at}
use Rattle.bc_machine.specs.State as states
use Rattle.vm_starting.specs.frame_calls.arena_objects.Iterables.{or_nothing}
use Rattle.vm_starting.specs.frame_calls.prim_walks.Plain.{fixed_of, fixed_within, plain_by, plain, plain_heap}
use Rattle.vm_starting.specs.vm_states.bc_progress.Plans.{flow_of}
use Rattle.vm_starting.specs.vm_states.frame_moves.Shown.{Tables, view_of}
use Rattle.vm_starting.specs.vm_states.prim_modules.Registry.{Registry}
use Rattle.vm_starting.specs.vm_states.vm_frames.Calls.{Call}
use Rattle.vm_starting.specs.vm_states.vm_frames.Placed.{IsPlaced}
use Rattle.vm_starting.specs.vm_states.vm_frames.Views.{frame_of}
use Rattle.vm_starting.specs.vm_states.Means.{Program, Means}
use Rattle.vm_starting.specs.vm_states.State.{IsKnownCall}
use Rattle.vm_starting.specs.Programs.{IsProgramOf}
use Rattle.vm_starting.specs.declared.opening.Vm.{Vm}
use Rattle.vm_machine.specs.Machine.{RunsProgram}
use Rattle.bc_flow.specs.Verified.{IsLeastOf}
use Rattle.snap_saving.specs.Shown.{place_in, fixed_part, value_part, frame_part, snapshot_of}
use Rattle.snap_laws.specs.Kept.{WaitBelow}
use Rattle.snap_kept.specs.Values as kept
use Rattle.snap_kept.specs.Values.{AreFine}
use Rattle.snap_grammar.specs.declared.parts.ValuePart.{ValuePart}
use Rattle.snap_grammar.specs.declared.parts.Snapshot.{Snapshot}
use Rattle.snap_states.specs.States.{IsNamespace, kind_at, kind_of_part, AreFineFrames}
use Rattle.snap_loading.proofs.Fining.{plain_part, space}
use Rattle.snap_loading.proofs.Fitted.{CodesLaw, EntriesLaw, frames_fine}
use Rattle.snap_loading.proofs.Framewise.{val_kind, Parts_are}
use Rattle.snap_loading.proofs.Gathering.{Gathered}
use Rattle.snap_loading.proofs.Likening.{parts_back}
use Rattle.snap_loading.proofs.Saving.{saved_as, kind_there, plain_at, plain_is}
use Rattle.snap_loading.proofs.Standing.{Laws}
use Rattle.snap_loading.specs.Given.{HasCodeRows}

-- constant tuples are tuples
fixed_kind : (heap : PlainHeap) (xs : List Val) → val_kind heap (fixed_of xs) ≡ Some ATuple
fixed_kind heap [] = refl
fixed_kind heap (x ∷ xs) = refl

kind_some : (o : Object Val (List ℕ)) → (k : ObjectKind) × (kind_of (Some o) ≡ Some k)
kind_some (ListObject items room) = (_, refl)
kind_some (TupleObject items) = (_, refl)
kind_some (TextObject bytes) = (_, refl)
kind_some (DictObject pairs room) = (_, refl)
kind_some (FunctionObject name module_name code names defaults) = (_, refl)
kind_some (ExceptionObject kind args file line name) = (_, refl)
kind_some (MethodObject v method) = (_, refl)
kind_some (RangeObject start stop step) = (_, refl)
kind_some (ModuleObject name names) = (_, refl)

module _ (shelf : Shelf) (heap : Heap Value ℕ) (modules : Registry) (calls : List Call) (paid : ℕ) (library : Library) where
  abbrev shot : Snapshot
  shot = saved_as shelf heap modules calls paid

  abbrev world : PlainHeap
  world = plain_heap (text_at shelf) (items_at shelf) heap

  fixed_plain : (c : ConstNo) → val_kind world (plain (text_at shelf) (items_at shelf) (values.Fixed c)) ≡ Some ATuple
  unfolding fixed_within
  fixed_plain c = fixed_kind world (map (plain_by (text_at shelf) (fixed_within (text_at shelf) (items_at shelf) 31)) (or_nothing (items_at shelf c)))

  fixed_part_kind : (c : ConstNo) (o : Option (List Value)) → kind_of_part shot (fixed_part c o) ≡ Some ATuple
  fixed_part_kind c None = refl
  fixed_part_kind c (Some []) = refl
  fixed_part_kind c (Some (v ∷ vs)) = refl

  object_kind : (n : ℕ) → kept.IsThere world n → kind_at shot (place_in heap n) ≡ kind_of (object world.objects n)
  object_kind n h =
      let k = kind_some h.0 in
      let is : IsA world.objects (k.0) n = ap kind_of h.1 ∙ k.1 in
      kind_there shelf heap modules calls paid k.0 n (plain_is (text_at shelf) (items_at shelf) heap.objects k.0 n is) ∙ sym is

  kind_same : (v : Value) → kept.IsPlain library world (plain (text_at shelf) (items_at shelf) v) → kind_of_part shot (value_part shelf (place_in heap) v) ≡ val_kind world (plain (text_at shelf) (items_at shelf) v)
  kind_same values.None h = refl
  kind_same (values.Bool true) h = refl
  kind_same (values.Bool false) h = refl
  kind_same (values.Int z) h = refl
  kind_same (values.Str x) h = refl
  kind_same (values.Fixed c) h = fixed_part_kind c (items_at shelf c) ∙ sym (fixed_plain c)
  kind_same values.Empty h = refl
  kind_same (values.Built b) h = refl
  kind_same (values.List l) h = object_kind l.cell h.0
  kind_same (values.Dict l) h = object_kind l.cell h.0
  kind_same (values.Tuple l) h = object_kind l.cell h.0
  kind_same (values.Text l) h = object_kind l.cell h.0
  kind_same (values.Fun l) h = object_kind l.cell h.0
  kind_same (values.Exc l) h = object_kind l.cell h.0
  kind_same (values.Method l) h = object_kind l.cell h.0
  kind_same (values.Range l) h = object_kind l.cell h.0
  kind_same (values.Module l) h = object_kind l.cell h.0

  abbrev AllKnown : Tables → Type 0
  AllKnown tables =
      let seen = plain_heap tables.texts tables.tuples heap in
      Parts_are library seen heap.objects tables shelf shot (place_in heap) × ((n : ℕ) → kept.IsNamespace seen n → IsNamespace shot (place_in heap n))

  -- what is known of the parts of values
  pub all_known : (tables : Tables) → tables.texts ≡ text_at shelf → tables.tuples ≡ items_at shelf → AreFine library (plain_heap tables.texts tables.tuples heap) → AllKnown tables
  all_known tables same same_tuples fine =
      let by = subst (λ (t : StrNo → Option (List ℕ)). AreFine library (plain_heap t tables.tuples heap) → AllKnown (record tables { texts = t })) (sym same)
      (subst (λ (u : ConstNo → Option (List Value)). AreFine library (plain_heap (text_at shelf) u heap) → AllKnown (record tables { texts = text_at shelf; tuples = u })) (sym same_tuples) own) in
      by fine
    where
      own : AreFine library world → AllKnown (record tables { texts = text_at shelf; tuples = items_at shelf })
      own f = (
        record {
          plain_is = plain_part shelf heap modules calls paid library f;
          kind_is = kind_same;
          exception_is = λ n e. kind_there shelf heap modules calls paid AnException n e;
          module_is = λ n e. kind_there shelf heap modules calls paid AModule n (plain_is (text_at shelf) (items_at shelf) heap.objects AModule n e);
        },
        space shelf heap modules calls paid library f,
      )

abbrev Fine : Shelf → Vm → Type 0
Fine shelf vm = let s = snapshot_of shelf vm.arena vm.modules vm.frames.calls vm.paid in AreFineFrames shelf s None (reverse s.frames)

module _ (laws : Laws) (as_many : CodesLaw) (entries : EntriesLaw) (p : Program) (means : Means p) (vm : Vm) (g : Gathered p vm) (runs : RunsProgram p vm)
    (leasts : (name : Name) (number : ℕ) (code : Code) → code_at p.library name number ≡ Some code → IsLeastOf (flow_of (p.plans name number) code) (p.plans name number).assigned) where
  own_fine : HasCodeRows p.shelf → Fine p.shelf vm
  own_fine rows =
      let known = all_known p.shelf vm.arena vm.modules vm.frames.calls vm.paid p.library p.tables means.constants.texts means.constants.tuples g.sound.heap in
      let s = snapshot_of p.shelf vm.arena vm.modules vm.frames.calls vm.paid in
      subst (λ z. AreFineFrames p.shelf s None z) (sym (parts_back p.shelf (place_in vm.arena) vm.frames.calls))
      (frames_fine laws as_many entries p means rows leasts (plain_heap p.tables.texts p.tables.tuples vm.arena) vm.arena.objects s (place_in vm.arena) known.0 known.1
      vm.frames.calls runs.kept.calls g.frames (recursion_from_All (IsKnownCall p vm.arena.objects) vm.frames.calls runs.state.known)
      (recursion_from_All (IsPlaced (view_of p.tables)) vm.frames.calls runs.state.running.placed) g.waits)

  pub frames_are_fine : (shelf : Shelf) → p.shelf ≡ shelf → HasCodeRows shelf → Fine shelf vm
  frames_are_fine shelf is = subst (λ (z : Shelf). HasCodeRows z → Fine z vm) is own_fine
