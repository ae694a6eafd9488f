-- The machine of a snapshot is one of its library.
use Rattle.std.proofs.Common.{◌≡◌, ℕ, zero, suc, ◌+◌, ◌<◌, ◌≤◌, List, [], ◌∷◌, length, map, reverse, take, Option, Some, None, slice_get, refl, sym, ap, ◌∙◌, subst, arith, All}
use Rattle.std.specs.Prelude.{IfSome}
use Rattle.std.proofs.lemmas.List.{reverse-reverse}
use Rattle.std.proofs.lemmas.Option.{slice_get_within}
use Rattle.std.proofs.lemmas.List.Elements.{All-nil, All-cons}
use Rattle.mpy_base.specs.declared.limits.TheConstants.{MAX_MODULES}
use Rattle.mpy_base.specs.World.{Heap}
use Rattle.arena_heap.specs.declared.value.Value.{Value}
use Rattle.bc_library.specs.bc_verify.bc_prelude.declared.prelude.Prelude.{Prelude}
use Rattle.bc_library.specs.bc_verify.qstr_pool.declared.table.TheConstants.{FIRST_OWN}
use Rattle.bc_library.specs.Greatest.{IsGreatestIn, ShelfHas}
use Rattle.bc_library.specs.Constants.{items_at, text_at}
use Rattle.bc_library.specs.Shelf.{Shelf, Named}
use Rattle.bc_library.specs.Texts.{text_numbered}
use Rattle.vm_starting.specs.frame_calls.arena_objects.Keys.{AllTold}
use Rattle.vm_starting.specs.vm_states.bc_rows.declared.row.Row.{Row}
use Rattle.vm_starting.specs.vm_states.bc_rows.Rows.{IsRow}
use Rattle.vm_starting.specs.vm_states.frame_exits.declared.ends.End.{End}
use Rattle.vm_starting.specs.vm_states.frame_exits.declared.ends.After.TheVariants as afters
use Rattle.vm_starting.specs.vm_states.frame_exits.declared.names.ModuleName.{ModuleName}
use Rattle.vm_starting.specs.vm_states.frame_exits.Known.{IsKnownAfter}
use Rattle.vm_starting.specs.vm_states.prim_modules.declared.entry.Entry.{Entry}
use Rattle.vm_starting.specs.vm_states.prim_modules.Registry.{Registry, with_entry}
use Rattle.vm_starting.specs.vm_states.vm_frames.Calls.{Call, Calls}
use Rattle.vm_starting.specs.vm_states.Means.{Program}
use Rattle.vm_starting.specs.vm_states.Running.{HasRooms}
use Rattle.vm_starting.specs.vm_states.State.{IsState}
use Rattle.vm_starting.specs.Opened.{HasMemory}
use Rattle.vm_starting.specs.Programs.{IsProgramOf, IsRunnable}
use Rattle.vm_starting.specs.Titles.{AreTitles}
use Rattle.vm_starting.specs.declared.opening.Vm.{Vm}
use Rattle.vm_kept.specs.Kept.{HoldsKept}
use Rattle.vm_kept.specs.state_exits.Modules.{AreRegistered}
use Rattle.vm_machine.specs.Machine.{IsVm}
use Rattle.snap_grammar.specs.declared.parts.FramePart.{FramePart}
use Rattle.snap_grammar.specs.declared.parts.RolePart.{RolePart}
use Rattle.snap_grammar.specs.declared.parts.RolePart.TheVariants as roles
use Rattle.snap_grammar.specs.declared.parts.Snapshot.{Snapshot}
use Rattle.snap_grammar.specs.Spelling.{Fits}
use Rattle.snap_states.specs.States.{AreFineFrames, AreFineObjects, IsFineFrame, IsShaped}
use Rattle.snap_states.specs.Decoded.{AreCallsOf, IsDecoded, entry_of, heap_of, modules_of}
use Rattle.snap_states.specs.Decoded as decoded
use Rattle.snap_loading.specs.Coded.{HasCode}
use Rattle.snap_loading.specs.Given.{IsLibrary, HasRow, HasRows, IsTabled}
use Rattle.snap_loading.proofs.Bridging.{get_there}
use Rattle.snap_loading.proofs.Knowing.{all_told}
use Rattle.snap_loading.proofs.Lying.{objects_in}
use Rattle.snap_loading.proofs.Putting.{take_next}
use Rattle.snap_loading.proofs.Standing.{all_reverse}

-- the library
-- ===========

-- what every library has whose modules' names have numbers
pub library_is : (shelf : Shelf) (titles : List ModuleName) → shelf.pool.first ≡ FIRST_OWN → length shelf.modules ≤ MAX_MODULES → AreTitles shelf titles → IsLibrary shelf
library_is shelf titles first few are = record {
  first = first;
  few = few;
  titled = λ i n at. (
      let lt = slice_get_within shelf.modules i n at in
      let many = are.as_many in
      let t = get_there titles i (omega (arith, lt, many)) in
      (t.0.name, (are.each i t.0 n t.1 at).name_is)
      );
}

pub library_of : (shelf : Shelf) (vm : Vm) → IsTabled shelf → IsVm shelf vm → IsLibrary shelf
library_of shelf vm tabled is = library_is shelf vm.names.items tabled.first tabled.few is.memory.names

-- slots
-- =====

prelude_few : (shelf : Shelf) (p : Prelude) → ShelfHas shelf p → p.n_state ≤ 4096
prelude_few shelf p h = let s = h.has.begins.is_signature in omega (arith, s.n_state, s.small.slots)

pub few_slots : (shelf : Shelf) (n_state n_exc : ℕ) → IsGreatestIn (ShelfHas shelf) n_state n_exc → n_state ≤ 4096
few_slots shelf zero n_exc g = omega arith
few_slots shelf (suc n) n_exc g = let f = g.some_state (omega arith) in let few = prelude_few shelf f.0 f.1 in omega (arith, few, f.2)

rooms : (shelf : Shelf) (n_state n_exc : ℕ) → IsGreatestIn (ShelfHas shelf) n_state n_exc → (p : Program) → IsProgramOf shelf p → (s : Calls) → s.slot_room ≡ n_state + 1 → s.entry_room ≡ n_exc → HasRooms p s
rooms shelf n_state n_exc greatest p of s slots entries =
    let greatest_in : IsGreatestIn (ShelfHas p.shelf) n_state n_exc = subst (λ (z : Shelf). IsGreatestIn (ShelfHas z) n_state n_exc) (sym of.shelf_is) greatest in record {
      slots = λ name number code is. let r = of.rooms n_state n_exc greatest_in name number code is in omega (arith, r.0, slots);
      entries = λ name number code is. let r = of.rooms n_state n_exc greatest_in name number code is in omega (arith, r.1, entries);
    }

-- registered modules
-- ==================

module _ (shelf : Shelf) (s : Snapshot) where
  -- the first of them
  abbrev pub first_modules : ℕ → Registry
  first_modules k = record { entries = map (entry_of shelf s) (take k s.modules); room = MAX_MODULES + 1 }

  pub module_more : (old new : Registry) (k number name cell : ℕ) → old ≡ first_modules k → slice_get s.modules k ≡ Some number
      → name ≡ (entry_of shelf s number).name → cell ≡ (entry_of shelf s number).object.cell
      → new ≡ with_entry old (record { name = name; object = record { cell = cell } }) → new ≡ first_modules (k + 1)
  module_more old new k number name cell before at a b done =
      let on : suc k ≡ k + 1 = omega arith in
      let entry : (n c : ℕ) → Entry = λ n c. record { name = n; object = record { cell = c } } in
      let over : List Entry → Registry = λ es. record { entries = es; room = MAX_MODULES + 1 } in
      done
      ∙ (ap (λ (r : Registry). with_entry r (entry name cell)) before
      ∙ (ap (λ (n : ℕ). with_entry (first_modules k) (entry n cell)) a
      ∙ (ap (λ (c : ℕ). with_entry (first_modules k) (entry (entry_of shelf s number).name c)) b
      ∙ (ap over (sym (take_next (entry_of shelf s) s.modules k number at)) ∙ ap first_modules on))))

-- frames
-- ======

module _ (shelf : Shelf) (s : Snapshot) (has : (m code : ℕ) → HasCode shelf m code → (row : Row) × IsRow shelf m code row) where
  frame_row : (above : Option RolePart) (f : FramePart) → IsFineFrame shelf s above f → HasRow shelf f
  frame_row above f fine = has f.module_number f.code (record { placed = fine.stands.placed; there = fine.stands.there })

  frames_rows : (above : Option RolePart) (fs : List FramePart) → AreFineFrames shelf s above fs → All (HasRow shelf) fs
  frames_rows above [] fine = All-nil (HasRow shelf)
  frames_rows None (f ∷ fs) fine = All-cons (HasRow shelf) f fs (frame_row None f fine.0) (frames_rows (Some f.role) fs fine.1)
  frames_rows (Some roles.Main) (f ∷ fs) fine = absurd fine
  frames_rows (Some roles.Call) (f ∷ fs) fine = All-cons (HasRow shelf) f fs (frame_row (Some roles.Call) f fine.0) (frames_rows (Some f.role) fs fine.1)
  frames_rows (Some (roles.Import m)) (f ∷ fs) fine = All-cons (HasRow shelf) f fs (frame_row (Some (roles.Import m)) f fine.0) (frames_rows (Some f.role) fs fine.1)

  pub has_rows : IsShaped shelf s → HasRows shelf s
  has_rows shaped = record { rows = subst (All (HasRow shelf)) (reverse-reverse s.frames) (all_reverse (HasRow shelf) (reverse s.frames) (frames_rows None (reverse s.frames) shaped.frames)) }

-- the state that it stands for
-- ============================

module _ (shelf other : Shelf) (s t : Snapshot) (same : other ≡ shelf) (alike : t ≡ s) where
  pub library_as : IsLibrary shelf → IsLibrary other
  library_as h = subst IsLibrary (sym same) h

  pub fits_as : Fits s → Fits t
  fits_as h = subst Fits (sym alike) h

  pub shaped_as : IsShaped shelf s → IsShaped other t
  shaped_as h = subst (λ (z : Shelf). IsShaped z t) (sym same) (subst (IsShaped shelf) (sym alike) h)

  pub decodes : (heap : Heap Value ℕ) (modules : Registry) (calls : List Call) → (title : ℕ → ℕ → ℕ) → decoded.AreTitles shelf title
      → ((name : ℕ → ℕ → ℕ) → decoded.AreTitles other name → heap ≡ heap_of other t name) → modules ≡ modules_of other t → AreCallsOf other t (reverse t.frames) calls
      → IsDecoded shelf s heap modules calls
  decodes heap modules calls title titles heap_is modules_are calls_are =
      let there : decoded.AreTitles other title = subst (λ (z : Shelf). decoded.AreTitles z title) (sym same) titles in
      let is : IsDecoded other t heap modules calls = record { title = title; titles = there; heap_is = heap_is title there; modules_are = modules_are; calls_are = calls_are } in
      subst (λ (z : Shelf). IsDecoded z s heap modules calls) same (subst (λ (z : Snapshot). IsDecoded other z heap modules calls) alike is)

-- the machine
-- ===========

-- what a loaded state is
abbrev pub SafeLaw : Type 0
SafeLaw =
    (shelf : Shelf) (s : Snapshot) (heap : Heap Value ℕ) (modules : Registry) (calls : Calls) (p : Program) → IsLibrary shelf → Fits s → IsShaped shelf s → HasRows shelf s
    → IsDecoded shelf s heap modules calls.calls → IsProgramOf shelf p → HasRooms p calls → IsState p heap.objects calls × AreRegistered p heap modules × HoldsKept p heap.objects calls

module _ (shelf : Shelf) (s : Snapshot) (vm : Vm) where
  ended_not : vm.end ≡ None → IfSome vm.end (λ end. IsKnownAfter (text_at shelf) (items_at shelf) vm.arena.objects (afters.Ends end))
  ended_not e = subst (λ (o : Option End). IfSome o (λ end. IsKnownAfter (text_at shelf) (items_at shelf) vm.arena.objects (afters.Ends end))) (sym e) tt

  told_in : IsLibrary shelf → IsShaped shelf s → (is : IsDecoded shelf s vm.arena vm.modules vm.frames.calls) → AllTold (text_at shelf) (items_at shelf) vm.arena.objects
  told_in library shaped is =
      subst (λ (h : Heap Value ℕ). AllTold (text_at shelf) (items_at shelf) h.objects) (sym is.heap_is) (all_told shelf s is.title library.first shaped.objects)

  pub is_vm : SafeLaw → IsRunnable shelf → IsLibrary shelf → Fits s → IsShaped shelf s → HasRows shelf s → (n_state n_exc : ℕ) → HasMemory shelf n_state n_exc vm
      → vm.end ≡ None → IsDecoded shelf s vm.arena vm.modules vm.frames.calls → IsVm shelf vm
  is_vm law runnable library fits shaped rows n_state n_exc memory goes_on is = record {
    runnable = runnable;
    n_state = n_state;
    n_exc = n_exc;
    memory = memory;
    runs = λ e p of. (
        let roomy = rooms shelf n_state n_exc memory.greatest p of vm.frames memory.slot_room memory.entry_room in
        let safe = law shelf s vm.arena vm.modules vm.frames p library fits shaped rows is of roomy in
        record { state = safe.0; registered = safe.1; kept = safe.2 }
        );
    ended = ended_not goes_on;
    all_told = told_in library shaped is;
  }
