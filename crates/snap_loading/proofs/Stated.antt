-- What a snapshot stands for is a state of each program of its library.
use Rattle.std.proofs.Common.{◌≡◌, ℕ, ◌<◌, List, [], ◌∷◌, length, map, reverse, Option, Some, None, refl, sym, subst, arith, All}
use Rattle.std.proofs.lemmas.List.{length-reverse}
use Rattle.std.proofs.lemmas.List.Elements.{All-nil, All-cons, All-head, All-tail, All-from_recursion}
use Rattle.mpy_base.specs.World.{Heap}
use Rattle.arena_heap.specs.declared.value.Value.{Value}
use Rattle.arena_heap.specs.declared.value.StrNo.{StrNo}
use Rattle.arena_heap.specs.declared.value.ConstNo.{ConstNo}
use Rattle.bc_library.specs.Constants.{text_at}
use Rattle.bc_library.specs.Shelf.{Shelf}
use Rattle.vm_starting.specs.frame_calls.arena_objects.Keys.{AllTold}
use Rattle.vm_starting.specs.vm_states.bc_machine.Library.{Name}
use Rattle.vm_starting.specs.vm_states.bc_progress.Slots.{Facts, anything}
use Rattle.vm_starting.specs.vm_states.bc_progress.Fits.{StandsIn, WaitsIn, BelowIn}
use Rattle.vm_starting.specs.vm_states.bc_progress.Known.{facts_of}
use Rattle.vm_starting.specs.vm_states.frame_moves.Shown.{view_of}
use Rattle.vm_starting.specs.vm_states.bc_progress.py_effects.Heaps.{Formed, Registered}
use Rattle.vm_starting.specs.frame_calls.prim_walks.Plain.{plain_heap}
use Rattle.vm_starting.specs.vm_states.prim_modules.Registry.{Registry, plain_modules}
use Rattle.vm_starting.specs.vm_states.vm_frames.Calls.{Call, Calls}
use Rattle.vm_starting.specs.vm_states.vm_frames.Placed.{IsPlaced}
use Rattle.vm_starting.specs.vm_states.vm_frames.Views.{role_of, frame_of}
use Rattle.vm_starting.specs.vm_states.Means.{Program, Means}
use Rattle.vm_starting.specs.vm_states.Running.{FitCalls, HasRooms, IsOfModule}
use Rattle.vm_starting.specs.vm_states.State.{IsKnownCall, IsState}
use Rattle.vm_starting.specs.Programs.{IsProgramOf}
use Rattle.vm_kept.specs.Kept.{KeepCalls, HoldsKept}
use Rattle.vm_kept.specs.state_exits.Modules.{AreRegistered, registered_names}
use Rattle.vm_kept.specs.state_exits.Own.{AreOwn}
use Rattle.snap_grammar.specs.declared.parts.RolePart.{RolePart}
use Rattle.snap_grammar.specs.declared.parts.RolePart.TheVariants as roles
use Rattle.snap_grammar.specs.declared.parts.FramePart.{FramePart}
use Rattle.snap_grammar.specs.declared.parts.Snapshot.{Snapshot}
use Rattle.snap_grammar.specs.Spelling.{IsFrame, Fits}
use Rattle.snap_states.specs.States.{IsFineFrame, AreFineFrames, IsShaped}
use Rattle.snap_states.specs.Decoded as decoded
use Rattle.snap_states.specs.Decoded.{heap_of, modules_of, AreCallsOf, IsDecoded}
use Rattle.snap_loading.specs.Given.{IsLibrary, HasRow, HasRows}
use Rattle.snap_loading.proofs.Knowing.{all_told}
use Rattle.snap_loading.proofs.Lying.{objects_in}
use Rattle.snap_loading.proofs.Registering.{formed, registered, own}
use Rattle.snap_loading.proofs.Showing.{HasFacts}
use Rattle.snap_loading.proofs.Standing.{Laws, all_reverse, call, call_is, stands_in, waits_in, import_takes, is_placed, of_module, is_known}

module _ (laws : Laws) (p : Program) (s : Snapshot) (title : ℕ → ℕ → ℕ) (is : IsLibrary p.shelf) (means : Means p) where
  -- calls
  -- =====

  parts : (above : Option RolePart) (f : FramePart) (fs : List FramePart) → AreFineFrames p.shelf s above (f ∷ fs) → IsFineFrame p.shelf s above f × AreFineFrames p.shelf s (Some f.role) fs
  parts None f fs h = h
  parts (Some roles.Main) f fs h = absurd h
  parts (Some roles.Call) f fs h = h
  parts (Some (roles.Import m)) f fs h = h

  module _ (facts : Facts) (h : HasFacts p.tables p.shelf s title facts) where
    below : (name : Name) (r : RolePart) (fs : List FramePart) (cs : List Call) → AreFineFrames p.shelf s (Some r) fs → AreCallsOf p.shelf s fs cs → All (HasRow p.shelf) fs
        → BelowIn facts p.plans p.library (role_of (view_of p.tables) name (decoded.role_of p.shelf s r)) (map (frame_of (view_of p.tables)) cs)
    below name roles.Main [] [] fine are rows = tt
    below name roles.Main [] (c ∷ cs) fine are rows = absurd are
    below name roles.Main (f ∷ fs) cs fine are rows = absurd fine
    below name roles.Call [] cs fine are rows = absurd cc
    below name roles.Call (f ∷ fs) [] fine are rows = absurd are
    below name roles.Call (f ∷ fs) (c ∷ cs) fine are rows =
        let row = All-head (HasRow p.shelf) f fs rows in
        let same = call_is laws p s title is means (Some roles.Call) f fine.0 row c are.0 in
        subst (λ (z : Call). WaitsIn facts p.plans p.library (frame_of (view_of p.tables) z) × BelowIn facts p.plans p.library (frame_of (view_of p.tables) z).role (map (frame_of (view_of p.tables)) cs)) (sym same)
        (waits_in laws p s title is means (Some roles.Call) f fine.0 row facts h refl, below (p.tables.module_name f.module_number) f.role fs cs fine.1 are.1 (All-tail (HasRow p.shelf) f fs rows))
    below name (roles.Import m) [] cs fine are rows = absurd cc
    below name (roles.Import m) (f ∷ fs) [] fine are rows = absurd are
    below name (roles.Import m) (f ∷ fs) (c ∷ cs) fine are rows =
        let row = All-head (HasRow p.shelf) f fs rows in
        let same = call_is laws p s title is means (Some (roles.Import m)) f fine.0 row c are.0 in
        let none = import_takes m fine.0.item fine.0.action fine.0.taken fine.0.waits in
        subst (λ (z : Call). StandsIn facts p.plans p.library (frame_of (view_of p.tables) z) × BelowIn facts p.plans p.library (frame_of (view_of p.tables) z).role (map (frame_of (view_of p.tables)) cs)) (sym same)
        (stands_in laws p s title is means (Some (roles.Import m)) f fine.0 row facts h none, below (p.tables.module_name f.module_number) f.role fs cs fine.1 are.1 (All-tail (HasRow p.shelf) f fs rows))

    abbrev Keep : List Call → Type 0
    Keep [] = ⊥
    Keep (c ∷ cs) = StandsIn facts p.plans p.library (frame_of (view_of p.tables) c) × BelowIn facts p.plans p.library (frame_of (view_of p.tables) c).role (map (frame_of (view_of p.tables)) cs)

    keep : (fs : List FramePart) (cs : List Call) → 0 < length fs → AreFineFrames p.shelf s None fs → AreCallsOf p.shelf s fs cs → All (HasRow p.shelf) fs → Keep cs
    keep [] cs some fine are rows = absurd (omega (arith, some))
    keep (f ∷ fs) [] some fine are rows = absurd are
    keep (f ∷ fs) (c ∷ cs) some fine are rows =
        let row = All-head (HasRow p.shelf) f fs rows in
        let same = call_is laws p s title is means None f fine.0 row c are.0 in
        subst (λ (z : Call). Keep (z ∷ cs)) (sym same)
        (stands_in laws p s title is means None f fine.0 row facts h fine.0.waits, below (p.tables.module_name f.module_number) f.role fs cs fine.1 are.1 (All-tail (HasRow p.shelf) f fs rows))

  all_calls : (P : Call → Type 0) → ((above : Option RolePart) (f : FramePart) (fine : IsFineFrame p.shelf s above f) (row : HasRow p.shelf f) → IsFrame f → P (call laws p s title is means above f fine row))
      → (above : Option RolePart) (fs : List FramePart) (cs : List Call) → AreFineFrames p.shelf s above fs → AreCallsOf p.shelf s fs cs → All (HasRow p.shelf) fs → All IsFrame fs → All P cs
  all_calls P each above [] [] fine are rows fits = All-nil P
  all_calls P each above [] (c ∷ cs) fine are rows fits = absurd are
  all_calls P each above (f ∷ fs) [] fine are rows fits = absurd are
  all_calls P each above (f ∷ fs) (c ∷ cs) fine are rows fits =
      let q = parts above f fs fine in
      let row = All-head (HasRow p.shelf) f fs rows in
      let same = call_is laws p s title is means above f q.0 row c are.0 in
      All-cons P c cs (subst P (sym same) (each above f q.0 row (All-head IsFrame f fs fits)))
      (all_calls P each (Some f.role) fs cs q.1 are.1 (All-tail (HasRow p.shelf) f fs rows) (All-tail IsFrame f fs fits))

  known_facts : HasFacts p.tables p.shelf s title (facts_of (objects_in p.shelf s title))
  known_facts = record { exceptions = λ x e. e; methods = λ v b m. m }

  no_facts : HasFacts p.tables p.shelf s title anything
  no_facts = record { exceptions = λ x e. tt; methods = λ v b m. tt }

  -- the whole
  -- =========

  module _ (fits : Fits s) (shaped : IsShaped p.shelf s) (has : HasRows p.shelf s) (calls : Calls) (are : AreCallsOf p.shelf s (reverse s.frames) calls.calls) (rooms : HasRooms p calls) where
    some : 0 < length (reverse s.frames)
    some = let n = length-reverse s.frames in let m = shaped.some_frames in omega (arith, n, m)

    rows : All (HasRow p.shelf) (reverse s.frames)
    rows = all_reverse (HasRow p.shelf) s.frames has.rows

    frames_fit : All IsFrame (reverse s.frames)
    frames_fit = all_reverse IsFrame s.frames (All-from_recursion IsFrame s.frames fits.frames.1)

    told_in : AllTold p.tables.texts p.tables.tuples (objects_in p.shelf s title)
    told_in =
        subst (λ (t : StrNo → Option (List ℕ)). AllTold t p.tables.tuples (objects_in p.shelf s title)) (sym means.constants.texts)
        (subst (λ (t : ConstNo → Option (List Value)). AllTold (text_at p.shelf) t (objects_in p.shelf s title)) (sym means.constants.tuples) (all_told p.shelf s title is.first shaped.objects))

    fit_in : (cs : List Call) → Keep anything no_facts cs → FitCalls p cs
    fit_in [] k = k
    fit_in (c ∷ cs) k = k

    keep_in : (cs : List Call) → Keep (facts_of (objects_in p.shelf s title)) known_facts cs → KeepCalls p (objects_in p.shelf s title) cs
    keep_in [] k = k
    keep_in (c ∷ cs) k = k

    pub state : IsState p (objects_in p.shelf s title) calls
    state = record {
      running = record {
        fits = fit_in calls.calls (keep anything no_facts (reverse s.frames) calls.calls some shaped.frames are rows);
        placed = all_calls (IsPlaced (view_of p.tables)) (λ above f fine row i. is_placed laws p s title is means above f fine row) None (reverse s.frames) calls.calls shaped.frames are rows frames_fit;
        of_modules = all_calls (IsOfModule p) (λ above f fine row i. of_module laws p s title is means above f fine row) None (reverse s.frames) calls.calls shaped.frames are rows frames_fit;
        rooms = rooms;
      };
      known = all_calls (IsKnownCall p (objects_in p.shelf s title)) (λ above f fine row i. is_known laws p s title is means above f fine row i) None (reverse s.frames) calls.calls shaped.frames are rows frames_fit;
      all_told = told_in;
    }

    pub kept : HoldsKept p (objects_in p.shelf s title) calls
    kept = record { calls = keep_in calls.calls (keep (facts_of (objects_in p.shelf s title)) known_facts (reverse s.frames) calls.calls some shaped.frames are rows) }

    abbrev RegisteredBy : (StrNo → Option (List ℕ)) → (ConstNo → Option (List Value)) → Type 0
    RegisteredBy texts tuples =
        Formed (plain_heap texts tuples (heap_of p.shelf s title))
        × Registered (plain_modules texts tuples (modules_of p.shelf s)) (plain_heap texts tuples (heap_of p.shelf s title))
        × AreOwn (registered_names p) (plain_modules texts tuples (modules_of p.shelf s))

    registered_by : RegisteredBy p.tables.texts p.tables.tuples
    registered_by =
        subst (λ (t : StrNo → Option (List ℕ)). RegisteredBy t p.tables.tuples) (sym means.constants.texts)
        (subst (λ (t : ConstNo → Option (List Value)). RegisteredBy (text_at p.shelf) t) (sym means.constants.tuples)
        (formed p.shelf s title is shaped.objects, registered p.shelf s title is shaped.objects shaped.registered, own p.shelf s title is shaped.objects shaped.registered))

    pub registered_modules : AreRegistered p (heap_of p.shelf s title) (modules_of p.shelf s)
    registered_modules =
        let r = registered_by in
        record { formed = r.0; registered = r.1; own = r.2; room = (let few = is.few in omega (arith, few)) }

-- a loaded state
abbrev pub IsSafe : Program → Heap Value ℕ → Registry → Calls → Type 0
IsSafe p heap modules calls = IsState p heap.objects calls × AreRegistered p heap modules × HoldsKept p heap.objects calls

safe_in : (laws : Laws) (p : Program) (s : Snapshot) (heap : Heap Value ℕ) (modules : Registry) (calls : Calls) → Means p → Fits s → HasRooms p calls
    → IsLibrary p.shelf → IsShaped p.shelf s → HasRows p.shelf s → IsDecoded p.shelf s heap modules calls.calls → IsSafe p heap modules calls
safe_in laws p s heap modules calls means fits rooms is shaped has decodes =
    let title = decodes.title in
    let st = state laws p s title is means fits shaped has calls decodes.calls_are rooms in
    let rg = registered_modules laws p s title is means fits shaped has calls decodes.calls_are rooms in
    let kp = kept laws p s title is means fits shaped has calls decodes.calls_are rooms in
    subst (λ (z : Heap Value ℕ). IsSafe p z modules calls) (sym decodes.heap_is)
    (subst (λ (z : Registry). IsSafe p (heap_of p.shelf s title) z calls) (sym decodes.modules_are) (st, rg, kp))

pub safe : (laws : Laws) (shelf : Shelf) (s : Snapshot) (heap : Heap Value ℕ) (modules : Registry) (calls : Calls) (p : Program) → IsLibrary shelf → Fits s → IsShaped shelf s → HasRows shelf s
    → IsDecoded shelf s heap modules calls.calls → IsProgramOf shelf p → HasRooms p calls → IsSafe p heap modules calls
safe laws shelf s heap modules calls p is fits shaped has decodes program rooms =
    let to_own : p.shelf ≡ shelf = program.shelf_is in
    let by = subst (λ (z : Shelf). IsLibrary z → IsShaped z s → HasRows z s → IsDecoded z s heap modules calls.calls → IsSafe p heap modules calls) to_own
    (safe_in laws p s heap modules calls program.means fits rooms) in
    by is shaped has decodes
