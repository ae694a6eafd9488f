-- Calls that enter a function of the program.
use Rattle.std.proofs.Common.{◌≡◌, ℕ, zero, suc, ◌+◌, ◌-◌, ◌<◌, ◌≤◌, List, [], ◌∷◌, length, drop, replicate, Option, Some, None, Result, Ok, Err, All, refl, sym, ap, subst, ◌∙◌, arith}
use Rattle.std.specs.Prelude.{IsOk, OnErr}
use Rattle.std.proofs.lemmas.List.{length-map, length-replicate}
use Rattle.std.proofs.lemmas.List.Elements.{All-nil, All-cons, All-head, All-tail, All-append, All-drop}
use Rattle.vm_states.specs.mpy_base.World.{Heap, Objects}
use Rattle.vm_states.specs.mpy_base.Val.{Val, PlainWorld}
use Rattle.frame_calls.specs.arena_heap.declared.value.Value.{Value}
use Rattle.frame_calls.specs.arena_heap.declared.value.StrNo.{StrNo}
use Rattle.frame_calls.specs.arena_heap.declared.value.StrNo.TheVariants as strs
use Rattle.frame_calls.specs.arena_heap.declared.value.ConstNo.{ConstNo}
use Rattle.bc_progress.specs.py_effects.Ends.{new_world}
use Rattle.frame_calls.specs.bc_machine.Library.{Name, Code, Library, code_at}
use Rattle.frame_calls.specs.bc_machine.State.{Frame, Called}
use Rattle.frame_calls.specs.bc_machine.Step.{step}
use Rattle.bc_progress.proofs.bc_flow_lemmas.Never.{start_good}
use Rattle.vm_states.specs.bc_progress.Plans.{Plans, Follows, flow_of}
use Rattle.vm_states.specs.bc_progress.Slots.{anything, none}
use Rattle.vm_states.specs.bc_progress.Fits.{Stands, IsWithin}
use Rattle.vm_states.proofs.bc_progress_lemmas.Knowing.{K as Keeps}
use Rattle.vm_states.proofs.bc_progress_lemmas.Frames.{verified, meets}
use Rattle.vm_states.specs.bc_rows.declared.row.Row.{Row}
use Rattle.frame_calls.specs.prim_faults.declared.stop.Stop.{Stop}
use Rattle.vm_states.specs.vm_frames.Calls.{Call, Calls, OfRunning, change_first}
use Rattle.vm_states.specs.vm_frames.Placed.{IsPlaced}
use Rattle.vm_states.specs.frame_moves.Shown.{text_of, view_of, running_of, step_of}
use Rattle.vm_states.specs.frame_moves.Outcomes.{world_of}
use Rattle.frame_calls.specs.prim_calls.declared.callees.Function.{Function}
use Rattle.frame_calls.specs.prim_calls.Callees.{IsKnownFunction}
use Rattle.vm_states.specs.vm_fetching.declared.instruction.Fetched.{Fetched}
use Rattle.frame_calls.specs.declared.binding.FunctionCode.{FunctionCode}
use Rattle.frame_calls.specs.Coming.{ComesTo}
use Rattle.frame_calls.specs.Entering.{IsCodeOf, begun, entered, Enters}
use Rattle.vm_states.specs.frame_exits.Known as known
use Rattle.vm_states.specs.Means.{Program, Means}
use Rattle.vm_states.specs.Ready.{item_at, IsReady}
use Rattle.vm_states.specs.Running.{IsOfModule, IsRunning}
use Rattle.vm_states.specs.State.{IsKnownSlot, IsKnownLocal, IsKnownCall, IsState}

abbrev pub Went : Type 0
Went = (p : Program) (s new : Calls) (paid again : ℕ) (before behind : PlainWorld) → Means p → IsRunning p s
    → step p.library (running_of p.tables paid s.calls before) ≡ running_of p.tables again new.calls behind
    → All (IsPlaced (view_of p.tables)) new.calls → All (IsOfModule p) new.calls → new ≡ record s { calls = new.calls } → IsRunning p new

abbrev pub Within : Type 0
Within = (plans : Plans) (library : Library) (frame : Frame) → Follows plans library → (s : Stands plans library frame) → IsWithin (plans frame.module_name frame.code) s.code frame

-- a code's locals and parameters are within the slots of its plan
pub locals_within : Within → (p : Program) → Means p → (name : Name) (number : ℕ) (code : Code) → code_at p.library name number ≡ Some code → code.locals ≤ (p.plans name number).n_state
locals_within within p means name number code is =
    let frame : Frame = record { module_name = name; code = number; position = 0; locals = replicate code.locals None; slots = []; entries = []; names = 0; role = Called } in
    let plan = p.plans name number in
    let stands : Stands p.plans p.library frame = record {
      code = code;
      code_is = is;
      locals = length-replicate {A = Option Val} code.locals None;
      stack = [];
      shows = none;
      kept = All-nil (Keeps anything);
      planned = start_good (flow_of plan code) plan.assigned (meets p.plans p.library means.follows name number code is);
    } in
    let most : code.locals + 0 ≤ plan.n_state = (within p.plans p.library frame means.follows stands).slots in
    omega (arith, most)

pub params_within : (p : Program) → Means p → (name : Name) (number : ℕ) (code : Code) → code_at p.library name number ≡ Some code → length code.params ≤ code.locals
params_within p means name number code is = (verified p.plans p.library means.follows name number code is).3.params

pub params_count : (p : Program) (library : Library) (f : Function) (i : ℕ) (code : FunctionCode) (is : IsCodeOf p.tables library f i code) → length code.params.now ≡ length is.found.params
params_count p library f i code is = sym (length-map code.params.now (λ (n : ℕ). text_of p.tables (strs.Pool n))) ∙ ap (λ (z : List Name). length z) is.params

module _ (p : Program) (objects : Objects Value ℕ) where
  none_known : (count : ℕ) → All (IsKnownLocal p objects) (replicate count None)
  none_known zero = All-nil (IsKnownLocal p objects)
  none_known (suc count) = All-cons (IsKnownLocal p objects) None (replicate count None) tt (none_known count)

  begun_known : (f : Function) (i locals : ℕ) (vs : List (Option Value)) → i < length p.shelf.modules → IsKnownFunction p.tables.texts p.tables.tuples objects f → All (IsKnownLocal p objects) vs → IsKnownCall p objects (begun f i locals vs)
  begun_known f i locals vs inside is all = record {
    of_module = inside;
    names = is.names;
    role = tt;
    locals = All-append (IsKnownLocal p objects) vs (replicate (locals - length vs) None) all (none_known (locals - length vs));
    slots = All-nil (IsKnownSlot p objects);
    entries = All-nil (known.KeepsException objects);
  }

  cut_known : (taken : ℕ) (c : Call) → IsKnownCall p objects c → IsKnownCall p objects (record c { slots = drop taken c.slots })
  cut_known taken c k = record { of_module = k.of_module; names = k.names; role = k.role; locals = k.locals; slots = All-drop (IsKnownSlot p objects) taken c.slots k.slots; entries = k.entries }

module _ (went : Went) (p : Program) (row : Row) (means : Means p) (heap : Heap Value ℕ) (s new : Calls) (fetched : Fetched) (state : IsState p heap.objects s) (r : IsReady p s row fetched)
    (f : Function) (i locals taken : ℕ) (inside : i < length p.shelf.modules) (is : IsKnownFunction p.tables.texts p.tables.tuples heap.objects f) where
  abbrev cut : Call
  cut = record r.first { slots = drop taken r.first.slots }

  -- the call that was entered runs, and the one that called it waits
  entered_state : (vs : List (Option Value)) → All (IsKnownLocal p heap.objects) vs → new ≡ entered taken (begun f i locals vs) s → OfRunning (IsPlaced (view_of p.tables)) new.calls
      → (paid : ℕ) (w : PlainWorld) → step_of p.tables p.library r.place paid s.calls w (item_at p r.first fetched) ≡ running_of p.tables 0 new.calls w → IsState p heap.objects new
  entered_state vs all e first_placed paid w steps =
      let P : Call → Type 0 = λ z. IsPlaced (view_of p.tables) z in
      let K : Call → Type 0 = λ z. IsKnownCall p heap.objects z in
      let call = begun f i locals vs in
      let same : new.calls ≡ call ∷ change_first (λ c. record c { slots = drop taken c.slots }) s.calls = ap (λ (z : Calls). z.calls) e in
      let to : new.calls ≡ call ∷ cut ∷ r.others = same ∙ ap (λ (z : List Call). call ∷ change_first (λ c. record c { slots = drop taken c.slots }) z) r.are in
      let old_placed : All P (r.first ∷ r.others) = subst (All P) r.are state.running.placed in
      let old_modules : All (IsOfModule p) (r.first ∷ r.others) = subst (All (IsOfModule p)) r.are state.running.of_modules in
      let old_known : All K (r.first ∷ r.others) = subst (All K) r.are state.known in
      let q = All-head P r.first r.others old_placed in
      let call_placed : P call = subst (OfRunning P) to first_placed in
      let cut_placed : P cut = record { bytes = q.bytes; list = q.list; listed = q.listed; starts_are = q.starts_are; here = q.here; handlers = q.handlers } in
      let placed = All-cons P call (cut ∷ r.others) call_placed (All-cons P cut r.others cut_placed (All-tail P r.first r.others old_placed)) in
      let modules = All-cons (IsOfModule p) call (cut ∷ r.others) inside (All-cons (IsOfModule p) cut r.others (All-head (IsOfModule p) r.first r.others old_modules) (All-tail (IsOfModule p) r.first r.others old_modules)) in
      let knowns = All-cons K call (cut ∷ r.others) (begun_known p heap.objects f i locals vs inside is all)
      (All-cons K cut r.others (cut_known p heap.objects taken r.first (All-head K r.first r.others old_known)) (All-tail K r.first r.others old_known)) in
      record {
        running = went p s new paid 0 w w means state.running (r.steps paid w ∙ steps) (subst (All P) (sym to) placed) (subst (All (IsOfModule p)) (sym to) modules)
            (e ∙ ap (λ (z : List Call). record s { calls = z }) (sym same));
        known = subst (All K) (sym to) knowns;
        all_told = state.all_told;
      }

  -- the calls are a state again, whether the function was entered or not
  pub enters_state : (result : Result (Unit {0}) Stop) → Enters p.tables.texts p.tables.tuples heap.objects f i locals taken s new result → (IsOk result → OfRunning (IsPlaced (view_of p.tables)) new.calls)
      → ComesTo p.tables p.library (item_at p r.first fetched) 0 heap heap s.calls new.calls result → IsState p heap.objects new
  enters_state (Ok done) h placed comes =
      let w : PlainWorld = new_world 0 0 [] in
      entered_state h.0 h.1 h.2 (placed refl) 0 (world_of p.tables w heap) ((comes w).steps r.place 0 (omega arith))
  enters_state (Err stop) h placed comes = subst (IsState p heap.objects) (sym h) state

pub enters_stays : (texts : StrNo → Option (List ℕ)) (tuples : ConstNo → Option (List Value)) (objects : Objects Value ℕ) (f : Function) (i locals taken : ℕ) (old new : Calls) (result : Result (Unit {0}) Stop)
    → Enters texts tuples objects f i locals taken old new result → OnErr result (new ≡ old)
enters_stays texts tuples objects f i locals taken old new (Ok done) h = tt
enters_stays texts tuples objects f i locals taken old new (Err stop) h = h
