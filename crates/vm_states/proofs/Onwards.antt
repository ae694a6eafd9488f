-- Calls behind a step that leaves them running.
use Rattle.std.proofs.Common.{◌≡◌, ℕ, List, [], ◌∷◌, Option, All, sym, ap, subst, ◌∙◌, arith}
use Rattle.std.proofs.lemmas.List.Elements.{All-cons, All-head, All-tail}
use Rattle.frame_exits.specs.mpy_base.Val.{PlainWorld}
use Rattle.frame_exits.specs.arena_heap.declared.value.Value.{Value}
use Rattle.frame_exits.specs.bc_labels.Positions.{Starts}
use Rattle.bc_progress.specs.bc_machine.Library.{Library}
use Rattle.bc_progress.specs.bc_machine.State.{State}
use Rattle.bc_progress.specs.bc_machine.Step.{step}
use Rattle.bc_progress.specs.Plans.{Plans, Follows}
use Rattle.bc_progress.specs.Fits.{Fits}
use Rattle.frame_exits.specs.vm_frames.declared.slot.Slot.{Slot}
use Rattle.frame_exits.specs.vm_frames.Calls.{Call, Calls, change_first, on_running}
use Rattle.frame_exits.specs.vm_frames.Placed.{IsPlaced}
use Rattle.frame_exits.specs.vm_frames.Views.{View, starts_of}
use Rattle.vm_fetching.specs.frame_moves.Shown.{view_of, running_of, step_of}
use Rattle.vm_fetching.specs.bc_rows.declared.row.Row.{Row}
use Rattle.vm_fetching.specs.declared.instruction.Fetched.{Fetched}
use Rattle.vm_states.specs.Means.{Program, Means}
use Rattle.vm_states.specs.Ready.{item_at, IsReady}
use Rattle.vm_states.specs.Running.{FitCalls, HasRooms, IsOfModule, IsRunning}

module _ (p : Program) where
  shown_fits : (calls : List Call) (paid : ℕ) (w : PlainWorld) → FitCalls p calls → Fits p.plans p.library (running_of p.tables paid calls w)
  shown_fits [] paid w h = absurd h
  shown_fits (c ∷ cs) paid w h = h

  calls_fit : (calls : List Call) (paid : ℕ) (w : PlainWorld) → Fits p.plans p.library (running_of p.tables paid calls w) → FitCalls p calls
  calls_fit [] paid w h = absurd h
  calls_fit (c ∷ cs) paid w h = h

  same_rooms : (s new : Calls) → new ≡ record s { calls = new.calls } → HasRooms p s → HasRooms p new
  same_rooms s new e h =
      let slots : new.slot_room ≡ s.slot_room = ap (λ (z : Calls). z.slot_room) e in
      let entries : new.entry_room ≡ s.entry_room = ap (λ (z : Calls). z.entry_room) e in
      record {
        slots = λ name number code is. let r = h.slots name number code is in omega (arith, r, slots);
        entries = λ name number code is. let r = h.entries name number code is in omega (arith, r, entries);
      }

  module _ (progress : (plans : Plans) (library : Library) (s : State) → Follows plans library → Fits plans library s → Fits plans library (step library s)) where
    pub went : (s new : Calls) (paid again : ℕ) (before behind : PlainWorld) → Means p → IsRunning p s
        → step p.library (running_of p.tables paid s.calls before) ≡ running_of p.tables again new.calls behind
        → All (IsPlaced (view_of p.tables)) new.calls → All (IsOfModule p) new.calls → new ≡ record s { calls = new.calls } → IsRunning p new
    went s new paid again before behind means run steps placed of_modules e = record {
      fits = calls_fit new.calls again behind (subst (Fits p.plans p.library) steps (progress p.plans p.library (running_of p.tables paid s.calls before) means.follows (shown_fits s.calls paid before run.fits)));
      placed = placed;
      of_modules = of_modules;
      rooms = same_rooms s new e run.rooms;
    }

    pub goes_on : ((view : View) (c : Call) (at : ℕ) (st : List Slot) → IsPlaced view c → Starts (starts_of view c) at → IsPlaced view (record c { at = at; slots = st }))
        → (s new : Calls) (c : Call) (cs : List Call) (at : ℕ) (st : List Slot) (locals : List (Option Value)) (paid again : ℕ) (before behind : PlainWorld) → Means p → IsRunning p s
        → step p.library (running_of p.tables paid s.calls before) ≡ running_of p.tables again new.calls behind
        → s.calls ≡ c ∷ cs → Starts (p.tables.starts c.module_number c.code) at
        → new ≡ record s { calls = record c { at = at; slots = st; locals = locals } ∷ cs } → IsRunning p new
    goes_on goes s new c cs at st locals paid again before behind means run steps are starts e =
        let P : Call → Type 0 = λ z. IsPlaced (view_of p.tables) z in
        let placed : All P (c ∷ cs) = subst (All P) are run.placed in
        let of_modules : All (IsOfModule p) (c ∷ cs) = subst (All (IsOfModule p)) are run.of_modules in
        let q = goes (view_of p.tables) c at st (All-head P c cs placed) starts in
        let first : Call = record c { at = at; slots = st; locals = locals } in
        let is : P first = record { bytes = q.bytes; list = q.list; listed = q.listed; starts_are = q.starts_are; here = q.here; handlers = q.handlers } in
        let to : new.calls ≡ first ∷ cs = ap (λ (z : Calls). z.calls) e in
        went s new paid again before behind means run steps
        (subst (All P) (sym to) (All-cons P first cs is (All-tail P c cs placed)))
        (subst (All (IsOfModule p)) (sym to) (All-cons (IsOfModule p) first cs (All-head (IsOfModule p) c cs of_modules) (All-tail (IsOfModule p) c cs of_modules)))
        (e ∙ ap (λ (z : List Call). record s { calls = z }) (sym to))

    -- where the step is that of what was fetched
    pub goes_ready : ((view : View) (c : Call) (at : ℕ) (st : List Slot) → IsPlaced view c → Starts (starts_of view c) at → IsPlaced view (record c { at = at; slots = st }))
        → (s new : Calls) (row : Row) (fetched : Fetched) (r : IsReady p s row fetched) (at : ℕ) (st : Call → List Slot) (locals : Call → List (Option Value)) (paid : ℕ) (before behind : PlainWorld)
        → Means p → IsRunning p s → Starts (starts_of (view_of p.tables) r.first) at
        → new ≡ on_running (λ c. record c { at = at; slots = st c; locals = locals c }) s
        → step_of p.tables p.library r.place paid s.calls before (item_at p r.first fetched) ≡ running_of p.tables 0 new.calls behind → IsRunning p new
    goes_ready goes s new row fetched r at st locals paid before behind means run starts moved steps =
        goes_on goes s new r.first r.others at (st r.first) (locals r.first) paid 0 before behind means run (r.steps paid before ∙ steps) r.are starts
        (moved ∙ ap (λ (z : List Call). record s { calls = change_first (λ c. record c { at = at; slots = st c; locals = locals c }) z }) r.are)
