-- The machine of a run that goes on: the first object lies at the first cell, and it keeps what each state of a run keeps.
use Rattle.std.proofs.Common.{◌≡◌, ℕ, zero, suc, ◌+◌, ◌≤◌, Bool, true, false, List, [], ◌∷◌, ◌++◌, length, map, Option, Some, None, Result, Ok, Err, refl, sym, ap, ◌∙◌, subst, arith, if◌then◌else◌}
use Rattle.std.specs.Prelude.{codes, is_some, IsSome}
use Rattle.std.specs.List.{AllByRecursion as Each}
use Rattle.mpy_base.specs.declared.room.NoRoom.{NoRoom}
use Rattle.mpy_base.specs.World.{PortState, Heap, Object, DictObject, ModuleObject, ObjectKind, AModule, Later, object, kind_of, IsA, with_names}
use Rattle.mpy_base.specs.Weights.{used, does_fit, cells_of, bytes_of, with_made}
use Rattle.mpy_base.specs.Val.{Val, Str, At, PlainWorld}
use Rattle.arena_heap.specs.Values.{ArenaObject}
use Rattle.bc_machine.specs.py_values.Shown.{PlainHeap}
use Rattle.bc_machine.specs.py_primitives.Outcome.{Stop, Raises, Full, Outcome, gives, is_full, with_visits, go_on_with, followed_by, making}
use Rattle.bc_machine.specs.py_primitives.Uses.{put_pair}
use Rattle.bc_machine.specs.py_effects.Effect.{Effect, Place, Given, Gives, Throws, Fills, Fails, Thrown, Filled, failed, fault_at, given_answer, given, number_of}
use Rattle.bc_machine.specs.py_effects.Modules.{Made, registered, on_made, making_module, make_module}
use Rattle.bc_machine.specs.py_effects.Heaps.{HasNames, Registered, WorldFollows}
use Rattle.bc_machine.proofs.py_effects_lemmas.HeapGrows.{module_kept, new_formed}
use Rattle.bc_machine.specs.py_effects.Ends.{End, Run, new_world}
use Rattle.bc_machine.specs.Library.{Name, Code, Module, Entry, Holds, Library, entry_in, code_at}
use Rattle.bc_machine.specs.Parts.{new_frame}
use Rattle.bc_machine.specs.State.{Main, Frame, State, Running, Halted, Stuck}
use Rattle.bc_machine.specs.Step.{step}
use Rattle.bc_machine.specs.Machine.{steps, begun, opened, start, run_of, run}
use Rattle.vm_starting.specs.vm_states.frame_exits.declared.ends.End as ended
use Rattle.vm_starting.specs.vm_states.frame_moves.Shown.{running_of, view_of}
use Rattle.vm_starting.specs.vm_states.vm_frames.Calls.{Call}
use Rattle.vm_starting.specs.vm_states.vm_frames.Views.{frame_of}
use Rattle.vm_starting.specs.vm_states.Means.{Program}
use Rattle.vm_starting.specs.vm_states.Running.{FitCalls}
use Rattle.vm_starting.specs.declared.opening.Vm.{Vm}
use Rattle.vm_machine.specs.prim_walks.Plain.{plain_object, plain_heap}
use Rattle.vm_machine.specs.Machine.{paid_state, world_in, machine_of}
use Rattle.snap_laws.specs.Filled.{AreFilled, HoldsBytes}
use Rattle.snap_laws.specs.Kept.{WaitsWell}
use Rattle.bc_machine.specs.Growth.{world_of}
use Rattle.snap_kept.specs.Effects.{IsSound}
use Rattle.snap_kept.specs.Frames.{IsFrame, IsKept}
use Rattle.snap_loading.specs.Saved.{Keeps}
use Rattle.snap_loading.proofs.Bridging.{held_by}
use Rattle.snap_loading.proofs.Saving.{plain_is}

-- what an effect gives
-- ====================

abbrev as_ok : {A : Type 0} → A → Result A Stop
as_ok x = Ok x

ok_is : {A : Type 0} (x y : A) → as_ok x ≡ Ok y → x ≡ y
ok_is x y e = cc

gives_is : {A : Type 0} (x y : A) (w u : PlainWorld) → Gives x w ≡ Gives y u → (x ≡ y) × (w ≡ u)
gives_is x y w u e = (cc, cc)

fails_not : {A : Type 0} (f : Fails) (a : A) (u : PlainWorld) → failed f ≡ Gives a u → ⊥
fails_not (Thrown x w) a u e = cc
fails_not (Filled x w) a u e = cc

given_ok : {A : Type 0} (place : Place) (w u : PlainWorld) (r : Result A Stop) (a : A) → given_answer place w r ≡ Gives a u → (r ≡ Ok a) × (w ≡ u)
given_ok place w u (Ok b) a e = let s = gives_is b a w u e in (ap (λ z. Ok z) s.0, s.1)
given_ok place w u (Err (Full x)) a e = absurd (let no : Fills x w ≡ Gives a u = e in cc)
given_ok place w u (Err (Raises fault)) a e = absurd (fails_not (fault_at place w fault) a u e)

ok_after : {A B : Type 0} (r : Result A Stop) (heap : PlainHeap) (visits : ℕ) (next : A → PlainHeap → Outcome B) (b : B) → (go_on_with r heap visits next).answer ≡ Ok b
    → (a : A) × (r ≡ Ok a) × ((next a heap).answer ≡ Ok b)
ok_after (Ok a) heap visits next b e = (a, refl, e)
ok_after (Err stop) heap visits next b e = absurd cc

-- an object that is made has the number of the first cell that isn't used
made_at : (heap : PlainHeap) (o : Object Val (List ℕ)) (v : Val) → (making heap o).answer ≡ Ok v → v ≡ At (used heap)
made_at heap o v e = by (does_fit heap (cells_of o) (bytes_of o)) e
  where
    by : (b : Bool) → (let z : Outcome Val = if b then gives (At (used heap)) (with_made heap o) else is_full heap (cells_of o) (bytes_of o) in z).answer ≡ Ok v → v ≡ At (used heap)
    by true f = sym (ok_is (At (used heap)) v f)
    by false f = absurd cc

made_number : (w : PlainWorld) (name : List ℕ) (made : Made) → (making_module w name).answer ≡ Ok made → made.number ≡ used w.heap
made_number w name made e =
    let first = making w.heap (ModuleObject name None) in
    let a = ok_after first.answer first.heap first.visits _ made e in
    let second = making first.heap (DictObject [] 4) in
    let b = ok_after second.answer second.heap second.visits _ made a.2 in
    let third = put_pair (with_names second.heap (number_of a.0) (number_of b.0)) (number_of b.0) (Str (codes "__name__")) (Str name) in
    let c = ok_after third.answer third.heap third.visits _ made b.2 in
    let m : Made = record { number = number_of a.0; names = number_of b.0 } in
    sym (ap (λ (z : Made). z.number) (ok_is m made c.2)) ∙ ap number_of (made_at w.heap (ModuleObject name None) a.0 a.1)

-- a module that was made is registered
registered_is : (w : PlainWorld) (name : List ℕ) (made : Made) (effect : Effect Made) (r : Result Made Stop) → effect.answer ≡ r → (on_made w name effect).answer ≡ Ok made
    → (effect.answer ≡ Ok made) × ((on_made w name effect).world ≡ registered effect.world name made)
registered_is w name made effect (Ok m) e f =
    let both : Effect Made → Result Made Stop → Effect Made = λ x z. elim z [ Ok q ↦ record { answer = Ok q; world = registered x.world name q; visits = 0 } | Err stop ↦ x ] in
    let same : m ≡ made = ok_is m made (sym (ap (λ z. (both effect z).answer) e) ∙ f) in
    (e ∙ ap (λ z. Ok z) same, ap (λ z. (both effect z).world) e ∙ ap (λ z. registered effect.world name z) same)
registered_is w name made effect (Err stop) e f =
    let both : Effect Made → Result Made Stop → Effect Made = λ x z. elim z [ Ok q ↦ record { answer = Ok q; world = registered x.world name q; visits = 0 } | Err s ↦ x ] in
    let bad : Result Made Stop = Err stop in
    let no : bad ≡ Ok made = sym e ∙ (sym (ap (λ z. (both effect z).answer) e) ∙ f) in
    absurd cc

-- the first state
-- ===============

abbrev no_place : Place
no_place = record { file = []; line = 0; name = [] }

-- a run that begins has a code, and its module is the first object
pub record Started (library : Library) (name : Name) (w : PlainWorld) : Type 0 where
  pub code : Code
  pub there : code_at library name 0 ≡ Some code
  pub made : Made
  pub world : PlainWorld
  pub is : start library name w ≡ Running 0 (new_frame name 0 code [] made.names Main) [] world
  pub world_is : world ≡ (make_module w (codes "__main__")).world
  pub number : made.number ≡ used w.heap
  pub modules : world.modules ≡ w.modules ++ (codes "__main__", made.number) ∷ []

abbrev pub Runs : State → Type 0
Runs (Running paid frame frames w) = Unit {0}
Runs (Halted end w) = ⊥
Runs (Stuck w) = ⊥

pub started : (library : Library) (name : Name) (w : PlainWorld) → Runs (start library name w) → Started library name w
started library name w runs = by (given no_place (make_module w (codes "__main__"))) refl runs
  where
    of_code : (made : Made) (u : PlainWorld) (o : Option Code) → given no_place (make_module w (codes "__main__")) ≡ Gives made u → code_at library name 0 ≡ o → Runs (begun name o made u) → Started library name w
    of_code made u None e f r = absurd r
    of_code made u (Some code) e f r =
        let m = make_module w (codes "__main__") in
        let g = given_ok no_place m.world u m.answer made e in
        let own = making_module w (codes "__main__") in
        let k = registered_is w (codes "__main__") made own own.answer refl g.0 in
        record {
          code = code;
          there = f;
          made = made;
          world = u;
          world_is = sym g.1;
          is = ap (λ z. opened library name z) e ∙ ap (λ z. begun name z made u) f;
          number = made_number w (codes "__main__") made k.0;
          modules = ap (λ (z : PlainWorld). z.modules) (sym g.1 ∙ k.1);
        }

    by : (g : Given Made) → given no_place (make_module w (codes "__main__")) ≡ g → Runs (opened library name g) → Started library name w
    by (Gives made u) e r = of_code made u (code_at library name 0) e refl r
    by (Throws x u) e r = absurd r
    by (Fills x u) e r = absurd r

halted_stays : (library : Library) (n : ℕ) (end : End) (w : PlainWorld) → steps library n (Halted end w) ≡ Halted end w
halted_stays library zero end w = refl
halted_stays library (suc n) end w = halted_stays library n end w

stuck_stays : (library : Library) (n : ℕ) (w : PlainWorld) → steps library n (Stuck w) ≡ Stuck w
stuck_stays library zero w = refl
stuck_stays library (suc n) w = stuck_stays library n w

-- what runs behind some steps ran before them
pub ran : (library : Library) (n : ℕ) (s : State) → Runs (steps library n s) → Runs s
ran library n (Running paid frame frames w) r = tt
ran library n (Halted end w) r = subst Runs (halted_stays library n end w) r
ran library n (Stuck w) r = subst Runs (stuck_stays library n w) r

-- the machine
-- ===========

pub machine_runs : (p : Program) (vm : Vm) (w : PlainWorld) → vm.end ≡ None → FitCalls p vm.frames.calls → Runs (machine_of p vm w)
machine_runs p vm w on fits =
    subst (λ (z : Option ended.End). Runs (paid_state p z vm.paid vm.frames.calls (world_in p vm w))) (sym on) (by vm.frames.calls fits)
  where
    by : (calls : List Call) → FitCalls p calls → Runs (running_of p.tables vm.paid calls (world_in p vm w))
    by [] f = absurd f
    by (c ∷ cs) f = tt

pub world_is : (p : Program) (vm : Vm) (w : PlainWorld) → vm.end ≡ None → (run_of (machine_of p vm w)).world ≡ world_in p vm w
world_is p vm w on =
    ap (λ (z : Option ended.End). (run_of (paid_state p z vm.paid vm.frames.calls (world_in p vm w))).world) on ∙ by vm.frames.calls
  where
    by : (calls : List Call) → (run_of (running_of p.tables vm.paid calls (world_in p vm w))).world ≡ world_in p vm w
    by [] = refl
    by (c ∷ cs) = refl

some_there : (o : Option ArenaObject) (kind : ObjectKind) → kind_of o ≡ Some kind → IsSome o
some_there None kind e = absurd cc
some_there (Some o) kind e = refl

-- along a run
module _ (library : Library) (name : Name) (cells bytes : ℕ) (ports : List PortState) (n : ℕ)
    (follows : (k m : ℕ) → k ≤ m → WorldFollows (run library name cells bytes ports k).world (run library name cells bytes ports m).world)
    (runs : Runs (steps library n (start library name (new_world cells bytes ports)))) where
  first_state : Started library name (new_world cells bytes ports)
  first_state = started library name (new_world cells bytes ports) (ran library n (start library name (new_world cells bytes ports)) runs)

  first_world : (run library name cells bytes ports 0).world ≡ first_state.world
  first_world = ap (λ z. (run_of z).world) first_state.is

  -- the main module is the first object
  first_module : IsA (run library name cells bytes ports 0).world.heap.objects AModule 0
  first_module =
      let all = subst (λ (z : PlainWorld). Registered z.modules z.heap) first_world (follows 0 0 (omega arith)).registered in
      let one = subst (λ z. Registered z first_state.world.heap) first_state.modules all in
      let there : IsA first_state.world.heap.objects AModule 0 = subst (λ z. IsA first_state.world.heap.objects AModule z) first_state.number (one.0).is_module in
      subst (λ (z : PlainWorld). IsA z.heap.objects AModule 0) (sym first_world) there

  pub stays_first : IsA (run library name cells bytes ports n).world.heap.objects AModule 0
  stays_first = (follows 0 n (omega arith)).heap.kinds.keeps AModule 0 first_module

  pub is_held : (m : Module) × (entry_in library name ≡ Some (Holds m))
  is_held = let h = held_by (entry_in library name) 0 first_state.code first_state.there in (h.0, h.1)

  -- the room is the one that was given
  first_sizes : (first_state.world.heap.cell_size ≡ cells) × (first_state.world.heap.byte_size ≡ bytes)
  first_sizes =
      let f = (module_kept (new_world cells bytes ports) (codes "__main__")).by (new_formed cells bytes ports) in
      subst (λ (w : PlainWorld). (w.heap.cell_size ≡ cells) × (w.heap.byte_size ≡ bytes)) (sym first_state.world_is) (f.cell_size, f.byte_size)

  pub room_kept : ((run library name cells bytes ports n).world.heap.cell_size ≡ cells) × ((run library name cells bytes ports n).world.heap.byte_size ≡ bytes)
  room_kept =
      let f = (follows 0 n (omega arith)).heap in
      let of = subst (λ (w : PlainWorld). (w.heap.cell_size ≡ cells) × (w.heap.byte_size ≡ bytes)) (sym first_world) first_sizes in
      (f.cell_size ∙ of.0, f.byte_size ∙ of.1)

-- the first object of the machine
pub begins_first : (p : Program) (vm : Vm) (w : PlainWorld) → IsA (world_in p vm w).heap.objects AModule 0 → IsSome (object vm.arena.objects 0)
begins_first p vm w h = some_there (object vm.arena.objects 0) AModule (plain_is p.tables.texts p.tables.tuples vm.arena.objects AModule 0 h)

-- what is kept doesn't depend on what was printed, nor on the ports
-- =================================================================

module _ (p : Program) (vm : Vm) (w u : PlainWorld) where
  kept_by : (end : Option ended.End) (calls : List Call) → IsKept p.library (paid_state p end vm.paid calls (world_in p vm w)) → IsKept p.library (paid_state p end vm.paid calls (world_in p vm u))
  kept_by (Some e) calls k = tt
  kept_by None [] k = tt
  kept_by None (c ∷ cs) k = (record { heap = k.0.heap; titles = k.0.titles }, k.1)

  waits_by : (end : Option ended.End) (calls : List Call) → WaitsWell p.library (paid_state p end vm.paid calls (world_in p vm w)) → WaitsWell p.library (paid_state p end vm.paid calls (world_in p vm u))
  waits_by (Some e) calls k = tt
  waits_by None [] k = tt
  waits_by None (c ∷ cs) k = k

  filled_by : (end : Option ended.End) (calls : List Call) → AreFilled (world_of (paid_state p end vm.paid calls (world_in p vm w))).heap → AreFilled (world_of (paid_state p end vm.paid calls (world_in p vm u))).heap
  filled_by (Some e) calls k = k
  filled_by None [] k = k
  filled_by None (c ∷ cs) k = k

  bytes_by : (end : Option ended.End) (calls : List Call) → HoldsBytes (world_of (paid_state p end vm.paid calls (world_in p vm w))).heap → HoldsBytes (world_of (paid_state p end vm.paid calls (world_in p vm u))).heap
  bytes_by (Some e) calls k = k
  bytes_by None [] k = k
  bytes_by None (c ∷ cs) k = k

  pub keeps_by : Keeps p (machine_of p vm w) → Keeps p (machine_of p vm u)
  keeps_by k = record {
    kept = kept_by vm.end vm.frames.calls k.kept;
    waits = waits_by vm.end vm.frames.calls k.waits;
    filled = filled_by vm.end vm.frames.calls k.filled;
    bytes = bytes_by vm.end vm.frames.calls k.bytes;
  }
