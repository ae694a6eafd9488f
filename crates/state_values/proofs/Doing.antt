-- What an instruction acts as, from what it does in each program.
use Rattle.std.proofs.Common.{◌≡◌, ℕ, List, [], ◌∷◌, length, Option, All, Result, Ok, Err, refl, sym, ap, subst, ◌∙◌, arith}
use Rattle.std.proofs.lemmas.List.Elements.{All-cons, All-head, All-tail}
use Rattle.vm_states.specs.mpy_base.World.{Heap, Objects, Later}
use Rattle.vm_states.specs.mpy_base.Val.{PlainWorld}
use Rattle.frame_moves.specs.py_effects.Ends.{new_world}
use Rattle.vm_states.specs.prim_names.arena_heap.declared.value.Value.{Value}
use Rattle.vm_states.specs.prim_names.arena_heap.declared.value.StrNo.{StrNo}
use Rattle.vm_states.specs.prim_names.arena_heap.declared.value.ConstNo.{ConstNo}
use Rattle.vm_states.specs.prim_names.arena_objects.Keys.{AllTold}
use Rattle.vm_states.specs.bc_labels.Positions.{Starts, position_in}
use Rattle.vm_states.specs.bc_machine.Library.{Item}
use Rattle.vm_states.specs.bc_rows.declared.row.Row.{Row}
use Rattle.vm_states.specs.prim_names.prim_faults.declared.stop.Stop.{Stop}
use Rattle.vm_states.specs.vm_frames.declared.slot.Slot.{Slot}
use Rattle.vm_states.specs.vm_frames.Calls.{Call, Calls, change_first, on_running}
use Rattle.vm_states.specs.vm_frames.Views.{starts_of}
use Rattle.vm_states.specs.frame_moves.Shown.{view_of, running_of, step_of, IsAt}
use Rattle.vm_states.specs.frame_moves.Outcomes.{world_of, Does}
use Rattle.vm_states.specs.frame_values.Effects.{Layout, Steps, JumpSteps, Leaves}
use Rattle.vm_states.specs.vm_fetching.declared.instruction.Fetched.{Fetched}
use Rattle.vm_states.specs.Means.{Program, Means}
use Rattle.vm_states.specs.Ready.{IsReady, item_at}
use Rattle.vm_states.specs.Running.{IsRunning}
use Rattle.state_values.specs.Moving.{GoesBehind}
use Rattle.vm_states.specs.State.{IsState}
use Rattle.vm_states.specs.State as state
use Rattle.vm_states.specs.Acting.{Tells, ActsBehind}
use Rattle.state_values.specs.Keeping.{ActsKeeping}
use Rattle.state_values.specs.Onward.{StartsBehind, DoesBehind, Onward, GoesOnward, Changed}

-- what is of these texts and tuples is of those of the program, and back
module _ (texts : StrNo → Option (List ℕ)) (tuples : ConstNo → Option (List Value)) (p : Program) (tells : Tells texts tuples p) (F : (StrNo → Option (List ℕ)) → (ConstNo → Option (List Value)) → Type 0) where
  pub of_program : F texts tuples → F p.tables.texts p.tables.tuples
  of_program h =
      subst (λ (t : StrNo → Option (List ℕ)). F t p.tables.tuples) (sym tells.texts_are) (subst (λ (u : ConstNo → Option (List Value)). F texts u) (sym tells.tuples_are) h)

  pub of_texts : F p.tables.texts p.tables.tuples → F texts tuples
  of_texts h =
      subst (λ (t : StrNo → Option (List ℕ)). F t tuples) tells.texts_are (subst (λ (u : ConstNo → Option (List Value)). F p.tables.texts u) tells.tuples_are h)

abbrev pub layout_of : Program → Layout
layout_of p = record { module_name = p.tables.module_name; starts = p.tables.starts }

-- what the call of an instruction does
-- ====================================

module _ (texts : StrNo → Option (List ℕ)) (tuples : ConstNo → Option (List Value)) (fetched : Fetched) (before behind : Heap Value ℕ) (old new : Calls) (result : Result (Unit {0}) Stop) where
  -- of an item that is the machine's in each program
  pub does_steps : (visits : ℕ) (item : Item) → ((p : Program) (c : Call) → Tells texts tuples p → item_at p c fetched ≡ item)
      → Steps texts tuples item visits fetched.end before behind old.calls new.calls result → DoesBehind texts tuples fetched visits before behind old new result
  does_steps visits item is steps p row tells r =
      let here : Steps p.tables.texts p.tables.tuples item visits fetched.end before behind old.calls new.calls result =
      of_program texts tuples p tells (λ t u. Steps t u item visits fetched.end before behind old.calls new.calls result) steps in
      subst (λ (i : Item). Does p.tables i visits before behind old.calls new.calls result) (sym (is p r.first tells)) (here (layout_of p) r.next)

  pub at_first : (p : Program) (row : Row) (r : IsReady p old row fetched) (offset : ℕ) → IsAt p.tables offset (position_in (starts_of (view_of p.tables) r.first) offset) old.calls
  at_first p row r offset = subst (IsAt p.tables offset (position_in (starts_of (view_of p.tables) r.first) offset)) (sym r.are) refl

  -- of one that may jump to a target
  pub does_jumps : (item : ℕ → Item) (target : ℕ) → ((p : Program) (c : Call) → item_at p c fetched ≡ item (position_in (starts_of (view_of p.tables) c) target))
      → JumpSteps texts tuples item target fetched.end before behind old.calls new.calls result → DoesBehind texts tuples fetched 0 before behind old new result
  does_jumps item target is steps p row tells r =
      let here : JumpSteps p.tables.texts p.tables.tuples item target fetched.end before behind old.calls new.calls result =
      of_program texts tuples p tells (λ t u. JumpSteps t u item target fetched.end before behind old.calls new.calls result) steps in
      let position = position_in (starts_of (view_of p.tables) r.first) target in
      subst (λ (i : Item). Does p.tables i 0 before behind old.calls new.calls result) (sym (is p r.first)) (here (layout_of p) position (at_first p row r target) r.next)

-- what it acts as
-- ===============

abbrev KeepsGoing : Type 0
KeepsGoing = (p : Program) (s new : Calls) (row : Row) (fetched : Fetched) (r : IsReady p s row fetched) (at : ℕ) (st : Call → List Slot) (locals : Call → List (Option Value)) (paid : ℕ) (before behind : PlainWorld)
    → Means p → IsRunning p s → Starts (starts_of (view_of p.tables) r.first) at
    → new ≡ on_running (λ c. record c { at = at; slots = st c; locals = locals c }) s
    → step_of p.tables p.library r.place paid s.calls before (item_at p r.first fetched) ≡ running_of p.tables 0 new.calls behind → IsRunning p new

abbrev Stays : Type 0
Stays = (p : Program) (before behind : Objects Value ℕ) (s : Calls) → IsState p before s → Later before behind → AllTold p.tables.texts p.tables.tuples behind → IsState p behind s

module _ (p : Program) (objects : Objects Value ℕ) (s new : Calls) (change : Call → Call) (known : (c : Call) → state.IsKnownCall p objects c → state.IsKnownCall p objects (change c)) where
  changed_known : (calls : List Call) → All (state.IsKnownCall p objects) calls → All (state.IsKnownCall p objects) (change_first change calls)
  changed_known [] h = h
  changed_known (c ∷ cs) h =
      let P : Call → Type 0 = λ d. state.IsKnownCall p objects d in
      All-cons P (change c) cs (known c (All-head P c cs h)) (All-tail P c cs h)

  -- the running call changes, and stays known
  state_behind : IsState p objects s → IsRunning p new → new ≡ on_running change s → IsState p objects new
  state_behind here run moved =
      let to : new.calls ≡ change_first change s.calls = ap (λ (z : Calls). z.calls) moved in
      record { running = run; known = subst (All (state.IsKnownCall p objects)) (sym to) (changed_known s.calls here.known); all_told = here.all_told }

-- the running call alone changes
rooms_moved : (change : Call → Call) (old new : Calls) → new ≡ on_running change old → new ≡ record old { calls = new.calls }
rooms_moved change old new moved = subst (λ (s : Calls). s ≡ record old { calls = s.calls }) (sym moved) refl

module _ (keeps : KeepsGoing) (stays : Stays) (texts : StrNo → Option (List ℕ)) (tuples : ConstNo → Option (List Value)) (fetched : Fetched) (visits offset : ℕ) (before behind : Heap Value ℕ) (old new : Calls) (starts : StartsBehind fetched offset) where
  acts_so : (result : Result (Unit {0}) Stop) → DoesBehind texts tuples fetched visits before behind old new result → GoesOnward texts tuples behind.objects offset old new result
      → Leaves texts tuples before behind result → ActsBehind texts tuples fetched visits before behind old new result
  acts_so (Ok done) does onward leaves p row means tells s r =
      let none : PlainWorld = new_world 0 0 [] in
      let d = does p row tells r in
      let on : Onward p.tables.texts p.tables.tuples behind.objects offset old new = of_program texts tuples p tells (λ t u. Onward t u behind.objects offset old new) onward in
      let left : Leaves p.tables.texts p.tables.tuples before behind (Ok done) = of_program texts tuples p tells (λ t u. Leaves t u before behind (Ok done)) leaves in
      let here = stays p before.objects behind.objects old s left.later left.all_told in
      let run = keeps p old new row fetched r offset on.slots_of on.locals_of visits (world_of p.tables none before) (world_of p.tables none behind) means s.running (starts p old row r) on.moved (d.steps p.library r.place visits none (omega arith)) in
      record {
        pays = λ paid w less. r.steps paid (world_of p.tables w before) ∙ d.pays p.library r.place paid w less;
        steps = λ paid w enough. r.steps paid (world_of p.tables w before) ∙ d.steps p.library r.place paid w enough;
        state = state_behind p behind.objects old new (λ c. record c { at = offset; slots = on.slots_of c; locals = on.locals_of c })
            (λ c k. record { of_module = k.of_module; names = k.names; role = k.role; locals = on.locals_known c k.locals; slots = on.slots_known c k.slots; entries = k.entries }) here run on.moved;
        later = left.later;
        stop = left.stop;
      }
  acts_so (Err stop) does stay leaves p row means tells s r =
      let d = does p row tells r in
      let left : Leaves p.tables.texts p.tables.tuples before behind (Err stop) = of_program texts tuples p tells (λ t u. Leaves t u before behind (Err stop)) leaves in
      record {
        pays = λ paid w less. r.steps paid (world_of p.tables w before) ∙ d.pays p.library r.place paid w less;
        steps = λ paid w enough. r.steps paid (world_of p.tables w before) ∙ d.steps p.library r.place paid w enough;
        state = subst (IsState p behind.objects) (sym stay) (stays p before.objects behind.objects old s left.later left.all_told);
        later = left.later;
        stop = left.stop;
      }

  pub acts : (result : Result (Unit {0}) Stop) → DoesBehind texts tuples fetched visits before behind old new result → GoesOnward texts tuples behind.objects offset old new result
      → Leaves texts tuples before behind result → ActsKeeping texts tuples fetched visits before behind old new result
  acts (Ok done) does onward leaves =
      record { acts = acts_so (Ok done) does onward leaves; rooms = rooms_moved (λ c. record c { at = offset; slots = onward.slots_of c; locals = onward.locals_of c }) old new onward.moved; stays = tt }
  acts (Err stop) does stay leaves =
      record { acts = acts_so (Err stop) does stay leaves; rooms = subst (λ (s : Calls). s ≡ record old { calls = s.calls }) (sym stay) refl; stays = stay }

moves_so : (texts : StrNo → Option (List ℕ)) (tuples : ConstNo → Option (List Value)) (fetched : Fetched) (heap : Heap Value ℕ) (old new : Calls)
    → GoesBehind fetched old new → Changed texts tuples heap.objects old new → ActsBehind texts tuples fetched 0 heap heap old new (Ok tt)
moves_so texts tuples fetched heap old new goes changed p row means tells s r =
    let g = goes p row means s.running r in
    let to : Changed p.tables.texts p.tables.tuples heap.objects old new = of_program texts tuples p tells (λ t u. Changed t u heap.objects old new) changed in
    record {
      pays = λ paid w less. absurd (omega (arith, less));
      steps = λ paid w enough. g.steps paid (world_of p.tables w heap);
      state = state_behind p heap.objects old new to.change (λ c k. to.known (length p.shelf.modules) c k) s g.runs to.moved;
      later = record { keeps = λ kind n h. h };
      stop = tt;
    }

pub moves : (texts : StrNo → Option (List ℕ)) (tuples : ConstNo → Option (List Value)) (fetched : Fetched) (heap : Heap Value ℕ) (old new : Calls)
    → GoesBehind fetched old new → Changed texts tuples heap.objects old new → ActsKeeping texts tuples fetched 0 heap heap old new (Ok tt)
moves texts tuples fetched heap old new goes changed =
    record { acts = moves_so texts tuples fetched heap old new goes changed; rooms = rooms_moved changed.change old new changed.moved; stays = tt }
