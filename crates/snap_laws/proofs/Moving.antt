-- The moves of the machine are the same.
use Rattle.std.proofs.Common.{◌≡◌, ℕ, zero, suc, ◌-◌, List, [], ◌∷◌, length, map, drop, cond, Bool, true, false, Some, refl, sym, ap, subst, ◌∙◌}
use Rattle.std.proofs.lemmas.List.{length-map, drop-map}
use Rattle.bc_machine.specs.mpy_base.Val.{Val, Nil, At, PlainWorld}
use Rattle.bc_machine.specs.py_effects.Effect.{Effect, Place, Given, Gives, Throws, Fills, Fails, Thrown, Filled, given}
use Rattle.bc_machine.specs.py_effects.Modules.{store_module}
use Rattle.bc_machine.specs.py_effects.Ends.{Memory}
use Rattle.bc_machine.specs.State.{Slot, Value, KeptReturn, KeptJump, Entry, Role, Main, Called, Imported, Frame, State, Running, Halted, remark, go, cut, enter, abandoned, throw_in, throw_out, throw, fail, on_given, give, is_run, leave, without_iter, unwind, resume}
use Rattle.snap_laws.specs.Renamed.{Renaming, value}
use Rattle.snap_laws.specs.Worlds.{IsWorld, IsEffect, IsGiven, IsFailure}
use Rattle.snap_laws.specs.States.{slot_as, entry_as, role_as, frame_as, IsState, runs, halts, sticks}
use Rattle.snap_laws.proofs.Acting.{given_as}
use Rattle.snap_laws.proofs.EffectCalls.{forgotten, module_stored}

module _ (r : Renaming) where
  abbrev pub slots_as : List Slot → List Slot
  slots_as slots = map (slot_as r) slots

  abbrev pub entries_as : List Entry → List Entry
  entries_as entries = map (entry_as r) entries

  abbrev pub frames_as : List Frame → List Frame
  frames_as frames = map (frame_as r) frames

  remark_as : (p : ℕ) (es : List Entry) → map (remark p) (entries_as es) ≡ entries_as (map (remark p) es)
  remark_as p [] = refl
  remark_as p (e ∷ es) = ap (λ z. entry_as r (remark p e) ∷ z) (remark_as p es)

  pub either : (b c : Bool) (x y x' y' : State) → c ≡ b → IsState r x x' → IsState r y y'
      → IsState r (cond b x y) (cond c x' y')
  either b c x y x' y' e p q = subst (λ z. IsState r (cond b x y) (cond z x' y')) (sym e) (chosen b)
    where
      chosen : (d : Bool) → IsState r (cond d x y) (cond d x' y')
      chosen true = p
      chosen false = q

  pub go_as : (p : ℕ) (slots slots' : List Slot) → slots' ≡ slots_as slots → (entries entries' : List Entry)
      → entries' ≡ entries_as entries → (frame : Frame) (frames : List Frame) (w u : PlainWorld) → IsWorld r w u
      → IsState r (go p slots entries frame frames w) (go p slots' entries' (frame_as r frame) (frames_as frames) u)
  go_as p slots slots' e entries entries' f frame frames w u is =
      subst (λ z. IsState r (go p slots entries frame frames w)
      (go p z entries' (frame_as r frame) (frames_as frames) u)) (sym e)
      (subst (λ z. IsState r (go p slots entries frame frames w)
      (go p (slots_as slots) z (frame_as r frame) (frames_as frames) u)) (sym f)
      (subst (λ z. IsState r (go p slots entries frame frames w)
      (Running 0 (record (frame_as r frame) { position = p; slots = slots_as slots; entries = z })
      (frames_as frames) u)) (sym (remark_as p entries))
      (runs is)))

  pub cut_as : (height : ℕ) (slots : List Slot) → cut height (slots_as slots) ≡ slots_as (cut height slots)
  cut_as height slots =
      ap (λ n. drop (n - height) (slots_as slots)) (length-map slots (slot_as r)) ∙ drop-map (slot_as r)
      (length slots - height) slots

  enter_as : (e : Entry) (entries : List Entry) (slot : Slot) (slots : List Slot) (frame : Frame)
      (frames : List Frame) (w u : PlainWorld) → IsWorld r w u
      → IsState r (enter e entries slot slots frame frames w)
      (enter (entry_as r e) (entries_as entries) (slot_as r slot) (slots_as slots) (frame_as r frame)
      (frames_as frames) u)
  enter_as e entries slot slots frame frames w u is =
      go_as e.handler (slot ∷ cut e.height slots) (slot_as r slot ∷ cut e.height (slots_as slots))
      (ap (λ z. slot_as r slot ∷ z) (cut_as e.height slots)) (e ∷ entries) (entry_as r e ∷ entries_as entries)
      refl frame frames w u is

  -- raises
  abandoned_as : (role : Role) (w u : PlainWorld) → IsWorld r w u
      → IsWorld r (abandoned role w) (abandoned (role_as r role) u)
  abandoned_as Main w u is = is
  abandoned_as Called w u is = is
  abandoned_as (Imported name m) w u is = forgotten r w u is name

  throw_in_as : (x : ℕ) (entries : List Entry) (frame : Frame) (frames : List Frame) (w u : PlainWorld)
      → IsWorld r w u → (out out' : State) → IsState r out out'
      → IsState r (throw_in x entries frame frames w out)
      (throw_in (r.to x) (entries_as entries) (frame_as r frame) (frames_as frames) u out')
  throw_in_as x [] frame frames w u is out out' on = on
  throw_in_as x (e ∷ entries) frame frames w u is out out' on =
      either e.active e.active (throw_in x entries frame frames w out)
      (enter (record e { kept = Some x }) entries (Value (At x)) frame.slots frame frames w)
      (throw_in (r.to x) (entries_as entries) (frame_as r frame) (frames_as frames) u out')
      (enter (record (entry_as r e) { kept = Some (r.to x) }) (entries_as entries) (Value (At (r.to x)))
      (slots_as frame.slots) (frame_as r frame) (frames_as frames) u) refl
      (throw_in_as x entries frame frames w u is out out' on)
      (enter_as (record e { kept = Some x }) entries (Value (At x)) frame.slots frame frames w u is)

  throw_out_as : (x : ℕ) (frames : List Frame) (w u : PlainWorld) → IsWorld r w u
      → IsState r (throw_out x frames w) (throw_out (r.to x) (frames_as frames) u)
  throw_out_as x [] w u is = halts is
  throw_out_as x (frame ∷ frames) w u is =
      throw_in_as x frame.entries frame frames w u is (throw_out x frames (abandoned frame.role w))
      (throw_out (r.to x) (frames_as frames) (abandoned (role_as r frame.role) u))
      (throw_out_as x frames (abandoned frame.role w) (abandoned (role_as r frame.role) u)
      (abandoned_as frame.role w u is))

  pub throw_as : (x : ℕ) (frame : Frame) (frames : List Frame) (w u : PlainWorld) → IsWorld r w u
      → IsState r (throw x frame frames w) (throw (r.to x) (frame_as r frame) (frames_as frames) u)
  throw_as x frame frames w u is =
      throw_in_as x frame.entries frame frames w u is (throw_out x frames (abandoned frame.role w))
      (throw_out (r.to x) (frames_as frames) (abandoned (role_as r frame.role) u))
      (throw_out_as x frames (abandoned frame.role w) (abandoned (role_as r frame.role) u)
      (abandoned_as frame.role w u is))

  pub fail_as : (x y : Fails) → IsFailure r x y → (frame : Frame) (frames : List Frame)
      → IsState r (fail x frame frames) (fail y (frame_as r frame) (frames_as frames))
  fail_as (Thrown x w) (Thrown y u) p frame frames =
      subst (λ z. IsState r (throw x frame frames w) (throw z (frame_as r frame) (frames_as frames) u)) (sym p.0)
      (throw_as x frame frames w u p.1)
  fail_as (Filled e w) (Filled d u) p frame frames =
      subst (λ z. IsState r (Halted (Memory e) w) (Halted (Memory z) u)) (sym p.0) (halts p.1)
  fail_as (Thrown x w) (Filled d u) p frame frames = absurd p
  fail_as (Filled e w) (Thrown y u) p frame frames = absurd p

  given_on : {A : Type 0} (f : A → A) (x y : Given A) → IsGiven r f x y
      → (frame : Frame) (frames : List Frame) (next next' : A → PlainWorld → State)
      → ((a : A) (w u : PlainWorld) → IsWorld r w u → IsState r (next a w) (next' (f a) u))
      → IsState r (on_given x frame frames next) (on_given y (frame_as r frame) (frames_as frames) next')
  given_on f (Gives a w) (Gives b u) p frame frames next next' on =
      subst (λ z. IsState r (next a w) (next' z u)) (sym p.0) (on a w u p.1)
  given_on f (Throws x w) (Throws y u) p frame frames next next' on =
      subst (λ z. IsState r (throw x frame frames w) (throw z (frame_as r frame) (frames_as frames) u)) (sym p.0)
      (throw_as x frame frames w u p.1)
  given_on f (Fills e w) (Fills d u) p frame frames next next' on =
      subst (λ z. IsState r (Halted (Memory e) w) (Halted (Memory z) u)) (sym p.0) (halts p.1)
  given_on f (Gives a w) (Throws y u) p frame frames next next' on = absurd p
  given_on f (Gives a w) (Fills d u) p frame frames next next' on = absurd p
  given_on f (Throws x w) (Gives b u) p frame frames next next' on = absurd p
  given_on f (Throws x w) (Fills d u) p frame frames next next' on = absurd p
  given_on f (Fills e w) (Gives b u) p frame frames next next' on = absurd p
  given_on f (Fills e w) (Throws y u) p frame frames next next' on = absurd p

  pub effect_on : {A : Type 0} (f : A → A) (place : Place) (e d : Effect A) → IsEffect r f e d
      → (frame : Frame) (frames : List Frame) (next next' : A → PlainWorld → State)
      → ((a : A) (w u : PlainWorld) → IsWorld r w u → IsState r (next a w) (next' (f a) u))
      → IsState r (on_given (given place e) frame frames next)
      (on_given (given place d) (frame_as r frame) (frames_as frames) next')
  effect_on f place e d same frame frames next next' on =
      given_on f (given place e) (given place d) (given_as r f place e d same) frame frames next next' on

  -- returns
  give_as : (v : Val) (role : Role) (frames : List Frame) (w u : PlainWorld) → IsWorld r w u
      → IsState r (give v role frames w) (give (value r v) (role_as r role) (frames_as frames) u)
  give_as v Called (frame ∷ frames) w u is =
      go_as (suc frame.position) (Value v ∷ frame.slots) (Value (value r v) ∷ slots_as frame.slots) refl frame.entries
      (entries_as frame.entries) refl frame frames w u is
  give_as v (Imported name m) (frame ∷ frames) w u is =
      effect_on (value r) (record { file = []; line = 0; name = [] }) (store_module w name m)
      (store_module u name (r.to m)) (module_stored r w u is name m (r.to m) refl) frame frames
      (λ stored. Running 0 frame frames) (λ stored. Running 0 (frame_as r frame) (frames_as frames))
      (λ stored w1 u1 is1. runs is1)
  give_as v Main (frame ∷ frames) w u is = halts is
  give_as v Main [] w u is = halts is
  give_as v Called [] w u is = halts is
  give_as v (Imported name m) [] w u is = halts is

  pub leave_as : (v : Val) (entries : List Entry) (frame : Frame) (frames : List Frame) (w u : PlainWorld)
      → IsWorld r w u → IsState r (leave v entries frame frames w)
      (leave (value r v) (entries_as entries) (frame_as r frame) (frames_as frames) u)
  leave_as v [] frame frames w u is = give_as v frame.role frames w u is
  leave_as v (e ∷ entries) frame frames w u is =
      either (is_run e) (is_run e) (enter e entries (KeptReturn v) frame.slots frame frames w)
      (leave v entries frame frames w)
      (enter (entry_as r e) (entries_as entries) (KeptReturn (value r v)) (slots_as frame.slots) (frame_as r frame)
      (frames_as frames) u) (leave (value r v) (entries_as entries) (frame_as r frame) (frames_as frames) u) refl
      (enter_as e entries (KeptReturn v) frame.slots frame frames w u is) (leave_as v entries frame frames w u is)

  -- jumps
  without_as : (it : Bool) (slots : List Slot) → without_iter it (slots_as slots) ≡ slots_as (without_iter it slots)
  without_as true slots = drop-map (slot_as r) 4 slots
  without_as false slots = refl

  unwind_cut : (target : ℕ) (it : Bool) (count : ℕ) (entries : List Entry) (slots slots' : List Slot)
      → slots' ≡ slots_as slots → (frame : Frame) (frames : List Frame) (w u : PlainWorld) → IsWorld r w u
      → IsState r (unwind target it count entries slots frame frames w)
      (unwind target it count (entries_as entries) slots' (frame_as r frame) (frames_as frames) u)
  unwind_cut target it zero entries slots slots' e frame frames w u is =
      go_as target (without_iter it slots) (without_iter it slots') (ap (without_iter it) e ∙ without_as it slots)
      entries (entries_as entries) refl frame frames w u is
  unwind_cut target it (suc count) [] slots slots' e frame frames w u is = sticks is
  unwind_cut target it (suc count) (entry ∷ entries) slots slots' e frame frames w u is =
      either (is_run entry) (is_run entry) (enter entry entries (KeptJump target count it) slots frame frames w)
      (unwind target it count entries (cut entry.height slots) frame frames w)
      (enter (entry_as r entry) (entries_as entries) (KeptJump target count it) slots' (frame_as r frame)
      (frames_as frames) u) (unwind target it count (entries_as entries) (cut entry.height slots')
      (frame_as r frame) (frames_as frames) u) refl
      (subst (λ z. IsState r (enter entry entries (KeptJump target count it) slots frame frames w)
      (enter (entry_as r entry) (entries_as entries) (KeptJump target count it) z (frame_as r frame)
      (frames_as frames) u)) (sym e) (enter_as entry entries (KeptJump target count it) slots frame frames w u
      is))
      (unwind_cut target it count entries (cut entry.height slots) (cut entry.height slots')
      (ap (cut entry.height) e ∙ cut_as entry.height slots) frame frames w u is)

  pub unwind_as : (target : ℕ) (it : Bool) (count : ℕ) (entries : List Entry) (slots : List Slot) (frame : Frame)
      (frames : List Frame) (w u : PlainWorld) → IsWorld r w u
      → IsState r (unwind target it count entries slots frame frames w)
      (unwind target it count (entries_as entries) (slots_as slots) (frame_as r frame) (frames_as frames) u)
  unwind_as target it count entries slots frame frames w u is =
      unwind_cut target it count entries slots (slots_as slots) refl frame frames w u is

  pub resume_as : (cause : Slot) (slots : List Slot) (entries : List Entry) (frame : Frame) (frames : List Frame)
      (w u : PlainWorld) → IsWorld r w u
      → IsState r (resume cause slots entries frame frames w)
      (resume (slot_as r cause) (slots_as slots) (entries_as entries) (frame_as r frame) (frames_as frames) u)
  resume_as (Value Nil) slots entries frame frames w u is =
      go_as (suc frame.position) slots (slots_as slots) refl entries (entries_as entries) refl frame frames w u is
  resume_as (Value (At x)) slots entries frame frames w u is =
      throw_as x (record frame { slots = slots; entries = entries }) frames w u is
  resume_as (KeptReturn v) slots entries frame frames w u is =
      leave_as v entries (record frame { slots = slots }) frames w u is
  resume_as (KeptJump target count it) slots entries frame frames w u is =
      unwind_as target it count entries slots frame frames w u is
  resume_as _ slots entries frame frames w u is = sticks is
