-- The modules that are registered where a frame is left.
use Rattle.std.proofs.Common.{◌≡◌, ℕ, zero, suc, List, [], ◌∷◌, filter, Bool, true, false, not, Some, Result, Ok, Err, refl, sym, ◌∙◌, subst, if◌then◌else◌}
use Rattle.std.specs.Prelude.{bytes_eq}
use Rattle.vm_states.specs.mpy_base.Val.{Val, Nil, At, PlainWorld}
use Rattle.vm_states.specs.bc_ops.declared.instr.Op.TheVariants as ops
use Rattle.vm_states.specs.bc_ops.declared.instr.Instr.TheVariants as instrs
use Rattle.prim_faults.specs.py_primitives.Outcome.{Stop, Raises, Full, making_fault}
use Rattle.prim_faults.specs.py_primitives.Faults.{Fault, NothingToRaise}
use Rattle.prim_faults.specs.py_primitives.Operators.{named_kind, exception_kind}
use Rattle.bc_progress.specs.py_effects.Effect.{Place, Given, Gives, Throws, Fills, Fails, Thrown, Filled, failed, given, given_answer, fault_at}
use Rattle.bc_progress.specs.py_effects.Names.{raise_value, raise_again}
use Rattle.bc_progress.specs.py_effects.Modules.{store_module, outer_name}
use Rattle.bc_progress.specs.py_effects.Growth.{given_world, fails_world}
use Rattle.bc_machine.proofs.py_effects_lemmas.ModuleGrows.{made_modules, raise_modules, under_modules}
use Rattle.vm_states.specs.bc_machine.Library.{Name, Library, Plain}
use Rattle.vm_states.specs.bc_machine.State.{Slot, Value, KeptReturn, KeptJump, Entry, Role, Main, Called, Imported, Frame, State, Running, throw_in, throw_out, throw, fail, on_given, give, leave, unwind, resume, is_run, enter, abandoned, cut}
use Rattle.vm_states.specs.bc_machine.Operations.{kept_of}
use Rattle.vm_states.specs.bc_machine.Step.{plain_step, item_step}
use Rattle.vm_states.specs.bc_machine.Growth.{world_of}

pub fault_modules : (place : Place) (w : PlainWorld) (f : Fault) → (fails_world (fault_at place w f)).modules ≡ w.modules
fault_modules place w f = made_modules place w (making_fault w.heap f)

failed_modules : (A : Type 0) (w : PlainWorld) (x : Fails) → (fails_world x).modules ≡ w.modules → (given_world (let y : Given A = failed x in y)).modules ≡ w.modules
failed_modules A w (Thrown x w1) h = h
failed_modules A w (Filled e w1) h = h

given_modules : {A : Type 0} (place : Place) (w : PlainWorld) (answer : Result A Stop) → (given_world (given_answer place w answer)).modules ≡ w.modules
given_modules place w (Ok a) = refl
given_modules place w (Err (Full e)) = refl
given_modules {A = A} place w (Err (Raises f)) = failed_modules A w (fault_at place w f) (fault_modules place w f)

again_modules : (place : Place) (w : PlainWorld) (handled : List ℕ) → (fails_world (raise_again place w handled)).modules ≡ w.modules
again_modules place w [] = fault_modules place w NothingToRaise
again_modules place w (x ∷ handled) = refl

-- what holds of registered modules also where one is forgotten
module _ (Q : List (Name × ℕ) → Type 0) (less : (name : Name) (ms : List (Name × ℕ)) → Q ms → Q (filter (λ (m : Name × ℕ). not (bytes_eq (m.0) name)) ms)) where
  abbrev In : State → Type 0
  In s = Q (world_of s).modules

  either : (b : Bool) (x y : State) → In x → In y → In (if b then x else y)
  either true x y h k = h
  either false x y h k = k

  abandons : (role : Role) (w : PlainWorld) → Q w.modules → Q (abandoned role w).modules
  abandons (Imported name m) w h = less name w.modules h
  abandons Main w h = h
  abandons Called w h = h

  throws_in : (x : ℕ) (entries : List Entry) (frame : Frame) (frames : List Frame) (w : PlainWorld) (out : State) → Q w.modules → In out → In (throw_in x entries frame frames w out)
  throws_in x [] frame frames w out h k = k
  throws_in x (e ∷ entries) frame frames w out h k =
      either e.active (throw_in x entries frame frames w out) (enter (record e { kept = Some x }) entries (Value (At x)) frame.slots frame frames w) (throws_in x entries frame frames w out h k) h

  throws_out : (x : ℕ) (frames : List Frame) (w : PlainWorld) → Q w.modules → In (throw_out x frames w)
  throws_out x [] w h = h
  throws_out x (frame ∷ frames) w h = throws_in x frame.entries frame frames w (throw_out x frames (abandoned frame.role w)) h (throws_out x frames (abandoned frame.role w) (abandons frame.role w h))

  throws : (x : ℕ) (frame : Frame) (frames : List Frame) (w : PlainWorld) → Q w.modules → In (throw x frame frames w)
  throws x frame frames w h = throws_in x frame.entries frame frames w (throw_out x frames (abandoned frame.role w)) h (throws_out x frames (abandoned frame.role w) (abandons frame.role w h))

  pub fails_in : (f : Fails) (frame : Frame) (frames : List Frame) → Q (fails_world f).modules → In (fail f frame frames)
  fails_in (Thrown x w) frame frames h = throws x frame frames w h
  fails_in (Filled e w) frame frames h = h

  stored : (g : Given Val) (frame : Frame) (frames : List Frame) → Q (given_world g).modules → In (on_given g frame frames (λ done. Running 0 frame frames))
  stored (Gives a w) frame frames h = h
  stored (Throws x w) frame frames h = throws x frame frames w h
  stored (Fills e w) frame frames h = h

  gives : (v : Val) (role : Role) (frames : List Frame) (w : PlainWorld) → Q w.modules → In (give v role frames w)
  gives v Called (frame ∷ frames) w h = h
  gives v (Imported name m) (frame ∷ frames) w h =
      let place : Place = record { file = []; line = 0; name = [] } in
      let e = store_module w name m in
      stored (given place e) frame frames (subst Q (sym (given_modules place e.world e.answer ∙ under_modules w name m (outer_name name))) h)
  gives v Main frames w h = h
  gives v Called [] w h = h
  gives v (Imported name m) [] w h = h

  leaves : (v : Val) (entries : List Entry) (frame : Frame) (frames : List Frame) (w : PlainWorld) → Q w.modules → In (leave v entries frame frames w)
  leaves v [] frame frames w h = gives v frame.role frames w h
  leaves v (e ∷ entries) frame frames w h = either (is_run e) (enter e entries (KeptReturn v) frame.slots frame frames w) (leave v entries frame frames w) h (leaves v entries frame frames w h)

  unwinds : (target : ℕ) (it : Bool) (count : ℕ) (entries : List Entry) (st : List Slot) (frame : Frame) (frames : List Frame) (w : PlainWorld) → Q w.modules → In (unwind target it count entries st frame frames w)
  unwinds target it zero entries st frame frames w h = h
  unwinds target it (suc count) [] st frame frames w h = h
  unwinds target it (suc count) (e ∷ entries) st frame frames w h =
      either (is_run e) (enter e entries (KeptJump target count it) st frame frames w) (unwind target it count entries (cut e.height st) frame frames w) h
      (unwinds target it count entries (cut e.height st) frame frames w h)

  resumes : (cause : Slot) (st : List Slot) (entries : List Entry) (frame : Frame) (frames : List Frame) (w : PlainWorld) → Q w.modules → In (resume cause st entries frame frames w)
  resumes (Value Nil) st entries frame frames w h = h
  resumes (Value (At x)) st entries frame frames w h = throws x (record frame { slots = st; entries = entries }) frames w h
  resumes (KeptReturn v) st entries frame frames w h = leaves v entries (record frame { slots = st }) frames w h
  resumes (KeptJump target count it) st entries frame frames w h = unwinds target it count entries st frame frames w h
  resumes _ st entries frame frames w h = h

  module _ (library : Library) (place : Place) (paid : ℕ) (frame : Frame) (frames : List Frame) (w : PlainWorld) (h : Q w.modules) where
    obj_by : (st : List Slot) → In (plain_step library place paid frame frames w ops.RaiseObj st)
    obj_by (Value v ∷ st) = fails_in (raise_value place w v) frame frames (subst Q (sym (raise_modules place w v (named_kind v) (exception_kind w.heap v))) h)
    obj_by _ = h

    pub obj_in : In (item_step library place paid frame frames w (Plain (instrs.Plain ops.RaiseObj)))
    obj_in = obj_by frame.slots

    pub last_in : In (item_step library place paid frame frames w (Plain (instrs.Plain ops.RaiseLast)))
    last_in = fails_in (raise_again place w (kept_of frame.entries)) frame frames (subst Q (sym (again_modules place w (kept_of frame.entries))) h)

    ends_by : (cause : Slot) (st : List Slot) (entries : List Entry) → In (Rattle.vm_states.specs.bc_machine.Step.end_finally library place paid frame frames w cause st entries)
    ends_by cause st (e ∷ entries) = resumes cause st entries frame frames w h
    ends_by cause st [] = h

    end_by : (st : List Slot) → In (plain_step library place paid frame frames w ops.EndFinally st)
    end_by (cause ∷ st) = ends_by cause st frame.entries
    end_by [] = h

    pub end_in : In (item_step library place paid frame frames w (Plain (instrs.Plain ops.EndFinally)))
    end_in = end_by frame.slots

    return_by : (st : List Slot) → In (plain_step library place paid frame frames w ops.ReturnValue st)
    return_by (Value v ∷ st) = leaves v frame.entries (record frame { slots = st }) frames w h
    return_by _ = h

    pub return_in : In (item_step library place paid frame frames w (Plain (instrs.Plain ops.ReturnValue)))
    return_in = return_by frame.slots
