-- What the moves of a machine come to: an instruction on which nothing is paid, over frames that wait as they should.
use Rattle.std.proofs.Common.{◌≡◌, ℕ, zero, suc, List, [], ◌∷◌, Bool, true, false, cond, refl}
use Rattle.bc_machine.specs.mpy_base.Val.{Val, Nil, At, PlainWorld}
use Rattle.bc_machine.specs.py_effects.Effect.{Given, Gives, Throws, Fills, Fails, Thrown, Filled, given}
use Rattle.bc_machine.specs.py_effects.Modules.{store_module}
use Rattle.bc_machine.specs.Library.{Library}
use Rattle.bc_machine.specs.State as states
use Rattle.bc_machine.specs.State.{Slot, Value, KeptReturn, KeptJump, Role, Main, Called, Imported, Frame, State, Running, Halted, Stuck, cut, abandoned, throw_in, throw_out, throw, fail, on_given, give, is_run, leave, unwind, resume}
use Rattle.snap_laws.specs.Kept.{WaitBelow, WaitsWell}

-- nothing is paid on the running instruction
abbrev pub NonePaid : State → Type 0
NonePaid (Running paid frame frames w) = paid ≡ 0
NonePaid (Halted end w) = Unit {0}
NonePaid (Stuck w) = Unit {0}

-- where `H` holds, the frames wait so before the move
module _ (library : Library) (H : Type 0) where
  -- an instruction begins, and where `H` holds it does so over such frames
  pub record Begins (s : State) : Type 0 where
    pub none : NonePaid s
    pub waits : H → WaitsWell library s

  pub either : (b : Bool) (x y : State) → Begins x → Begins y → Begins (cond b x y)
  either true x y p q = p
  either false x y p q = q

  -- over the same frames
  pub here : (frame : Frame) (frames : List Frame) (w : PlainWorld) → (H → WaitBelow library frame.role frames) → Begins (Running 0 frame frames w)
  here frame frames w b = record { none = refl; waits = b }

  pub halts : (end : _) (w : PlainWorld) → Begins (Halted end w)
  halts end w = record { none = tt; waits = λ h. tt }

  pub stuck : (w : PlainWorld) → Begins (Stuck w)
  stuck w = record { none = tt; waits = λ h. tt }

  -- the frames below the one that waits
  lower : (role : Role) (frame : Frame) (frames : List Frame) → WaitBelow library role (frame ∷ frames) → WaitBelow library frame.role frames
  lower Main frame frames b = absurd b
  lower Called frame frames b = b.1
  lower (Imported name m) frame frames b = b.1

  throw_in_begins : (x : ℕ) (entries : List states.Entry) (frame : Frame) (frames : List Frame) (w : PlainWorld) (out : State) → (H → WaitBelow library frame.role frames) → Begins out → Begins (throw_in x entries frame frames w out)
  throw_in_begins x [] frame frames w out b o = o
  throw_in_begins x (e ∷ entries) frame frames w out b o = either e.active _ _ (throw_in_begins x entries frame frames w out b o) (record { none = refl; waits = b })

  throw_out_begins : (x : ℕ) (role : Role) (frames : List Frame) (w : PlainWorld) → (H → WaitBelow library role frames) → Begins (throw_out x frames w)
  throw_out_begins x role [] w b = halts _ w
  throw_out_begins x role (frame ∷ frames) w b =
      let under : H → WaitBelow library frame.role frames = λ h. lower role frame frames (b h) in
      throw_in_begins x frame.entries frame frames w _ under (throw_out_begins x frame.role frames (abandoned frame.role w) under)

  pub throw_begins : (x : ℕ) (frame : Frame) (frames : List Frame) (w : PlainWorld) → (H → WaitBelow library frame.role frames) → Begins (throw x frame frames w)
  throw_begins x frame frames w b = throw_in_begins x frame.entries frame frames w _ b (throw_out_begins x frame.role frames (abandoned frame.role w) b)

  pub fail_begins : (x : Fails) (frame : Frame) (frames : List Frame) → (H → WaitBelow library frame.role frames) → Begins (fail x frame frames)
  fail_begins (Thrown x w) frame frames b = throw_begins x frame frames w b
  fail_begins (Filled e w) frame frames b = halts _ w

  pub given_begins : {A : Type 0} (x : Given A) (frame : Frame) (frames : List Frame) (next : A → PlainWorld → State) → (H → WaitBelow library frame.role frames)
      → ((a : A) (w : PlainWorld) → Begins (next a w)) → Begins (on_given x frame frames next)
  given_begins (Gives a w) frame frames next b h = h a w
  given_begins (Throws x w) frame frames next b h = throw_begins x frame frames w b
  given_begins (Fills e w) frame frames next b h = halts _ w

  give_begins : (v : Val) (role : Role) (frames : List Frame) (w : PlainWorld) → (H → WaitBelow library role frames) → Begins (give v role frames w)
  give_begins v Called (frame ∷ frames) w b = record { none = refl; waits = λ h. (b h).1 }
  give_begins v (Imported name m) (frame ∷ frames) w b = given_begins (given _ (store_module w name m)) frame frames _ (λ h. (b h).1) (λ stored w1. here frame frames w1 (λ h. (b h).1))
  give_begins v _ _ w b = halts _ w

  pub leave_begins : (v : Val) (entries : List states.Entry) (frame : Frame) (frames : List Frame) (w : PlainWorld) → (H → WaitBelow library frame.role frames) → Begins (leave v entries frame frames w)
  leave_begins v [] frame frames w b = give_begins v frame.role frames w b
  leave_begins v (e ∷ entries) frame frames w b = either (is_run e) _ _ (record { none = refl; waits = b }) (leave_begins v entries frame frames w b)

  pub unwind_begins : (target : ℕ) (it : Bool) (count : ℕ) (entries : List states.Entry) (slots : List Slot) (frame : Frame) (frames : List Frame) (w : PlainWorld) → (H → WaitBelow library frame.role frames)
      → Begins (unwind target it count entries slots frame frames w)
  unwind_begins target it zero entries slots frame frames w b = record { none = refl; waits = b }
  unwind_begins target it (suc count) [] slots frame frames w b = stuck w
  unwind_begins target it (suc count) (e ∷ entries) slots frame frames w b = either (is_run e) _ _ (record { none = refl; waits = b }) (unwind_begins target it count entries (cut e.height slots) frame frames w b)

  pub resume_begins : (cause : Slot) (slots : List Slot) (entries : List states.Entry) (frame : Frame) (frames : List Frame) (w : PlainWorld) → (H → WaitBelow library frame.role frames)
      → Begins (resume cause slots entries frame frames w)
  resume_begins (Value Nil) slots entries frame frames w b = record { none = refl; waits = b }
  resume_begins (Value (At x)) slots entries frame frames w b = throw_begins x (record frame { slots = slots; entries = entries }) frames w b
  resume_begins (KeptReturn v) slots entries frame frames w b = leave_begins v entries (record frame { slots = slots }) frames w b
  resume_begins (KeptJump target count it) slots entries frame frames w b = unwind_begins target it count entries slots frame frames w b
  resume_begins _ slots entries frame frames w b = stuck w
