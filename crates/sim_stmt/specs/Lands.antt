-- Where the machine comes when the meaning is done.
use Rattle.std.specs.Prelude.{◌≡◌, ℕ, ◌+◌, ◌*◌, ◌≤◌, List, ◌∷◌, false}
use Rattle.bc_scheme.specs.mpy_base.Val.{Val, PlainWorld}
use Rattle.bc_scheme.specs.py_effects.Names.{Locals}
use Rattle.bc_scheme.specs.py_effects.Ends.{Memory}
use Rattle.bc_scheme.specs.py_meaning.Outcomes.{Out, EVal, EExc, EOpen, EFull, Done, Normal, Broke, Continued, Returned, Raised, SOut, SDone, SOpen, SFull}
use Rattle.bc_scheme.specs.bc_machine.Library.{Library}
use Rattle.bc_scheme.specs.bc_machine.State.{Slot, Value, State, Running, Halted, Stuck, leave, throw, unwind}
use Rattle.bc_scheme.specs.bc_machine.Machine.{steps}
use Rattle.bc_scheme.specs.Statements.{Around}
use Rattle.sim_stmt.specs.Sites.{Site, at, standing}

-- from s the machine comes to a state in L, by at most 16 steps for each of these turns and `more` steps
pub record Goes (library : Library) (L : State → Type 0) (s : State) (turns more : ℕ) : Type 0 where
  pub by : ℕ
  pub few : by ≤ 16 * turns + more
  pub lands : L (steps library by s)

-- the machine has not ended, and has this world
abbrev pub IsGoing : PlainWorld → State → Type 0
IsGoing w (Running paid frame frames w1) = w1 ≡ w
IsGoing w (Halted end w1) = ⊥
IsGoing w (Stuck w1) = ⊥

-- at a position with the value on the slots
abbrev pub valued : Site → ℕ → Locals → List Slot → Val → PlainWorld → State
valued site q env slots v w = standing site q env (Value v ∷ slots) w

-- a value lands where `v` says; an exception is raised from these slots; want of room ends the run; and where no turns are
-- left, the machine goes on from the meaning's world
abbrev pub Lands : {A : Type 0} → (v : A → PlainWorld → State) → Site → Locals → List Slot → Out A → State → Type 0
Lands v site env slots (EVal a t w) s = s ≡ v a w
Lands v site env slots (EExc x t w) s = s ≡ throw x (at site.frame 0 env slots) site.waiting w
Lands v site env slots (EOpen w) s = IsGoing w s
Lands v site env slots (EFull e t w) s = s ≡ Halted (Memory e) w

-- the machine after each of the five completions: behind the statement; on the way out of the entries to where a break or a
-- continue of the loop around goes; on the way out of the frame; or raised
abbrev pub state_of : Site → Around → (end : ℕ) → List Slot → Done → Locals → PlainWorld → State
state_of site around end slots Normal env w = standing site end env slots w
state_of site around end slots Broke env w = unwind around.brk around.iterator around.count site.frame.entries slots (at site.frame 0 env slots) site.waiting w
state_of site around end slots Continued env w = unwind around.cont false around.count site.frame.entries slots (at site.frame 0 env slots) site.waiting w
state_of site around end slots (Returned v) env w = leave v site.frame.entries (at site.frame 0 env slots) site.waiting w
state_of site around end slots (Raised x) env w = throw x (at site.frame 0 env slots) site.waiting w

-- a statement lands by its completion; want of room ends the run; and where no turns are left, the machine goes on
abbrev pub LandsS : Site → Around → (end : ℕ) → List Slot → SOut → State → Type 0
LandsS site around end slots (SDone d env t w) s = s ≡ state_of site around end slots d env w
LandsS site around end slots (SOpen w) s = IsGoing w s
LandsS site around end slots (SFull e t w) s = s ≡ Halted (Memory e) w
