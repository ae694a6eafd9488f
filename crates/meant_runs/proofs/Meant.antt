-- What a run that was made says of its program.
use Rattle.std.proofs.Common.{◌≡◌, ◌⊎◌, inl, inr, ℕ, List, ◌++◌, Option, Some, refl, sym, ap, subst, ◌∙◌, append_assoc, arith}
use Rattle.library_runs.specs.mpy_base.declared.room.Room.{Room}
use Rattle.library_runs.specs.mpy_base.World.{PortState}
use Rattle.library_runs.specs.mpy_io.Told.{AppendsFront}
use Rattle.library_runs.specs.port_set.Calls.{Tell}
use Rattle.library_runs.specs.bc_library.Shelf.{Shelf}
use Rattle.trans_laws.specs.bc_scheme.py_effects.Ends.{End, Open, Ended, Raised, Memory, Run}
use Rattle.trans_laws.specs.bc_scheme.py_meaning.Program.{Program}
use Rattle.trans_laws.specs.bc_scheme.py_meaning.Meaning.{meaning}
use Rattle.library_runs.specs.vm_frames.bc_machine.Machine.{run}
use Rattle.library_runs.specs.vm_starting.vm_states.Means as machine
use Rattle.library_runs.specs.vm_starting.Programs.{IsProgramOf}
use Rattle.meant_runs.specs.Runs.{MeansRun}
use Rattle.library_runs.specs.declared.ending.RunEnd.{RunEnd}
use Rattle.library_runs.specs.declared.ending.RunEnd.TheVariants as ends
use Rattle.library_runs.specs.Runs.{Sight, Ran, EndsSo, CutShort, RunsSo}
use Rattle.meant_runs.specs.Meant.{RanAsMeant, CutShortAsMeant, EndsAsMeant}

open_or_over : (end : End) → (end ≡ Open) ⊎ (end ≡ Open → ⊥)
open_or_over Open = inl refl
open_or_over Ended = inr (λ e. absurd cc)
open_or_over (Raised x) = inr (λ e. absurd cc)
open_or_over (Memory room) = inr (λ e. absurd cc)

-- what was printed
-- ================

front_on : (old new : Option (List ℕ)) (text more whole : List ℕ) → whole ≡ text ++ more → AppendsFront old new text → AppendsFront old new whole
front_on old new text more whole e h = record {
  front = h.front;
  rest = h.rest ++ more;
  parts = e ∙ ap (λ (z : List ℕ). z ++ more) h.parts ∙ append_assoc h.front h.rest more;
  added = h.added;
}

-- a front of the run's output is one of the meaning's at some bound
front_meant : (program : Program) (cells bytes : ℕ) (ports : List PortState) (n : ℕ) (r : Run) → MeansRun program cells bytes ports n r → (old new : Option (List ℕ))
    → AppendsFront old new r.world.output → (bound : ℕ) × AppendsFront old new (meaning program cells bytes ports bound).world.output
front_meant program cells bytes ports n r means old new h = elim (open_or_over r.end) [
  | inl still_open ↦
      let stopped = means.stopped still_open in
      (stopped.bound, front_on old new r.world.output stopped.prints_on.rest (meaning program cells bytes ports stopped.bound).world.output stopped.prints_on.output h)
  | inr over ↦
      let ended = means.ended over in
      (ended.bound, subst (λ (m : Run). AppendsFront old new m.world.output) (sym (ended.is ended.bound (omega arith))) h)
]

-- the run of a program
-- ====================

-- what is known of the runs of a library's programs
abbrev pub AllMean : Program → Shelf → Room → Type 0
AllMean program shelf room = (p : machine.Program) → IsProgramOf shelf p → (ports : List PortState) (n : ℕ)
    → MeansRun program room.cells room.bytes ports n (run p.library program.main_name room.cells room.bytes ports n)

module _ (program : Program) (shelf : Shelf) (room : Room) (steps : ℕ) (all_mean : AllMean program shelf room)
    (old new : Sight) (said : List ℕ) (ports : List PortState) (p : machine.Program) (is : IsProgramOf shelf p) where
  ran : (end : RunEnd) → Ran p program.main_name room steps ports old new end said → RanAsMeant program room steps ports old new end said
  ran end h = record {
    run = run p.library program.main_name room.cells room.bytes ports steps;
    means = all_mean p is ports steps;
    end_is = h.end_is;
    said_is = h.said_is;
    prints = h.output;
    told = h.told;
  }

  cut : CutShort p program.main_name room steps ports old new → CutShortAsMeant program room steps ports old new
  cut h =
      let whole = run p.library program.main_name room.cells room.bytes ports steps in
      let means = all_mean p is ports steps in
      let front = front_meant program room.cells room.bytes ports steps whole means old.out new.out h.output in
      record {
        run = whole;
        means = means;
        prints = h.output;
        bound = front.0;
        prints_meant = front.1;
        taken = h.taken;
        within = h.within;
        earlier = run p.library program.main_name room.cells room.bytes ports h.taken;
        earlier_means = all_mean p is ports h.taken;
        told = h.told;
      }

  ends_as : (end : RunEnd) → EndsSo p program.main_name room steps ports old new end said → EndsAsMeant program room steps ports old new end said
  ends_as ends.Ended h = ran ends.Ended h
  ends_as ends.Raised h = ran ends.Raised h
  ends_as ends.Memory h = ran ends.Memory h
  ends_as ends.Limit h = ran ends.Limit h
  ends_as ends.WriteFault h = cut h
  ends_as ends.NoMemory h = h

pub meant : (program : Program) (shelf : Shelf) (room : Room) (steps : ℕ) (old new : Sight) (end : RunEnd) (said : List ℕ) → AllMean program shelf room
    → (p : machine.Program) → IsProgramOf shelf p → RunsSo shelf program.main_name room steps old new end said → (ports : List PortState) (printed : List ℕ) → old.out ≡ Some printed → Tell old.ports ports
    → EndsAsMeant program room steps ports old new end said
meant program shelf room steps old new end said all_mean p is runs ports printed out_told ports_told =
    ends_as program shelf room steps all_mean old new said ports p is end (runs p is ports printed out_told ports_told)
