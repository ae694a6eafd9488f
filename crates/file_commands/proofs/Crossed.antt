-- What a command that writes a file does to the others, and a source that is too long to be read.
use Rattle.std.proofs.Common.{◌≡◌, ℕ, List, Option, Some, subst}
use Rattle.mpy_io.specs.Files.{FileOf, Becomes, BecomesFront}
use Rattle.command_files.specs.mpy_endings.declared.ending.Ending.{Ending}
use Rattle.command_files.specs.mpy_endings.declared.ending.Ending.TheVariants.{Done, Unaccepted, Unread, Unverified, Unmerged, Unopened, Unfrozen, Unboarded, Different, Stopped, ReadFault, WriteFault, Unwritten, NoMemory, Absent}
use Rattle.file_commands.specs.Cross.{HoldsCompiled, Crosses}
use Rattle.command_files.specs.Folder.{ChangesOnly, MayHold}
use Rattle.command_files.specs.mpy_compile.Compiled.{CompilesTo}
use Rattle.command_files.proofs.Others.{same_only, became_only, front_only}

pub crosses_only : (level : ℕ) (name stored written : List ℕ) (old new : Option FileOf) (ending : Ending) → Crosses level name stored written old new ending → ChangesOnly old new written
crosses_only level name stored written old new Done h = became_only old new written h.0 h.2
crosses_only level name stored written old new (Unaccepted fault) h = same_only old new written h.1
crosses_only level name stored written old new (Unread fault) h = absurd h
crosses_only level name stored written old new (Unverified fault) h = absurd h
crosses_only level name stored written old new (Unmerged fault) h = absurd h
crosses_only level name stored written old new (Unopened fault) h = absurd h
crosses_only level name stored written old new (Unfrozen fault) h = absurd h
crosses_only level name stored written old new (Unboarded fault) h = absurd h
crosses_only level name stored written old new (Different difference) h = absurd h
crosses_only level name stored written old new (Stopped stop) h = absurd h
crosses_only level name stored written old new ReadFault h = same_only old new written h
crosses_only level name stored written old new WriteFault h = became_only old new written h.0 h.2
crosses_only level name stored written old new Unwritten h = front_only old new written h.0 h.2
crosses_only level name stored written old new NoMemory h = same_only old new written h
crosses_only level name stored written old new Absent h = same_only old new written h.1

-- ---- a write

pub crossed_done : (level : ℕ) (old same new : Option FileOf) (name kept written source read bytes put : List ℕ) → read ≡ source → put ≡ bytes → same ≡ old → MayHold old name (Some source) → CompilesTo level read kept bytes
    → Becomes same new written put → (x : List ℕ) × HoldsCompiled level old name kept x × Becomes old new written x
crossed_done level old same new name kept written source read bytes put e f h holds compiles became = (
  bytes,
  record { source = source; holds = holds; compiles = subst (λ (z : List ℕ). CompilesTo level z kept bytes) e compiles },
  subst (λ (z : Option FileOf). Becomes z new written bytes) h (subst (λ (z : List ℕ). Becomes same new written z) f became),
)

-- ---- a write that failed

pub crossed_front : (level : ℕ) (old same new : Option FileOf) (name kept written source read bytes put : List ℕ) → read ≡ source → put ≡ bytes → same ≡ old → MayHold old name (Some source) → CompilesTo level read kept bytes
    → BecomesFront same new written put → (x : List ℕ) × HoldsCompiled level old name kept x × BecomesFront old new written x
crossed_front level old same new name kept written source read bytes put e f h holds compiles front = (
  bytes,
  record { source = source; holds = holds; compiles = subst (λ (z : List ℕ). CompilesTo level z kept bytes) e compiles },
  subst (λ (z : Option FileOf). BecomesFront z new written bytes) h (subst (λ (z : List ℕ). BecomesFront same new written z) f front),
)
