-- What writing the file of a source does.
use Rattle.std.specs.Prelude.{◌≡◌, ℕ, List, Option, Some, None}
use Rattle.mpy_io.specs.Files.{FileOf, Becomes, BecomesFront}
use Rattle.command_files.specs.mpy_compile.Compiled.{CompilesTo}
use Rattle.command_files.specs.mpy_endings.declared.ending.Ending.{Ending}
use Rattle.command_files.specs.mpy_endings.declared.ending.Ending.TheVariants.{Done, Unaccepted, Unread, Unverified, Unmerged}
use Rattle.command_files.specs.mpy_endings.declared.ending.Ending.TheVariants.{Unopened, Unfrozen, Unboarded, Different, Stopped}
use Rattle.command_files.specs.mpy_endings.declared.ending.Ending.TheVariants.{ReadFault, WriteFault, Unwritten, NoMemory, Absent}
use Rattle.command_files.specs.Folder.{MayHold}
use Rattle.command_files.specs.Source.{HoldsFaulty}

-- the source that the folder has under the name compiles to these bytes
pub record HoldsCompiled (level : ℕ) (files : Option FileOf) (name stored bytes : List ℕ) : Type 0 where
  pub source : List ℕ
  pub holds : MayHold files name (Some source)
  pub compiles : CompilesTo level source stored bytes

-- How writing the file of the source of this name ended, at a level and under a stored name: what the written file became,
-- or why all files are as they were.
abbrev pub Crosses : (level : ℕ) (name stored written : List ℕ) → Option FileOf → Option FileOf → Ending → Type 0
Crosses level name stored written old new Done = (bytes : List ℕ) × HoldsCompiled level old name stored bytes × Becomes old new written bytes
Crosses level name stored written old new (Unaccepted fault) = HoldsFaulty level old name stored fault × (new ≡ old)
Crosses level name stored written old new (Unread fault) = ⊥
Crosses level name stored written old new (Unverified fault) = ⊥
Crosses level name stored written old new (Unmerged fault) = ⊥
Crosses level name stored written old new (Unopened fault) = ⊥
Crosses level name stored written old new (Unfrozen fault) = ⊥
Crosses level name stored written old new (Unboarded fault) = ⊥
Crosses level name stored written old new (Different difference) = ⊥
Crosses level name stored written old new (Stopped stop) = ⊥
Crosses level name stored written old new ReadFault = new ≡ old
-- nothing was printed, but what the sink held before wasn't handed on
Crosses level name stored written old new WriteFault = (bytes : List ℕ) × HoldsCompiled level old name stored bytes × Becomes old new written bytes
Crosses level name stored written old new Unwritten = (bytes : List ℕ) × HoldsCompiled level old name stored bytes × BecomesFront old new written bytes
Crosses level name stored written old new NoMemory = new ≡ old
Crosses level name stored written old new Absent = MayHold old name None × (new ≡ old)
