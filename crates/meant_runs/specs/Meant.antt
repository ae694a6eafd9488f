-- What the run of a library of files says of the program whose units the library has.
use Rattle.std.specs.Prelude.{◌≡◌, ℕ, ◌≤◌, List}
use Rattle.std.specs.Io.KnownBytes.{Appends}
use Rattle.library_runs.specs.mpy_base.declared.room.Room.{Room}
use Rattle.library_runs.specs.mpy_base.World.{PortState}
use Rattle.library_runs.specs.mpy_io.Told.{AppendsFront}
use Rattle.library_runs.specs.port_set.Calls.{Tell}
use Rattle.trans_laws.specs.bc_scheme.py_effects.Ends.{Run}
use Rattle.trans_laws.specs.bc_scheme.py_meaning.Program.{Program}
use Rattle.trans_laws.specs.bc_scheme.py_meaning.Meaning.{meaning}
use Rattle.meant_runs.specs.Runs.{MeansRun}
use Rattle.library_runs.specs.declared.ending.RunEnd.{RunEnd}
use Rattle.library_runs.specs.declared.ending.RunEnd.TheVariants as ends
use Rattle.library_runs.specs.Runs.{Sight, end_of, said_of}

-- in this room, for these steps, and with these ports
module _ (program : Program) (room : Room) (steps : ℕ) (ports : List PortState) where
  -- There is a run that ends as the program means, or is stopped by its steps on the way (`MeansRun`), and this was seen of it: how
  -- it ended, and what was said of that; its output, behind what was printed before; and its ports.
  pub record RanAsMeant (old new : Sight) (end : RunEnd) (said : List ℕ) : Type 0 where
    pub run : Run
    pub means : MeansRun program room.cells room.bytes ports steps run
    pub end_is : end ≡ end_of run.end
    pub said_is : said ≡ said_of run.world.heap run.end
    pub prints : Appends old.out new.out run.world.output
    pub told : Tell new.ports run.world.ports

  -- The sink of the output failed: what was printed begins the output of such a run, and what the program prints within some bound
  -- of turns. The ports tell those of such a run for these steps, or for fewer.
  pub record CutShortAsMeant (old new : Sight) : Type 0 where
    pub run : Run
    pub means : MeansRun program room.cells room.bytes ports steps run
    pub prints : AppendsFront old.out new.out run.world.output
    pub bound : ℕ
    pub prints_meant : AppendsFront old.out new.out (meaning program room.cells room.bytes ports bound).world.output
    pub taken : ℕ
    pub within : taken ≤ steps
    pub earlier : Run
    pub earlier_means : MeansRun program room.cells room.bytes ports taken earlier
    pub told : Tell new.ports earlier.world.ports

  -- the run ended as the program means
  abbrev pub EndsAsMeant : (old new : Sight) → RunEnd → (said : List ℕ) → Type 0
  EndsAsMeant old new ends.Ended said = RanAsMeant old new ends.Ended said
  EndsAsMeant old new ends.Raised said = RanAsMeant old new ends.Raised said
  EndsAsMeant old new ends.Memory said = RanAsMeant old new ends.Memory said
  EndsAsMeant old new ends.Limit said = RanAsMeant old new ends.Limit said
  EndsAsMeant old new ends.WriteFault said = CutShortAsMeant old new
  -- nothing was done
  EndsAsMeant old new ends.NoMemory said = new ≡ old
