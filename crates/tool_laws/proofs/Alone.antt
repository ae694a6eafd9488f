-- A file that is made of a unit without imports has a program by itself.
use Rattle.std.proofs.Common.{◌≡◌, ℕ, List, [], ◌++◌, refl, subst, arith}
use Rattle.std.specs.Prelude.{Contains}
use Rattle.mpy_io.specs.Files.{FileOf}
use Rattle.py_meaning.specs.Tree.{Name}
use Rattle.py_meaning.specs.Program.{Source, Unit, Single, Merge, Part, Parts}
use Rattle.meant_files.specs.Imported.{source_imports}
use Rattle.meant_commands.specs.Made.{HoldsMade}
use Rattle.tool_laws.specs.AskedFor.{unit_imports, IsAskedFor, by_main, by_file}
use Rattle.tool_laws.specs.Programs.{AreProgramFiles}

-- a merge of two sources imports what these do, in order
two_sources : (a b : Source)
    → unit_imports (Merge (Parts (Single a) (Part (Single b)))) ≡ source_imports a ++ source_imports b
two_sources a b = refl

none_in : (x : Name) → Contains [] x → ⊥
none_in x c = absurd (omega (arith, c.1))

-- nothing is asked for
nothing : (files : FileOf) (base : List ℕ) (main : Unit) → unit_imports main ≡ [] → (x : Name)
    → IsAskedFor files base main x → ⊥
nothing files base main none x (by_main _ a) =
    none_in a.1.0 (subst (λ (names : List Name). Contains names a.1.0) none a.1.1)
nothing files base main none x (by_file asking _ unit asked holds a) = nothing files base main none asking asked

pub alone : (files : FileOf) (name : List ℕ) (main : Unit) → HoldsMade files name main → unit_imports main ≡ []
    → AreProgramFiles files name main
alone files name main made none = record { made = made; each = λ asked is. absurd (nothing files _ main none asked is) }
