-- The machine's library of a program has the modules of files.
use Rattle.std.proofs.Common.{◌≡◌, Bool, true, false, List, [], ◌∷◌, Some, None, sym, ◌∙◌, subst, if◌then◌else◌}
use Rattle.std.specs.Str.{bytes_eq}
use Rattle.bc_machine.specs.Library as machine
use Rattle.bc_machine.specs.Library.{Name, Module, Entry, Holds, Library, entry_in}
use Rattle.bc_resolved.specs.Stored.{Stored, Kept, Refused, IsEntryOf, IsLibraryOf}
use Rattle.snap_laws.specs.States.{IsOfFile}

of_entry : (s : Stored) (entry : Entry) (m : Module) → IsEntryOf s entry → entry ≡ Holds m → IsOfFile m
of_entry (Kept held) entry m is e =
    let same : is.0 ≡ m = (let both : Holds (is.0) ≡ Holds m = sym is.2 ∙ e in cc) in
    record { held = held; tree = is.1.tree; resolves = is.1.resolves; is = sym same ∙ is.1.machine_is }
of_entry Refused entry m is e = absurd (let no : machine.Refused ≡ Holds m = sym is ∙ e in cc)

pub of_files : (stored : List (Name × Stored)) (library : Library) → IsLibraryOf stored library → (name : Name) (m : Module) → entry_in library name ≡ Some (Holds m) → IsOfFile m
of_files [] library is name m e = absurd (let no : None ≡ Some (Holds m) = subst (λ (z : Library). entry_in z name ≡ Some (Holds m)) is e in cc)
of_files (s ∷ others) library is name m e =
    by (bytes_eq s.0 name) (subst (λ (z : Library). entry_in z name ≡ Some (Holds m)) is.2 e) (of_files others (is.1) is.4 name m)
  where
    by : (b : Bool) → (if b then Some (is.0) else entry_in (is.1) name) ≡ Some (Holds m) → (entry_in (is.1) name ≡ Some (Holds m) → IsOfFile m) → IsOfFile m
    by true f others_are = of_entry s.1 (is.0) m is.3 (let same : is.0 ≡ Holds m = cc in same)
    by false f others_are = others_are f
