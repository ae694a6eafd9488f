-- What writing files makes, and what checking them tells.
use Rattle.std.proofs.Common.{◌≡◌, ℕ, List, [], ◌∷◌, Option, Some, refl, sym, subst, ◌∙◌}
use Rattle.meant_files.specs.mpy_io.Files.{FileOf}
use Rattle.library_files.specs.bc_library.mpy_tree.File.{IsFile}
use Rattle.library_files.specs.bc_library.mpy_tree.Raw.{Module}
use Rattle.meant_files.specs.py_meaning.Program.{Source, Unit, Units, Part, Parts}
use Rattle.file_commands.specs.mpy_compile.Compiled.{CompilesTo}
use Rattle.file_commands.specs.mpy_compile.Checked.{IsTranslation}
use Rattle.meant_files.specs.Readings.{IsReading}
use Rattle.meant_files.specs.Built.{crossed, checked, merged, AreBuilt, last, next}
use Rattle.run_commands.specs.mpy_endings.declared.ending.Ending.TheVariants.{Done}
use Rattle.file_commands.specs.CheckAs.{ChecksAs}
use Rattle.file_commands.specs.Cross.{Crosses}
use Rattle.run_commands.specs.command_files.Opened.{HoldsModule}
use Rattle.file_commands.specs.Merge.{HoldModules, Merges}
use Rattle.meant_commands.specs.Made.{HoldsMade, HoldMade, MakesOfSource, MakesOfUnits}

pub of_source : ((level : ℕ) (text stored bytes : List ℕ) → CompilesTo level text stored bytes → (source : Source) × IsReading level text stored source)
    → (level : ℕ) (files : FileOf) (name stored written : List ℕ) (new : Option FileOf) → Crosses level name stored written (Some files) new Done → MakesOfSource level files name stored written new
of_source reads level files name stored written new h =
    let bytes = h.0 in
    let compiled = h.1 in
    let became = h.2 in
    let reading = reads level compiled.source stored bytes compiled.compiles in
    record {
      text = compiled.source;
      there = compiled.holds;
      source = reading.0;
      is_reading = reading.1;
      now = became.0;
      new_is = became.1;
      made = record { bytes = bytes; there = became.2.here; built = crossed level compiled.source stored bytes reading.0 compiled.compiles reading.1 };
    }

pub of_checked : ((level : ℕ) (text bytes : List ℕ) (t : IsTranslation level text bytes) → (source : Source) × IsReading level text t.have.source source)
    → (level : ℕ) (files : FileOf) (name file : List ℕ) (before behind : Option (List ℕ)) (place : ℕ) → ChecksAs level (Some files) name file before behind place Done
    → (stored : List ℕ) × MakesOfSource level files name stored file (Some files)
of_checked reads level files name file before behind place h =
    let held = h.1 in
    let reading = reads level held.text held.bytes held.is in (
      held.is.have.source,
      record {
        text = held.text;
        there = held.has_source;
        source = reading.0;
        is_reading = reading.1;
        now = files;
        new_is = refl;
        made = record { bytes = held.bytes; there = held.has_file; built = checked level held.text held.bytes reading.0 held.is reading.1 };
      },
    )

by_some : {a b : List ℕ} → Some a ≡ Some b → a ≡ b
by_some e = cc

module _ (files : FileOf) where
  -- the file's module is that of the bytes that are made of the unit
  is_file : (name : List ℕ) (unit : Unit) (m : Module) (made : HoldsMade files name unit) → HoldsModule (Some files) name m → IsFile made.bytes m
  is_file name unit m made h = subst (λ (bytes : List ℕ). IsFile bytes m) (by_some (sym h.holds ∙ made.there)) h.file

  are_built : (units : Units) (names : List (List ℕ)) (modules : List Module) → HoldMade files names units → HoldModules (Some files) names modules → AreBuilt units modules
  are_built (Part unit) names [] made held = absurd (subst (λ (ns : List (List ℕ)). HoldModules (Some files) ns []) made.1 held)
  are_built (Part unit) names (m ∷ []) made held =
      let here : HoldModules (Some files) (made.0 ∷ []) (m ∷ []) = subst (λ (ns : List (List ℕ)). HoldModules (Some files) ns (m ∷ [])) made.1 held in
      last unit made.2.bytes m made.2.built (is_file made.0 unit m made.2 here.0)
  are_built (Part unit) names (m ∷ (other ∷ others)) made held =
      let here : HoldModules (Some files) (made.0 ∷ []) (m ∷ (other ∷ others)) = subst (λ (ns : List (List ℕ)). HoldModules (Some files) ns (m ∷ (other ∷ others))) made.1 held in
      absurd here.1
  are_built (Parts unit units) names [] made held = absurd (subst (λ (ns : List (List ℕ)). HoldModules (Some files) ns []) made.2 held)
  are_built (Parts unit units) names (m ∷ modules) made held =
      let here : HoldModules (Some files) (made.0 ∷ made.1) (m ∷ modules) = subst (λ (ns : List (List ℕ)). HoldModules (Some files) ns (m ∷ modules)) made.2 held in
      next unit units made.3.bytes m modules made.3.built (is_file made.0 unit m made.3 here.0) (are_built units made.1 modules made.4 here.1)

  pub of_units : (names : List (List ℕ)) (written : List ℕ) (new : Option FileOf) (place : ℕ) (units : Units) → HoldMade files names units → Merges names written (Some files) new place Done
      → MakesOfUnits units written new
  of_units names written new place units made h =
      let bytes = h.0 in
      let held = h.1 in
      let became = h.2 in
      record {
        now = became.0;
        new_is = became.1;
        made = record { bytes = bytes; there = became.2.here; built = merged units held.modules bytes (are_built units names held.modules made held.hold) held.reads };
      }
