-- What the tasks of an image of manifests' sources say of these.
use Rattle.std.proofs.Common.{◌≡◌, ℕ, zero, suc, List, [], ◌∷◌, Option, Some, None, refl, sym, ap, subst, ◌∙◌}
use Rattle.std.specs.Prelude.{slice_get}
use Rattle.std.specs.Io.KnownBytes.{Appends}
use Rattle.mpy_io.specs.Files.{FileOf}
use Rattle.meant_files.specs.image_open.bc_library.declared.fault.Member.{Member}
use Rattle.meant_files.specs.image_open.bc_library.declared.fault.Member.TheVariants as members
use Rattle.meant_files.specs.image_open.bc_library.Shelf.{Shelf, member_of}
use Rattle.meant_files.specs.py_meaning.Program.{Program}
use Rattle.board_files.specs.vm_starting.vm_states.Means as machine
use Rattle.board_files.specs.vm_starting.Programs.{IsProgramOf as IsOfShelf, IsRunnable}
use Rattle.meant_files.specs.meant_runs.Units.{AreUnits}
use Rattle.meant_files.specs.image_open.Opens.{Opens}
use Rattle.board_plan.specs.declared.plan.Plan.{Plan}
use Rattle.board_plan.specs.declared.plan.Task.{Task}
use Rattle.board_files.specs.board_tasks.Opened.{first_missing, missing_by, number_by, number_of}
use Rattle.board_files.specs.Summaries.{HasRun}
use Rattle.board_command.specs.TaskRuns.{RanAsMeant}
use Rattle.meant_files.specs.Programs.{HoldsImageOf, IsLibraryOf, IsProgramOf, Sources}
use Rattle.command_files.specs.mpy_endings.declared.ending.Ending.TheVariants.{Done}
use Rattle.board_command.specs.Boards.{Boards}
use Rattle.command_files.specs.Images.{HoldsImage}
use Rattle.board_command.specs.Meant.{MeansTasks}
use Rattle.board_command.specs.Plans.{HoldsPlan}

-- the module of a task is there
-- =============================

there_by : (name : List ℕ) (number : Option ℕ) (others : Option (List ℕ)) → missing_by name number others ≡ None → (place : ℕ) × (number ≡ Some place) × (others ≡ None)
there_by name (Some place) others e = (place, refl, e)
there_by name None others e = absurd cc

module_by : (member : Option Member) (place : ℕ) → number_by member ≡ Some place → member ≡ Some (members.Module place)
module_by (Some (members.Module number)) place e = let same : number ≡ place = cc in ap (λ (n : ℕ). Some (members.Module n)) same
module_by (Some members.Refused) place e = absurd cc
module_by None place e = absurd cc

pub module_of : (shelf : Shelf) (tasks : List Task) → first_missing shelf tasks ≡ None → (number : ℕ) (task : Task) → slice_get tasks number ≡ Some task
    → (place : ℕ) × (member_of shelf task.«module» ≡ Some (members.Module place))
module_of shelf [] all number task at = absurd cc
module_of shelf (first ∷ tasks) all zero task at =
    let there = there_by first.«module» (number_of shelf first.«module») (first_missing shelf tasks) all in
    let same : first ≡ task = cc in
    subst (λ (t : Task). (place : ℕ) × (member_of shelf t.«module» ≡ Some (members.Module place))) same
    (there.0, module_by (member_of shelf first.«module») there.0 there.1)
module_of shelf (first ∷ tasks) all (suc number) task at =
    module_of shelf tasks (there_by first.«module» (number_of shelf first.«module») (first_missing shelf tasks) all).2 number task at

-- the image
-- =========

by_some : {a b : List ℕ} → Some a ≡ Some b → a ≡ b
by_some e = cc

-- what the law of the runs of plans says
abbrev pub RunsMean : Type 0
RunsMean = (shelf : Shelf) (p : machine.Program) (plan : Plan) (old new : FileOf) (before behind : Option (List ℕ)) (number : ℕ) (task : Task) (program : Program) → IsOfShelf shelf p
    → (ran : HasRun p plan old new before behind) → slice_get plan.tasks number ≡ Some task → AreUnits program shelf → program.main_name ≡ task.«module»
    → RanAsMeant program plan number task new ran.summarizes.lines

-- Under each name that the library has there is a program of the sources with that main unit, and the library has its units.
pub record HasPrograms (IsProgram : (main : List ℕ) → Program → Type 0) (shelf : Shelf) : Type 0 where
  pub program : (main : List ℕ) (place : ℕ) → member_of shelf main ≡ Some (members.Module place) → (program : Program) × IsProgram main program
  pub units : (main : List ℕ) (place : ℕ) → member_of shelf main ≡ Some (members.Module place) → (program : Program) → IsProgram main program
      → (program.main_name ≡ main) × AreUnits program shelf

module _ (mean : RunsMean) (exists : (shelf : Shelf) → IsRunnable shelf → (p : machine.Program) × IsOfShelf shelf p) where
  -- over any library below
  pub tasks_mean : (IsProgram : (main : List ℕ) → Program → Type 0) (below : Shelf) (image plan_name : List ℕ) (files : FileOf) (new : Option FileOf) (before behind : Option (List ℕ)) (place : ℕ)
      → ((shelf : Shelf) → HoldsImage below (Some files) image shelf → HasPrograms IsProgram shelf) → Boards below image plan_name (Some files) new before behind place Done
      → (plan : Plan) × HoldsPlan (Some files) plan_name plan × (now : FileOf) × (new ≡ Some now) × MeansTasks IsProgram plan now before behind
  tasks_mean IsProgram below image plan_name files new before behind place has (shelf, plan, can, went) = (
    plan,
    can.holds.planned,
    run.0,
    run.1,
    record {
      lines = run.2.summarizes.lines;
      as_many = run.2.summarizes.as_many;
      printed = subst (Appends before behind) run.2.summarizes.text_is run.2.added;
      has_program = λ number task at. let m = main number task at in programs.program task.«module» m.0 m.1;
      means = λ number task at program its.
          let m = main number task at in
          let units = programs.units task.«module» m.0 m.1 program its in
          mean shelf p.0 plan files run.0 before behind number task program p.1 run.2 at units.1 units.0;
    },
  )
    where
      programs : HasPrograms IsProgram shelf
      programs = has shelf can.holds.opened

      main : (number : ℕ) (task : Task) → slice_get plan.tasks number ≡ Some task → (at : ℕ) × (member_of shelf task.«module» ≡ Some (members.Module at))
      main number task at = module_of shelf plan.tasks can.modules number task at

      p : (p : machine.Program) × IsOfShelf shelf p
      p = exists shelf can.holds.runnable

      run : (now : FileOf) × (new ≡ Some now) × HasRun p.0 plan files now before behind
      run = went p.0 p.1

-- what is known of the libraries of images
pub record OfImages : Type 0 where
  pub program : (all : List Sources) (main : List ℕ) (shelf : Shelf) (place : ℕ) → IsLibraryOf all shelf → member_of shelf main ≡ Some (members.Module place) → (program : Program) × IsProgramOf all main program
  pub units : (all : List Sources) (main : List ℕ) (shelf : Shelf) → IsLibraryOf all shelf → (program : Program) → IsProgramOf all main program → AreUnits program shelf

pub image_programs : OfImages → (all : List Sources) (sources : Sources) (below : Shelf) (files : FileOf) (image : List ℕ) → IsLibraryOf all below → HoldsImageOf below sources files image
    → (shelf : Shelf) → HoldsImage below (Some files) image shelf → HasPrograms (IsProgramOf (sources ∷ all)) shelf
image_programs o all sources below files image is made shelf h = record {
  program = λ main place found. o.program (sources ∷ all) main shelf place library found;
  units = λ main place found program its. (its.main_name_is, o.units (sources ∷ all) main shelf library program its);
}
  where
    library : IsLibraryOf (sources ∷ all) shelf
    library =
        let same : h.bytes ≡ made.bytes = by_some (sym h.holds ∙ made.written) in
        (below, made.bytes, is, made.is, subst (λ (b : List ℕ). Opens below b shelf) same h.opens)
