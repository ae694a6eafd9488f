-- What running the tasks of a plan on an image does.
use Rattle.std.specs.Prelude.{◌≡◌, ◌⊎◌, ℕ, ◌<◌, List, length, Option, Some, None}
use Rattle.mpy_io.specs.Files.{FileOf}
use Rattle.std.specs.Io.KnownBytes.{Keeps}
use Rattle.meant_files.specs.image_open.bc_library.Shelf.{Shelf}
use Rattle.board_files.specs.vm_starting.vm_states.Means.{Program}
use Rattle.board_files.specs.vm_starting.Programs.{IsProgramOf, IsRunnable}
use Rattle.board_plan.specs.declared.plan.Plan.{Plan}
use Rattle.board_files.specs.board_tasks.Opened.{first_missing}
use Rattle.board_files.specs.Files.{KeepsOthers}
use Rattle.board_files.specs.Stopped.{HasStoppedIn}
use Rattle.board_files.specs.Summaries.{HasRunIn, HasRunFrontIn}
use Rattle.command_files.specs.mpy_endings.declared.ending.Ending.{Ending}
use Rattle.command_files.specs.mpy_endings.declared.ending.Ending.TheVariants.{Done, Unaccepted, Unread, Unverified, Unmerged}
use Rattle.command_files.specs.mpy_endings.declared.ending.Ending.TheVariants.{Unopened, Unfrozen, Unboarded, Different, Stopped}
use Rattle.command_files.specs.mpy_endings.declared.ending.Ending.TheVariants.{ReadFault, WriteFault, Unwritten, NoMemory, Absent}
use Rattle.command_files.specs.mpy_endings.declared.ending.BoardFault.TheVariants as boards
use Rattle.command_files.specs.Images.{HoldsImage, RefusesImage}
use Rattle.board_command.specs.Plans.{HoldsPlan, RefusesPlan}

-- no file was written, and nothing printed
pub record Untouched (old new : Option FileOf) (before behind : Option (List ℕ)) : Type 0 where
  pub files : new ≡ old
  pub prints : Keeps before behind

-- the image and the plan of these names, over a library that lies below
module _ (below : Shelf) (image plan_name : List ℕ) (files : Option FileOf) where
  -- the files are an image of the library's modules, which may be run, and the plan
  pub record Holds (shelf : Shelf) (plan : Plan) : Type 0 where
    pub opened : HoldsImage below files image shelf
    pub runnable : IsRunnable shelf
    pub planned : HoldsPlan files plan_name plan

  -- the files are such an image and the plan, and the library has the module of each task
  pub record CanStart (shelf : Shelf) (plan : Plan) : Type 0 where
    pub holds : Holds shelf plan
    pub modules : first_missing shelf plan.tasks ≡ None

  -- the image is refused so, or else the plan. The line names the word at the place
  abbrev pub IsRefused : (place : ℕ) → Ending → Type 0
  IsRefused place ending =
      (RefusesImage below files image ending × (place ≡ 1))
      ⊎ ((shelf : Shelf) × HoldsImage below files image shelf × RefusesPlan files plan_name ending × (place ≡ 2))

-- How the command ended, and the place of the word that its line names: each task ran as its module does alone, its output is in its
-- file, and the summary was printed; or why not. Before and behind stand for what was printed.
module _ (below : Shelf) (image plan_name : List ℕ) (old new : Option FileOf) (before behind : Option (List ℕ)) where
  -- the image or the plan is refused, and nothing was done
  abbrev pub Refused : (place : ℕ) → Ending → Type 0
  Refused place ending = IsRefused below image plan_name old place ending × Untouched old new before behind

  -- the tasks can start, and this is so of the library and the plan
  abbrev pub Started : (Shelf → Plan → Type 0) → Type 0
  Started Went = (shelf : Shelf) × (plan : Plan) × CanStart below image plan_name old shelf plan × Went shelf plan

  -- The run of the tasks stopped, at the file of the task `cut`, or for want of memory where that is None. The file of each task has what
  -- its run printed so far, that of `cut` a front of it. No other file changed, and nothing was printed
  pub record Stops (shelf : Shelf) (plan : Plan) (cut : Option ℕ) : Type 0 where
    pub outputs : (p : Program) → IsProgramOf shelf p → HasStoppedIn p plan cut old new
    pub others : KeepsOthers (length plan.tasks) old new
    pub prints : Keeps before behind

  -- the command on an image and a plan ended so, where the line names the word at the place
  abbrev pub Boards : (place : ℕ) → Ending → Type 0
  Boards place Done = Started (λ shelf plan. (p : Program) → IsProgramOf shelf p → HasRunIn p plan old new before behind)
  Boards place (Unaccepted fault) = ⊥
  Boards place (Unread fault) = Refused place (Unread fault)
  Boards place (Unverified fault) = ⊥
  Boards place (Unmerged fault) = ⊥
  Boards place (Unopened fault) = Refused place (Unopened fault)
  Boards place (Unfrozen fault) = ⊥
  Boards place (Unboarded (boards.Plan fault)) = Refused place (Unboarded (boards.Plan fault))
  Boards place (Unboarded (boards.NoModule name)) =
      (shelf : Shelf) × (plan : Plan) × Holds below image plan_name old shelf plan × (first_missing shelf plan.tasks ≡ Some name) × (place ≡ 2)
      × Untouched old new before behind
  Boards place (Unboarded (boards.Unwritten task)) = Started (λ shelf plan. (task < length plan.tasks) × Stops shelf plan (Some task))
  Boards place (Different difference) = ⊥
  Boards place (Stopped stop) = ⊥
  Boards place ReadFault = Refused place ReadFault
  -- the summary, or what was held back before, wasn't handed on
  Boards place WriteFault = Started (λ shelf plan. (p : Program) → IsProgramOf shelf p → HasRunFrontIn p plan old new before behind)
  Boards place Unwritten = ⊥
  Boards place NoMemory =
      Untouched old new before behind
      ⊎ ((shelf : Shelf) × (plan : Plan) × Holds below image plan_name old shelf plan × Stops shelf plan None)
  Boards place Absent = Refused place Absent
