-- Runs whose state is saved, as the order says it.
use Rattle.std.proofs.Common.{◌≡◌, ℕ, List, [], Option, Some, None, Result, refl}
use Rattle.std.specs.Prelude.{slice_index_or}
use Rattle.mpy_base.specs.declared.room.Room.{Room}
use Rattle.mpy_io.specs.Files.{FileOf}
use Rattle.image_open.specs.image_grammar.bc_library.Shelf.{Shelf}
use Rattle.mpy_words.specs.Words.{first_name, saved_name}
use Rattle.mpy_endings.specs.declared.ending.Ending.{Ending}
use Rattle.mpy_endings.specs.declared.ending.Ending.TheVariants.{Done, Unaccepted, Unread, Unverified, Unmerged, Unopened, Unfrozen, Unboarded, Different, Stopped, ReadFault, WriteFault, Unwritten, NoMemory, Absent}
use Rattle.meant_commands.specs.run_commands.declared.ready.Ready.{Ready}
use Rattle.meant_commands.specs.run_commands.library_runs.Runs.{Sight}
use Rattle.meant_commands.specs.run_commands.Save.{RunsTo, place_to}
use Rattle.meant_commands.specs.run_commands.Resume.{Resumes}
use Rattle.meant_commands.proofs.run_commands_lemmas.Resumption.{resumed_only, resumed_same}
use Rattle.meant_commands.proofs.run_commands_lemmas.Suspending.{saving_only, word_to}
use Rattle.mpy_tool.specs.Order.{ChangesSaved}

-- the word that the line names
pub named_by : (words : List (List ℕ)) (save : Option ℕ) (ending : Ending) → slice_index_or words (place_to save ending) [] ≡ word_to (saved_name words save) (first_name words) ending
named_by words None ending = refl
named_by words (Some at) Done = refl
named_by words (Some at) (Unaccepted fault) = refl
named_by words (Some at) (Unread fault) = refl
named_by words (Some at) (Unverified fault) = refl
named_by words (Some at) (Unmerged fault) = refl
named_by words (Some at) (Unopened fault) = refl
named_by words (Some at) (Unfrozen fault) = refl
named_by words (Some at) (Unboarded fault) = refl
named_by words (Some at) (Different difference) = refl
named_by words (Some at) (Stopped stop) = refl
named_by words (Some at) ReadFault = refl
named_by words (Some at) WriteFault = refl
named_by words (Some at) Unwritten = refl
named_by words (Some at) NoMemory = refl
named_by words (Some at) Absent = refl

-- what changed
pub saved_changes : (snap : Option (List ℕ)) (Comes : Result Ready Ending → Type 0) (room : Room) (steps : ℕ) (a b : Sight) (said : List ℕ) (old new : Option FileOf) (ending : Ending)
    → RunsTo snap Comes room steps a b said old new ending → ChangesSaved snap old new
saved_changes None Comes room steps a b said old new ending ran = ran.1
saved_changes (Some snap) Comes room steps a b said old new ending ran = saving_only room steps a b said snap old new Comes ending ran

pub resumed_changes : (saved : Option (List ℕ)) (Comes : Result Shelf Ending → Type 0) (name : List ℕ) (words : List (List ℕ)) (save : Option ℕ) (steps : ℕ) (a b : Sight) (said : List ℕ) (old new : Option FileOf) (place : ℕ) (ending : Ending)
    → saved_name words save ≡ saved → Resumes Comes name words save steps a b said old new place ending → ChangesSaved saved old new
resumed_changes None Comes name words save steps a b said old new place ending e h = resumed_same name words save steps a b said old new Comes place ending e h
resumed_changes (Some to) Comes name words save steps a b said old new place ending e h = resumed_only name words save steps a b said old new Comes place ending to e h
