-- Orders over a base, and what they change.
use Rattle.std.proofs.Common.{◌≡◌, ◌≤◌, ℕ, true, false, List, [], Option, Some, None, get_or, Ok, refl, subst, inl, inr}
use Rattle.std.specs.Prelude.{IfOk}
use Rattle.mpy_base.specs.declared.limits.TheConstants.{MAX_TASKS}
use Rattle.mpy_base.specs.declared.room.Room.{Room}
use Rattle.mpy_io.specs.Files.{FileOf}
use Rattle.mpy_io.specs.Ports.{PortView}
use Rattle.image_open.specs.image_grammar.bc_library.Shelf.{Shelf, no_entries}
use Rattle.meant_commands.specs.source_files.Sources.{stored}
use Rattle.mpy_words.specs.declared.order.Command.{Command}
use Rattle.mpy_words.specs.declared.order.Command.TheVariants.{Go, Check, CheckAs, Dump, Cross, Merge, Freeze, Migrate, Run, Resume, Board, Stress}
use Rattle.mpy_words.specs.declared.order.Order.{Order}
use Rattle.mpy_words.specs.Words.{Outcome, order_of, first_name, second_name, source_name, main_name, file_names, saved_name}
use Rattle.board_command.specs.board_files.Files.{KeepsOthers}
use Rattle.board_command.specs.command_files.Outside.{Ends, EndsAt, Outside, Writes, WritesOf}
use Rattle.board_command.proofs.command_files_lemmas.Others.{same_only}
use Rattle.meant_commands.specs.file_commands.Check.{Checks}
use Rattle.meant_commands.specs.file_commands.CheckAs.{ChecksAs}
use Rattle.meant_commands.specs.file_commands.Cross.{Crosses}
use Rattle.meant_commands.specs.file_commands.Dump.{Dumps}
use Rattle.meant_commands.specs.file_commands.Merge.{Merges}
use Rattle.meant_commands.specs.run_commands.Ready.{GoLibrary, RunLibrary}
use Rattle.meant_commands.specs.run_commands.Run.{EndsRun, room_of}
use Rattle.meant_commands.specs.run_commands.Save.{EndsRunTo}
use Rattle.meant_commands.specs.run_commands.Resume.{EndsResume, ResumeLibrary}
use Rattle.meant_commands.specs.run_commands.Suspended.{SavesRun}
use Rattle.meant_commands.specs.GoMeant.{GoMeans}
use Rattle.meant_commands.specs.Meant.{Libraries, RunMeans}
use Rattle.meant_commands.specs.ResumeMeant.{ResumeMeans}
use Rattle.meant_commands.proofs.Meaning.{MeantLaw, run_to_means}
use Rattle.meant_commands.specs.file_commands.Freeze.{Freezes}
use Rattle.meant_commands.specs.file_commands.Migrate.{Migrates}
use Rattle.board_command.specs.command_files.Images.{HoldsImage}
use Rattle.board_command.specs.command_files.Over.{EndsAtBase}
use Rattle.board_command.specs.Boards.{Boards}
use Rattle.meant_commands.specs.run_commands.Stress.{EndsStress}
use Rattle.mpy_tool.specs.Call.{Call, Orders, OrdersOne, OrdersTwo, Shows, ShowsPorts}
use Rattle.mpy_tool.specs.Below.{Based, image_version}
use Rattle.mpy_tool.specs.Doing.{Finishes, RunsOrSaves, ResumesBy, ActsBy, ObeysBy}
use Rattle.mpy_tool.specs.Order.{ChangesBy, ChangesSaved, calls_ports, makes_source, resumes_run, runs_library, save_by}
use Rattle.mpy_tool.specs.Making.{StressMeans}
use Rattle.mpy_tool.proofs.Stressing.{GoLaw, stress_means}
use Rattle.mpy_tool.proofs.Ended.{checked, checked_as, dumped, crossed, merged, frozen, migrated, boarded}

-- laws of suspended runs
-- ======================

-- a run that saves its state leaves the snapshot of a suspended run
abbrev pub LeavesLaw : Type 0
LeavesLaw = (below : Shelf) (main : List ℕ) (saved : Option (List ℕ)) (room : Room) (steps : ℕ) (name : List ℕ) (old new : Outside) (ports_old ports_new : List PortView) (status : ℕ)
    → room.cells ≤ 4194304 → room.bytes ≤ 16777216 → EndsRunTo saved (RunLibrary below main) room steps name old new ports_old ports_new status
    → SavesRun saved (RunLibrary below main) room steps name old new ports_old ports_new status

-- what goes on from one does with the run as its program means
abbrev pub ResumeLaw : Type 0
ResumeLaw = (below : Shelf) (steps : ℕ) (name snap : List ℕ) (words : List (List ℕ)) (save : Option ℕ) (old new : Outside) (ports_old ports_new : List PortView) (status : ℕ)
    → EndsResume (ResumeLibrary below) steps name snap words save old new ports_old ports_new status
    → ResumeMeans (ResumeLibrary below) steps name snap old new ports_old ports_new status

-- where no file changed
-- =====================

pub same_others : (count : ℕ) (old new : Option FileOf) → new ≡ old → KeepsOthers count old new
same_others count None new e = tt
same_others count (Some file) new e = (file, e, λ name apart. refl)

same_saved : (snap : Option (List ℕ)) (old new : Option FileOf) → new ≡ old → ChangesSaved snap old new
same_saved None old new e = e
same_saved (Some snap) old new e = same_only old new snap e

pub same_changes : (words : List (List ℕ)) (save : Option ℕ) (command : Command) (old new : Option FileOf) → new ≡ old → ChangesBy words save command old new
same_changes words save Go old new e = e
same_changes words save Check old new e = e
same_changes words save CheckAs old new e = e
same_changes words save Dump old new e = e
same_changes words save Cross old new e = same_only old new (second_name words) e
same_changes words save Merge old new e = same_only old new (first_name words) e
same_changes words save Freeze old new e = same_only old new (second_name words) e
same_changes words save Migrate old new e = same_only old new (second_name words) e
same_changes words save Run old new e = same_saved (saved_name words save) old new e
same_changes words save Resume old new e = same_saved (saved_name words save) old new e
same_changes words save Board old new e = same_others MAX_TASKS old new e
same_changes words save Stress old new e = e

-- what a run changes
pub run_changes : (words : List (List ℕ)) (save : Option ℕ) (command : Command) (old new : Option FileOf) → runs_library command ≡ true → ChangesSaved (saved_name words (save_by command save)) old new → ChangesBy words save command old new
run_changes words save Go old new e h = h
run_changes words save Check old new e h = absurd cc
run_changes words save CheckAs old new e h = absurd cc
run_changes words save Dump old new e h = absurd cc
run_changes words save Cross old new e h = absurd cc
run_changes words save Merge old new e h = absurd cc
run_changes words save Freeze old new e h = absurd cc
run_changes words save Migrate old new e h = absurd cc
run_changes words save Run old new e h = h
run_changes words save Resume old new e h = absurd cc
run_changes words save Board old new e h = absurd cc
run_changes words save Stress old new e h = absurd cc

-- what a command that goes on from a snapshot changes
pub resume_changes : (words : List (List ℕ)) (save : Option ℕ) (command : Command) (old new : Option FileOf) → resumes_run command ≡ true → ChangesSaved (saved_name words save) old new → ChangesBy words save command old new
resume_changes words save Go old new e h = absurd cc
resume_changes words save Check old new e h = absurd cc
resume_changes words save CheckAs old new e h = absurd cc
resume_changes words save Dump old new e h = absurd cc
resume_changes words save Cross old new e h = absurd cc
resume_changes words save Merge old new e h = absurd cc
resume_changes words save Freeze old new e h = absurd cc
resume_changes words save Migrate old new e h = absurd cc
resume_changes words save Run old new e h = absurd cc
resume_changes words save Resume old new e h = h
resume_changes words save Board old new e h = absurd cc
resume_changes words save Stress old new e h = absurd cc

-- by the command
-- ==============

-- what runs nothing calls no ports
pub quiet : (command : Command) → runs_library command ≡ false → makes_source command ≡ false → resumes_run command ≡ false → calls_ports command ≡ false
quiet command r m s = rw r (rw m s)

module _ (order : Order) (call : Call) where
  pub acts_run : (below : Shelf) (command : Command) → runs_library command ≡ true → RunsOrSaves order call below command → ActsBy order call below command
  acts_run below Go e h = h
  acts_run below Check e h = absurd cc
  acts_run below CheckAs e h = absurd cc
  acts_run below Dump e h = absurd cc
  acts_run below Cross e h = absurd cc
  acts_run below Merge e h = absurd cc
  acts_run below Freeze e h = absurd cc
  acts_run below Migrate e h = absurd cc
  acts_run below Run e h = h
  acts_run below Resume e h = absurd cc
  acts_run below Board e h = absurd cc
  acts_run below Stress e h = absurd cc

  pub acts_do : (below : Shelf) (command : Command) → calls_ports command ≡ false → Finishes order call below command → ActsBy order call below command
  acts_do below Go e h = absurd cc
  acts_do below Check e h = h
  acts_do below CheckAs e h = h
  acts_do below Dump e h = h
  acts_do below Cross e h = h
  acts_do below Merge e h = h
  acts_do below Freeze e h = h
  acts_do below Migrate e h = h
  acts_do below Run e h = absurd cc
  acts_do below Resume e h = absurd cc
  acts_do below Board e h = h
  acts_do below Stress e h = absurd cc

  pub acts_make : (below : Shelf) (command : Command) → makes_source command ≡ true → ShowsPorts call (EndsStress order.seed order.count (room_of order) order.steps) → ActsBy order call below command
  acts_make below Go e h = absurd cc
  acts_make below Check e h = absurd cc
  acts_make below CheckAs e h = absurd cc
  acts_make below Dump e h = absurd cc
  acts_make below Cross e h = absurd cc
  acts_make below Merge e h = absurd cc
  acts_make below Freeze e h = absurd cc
  acts_make below Migrate e h = absurd cc
  acts_make below Run e h = absurd cc
  acts_make below Resume e h = absurd cc
  acts_make below Board e h = absurd cc
  acts_make below Stress e h = h

  pub acts_resume : (below : Shelf) (command : Command) → resumes_run command ≡ true → ResumesBy order call below → ActsBy order call below command
  acts_resume below Go e h = absurd cc
  acts_resume below Check e h = absurd cc
  acts_resume below CheckAs e h = absurd cc
  acts_resume below Dump e h = absurd cc
  acts_resume below Cross e h = absurd cc
  acts_resume below Merge e h = absurd cc
  acts_resume below Freeze e h = absurd cc
  acts_resume below Migrate e h = absurd cc
  acts_resume below Run e h = absurd cc
  acts_resume below Resume e h = h
  acts_resume below Board e h = absurd cc
  acts_resume below Stress e h = absurd cc

  -- the call with these files and these faults of the folder before it
  abbrev from : (files : Option FileOf) → (faults : ℕ) → Call
  from files faults = record call { old = record call.old { files = files; folder_faults = faults } }

  -- what was done behind the reading of a base, which changes no file and adds no fault
  pub acts_again : (below : Shelf) (command : Command) (files : Option FileOf) (faults : ℕ) → files ≡ call.old.files → faults ≡ call.old.folder_faults
      → ActsBy order (from files faults) below command → ActsBy order call below command
  acts_again below command files faults same_files same_faults h =
      subst (λ (f : Option FileOf). ActsBy order (from f call.old.folder_faults) below command) same_files
      (subst (λ (n : ℕ). ActsBy order (from files n) below command) same_faults h)

  -- over a base
  -- ===========

  pub over_none : (base : Option ℕ) (Went : Shelf → Type 0) → None ≡ base → Went no_entries → Based call base Went
  over_none base Went e h = subst (λ (b : Option ℕ). Based call b Went) e h

  pub over_base : (base : Option ℕ) (Went : Shelf → Type 0) (at : ℕ) (name : List ℕ) (below : Shelf) → Some at ≡ base → name ≡ get_or call.words at []
      → HoldsImage no_entries call.old.files name below → Went below → Based call base Went
  over_base base Went at name below e n holds h =
      subst (λ (b : Option ℕ). Based call b Went) e (inr (record { below = below; holds = subst (λ (x : List ℕ). HoldsImage no_entries call.old.files x below) n holds; went = h }))

  pub at_base : (base : Option ℕ) (Went : Shelf → Type 0) (at : ℕ) (name : List ℕ) → Some at ≡ base → name ≡ get_or call.words at [] → Shows call (EndsAtBase name)
      → call.ports_new ≡ call.ports_old → Based call base Went
  at_base base Went at name e n h same =
      subst (λ (b : Option ℕ). Based call b Went) e (inl (subst (λ (x : List ℕ). Shows call (EndsAtBase x)) n h, same))

  pub based_map : (base : Option ℕ) (P Q : Shelf → Type 0) → ((below : Shelf) → P below → Q below) → Based call base P → Based call base Q
  based_map None P Q f h = f no_entries h
  based_map (Some at) P Q f (inl h) = inl h
  based_map (Some at) P Q f (inr h) = inr (record { below = h.below; holds = h.holds; went = f h.below h.went })

  -- each command, of what the words order
  -- =====================================

  abbrev Obeyed : Command → Type 0
  Obeyed command = ObeysBy order call command

  as_command : (command : Command) → order.command ≡ command → Obeyed order.command → Obeyed command
  as_command command e h = subst Obeyed e h

  ordered : (command : Command) (Went : Order → Type 0) → Ok order ≡ order_of call.words → (order.command ≡ command → Went order) → Orders call command Went
  ordered command Went is h = subst (λ (r : Outcome). IfOk r (λ o. o.command ≡ command → Went o)) is h

  abbrev Ran : Libraries → Type 0
  Ran Comes = ShowsPorts call (EndsRunTo (saved_name call.words order.save) Comes (room_of order) order.steps (first_name call.words))

  abbrev Means : Libraries → Type 0
  Means Comes = ShowsPorts call (RunMeans Comes (room_of order) order.steps (first_name call.words))

  pub go_ordered : Ok order ≡ order_of call.words → Obeyed order.command
      → OrdersOne call Go (λ o src. ShowsPorts call (EndsRun (GoLibrary o.level) (room_of o) o.steps src))
  go_ordered is h =
      ordered Go (λ o. ShowsPorts call (EndsRun (GoLibrary o.level) (room_of o) o.steps (first_name call.words))) is
      (λ e. as_command Go e h)

  pub check_ordered : Ok order ≡ order_of call.words → Obeyed order.command → OrdersOne call Check (λ o file. Shows call (Ends Checks file))
  check_ordered is h =
      ordered Check (λ o. Shows call (Ends Checks (first_name call.words))) is
      (λ e. checked order call no_entries (as_command Check e h))

  pub check_as_ordered : Ok order ≡ order_of call.words → Obeyed order.command
      → OrdersTwo call CheckAs (λ o src file. Shows call (EndsAt (λ old new before behind. ChecksAs o.level old src file before behind) call.words))
  check_as_ordered is h =
      let src = first_name call.words in
      let file = second_name call.words in
      ordered CheckAs (λ o. Shows call (EndsAt (λ old new before behind. ChecksAs o.level old src file before behind) call.words)) is
      (λ e. checked_as order call no_entries (as_command CheckAs e h))

  pub dump_ordered : Ok order ≡ order_of call.words → Obeyed order.command → OrdersOne call Dump (λ o file. Shows call (Ends Dumps file))
  dump_ordered is h =
      ordered Dump (λ o. Shows call (Ends Dumps (first_name call.words))) is
      (λ e. dumped order call no_entries (as_command Dump e h))

  pub cross_ordered : Ok order ≡ order_of call.words → Obeyed order.command
      → OrdersTwo call Cross (λ o src file. Shows call (Writes (Crosses o.level src (stored (source_name call.words o.stored_name)) file) src file))
  cross_ordered is h =
      let src = first_name call.words in
      let file = second_name call.words in
      ordered Cross (λ o. Shows call (Writes (Crosses o.level src (stored (source_name call.words o.stored_name)) file) src file)) is
      (λ e. crossed order call no_entries (as_command Cross e h))

  pub merge_ordered : Ok order ≡ order_of call.words → Obeyed order.command
      → OrdersOne call Merge (λ o out. Shows call (WritesOf (Merges (file_names call.words) out) call.words))
  merge_ordered is h =
      ordered Merge (λ o. Shows call (WritesOf (Merges (file_names call.words) (first_name call.words)) call.words)) is
      (λ e. merged order call no_entries (as_command Merge e h))

  pub freeze_ordered : Ok order ≡ order_of call.words → Obeyed order.command
      → OrdersTwo call Freeze (λ o manifest out. Based call o.base (λ below. Shows call (Writes (Freezes (image_version o.base) below manifest out) manifest out)))
  freeze_ordered is h =
      let manifest = first_name call.words in
      let out = second_name call.words in
      let Frozen = λ (base : Option ℕ) (below : Shelf). Shows call (Writes (Freezes (image_version base) below manifest out) manifest out) in
      ordered Freeze (λ o. Based call o.base (Frozen o.base)) is
      (λ e. based_map order.base (λ below. ActsBy order call below Freeze) (Frozen order.base) (λ below. frozen order call below) (as_command Freeze e h))

  pub migrate_ordered : Ok order ≡ order_of call.words → Obeyed order.command
      → OrdersTwo call Migrate (λ o image out. Shows call (Writes (Migrates image out) image out))
  migrate_ordered is h =
      let image = first_name call.words in
      let out = second_name call.words in
      ordered Migrate (λ o. Shows call (Writes (Migrates image out) image out)) is
      (λ e. migrated order call no_entries (as_command Migrate e h))

  pub run_ordered : Ok order ≡ order_of call.words → Obeyed order.command
      → OrdersOne call Run (λ o file. Based call o.base (λ below.
      ShowsPorts call (EndsRunTo (saved_name call.words o.save) (RunLibrary below (main_name call.words o.main_name)) (room_of o) o.steps file)))
  run_ordered is h =
      ordered Run (λ o. Based call o.base (λ below.
      ShowsPorts call (EndsRunTo (saved_name call.words o.save) (RunLibrary below (main_name call.words o.main_name)) (room_of o) o.steps (first_name call.words)))) is
      (λ e. as_command Run e h)

  pub resume_ordered : Ok order ≡ order_of call.words → Obeyed order.command
      → OrdersTwo call Resume (λ o file snap. Based call o.base (λ below. ShowsPorts call (EndsResume (ResumeLibrary below) o.steps file snap call.words o.save)))
  resume_ordered is h =
      let file = first_name call.words in
      let snap = second_name call.words in
      ordered Resume (λ o. Based call o.base (λ below. ShowsPorts call (EndsResume (ResumeLibrary below) o.steps file snap call.words o.save))) is
      (λ e. as_command Resume e h)

  pub board_ordered : Ok order ≡ order_of call.words → Obeyed order.command
      → OrdersTwo call Board (λ o image plan. Based call o.base (λ below. Shows call (EndsAt (Boards below image plan) call.words)))
  board_ordered is h =
      let image = first_name call.words in
      let plan = second_name call.words in
      let Boarded = λ (below : Shelf). Shows call (EndsAt (Boards below image plan) call.words) in
      ordered Board (λ o. Based call o.base Boarded) is
      (λ e. based_map order.base (λ below. ActsBy order call below Board) Boarded (λ below. boarded order call below) (as_command Board e h))

  pub stress_ordered : Ok order ≡ order_of call.words → Obeyed order.command
      → Orders call Stress (λ o. ShowsPorts call (EndsStress o.seed o.count (room_of o) o.steps))
  stress_ordered is h =
      ordered Stress (λ o. ShowsPorts call (EndsStress o.seed o.count (room_of o) o.steps)) is
      (λ e. as_command Stress e h)

  pub go_means_ordered : GoLaw → Ok order ≡ order_of call.words → Obeyed order.command
      → OrdersOne call Go (λ o src. ShowsPorts call (GoMeans o.level (room_of o) o.steps src))
  go_means_ordered law is h =
      let src = first_name call.words in
      ordered Go (λ o. ShowsPorts call (GoMeans o.level (room_of o) o.steps src)) is
      (λ e. law order.level (room_of order) order.steps src call.old call.new call.ports_old call.ports_new call.status (as_command Go e h))

  pub run_means_ordered : MeantLaw → Ok order ≡ order_of call.words → Obeyed order.command
      → OrdersOne call Run (λ o file. Based call o.base (λ below.
      ShowsPorts call (RunMeans (RunLibrary below (main_name call.words o.main_name)) (room_of o) o.steps file)))
  run_means_ordered law is h =
      let file = first_name call.words in
      let Comes = λ (below : Shelf). RunLibrary below (main_name call.words order.main_name) in
      ordered Run (λ o. Based call o.base (λ below. ShowsPorts call (RunMeans (RunLibrary below (main_name call.words o.main_name)) (room_of o) o.steps file))) is
      (λ e. based_map order.base (λ below. Ran (Comes below)) (λ below. Means (Comes below))
      (λ below. run_to_means law (saved_name call.words order.save) (Comes below) (room_of order) order.steps file call.old call.new call.ports_old call.ports_new call.status) (as_command Run e h))

  pub stress_means_ordered : GoLaw → Ok order ≡ order_of call.words → Obeyed order.command
      → Orders call Stress (λ o. ShowsPorts call (StressMeans o.seed o.count (room_of o) o.steps))
  stress_means_ordered law is h =
      ordered Stress (λ o. ShowsPorts call (StressMeans o.seed o.count (room_of o) o.steps)) is
      (λ e. stress_means law order.seed order.count (room_of order) order.steps call.old call.new call.ports_old call.ports_new call.status (as_command Stress e h))

  -- what a run leaves that saves its state
  pub suspends_ordered : LeavesLaw → order.cells ≤ 4194304 → order.bytes ≤ 16777216 → Ok order ≡ order_of call.words → Obeyed order.command
      → OrdersOne call Run (λ o file. Based call o.base (λ below.
      ShowsPorts call (SavesRun (saved_name call.words o.save) (RunLibrary below (main_name call.words o.main_name)) (room_of o) o.steps file)))
  suspends_ordered law few_cells few_bytes is h =
      let file = first_name call.words in
      let main = main_name call.words order.main_name in
      ordered Run (λ o. Based call o.base (λ below.
      ShowsPorts call (SavesRun (saved_name call.words o.save) (RunLibrary below (main_name call.words o.main_name)) (room_of o) o.steps file))) is
      (λ e. based_map order.base (λ below. Ran (RunLibrary below main))
      (λ below. ShowsPorts call (SavesRun (saved_name call.words order.save) (RunLibrary below main) (room_of order) order.steps file))
      (λ below. law below main (saved_name call.words order.save) (room_of order) order.steps file call.old call.new call.ports_old call.ports_new call.status few_cells few_bytes) (as_command Run e h))

  pub resume_means_ordered : ResumeLaw → Ok order ≡ order_of call.words → Obeyed order.command
      → OrdersTwo call Resume (λ o file snap. Based call o.base (λ below. ShowsPorts call (ResumeMeans (ResumeLibrary below) o.steps file snap)))
  resume_means_ordered law is h =
      let file = first_name call.words in
      let snap = second_name call.words in
      ordered Resume (λ o. Based call o.base (λ below. ShowsPorts call (ResumeMeans (ResumeLibrary below) o.steps file snap))) is
      (λ e. based_map order.base (ResumesBy order call) (λ below. ShowsPorts call (ResumeMeans (ResumeLibrary below) order.steps file snap))
      (λ below. law below order.steps file snap call.words order.save call.old call.new call.ports_old call.ports_new call.status) (as_command Resume e h))
