-- What each order does, by its command.
use Rattle.std.specs.Prelude.{◌≡◌, ℕ, List, Option}
use Rattle.std.specs.Io.KnownBytes.{Keeps}
use Rattle.mpy_io.specs.Files.{FileOf}
use Rattle.image_open.specs.image_grammar.bc_library.Shelf.{Shelf}
use Rattle.mpy_words.specs.declared.order.Command.{Command}
use Rattle.mpy_words.specs.declared.order.Command.TheVariants.{Go, Check, CheckAs, Dump, Cross, Merge, Freeze, Migrate, Run, Resume, Board, Stress}
use Rattle.mpy_words.specs.declared.order.Order.{Order}
use Rattle.mpy_words.specs.Words.{first_name, second_name, source_name, main_name, file_names, saved_name}
use Rattle.meant_commands.specs.source_files.Sources.{stored}
use Rattle.mpy_endings.specs.declared.ending.Ending.{Ending}
use Rattle.mpy_endings.specs.Line.{place_in}
use Rattle.board_command.specs.command_files.Outside.{EndsAt}
use Rattle.meant_commands.specs.file_commands.Check.{Checks}
use Rattle.meant_commands.specs.file_commands.CheckAs.{ChecksAs}
use Rattle.meant_commands.specs.file_commands.Cross.{Crosses}
use Rattle.meant_commands.specs.file_commands.Dump.{Dumps}
use Rattle.meant_commands.specs.file_commands.Merge.{Merges}
use Rattle.meant_commands.specs.run_commands.Ready.{GoLibrary, RunLibrary}
use Rattle.meant_commands.specs.run_commands.Run.{EndsRun, room_of}
use Rattle.meant_commands.specs.run_commands.Save.{EndsRunTo}
use Rattle.meant_commands.specs.run_commands.Resume.{EndsResume, ResumeLibrary}
use Rattle.meant_commands.specs.Meant.{Libraries}
use Rattle.meant_commands.specs.file_commands.Freeze.{Freezes}
use Rattle.meant_commands.specs.file_commands.Migrate.{Migrates}
use Rattle.board_command.specs.Boards.{Boards}
use Rattle.meant_commands.specs.run_commands.Stress.{EndsStress}
use Rattle.mpy_tool.specs.Call.{Call, Shows, ShowsPorts}
use Rattle.mpy_tool.specs.Below.{Based, image_version}
use Rattle.mpy_tool.specs.Order.{base_by, save_by}

module _ (order : Order) (words : List (List ℕ)) (below : Shelf) where
  -- What a command that runs nothing did, with what in the folder and on the output before and behind it, and how it ended, with the
  -- place of the word that its line names.
  abbrev pub DoesBy : Command → (old new : Option FileOf) → (before behind : Option (List ℕ)) → (place : ℕ) → Ending → Type 0
  DoesBy Go old new before behind place ending = ⊥
  DoesBy Check old new before behind place ending = Checks old (first_name words) ending before behind × (place ≡ place_in ending)
  DoesBy CheckAs old new before behind place ending = ChecksAs order.level old (first_name words) (second_name words) before behind place ending
  DoesBy Dump old new before behind place ending = Dumps old (first_name words) ending before behind × (place ≡ place_in ending)
  DoesBy Cross old new before behind place ending =
      Crosses order.level (first_name words) (stored (source_name words order.stored_name)) (second_name words) old new ending
      × Keeps before behind × (place ≡ place_in ending)
  DoesBy Merge old new before behind place ending = Merges (file_names words) (first_name words) old new place ending × Keeps before behind
  DoesBy Freeze old new before behind place ending =
      Freezes (image_version order.base) below (first_name words) (second_name words) old new ending × Keeps before behind × (place ≡ place_in ending)
  DoesBy Migrate old new before behind place ending = Migrates (first_name words) (second_name words) old new ending × Keeps before behind
      × (place ≡ place_in ending)
  DoesBy Run old new before behind place ending = ⊥
  DoesBy Resume old new before behind place ending = ⊥
  DoesBy Board old new before behind place ending = Boards below (first_name words) (second_name words) old new before behind place ending
  DoesBy Stress old new before behind place ending = ⊥

  -- there is no library, whatever the files
  abbrev pub no_library : Libraries
  no_library files name answer = ⊥

  -- which library of the folder's files a command runs
  abbrev pub LibraryBy : Command → Libraries
  LibraryBy Go = GoLibrary order.level
  LibraryBy Check = no_library
  LibraryBy CheckAs = no_library
  LibraryBy Dump = no_library
  LibraryBy Cross = no_library
  LibraryBy Merge = no_library
  LibraryBy Freeze = no_library
  LibraryBy Migrate = no_library
  LibraryBy Run = RunLibrary below (main_name words order.main_name)
  LibraryBy Resume = no_library
  LibraryBy Board = no_library
  LibraryBy Stress = no_library

-- over the library below
module _ (order : Order) (call : Call) (below : Shelf) where
  -- how a command ended that runs nothing
  abbrev pub Finishes : Command → Type 0
  Finishes command = Shows call (EndsAt (DoesBy order call.words below command) call.words)

  -- how one ended that runs such a library
  abbrev pub RunsBy : Command → Type 0
  RunsBy command = ShowsPorts call (EndsRun (LibraryBy order call.words below command) (room_of order) order.steps (first_name call.words))

  -- how one ended whose state is saved, if that is ordered
  abbrev pub RunsOrSaves : Command → Type 0
  RunsOrSaves command =
      ShowsPorts call (EndsRunTo (saved_name call.words (save_by command order.save)) (LibraryBy order call.words below command)
      (room_of order) order.steps (first_name call.words))

  -- how one ended that goes on from a snapshot
  abbrev pub ResumesBy : Type 0
  ResumesBy = ShowsPorts call (EndsResume (ResumeLibrary below) order.steps (first_name call.words) (second_name call.words) call.words order.save)

  -- how each command ended
  abbrev pub ActsBy : Command → Type 0
  ActsBy Go = RunsBy Go
  ActsBy Check = Finishes Check
  ActsBy CheckAs = Finishes CheckAs
  ActsBy Dump = Finishes Dump
  ActsBy Cross = Finishes Cross
  ActsBy Merge = Finishes Merge
  ActsBy Freeze = Finishes Freeze
  ActsBy Migrate = Finishes Migrate
  ActsBy Run = RunsOrSaves Run
  ActsBy Resume = ResumesBy
  ActsBy Board = Finishes Board
  ActsBy Stress = ShowsPorts call (EndsStress order.seed order.count (room_of order) order.steps)

-- how an order ended, over its base if it has one
abbrev pub ObeysBy : Order → Call → Command → Type 0
ObeysBy order call command = Based call (base_by command order.base) (λ below. ActsBy order call below command)
