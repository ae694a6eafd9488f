-- Calls that failed are told by the status.
use Rattle.std.proofs.Common.{ℕ, List, Option, Some, None, inl, inr}
use Rattle.image_open.specs.image_grammar.bc_library.Shelf.{Shelf, no_entries}
use Rattle.mpy_words.specs.declared.order.Command.{Command}
use Rattle.mpy_words.specs.declared.order.Command.TheVariants.{Go, Check, CheckAs, Dump, Cross, Merge, Freeze, Migrate, Run, Resume, Board, Stress}
use Rattle.mpy_words.specs.declared.order.Order.{Order}
use Rattle.mpy_words.specs.Words.{first_name, saved_name}
use Rattle.meant_commands.specs.run_commands.Run.{room_of}
use Rattle.meant_commands.specs.run_commands.Save.{EndsRunTo}
use Rattle.mpy_endings.proofs.Statuses.{folder_stays, out_stays}
use Rattle.meant_commands.specs.run_commands.Stress.{EndsStress}
use Rattle.mpy_tool.specs.Below.{Based}
use Rattle.mpy_tool.specs.Call.{Call, LeavesCounts, ShowsPorts}
use Rattle.mpy_tool.specs.Doing.{ActsBy, Finishes, LibraryBy, ResumesBy, RunsBy, ObeysBy}
use Rattle.mpy_tool.specs.Order.{base_by}

module _ (order : Order) (call : Call) (below : Shelf) where
  finish_stays : (command : Command) → Finishes order call below command → LeavesCounts call
  finish_stays command h unread unwritten = (
    folder_stays h.ending call.status h.status_is unread unwritten call.old.folder_faults call.new.folder_faults h.folder_counts,
    out_stays h.ending call.status h.status_is unread unwritten call.old.out_faults call.new.out_faults h.out_counts,
  )

  run_stays : (command : Command) → RunsBy order call below command → LeavesCounts call
  run_stays command h unread unwritten = (
    folder_stays h.ending call.status h.status_is unread unwritten call.old.folder_faults call.new.folder_faults h.folder_counts,
    out_stays h.ending call.status h.status_is unread unwritten call.old.out_faults call.new.out_faults h.out_counts,
  )

  save_stays : (snap : Option (List ℕ)) → ShowsPorts call (EndsRunTo snap (LibraryBy order call.words below Run) (room_of order) order.steps (first_name call.words)) → LeavesCounts call
  save_stays None h unread unwritten = (
    folder_stays h.ending call.status h.status_is unread unwritten call.old.folder_faults call.new.folder_faults h.folder_counts,
    out_stays h.ending call.status h.status_is unread unwritten call.old.out_faults call.new.out_faults h.out_counts,
  )
  save_stays (Some snap) h unread unwritten = (
    folder_stays h.ending call.status h.status_is unread unwritten call.old.folder_faults call.new.folder_faults h.folder_counts,
    out_stays h.ending call.status h.status_is unread unwritten call.old.out_faults call.new.out_faults h.out_counts,
  )

  resume_stays : ResumesBy order call below → LeavesCounts call
  resume_stays h unread unwritten = (
    folder_stays h.ending call.status h.status_is unread unwritten call.old.folder_faults call.new.folder_faults h.folder_counts,
    out_stays h.ending call.status h.status_is unread unwritten call.old.out_faults call.new.out_faults h.out_counts,
  )

  stress_stays : ShowsPorts call (EndsStress order.seed order.count (room_of order) order.steps) → LeavesCounts call
  stress_stays (inl h) unread unwritten = (
    folder_stays h.goes.ending call.status h.goes.status_is unread unwritten call.old.folder_faults call.new.folder_faults h.goes.folder_counts,
    out_stays h.goes.ending call.status h.goes.status_is unread unwritten call.old.out_faults call.new.out_faults h.goes.out_counts,
  )
  stress_stays (inr (inl h)) unread unwritten = absurd (unwritten h.status_is)
  stress_stays (inr (inr h)) unread unwritten = (
    folder_stays h.goes.ending call.status h.goes.status_is unread unwritten call.old.folder_faults call.new.folder_faults h.goes.folder_counts,
    out_stays h.goes.ending call.status h.goes.status_is unread unwritten call.old.out_faults call.new.out_faults h.goes.out_counts,
  )

  acts_stay : (command : Command) → ActsBy order call below command → LeavesCounts call
  acts_stay Go h = run_stays Go h
  acts_stay Check h = finish_stays Check h
  acts_stay CheckAs h = finish_stays CheckAs h
  acts_stay Dump h = finish_stays Dump h
  acts_stay Cross h = finish_stays Cross h
  acts_stay Merge h = finish_stays Merge h
  acts_stay Freeze h = finish_stays Freeze h
  acts_stay Migrate h = finish_stays Migrate h
  acts_stay Run h = save_stays (saved_name call.words order.save) h
  acts_stay Resume h = resume_stays h
  acts_stay Board h = finish_stays Board h
  acts_stay Stress h = stress_stays h

pub obeys_stay : (order : Order) (call : Call) (command : Command) → ObeysBy order call command → LeavesCounts call
obeys_stay order call command h = by (base_by command order.base) h where
  by : (base : Option ℕ) → Based call base (λ below. ActsBy order call below command) → LeavesCounts call
  by None h unread unwritten = acts_stay order call no_entries command h unread unwritten
  by (Some at) (inl h) unread unwritten =
      (folder_stays h.0.ending call.status h.0.status_is unread unwritten call.old.folder_faults call.new.folder_faults h.0.folder_counts, h.0.out_counts)
  by (Some at) (inr h) unread unwritten = acts_stay order call h.below command h.went unread unwritten
