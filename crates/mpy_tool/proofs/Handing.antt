-- A command that was done, and whose text was handed on, or couldn't be.
use Rattle.std.proofs.Common.{◌≡◌, inl, inr, ℕ, List, Option, Some, None, subst}
use Rattle.std.specs.Io.KnownBytes.{Keeps}
use Rattle.std.proofs.KnownBytes.{Appends-kept, Keeps-trans}
use Rattle.mpy_io.specs.Files.{FileOf}
use Rattle.image_open.specs.image_grammar.bc_library.Shelf.{Shelf}
use Rattle.mpy_words.specs.declared.order.Command.{Command}
use Rattle.mpy_words.specs.declared.order.Command.TheVariants.{Go, Check, CheckAs, Dump, Cross, Merge, Freeze, Migrate, Run, Resume, Board, Stress}
use Rattle.mpy_words.specs.declared.order.Order.{Order}
use Rattle.mpy_words.specs.Words.{first_name, second_name}
use Rattle.mpy_endings.specs.declared.ending.Ending.{Ending}
use Rattle.mpy_endings.specs.declared.ending.Ending.TheVariants.{Done, Stopped, WriteFault}
use Rattle.mpy_endings.specs.declared.ending.Stop.{Stop}
use Rattle.mpy_endings.specs.declared.ending.Stop.TheVariants.{Raised, Memory, Steps, Unsaved}
use Rattle.mpy_endings.specs.Ending.{IsRunStatus, status_of}
use Rattle.mpy_endings.proofs.Statuses.{none_unsaved, run_ended}
use Rattle.meant_commands.specs.file_commands.Check.{verified_line}
use Rattle.meant_commands.specs.file_commands.CheckAs.{translation_line}
use Rattle.meant_commands.proofs.file_commands_lemmas.HandedOn.{checks_cut, checks_as_cut, dumps_cut}
use Rattle.board_command.proofs.Ending.{unflushed}
use Rattle.mpy_tool.specs.Doing.{DoesBy}
use Rattle.mpy_tool.proofs.Flushing.{flushed}

module _ (order : Order) (words : List (List ℕ)) (below : Shelf) (old new : Option FileOf) (a b c : Option (List ℕ)) (place : ℕ) (q : Keeps b c) where
  -- what was held back is told already
  pub handed_on : (command : Command) → DoesBy order words below command old new a b place Done → DoesBy order words below command old new a c place Done
  handed_on Go p = absurd p
  handed_on Check p = ((p.0.0, p.0.1, Appends-kept a b c (verified_line p.0.0) p.0.2 q), p.1)
  handed_on CheckAs p = (p.0, p.1, Appends-kept a b c (translation_line p.0) p.2 q)
  handed_on Dump p = ((p.0.0, p.0.1, Appends-kept a b c p.0.0 p.0.2 q), p.1)
  handed_on Cross p = (p.0, Keeps-trans a b c p.1 q, p.2)
  handed_on Merge p = (p.0, Keeps-trans a b c p.1 q)
  handed_on Freeze p = (p.0, Keeps-trans a b c p.1 q, p.2)
  handed_on Migrate p = (p.0, Keeps-trans a b c p.1 q, p.2)
  handed_on Run p = absurd p
  handed_on Resume p = absurd p
  handed_on Stress p = absurd p
  handed_on Board p = flushed below (first_name words) (second_name words) old new a b c place q p

  pub held_back : (command : Command) → DoesBy order words below command old new a b place Done → DoesBy order words below command old new a c place WriteFault
  held_back Go p = absurd p
  held_back Check p = (checks_cut old (first_name words) a b c q p.0, p.1)
  held_back CheckAs p = checks_as_cut order.level old (first_name words) (second_name words) a b c place q p
  held_back Dump p = (dumps_cut old (first_name words) a b c q p.0, p.1)
  held_back Cross p = (p.0, Keeps-trans a b c p.1 q, p.2)
  held_back Merge p = (p.0, Keeps-trans a b c p.1 q)
  held_back Freeze p = (p.0, Keeps-trans a b c p.1 q, p.2)
  held_back Migrate p = (p.0, Keeps-trans a b c p.1 q, p.2)
  held_back Run p = absurd p
  held_back Resume p = absurd p
  held_back Stress p = absurd p
  held_back Board p = unflushed below (first_name words) (second_name words) old new a b c place q p

module _ (order : Order) (words : List (List ℕ)) (below : Shelf) (old new : Option FileOf) (before behind : Option (List ℕ)) (place : ℕ) where
  -- none of these stops as a run does
  not_stopped : (command : Command) (stop : Stop) → DoesBy order words below command old new before behind place (Stopped stop) → ⊥
  not_stopped Go stop p = p
  not_stopped Check stop p = p.0
  not_stopped CheckAs stop p = elim p [ ]
  not_stopped Dump stop p = p.0
  not_stopped Cross stop p = p.0
  not_stopped Merge stop p = p.0
  not_stopped Freeze stop p = p.0
  not_stopped Migrate stop p = p.0
  not_stopped Run stop p = p
  not_stopped Resume stop p = p
  not_stopped Stress stop p = p
  not_stopped Board stop p = p

  -- with the status of a run it is done
  pub done_of : (command : Command) (ending : Ending) → DoesBy order words below command old new before behind place ending → IsRunStatus (status_of ending) → ending ≡ Done
  done_of command ending p s =
      let At = λ (e : Ending). DoesBy order words below command old new before behind place e in
      elim (run_ended ending s) [
        | inl e ↦ e
        | inr (inl e) ↦ absurd (not_stopped command Raised (subst At e p))
        | inr (inr (inl e)) ↦ absurd (not_stopped command Memory (subst At e p))
        | inr (inr (inr e)) ↦ absurd (not_stopped command (Steps e.0) (subst At e.1 p))
      ]

  -- none of these saves a state
  pub not_unsaved : (command : Command) (ending : Ending) → DoesBy order words below command old new before behind place ending → status_of ending ≡ 13 → ⊥
  not_unsaved command ending p s = none_unsaved (λ (e : Ending). DoesBy order words below command old new before behind place e) (λ q. not_stopped command Unsaved q) ending p s
