-- How an order that runs no library ended, by its command.
use Rattle.std.proofs.Common.{◌≡◌, ℕ, List, [], Option, Result, get_or, ap, subst, ◌∙◌, refl}
use Rattle.mpy_io.specs.declared.fault.Failed.{Failed}
use Rattle.image_open.specs.image_grammar.bc_library.Shelf.{Shelf}
use Rattle.meant_commands.specs.source_files.Sources.{stored}
use Rattle.mpy_words.specs.declared.order.Command.TheVariants.{Check, CheckAs, Dump, Cross, Merge, Freeze, Migrate, Board}
use Rattle.mpy_words.specs.declared.order.Order.{Order}
use Rattle.mpy_words.specs.Words.{first_name, second_name, source_name, file_names}
use Rattle.mpy_endings.specs.declared.ending.Ending.{Ending}
use Rattle.mpy_endings.specs.declared.ending.Ending.TheVariants.{Done, Unaccepted, Unread, Unverified, Unmerged, Unopened, Unfrozen, Unboarded, Different, Stopped, ReadFault, WriteFault, Unwritten, NoMemory, Absent}
use Rattle.mpy_endings.specs.Line.{Puts, Says, line_of, name_in, place_in}
use Rattle.mpy_endings.proofs.Said.{says_from}
use Rattle.board_command.specs.command_files.Outside.{Outside, Ends, EndsAt, Writes, WritesOf}
use Rattle.meant_commands.specs.file_commands.Check.{Checks}
use Rattle.meant_commands.specs.file_commands.CheckAs.{ChecksAs}
use Rattle.meant_commands.specs.file_commands.Cross.{Crosses}
use Rattle.meant_commands.specs.file_commands.Dump.{Dumps}
use Rattle.meant_commands.specs.file_commands.Merge.{Merges}
use Rattle.meant_commands.specs.file_commands.Freeze.{Freezes}
use Rattle.meant_commands.specs.file_commands.Migrate.{Migrates}
use Rattle.board_command.specs.Boards.{Boards}
use Rattle.mpy_tool.specs.Below.{image_version}
use Rattle.mpy_tool.specs.Call.{Call, Shows}
use Rattle.mpy_tool.specs.Doing.{Finishes}

-- but where a write failed, the line names the file that was read
name_read : (read written : List ℕ) (ending : Ending) → (ending ≡ Unwritten → ⊥) → name_in read written ending ≡ read
name_read read written Done h = refl
name_read read written (Unaccepted fault) h = refl
name_read read written (Unread fault) h = refl
name_read read written (Unverified fault) h = refl
name_read read written (Unmerged fault) h = refl
name_read read written (Unopened fault) h = refl
name_read read written (Unfrozen fault) h = refl
name_read read written (Unboarded fault) h = refl
name_read read written (Different difference) h = refl
name_read read written (Stopped stop) h = refl
name_read read written ReadFault h = refl
name_read read written WriteFault h = refl
name_read read written Unwritten h = absurd (h refl)
name_read read written NoMemory h = refl
name_read read written Absent h = refl

-- the word at the place of the ending names that file
word_named : (words : List (List ℕ)) (ending : Ending) → get_or words (place_in ending) [] ≡ name_in (first_name words) (second_name words) ending
word_named words Done = refl
word_named words (Unaccepted fault) = refl
word_named words (Unread fault) = refl
word_named words (Unverified fault) = refl
word_named words (Unmerged fault) = refl
word_named words (Unopened fault) = refl
word_named words (Unfrozen fault) = refl
word_named words (Unboarded fault) = refl
word_named words (Different difference) = refl
word_named words (Stopped stop) = refl
word_named words ReadFault = refl
word_named words WriteFault = refl
word_named words Unwritten = refl
word_named words NoMemory = refl
word_named words Absent = refl

-- what was said, by the word at a place
pub said_at : (old new : Option (List ℕ)) (count_old count_new : ℕ) (words : List (List ℕ)) (said : List ℕ) (place : ℕ) (ending : Ending) (r : Result (Unit {0}) Failed)
    → said ≡ get_or words place [] → Puts old new count_old count_new (line_of said ending) r → Says old new count_old count_new (line_of (get_or words place []) ending)
said_at old new count_old count_new words said place ending r e p =
    subst (λ (n : List ℕ). Says old new count_old count_new (line_of n ending)) e (says_from old new count_old count_new (line_of said ending) r p)

module _ (words : List (List ℕ)) (old new : Outside) where
  abbrev SaysOf : List ℕ → Ending → Type 0
  SaysOf name ending = Says old.say new.say old.say_faults new.say_faults (line_of name ending)

  named_in : (place : ℕ) (ending : Ending) → place ≡ place_in ending → SaysOf (get_or words place []) ending → SaysOf (name_in (first_name words) (second_name words) ending) ending
  named_in place ending at says = subst (λ (n : List ℕ). SaysOf n ending) (ap (λ (n : ℕ). get_or words n []) at ∙ word_named words ending) says

  named_first : (place : ℕ) (ending : Ending) → place ≡ place_in ending → (ending ≡ Unwritten → ⊥) → SaysOf (get_or words place []) ending → SaysOf (first_name words) ending
  named_first place ending at apart says =
      subst (λ (n : List ℕ). SaysOf n ending) (name_read (first_name words) (second_name words) ending apart) (named_in place ending at says)

-- each command's own form
-- =======================

module _ (order : Order) (call : Call) (below : Shelf) where
  pub checked : Finishes order call below Check → Shows call (Ends Checks (first_name call.words))
  checked h = record {
    ending = h.ending;
    status_is = h.status_is;
    went = h.went.0;
    folder_counts = h.folder_counts;
    out_counts = h.out_counts;
    says = named_first call.words call.old call.new h.place h.ending h.went.1 (λ e. subst (λ (x : Ending). Checks call.old.files (first_name call.words) x call.old.out call.new.out) e h.went.0) h.says;
  }

  pub checked_as : Finishes order call below CheckAs
      → Shows call (EndsAt (λ old new before behind. ChecksAs order.level old (first_name call.words) (second_name call.words) before behind) call.words)
  checked_as h = record {
    ending = h.ending;
    place = h.place;
    status_is = h.status_is;
    went = h.went;
    folder_counts = h.folder_counts;
    out_counts = h.out_counts;
    says = h.says;
  }

  pub dumped : Finishes order call below Dump → Shows call (Ends Dumps (first_name call.words))
  dumped h = record {
    ending = h.ending;
    status_is = h.status_is;
    went = h.went.0;
    folder_counts = h.folder_counts;
    out_counts = h.out_counts;
    says = named_first call.words call.old call.new h.place h.ending h.went.1 (λ e. subst (λ (x : Ending). Dumps call.old.files (first_name call.words) x call.old.out call.new.out) e h.went.0) h.says;
  }

  pub crossed : Finishes order call below Cross → Shows call (Writes (Crosses order.level (first_name call.words) (stored (source_name call.words order.stored_name)) (second_name call.words)) (first_name call.words) (second_name call.words))
  crossed h = record {
    ending = h.ending;
    status_is = h.status_is;
    went = h.went.0;
    prints = h.went.1;
    folder_counts = h.folder_counts;
    out_counts = h.out_counts;
    says = named_in call.words call.old call.new h.place h.ending h.went.2 h.says;
  }

  pub frozen : Finishes order call below Freeze → Shows call (Writes (Freezes (image_version order.base) below (first_name call.words) (second_name call.words)) (first_name call.words) (second_name call.words))
  frozen h = record {
    ending = h.ending;
    status_is = h.status_is;
    went = h.went.0;
    prints = h.went.1;
    folder_counts = h.folder_counts;
    out_counts = h.out_counts;
    says = named_in call.words call.old call.new h.place h.ending h.went.2 h.says;
  }

  pub migrated : Finishes order call below Migrate → Shows call (Writes (Migrates (first_name call.words) (second_name call.words)) (first_name call.words) (second_name call.words))
  migrated h = record {
    ending = h.ending;
    status_is = h.status_is;
    went = h.went.0;
    prints = h.went.1;
    folder_counts = h.folder_counts;
    out_counts = h.out_counts;
    says = named_in call.words call.old call.new h.place h.ending h.went.2 h.says;
  }

  pub merged : Finishes order call below Merge → Shows call (WritesOf (Merges (file_names call.words) (first_name call.words)) call.words)
  merged h = record {
    ending = h.ending;
    place = h.place;
    status_is = h.status_is;
    went = h.went.0;
    prints = h.went.1;
    folder_counts = h.folder_counts;
    out_counts = h.out_counts;
    says = h.says;
  }

  pub boarded : Finishes order call below Board → Shows call (EndsAt (Boards below (first_name call.words) (second_name call.words)) call.words)
  boarded h = record {
    ending = h.ending;
    place = h.place;
    status_is = h.status_is;
    went = h.went;
    folder_counts = h.folder_counts;
    out_counts = h.out_counts;
    says = h.says;
  }
