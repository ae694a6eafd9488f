-- What the outside tells before and after a command, and how the command ended.
use Rattle.std.specs.Prelude.{◌≡◌, ℕ, List, Option, [], slice_index_or}
use Rattle.std.specs.Io.KnownBytes.{Keeps}
use Rattle.mpy_io.specs.Count.{Counts}
use Rattle.mpy_io.specs.Files.{FileOf}
use Rattle.mpy_endings.specs.declared.ending.Ending.{Ending}
use Rattle.mpy_endings.specs.Ending.{is_folder_fault, is_out_fault, status_of}
use Rattle.mpy_endings.specs.Line.{Says, line_of, name_in}

-- what a folder and two sinks tell, and their counts of faults
pub record Outside : Type 0 where
  pub files : Option FileOf
  pub folder_faults : ℕ
  pub out : Option (List ℕ)
  pub out_faults : ℕ
  pub say : Option (List ℕ)
  pub say_faults : ℕ

-- what they tell, by their members, in three states
abbrev pub seen : {F S E : Type 0} → (F → Option FileOf) → (F → ℕ) → (S → Option (List ℕ)) → (S → ℕ) → (E → Option (List ℕ)) → (E → ℕ) → F → S → E → Outside
seen files folder_faults out out_faults say say_faults f s e = record {
  files = files f;
  folder_faults = folder_faults f;
  out = out s;
  out_faults = out_faults s;
  say = say e;
  say_faults = say_faults e;
}

-- A command on the file of this name ended so: why, with what printed, which count of faults rose, and what was said. The
-- relation says what it has to do with what the folder has and what was printed.
pub record Ends (Relates : Option FileOf → List ℕ → Ending → Option (List ℕ) → Option (List ℕ)
    → Type 0) (name : List ℕ) (old new : Outside) (status : ℕ) : Type 0 where
  pub ending : Ending
  pub status_is : status ≡ status_of ending
  pub went : Relates old.files name ending old.out new.out
  pub folder_counts : Counts old.folder_faults new.folder_faults (is_folder_fault ending)
  pub out_counts : Counts old.out_faults new.out_faults (is_out_fault ending)
  pub says : Says old.say new.say old.say_faults new.say_faults (line_of name ending)

-- A command that reads a file and writes another ended so: why, with what in the folder, which count of faults rose, and
-- what was said. Nothing was printed.
pub record Writes (Relates : Option FileOf → Option FileOf → Ending → Type 0) (read written : List ℕ) (old new : Outside) (status : ℕ) : Type 0 where
  pub ending : Ending
  pub status_is : status ≡ status_of ending
  pub went : Relates old.files new.files ending
  pub prints : Keeps old.out new.out
  pub folder_counts : Counts old.folder_faults new.folder_faults (is_folder_fault ending)
  pub out_counts : Counts old.out_faults new.out_faults (is_out_fault ending)
  pub says : Says old.say new.say old.say_faults new.say_faults (line_of (name_in read written ending) ending)

-- The same of a command that reads several files: the line names the word at a place, which the relation speaks of.
pub record WritesOf (Relates : Option FileOf → Option FileOf → ℕ → Ending → Type 0) (words : List (List ℕ)) (old new : Outside) (status : ℕ) : Type 0 where
  pub ending : Ending
  pub place : ℕ
  pub status_is : status ≡ status_of ending
  pub went : Relates old.files new.files place ending
  pub prints : Keeps old.out new.out
  pub folder_counts : Counts old.folder_faults new.folder_faults (is_folder_fault ending)
  pub out_counts : Counts old.out_faults new.out_faults (is_out_fault ending)
  pub says : Says old.say new.say old.say_faults new.say_faults (line_of (slice_index_or words place []) ending)

-- The same of a command that may print and write: the relation speaks of both.
pub record EndsAt (Relates : (old new : Option FileOf) → (before behind : Option (List ℕ)) → (place : ℕ) → Ending
    → Type 0) (words : List (List ℕ)) (old new : Outside) (status : ℕ) : Type 0 where
  pub ending : Ending
  pub place : ℕ
  pub status_is : status ≡ status_of ending
  pub went : Relates old.files new.files old.out new.out place ending
  pub folder_counts : Counts old.folder_faults new.folder_faults (is_folder_fault ending)
  pub out_counts : Counts old.out_faults new.out_faults (is_out_fault ending)
  pub says : Says old.say new.say old.say_faults new.say_faults (line_of (slice_index_or words place []) ending)
