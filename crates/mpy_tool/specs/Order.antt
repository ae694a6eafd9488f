-- What orders write and call, and which of them stand on a base.
use Rattle.std.specs.Prelude.{◌≡◌, ◌||◌, ℕ, List, Bool, true, false, Option, None, Some, Ok, Err}
use Rattle.std.specs.Io.KnownBytes.{Keeps}
use Rattle.mpy_base.specs.declared.limits.TheConstants.{MAX_TASKS}
use Rattle.mpy_io.specs.Files.{FileOf}
use Rattle.mpy_words.specs.declared.order.Command.{Command}
use Rattle.mpy_words.specs.declared.order.Command.TheVariants.{Go, Check, CheckAs, Dump, Cross, Merge, Freeze, Migrate, Run, Resume, Board, Stress}
use Rattle.mpy_words.specs.declared.order.WordFault.{WordFault}
use Rattle.mpy_words.specs.Words.{Outcome, first_name, saved_name, second_name}
use Rattle.mpy_endings.specs.Line.{Says, words_line}
use Rattle.board_command.specs.board_files.Files.{KeepsOthers}
use Rattle.board_command.specs.command_files.Folder.{ChangesOnly}
use Rattle.board_command.specs.command_files.Outside.{Outside}

-- words of no order end with status 2, and nothing is done but to say so
pub record RefusesWords (words : List (List ℕ)) (fault : WordFault) (old new : Outside) (status : ℕ) : Type 0 where
  pub status_is : status ≡ 2
  pub prints : Keeps old.out new.out
  pub reads : new.folder_faults ≡ old.folder_faults
  pub writes : new.out_faults ≡ old.out_faults
  pub says : Says old.say new.say old.say_faults new.say_faults (words_line words fault)

-- no file changed but the one that a run saves to, if one is ordered
abbrev pub ChangesSaved : Option (List ℕ) → (old new : Option FileOf) → Type 0
ChangesSaved None old new = new ≡ old
ChangesSaved (Some snap) old new = ChangesOnly old new snap

-- no file changed but those that the command writes: OUT, the one that a run saves to, or the files of a board's tasks
abbrev pub ChangesBy : List (List ℕ) → (save : Option ℕ) → Command → (old new : Option FileOf) → Type 0
ChangesBy words save Go old new = new ≡ old
ChangesBy words save Check old new = new ≡ old
ChangesBy words save CheckAs old new = new ≡ old
ChangesBy words save Dump old new = new ≡ old
ChangesBy words save Cross old new = ChangesOnly old new (second_name words)
ChangesBy words save Merge old new = ChangesOnly old new (first_name words)
ChangesBy words save Freeze old new = ChangesOnly old new (second_name words)
ChangesBy words save Migrate old new = ChangesOnly old new (second_name words)
ChangesBy words save Run old new = ChangesSaved (saved_name words save) old new
ChangesBy words save Resume old new = ChangesSaved (saved_name words save) old new
ChangesBy words save Board old new = KeepsOthers MAX_TASKS old new
ChangesBy words save Stress old new = new ≡ old

-- no file changed but those that the ordered command writes; words of no order write none
abbrev pub ChangesIn : List (List ℕ) → Outcome → (old new : Option FileOf) → Type 0
ChangesIn words (Err fault) old new = new ≡ old
ChangesIn words (Ok order) old new = ChangesBy words order.save order.command old new

-- whether a command runs the library of a file or a source of the folder
abbrev pub runs_library : Command → Bool
runs_library Go = true
runs_library Check = false
runs_library CheckAs = false
runs_library Dump = false
runs_library Cross = false
runs_library Merge = false
runs_library Freeze = false
runs_library Migrate = false
runs_library Run = true
runs_library Resume = false
runs_library Board = false
runs_library Stress = false

-- whether a command runs a source that it makes
abbrev pub makes_source : Command → Bool
makes_source Go = false
makes_source Check = false
makes_source CheckAs = false
makes_source Dump = false
makes_source Cross = false
makes_source Merge = false
makes_source Freeze = false
makes_source Migrate = false
makes_source Run = false
makes_source Resume = false
makes_source Board = false
makes_source Stress = true

-- whether a command goes on from a snapshot
abbrev pub resumes_run : Command → Bool
resumes_run Go = false
resumes_run Check = false
resumes_run CheckAs = false
resumes_run Dump = false
resumes_run Cross = false
resumes_run Merge = false
resumes_run Freeze = false
resumes_run Migrate = false
resumes_run Run = false
resumes_run Resume = true
resumes_run Board = false
resumes_run Stress = false

-- whether a command may call ports
abbrev pub calls_ports : Command → Bool
calls_ports command = runs_library command || (makes_source command || resumes_run command)

-- whether what words order may call ports; words of no order call none
abbrev pub calls_ports_in : Outcome → Bool
calls_ports_in (Err fault) = false
calls_ports_in (Ok order) = calls_ports order.command

-- whether a command runs no library and may stand on no base
abbrev pub stands_alone : Command → Bool
stands_alone Go = false
stands_alone Check = true
stands_alone CheckAs = true
stands_alone Dump = true
stands_alone Cross = true
stands_alone Merge = true
stands_alone Freeze = false
stands_alone Migrate = true
stands_alone Run = false
stands_alone Resume = false
stands_alone Board = false
stands_alone Stress = false

-- the place of the name of the file that a run saves to, of a command that may save
abbrev pub save_by : Command → Option ℕ → Option ℕ
save_by Go save = None
save_by Check save = None
save_by CheckAs save = None
save_by Dump save = None
save_by Cross save = None
save_by Merge save = None
save_by Freeze save = None
save_by Migrate save = None
save_by Run save = save
save_by Resume save = save
save_by Board save = None
save_by Stress save = None

-- the place of the base's name, of a command that may stand on a base
abbrev pub base_by : Command → Option ℕ → Option ℕ
base_by Go base = None
base_by Check base = None
base_by CheckAs base = None
base_by Dump base = None
base_by Cross base = None
base_by Merge base = None
base_by Freeze base = base
base_by Migrate base = None
base_by Run base = base
base_by Resume base = base
base_by Board base = base
base_by Stress base = None
