-- The commands, the words that each names, and its options.
use Rattle.std.specs.Prelude.{ℕ, Bool, true, false, List, [], ◌∷◌, Option, Some, None, codes, bytes_eq, if◌then◌else◌}
use Rattle.mpy_words.specs.declared.order.Command.{Command}
use Rattle.mpy_words.specs.declared.order.Command.TheVariants.{Go, Check, CheckAs, Dump, Cross, Merge, Freeze, Migrate, Run, Resume, Board, Stress}
use Rattle.mpy_words.specs.declared.order.Named.{Named}
use Rattle.mpy_words.specs.declared.order.Named.TheVariants.{Source, File, Input, Output, Manifest, Image, Plan, Snapshot, Seed, Count}
use Rattle.mpy_words.specs.declared.order.Setting.{Setting}
use Rattle.mpy_words.specs.declared.order.Setting.TheVariants.{Level, StoredName, MainName, Base, Save, Cells, Bytes, Steps}

-- how usage and messages call a named word
abbrev pub name_of : Named → List ℕ
name_of Source = codes "SRC"
name_of File = codes "FILE"
name_of Input = codes "IN"
name_of Output = codes "OUT"
name_of Manifest = codes "MANIFEST"
name_of Image = codes "IMAGE"
name_of Plan = codes "PLAN"
name_of Snapshot = codes "SNAP"
name_of Seed = codes "SEED"
name_of Count = codes "COUNT"

-- the word of an option
abbrev pub spelling_of : Setting → List ℕ
spelling_of Level = codes "-O"
spelling_of StoredName = codes "-s"
spelling_of MainName = codes "-m"
spelling_of Base = codes "--base"
spelling_of Save = codes "--save"
spelling_of Cells = codes "--cells"
spelling_of Bytes = codes "--bytes"
spelling_of Steps = codes "--steps"

-- the command of a first word
abbrev pub command_of : List ℕ → Option Command
command_of word =
    if bytes_eq word (codes "go") then Some Go
    else (if bytes_eq word (codes "check") then Some Check
    else (if bytes_eq word (codes "dump") then Some Dump
    else (if bytes_eq word (codes "cross") then Some Cross
    else (if bytes_eq word (codes "merge") then Some Merge
    else (if bytes_eq word (codes "freeze") then Some Freeze
    else (if bytes_eq word (codes "migrate") then Some Migrate
    else (if bytes_eq word (codes "run") then Some Run
    else (if bytes_eq word (codes "resume") then Some Resume
    else (if bytes_eq word (codes "board") then Some Board
    else (if bytes_eq word (codes "stress") then Some Stress else None))))))))))

-- the words that stand behind a command
abbrev pub names_of : Command → List Named
names_of Go = Source ∷ []
names_of Check = File ∷ []
names_of CheckAs = Source ∷ File ∷ []
names_of Dump = File ∷ []
names_of Cross = Source ∷ File ∷ []
names_of Merge = Output ∷ []
names_of Freeze = Manifest ∷ Output ∷ []
names_of Migrate = Input ∷ Output ∷ []
names_of Run = File ∷ []
names_of Resume = File ∷ Snapshot ∷ []
names_of Board = Image ∷ Plan ∷ []
names_of Stress = Seed ∷ Count ∷ []

-- does the command take files behind these, as many as there are?
abbrev pub takes_files : Command → Bool
takes_files Go = false
takes_files Check = false
takes_files CheckAs = false
takes_files Dump = false
takes_files Cross = false
takes_files Merge = true
takes_files Freeze = false
takes_files Migrate = false
takes_files Run = false
takes_files Resume = false
takes_files Board = false
takes_files Stress = false

-- does the option name a file, so that no value of it begins with `-`?
abbrev pub names_file : Setting → Bool
names_file Level = false
names_file StoredName = false
names_file MainName = false
names_file Base = true
names_file Save = true
names_file Cells = false
names_file Bytes = false
names_file Steps = false

-- the option of a run that a word is
abbrev pub run_setting_of : List ℕ → Option Setting
run_setting_of word =
    if bytes_eq word (codes "--cells") then Some Cells
    else (if bytes_eq word (codes "--bytes") then Some Bytes
    else (if bytes_eq word (codes "--steps") then Some Steps else None))

-- the option of a command over a base that a word is
abbrev pub base_setting_of : List ℕ → Option Setting
base_setting_of word = if bytes_eq word (codes "--base") then Some Base else None

-- the option that a word behind these is
abbrev pub setting_of : Command → List ℕ → Option Setting
setting_of Go word = if bytes_eq word (codes "-O") then Some Level else run_setting_of word
setting_of Check word = None
setting_of CheckAs word = if bytes_eq word (codes "-O") then Some Level else None
setting_of Dump word = None
setting_of Merge word = None
setting_of Freeze word = base_setting_of word
setting_of Migrate word = None
setting_of Board word = base_setting_of word
setting_of Stress word = None
setting_of Run word =
    if bytes_eq word (codes "-m") then Some MainName
    else (if bytes_eq word (codes "--base") then Some Base
    else (if bytes_eq word (codes "--save") then Some Save else run_setting_of word))
setting_of Resume word =
    if bytes_eq word (codes "--save") then Some Save
    else (if bytes_eq word (codes "--steps") then Some Steps else base_setting_of word)
setting_of Cross word =
    if bytes_eq word (codes "-O") then Some Level
    else (if bytes_eq word (codes "-s") then Some StoredName else None)
