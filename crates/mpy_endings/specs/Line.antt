-- The line that is said at the end.
use Rattle.std.specs.Prelude.{◌≡◌, ◌⊎◌, ℕ, List, [], ◌∷◌, ◌++◌, Option, Some, None, codes, decimal, slice_index_or, unwrap_or, Result, Ok, Err}
use Rattle.mpy_io.specs.declared.fault.Failed.{Failed}
use Rattle.std.specs.Io.KnownBytes.{Appends}
use Rattle.mpy_base.specs.declared.source.SourceFault.{SourceFault}
use Rattle.mpy_base.specs.Source.{number_of, name_of}
use Rattle.mpy_io.specs.Count.{Rose}
use Rattle.mpy_io.specs.Told.{AppendsFront}
use Rattle.image_runs.specs.library_files.mpy_reader.declared.fault.FileFault.{FileFault}
use Rattle.image_runs.specs.library_files.mpy_reader.Fault as file
use Rattle.bc_verify.specs.declared.fault.VerifyFault.{VerifyFault}
use Rattle.bc_verify.specs.Rule as rule
use Rattle.mpy_merge.specs.declared.fault.MergeFault.{MergeFault}
use Rattle.mpy_merge.specs.Numbers as merge
use Rattle.manifest_files.specs.declared.fault.ManifestFault.{ManifestFault}
use Rattle.manifest_files.specs.declared.fault.ManifestFault.TheVariants as manifests
use Rattle.manifest_files.specs.Faults as manifest
use Rattle.manifest_files.specs.image_grammar.declared.fault.ImageFault.{ImageFault}
use Rattle.manifest_files.specs.image_grammar.Fault as image
use Rattle.image_runs.specs.declared.fault.MainFault.{MainFault}
use Rattle.image_runs.specs.declared.fault.MainFault.TheVariants as mains
use Rattle.manifest_files.specs.declared.frozen_fault.SourcesFault.{SourcesFault}
use Rattle.manifest_files.specs.declared.frozen_fault.SourcesFault.TheVariants as sources
use Rattle.manifest_files.specs.declared.frozen_fault.FrozenFault.{FrozenFault}
use Rattle.manifest_files.specs.declared.frozen_fault.FrozenFault.TheVariants as frozen
use Rattle.board_plan.specs.declared.plan.PlanFault.{PlanFault}
use Rattle.board_plan.specs.declared.plan.PlanFault.TheVariants as plans
use Rattle.trans_parts.specs.Names as part
use Rattle.mpy_words.specs.declared.order.WordFault.{WordFault}
use Rattle.mpy_words.specs.declared.order.WordFault.TheVariants.{NoCommand, Unknown, MissingName, MissingValue, BadNumber, Twice}
use Rattle.mpy_words.specs.Command.{name_of as word_name, spelling_of}
use Rattle.mpy_endings.specs.declared.ending.Ending.{Ending}
use Rattle.mpy_endings.specs.declared.ending.Ending.TheVariants.{Done, Unaccepted, Unread, Unverified, Unmerged, Unopened}
use Rattle.mpy_endings.specs.declared.ending.Ending.TheVariants.{Unfrozen, Unboarded, Different, Stopped, ReadFault, WriteFault}
use Rattle.mpy_endings.specs.declared.ending.Ending.TheVariants.{Unwritten, NoMemory, Absent}
use Rattle.mpy_endings.specs.declared.ending.Difference.{Difference}
use Rattle.mpy_endings.specs.declared.ending.BoardFault.{BoardFault}
use Rattle.mpy_endings.specs.declared.ending.BoardFault.TheVariants as boards
use Rattle.mpy_endings.specs.declared.ending.Stop.{Stop}
use Rattle.mpy_endings.specs.declared.ending.Stop.TheVariants.{Past, LibraryFault, LibraryUnaccepted, Raised, Memory, Steps, Unsaved, Unresumed}
use Rattle.image_runs.specs.library_files.declared.limit.Limit.TheVariants as limits
use Rattle.snap_grammar.specs.declared.fault.SnapFault.{SnapFault}
use Rattle.snap_grammar.specs.declared.fault.SnapFault.TheVariants as snapshots

-- a word that a fault names, left out where it is empty
abbrev pub spaced : List ℕ → List ℕ
spaced [] = []
spaced (byte ∷ bytes) = 32 ∷ byte ∷ bytes

-- what is said of a name, and the name
abbrev pub named_line : (what name : List ℕ) → List ℕ
named_line what name = what ++ (spaced name ++ codes "\n")

-- what is said of a fault of the words, and the word that it names
abbrev pub fault_text : WordFault → List ℕ
fault_text NoCommand = codes "mpy: words 1 NoCommand"
fault_text (Unknown at) = codes "mpy: words 2 Unknown"
fault_text (MissingName wanted) = codes "mpy: words 3 Missing"
fault_text (MissingValue setting) = codes "mpy: words 3 Missing"
fault_text (BadNumber at) = codes "mpy: words 4 BadNumber"
fault_text (Twice setting) = codes "mpy: words 5 Twice"

-- the word that a fault of the words names
abbrev pub fault_word : List (List ℕ) → WordFault → List ℕ
fault_word words NoCommand = []
fault_word words (Unknown at) = slice_index_or words at []
fault_word words (MissingName wanted) = word_name wanted
fault_word words (MissingValue setting) = spelling_of setting
fault_word words (BadNumber at) = slice_index_or words at []
fault_word words (Twice setting) = spelling_of setting

-- the line of a fault of the words
abbrev pub words_line : List (List ℕ) → WordFault → List ℕ
words_line words fault = fault_text fault ++ (spaced (fault_word words fault) ++ codes "\n")

-- the line of a source's fault
abbrev pub source_line : List ℕ → SourceFault → List ℕ
source_line name fault =
    (codes "mpy: " ++ name ++ codes ": source ")
    ++ (decimal (number_of fault.code) ++ codes " " ++ name_of fault.code)
    ++ (spaced fault.word ++ codes " line ")
    ++ (decimal fault.line ++ codes "\n")

-- the tag of an object or the place of a module that a fault names
abbrev pub tag_text : Option ℕ → List ℕ
tag_text None = []
tag_text (Some tag) = codes " " ++ decimal tag

-- the line of a file's fault
abbrev pub file_line : List ℕ → FileFault → List ℕ
file_line name fault =
    (codes "mpy: " ++ name ++ codes ": file ")
    ++ (decimal (file.number_of fault) ++ codes " " ++ file.name_of fault)
    ++ tag_text (file.tag_of fault)
    ++ codes "\n"

-- the places of a path with dots between
abbrev pub path_text : List ℕ → List ℕ
path_text [] = []
path_text (place ∷ []) = decimal place
path_text (place ∷ next ∷ places) = decimal place ++ codes "." ++ path_text (next ∷ places)

-- the line of a rule that a module breaks
abbrev pub verify_line : List ℕ → VerifyFault → List ℕ
verify_line name fault =
    (codes "mpy: " ++ name ++ codes ": verify ")
    ++ (decimal (rule.number_of fault.rule) ++ codes " " ++ rule.name_of fault.rule)
    ++ (codes " code " ++ path_text fault.path)
    ++ (codes " offset " ++ decimal fault.offset ++ codes "\n")

-- where the file of this name differs first from its source: the code, the part, and the position in it
abbrev pub difference_line : List ℕ → Difference → List ℕ
difference_line name difference =
    (codes "mpy: " ++ name ++ codes ": differs")
    ++ (codes " code " ++ path_text difference.path)
    ++ (codes " " ++ part.name_of difference.what ++ codes " ")
    ++ (decimal difference.at ++ codes "\n")

-- what keeps modules from being merged: no file of its own
abbrev pub merge_line : MergeFault → List ℕ
merge_line fault =
    codes "mpy: merge "
    ++ (decimal (merge.number_of fault) ++ codes " " ++ merge.name_of fault)
    ++ tag_text (merge.place_of fault)
    ++ codes "\n"

-- the module name that the fault of an image tells
abbrev pub image_word : ImageFault → List ℕ
image_word fault = unwrap_or (image.word_of fault) []

-- why the bytes of this name are no image
abbrev pub image_line : List ℕ → ImageFault → List ℕ
image_line name fault =
    (codes "mpy: " ++ name ++ codes ": image ")
    ++ (decimal (image.number_of fault) ++ codes " " ++ image.name_of fault)
    ++ tag_text (image.index_of fault)
    ++ (spaced (image_word fault) ++ codes "\n")

-- the line of modules that have no image
abbrev pub modules_line : ImageFault → List ℕ
modules_line fault =
    codes "mpy: image "
    ++ (decimal (image.number_of fault) ++ codes " " ++ image.name_of fault)
    ++ tag_text (image.index_of fault)
    ++ (spaced (image_word fault) ++ codes "\n")

-- the name that the fault of a manifest tells, and the number of a line
abbrev pub manifest_word : ManifestFault → List ℕ
manifest_word (manifests.BadCall name line) = name
manifest_word (manifests.Loop name) = name
manifest_word (manifests.Twice name) = name
manifest_word (manifests.Absent name) = name
manifest_word (manifests.Required name) = name
manifest_word (manifests.Deep name) = name
manifest_word manifests.TooMany = []
manifest_word (manifests.ReadFault name) = name

-- the line of the manifest that a fault tells, if it tells one
abbrev pub manifest_number : ManifestFault → Option ℕ
manifest_number (manifests.BadCall name line) = Some line
manifest_number (manifests.Loop name) = None
manifest_number (manifests.Twice name) = None
manifest_number (manifests.Absent name) = None
manifest_number (manifests.Required name) = None
manifest_number (manifests.Deep name) = None
manifest_number manifests.TooMany = None
manifest_number (manifests.ReadFault name) = None

-- what is said of a fault of the manifest of this name, the first one
abbrev pub manifest_line : List ℕ → ManifestFault → List ℕ
manifest_line name fault =
    (codes "mpy: " ++ name ++ codes ": manifest ")
    ++ (decimal (manifest.number_of fault) ++ codes " " ++ manifest.name_of fault)
    ++ spaced (manifest_word fault)
    ++ (tag_text (manifest_number fault) ++ codes "\n")

-- why the image of this name has no main module
abbrev pub main_line : List ℕ → MainFault → List ℕ
main_line name (mains.Image fault) = image_line name fault
main_line name (mains.NoMain main) = named_line (codes "mpy: absent") main

-- why the manifest of this name has no modules of its sources
abbrev pub sources_line : List ℕ → SourcesFault → List ℕ
sources_line name (sources.Manifest fault) = manifest_line name fault
sources_line name (sources.Absent other) = named_line (codes "mpy: absent") other
sources_line name (sources.Unaccepted other fault) = source_line other fault
sources_line name (sources.Unread other) = named_line (codes "mpy: read fault") other

-- the line of a manifest whose sources have no image
abbrev pub frozen_line : List ℕ → FrozenFault → List ℕ
frozen_line name (frozen.Sources fault) = sources_line name fault
frozen_line name (frozen.Image fault) = modules_line fault

-- what is said of the fault of a plan, and the number of the line that it tells
abbrev pub plan_text : PlanFault → List ℕ
plan_text (plans.BadLine line) = codes "1 BadLine"
plan_text (plans.NoTask line) = codes "2 NoTask"
plan_text plans.TooMany = codes "3 TooMany"

-- the line of the plan that a fault tells, if it tells one
abbrev pub plan_number : PlanFault → Option ℕ
plan_number (plans.BadLine line) = Some line
plan_number (plans.NoTask line) = Some line
plan_number plans.TooMany = None

-- why the text of this name is no plan
abbrev pub plan_line : List ℕ → PlanFault → List ℕ
plan_line name fault =
    (codes "mpy: " ++ name ++ codes ": board ")
    ++ plan_text fault
    ++ tag_text (plan_number fault)
    ++ codes "\n"

-- why the plan of this name wasn't run: a line of it, a module that isn't there, or the file of a task's output
abbrev pub board_line : List ℕ → BoardFault → List ℕ
board_line name (boards.Plan fault) = plan_line name fault
board_line name (boards.NoModule missing) = (codes "mpy: " ++ name ++ codes ": board 4 NoModule ") ++ (missing ++ codes "\n")
board_line name (boards.Unwritten task) = codes "mpy: write fault " ++ decimal task ++ codes ".out\n"

-- what is said of the fault of a snapshot
abbrev pub snapshot_text : SnapFault → List ℕ
snapshot_text snapshots.BadHeader = codes "1 BadHeader"
snapshot_text snapshots.BadForm = codes "2 BadForm"
snapshot_text snapshots.BadState = codes "3 BadState"

-- why a run doesn't go on from the file of this name
abbrev pub snapshot_line : List ℕ → SnapFault → List ℕ
snapshot_line name fault = (codes "mpy: " ++ name ++ codes ": snapshot ") ++ (snapshot_text fault ++ codes "\n")

-- what kept a file or a source from being run to its end, or on from the file of this name: nothing of what was said in the run
abbrev pub stop_line : List ℕ → Stop → List ℕ
stop_line name (Past limits.TooMany) = codes "mpy: library TooMany\n"
stop_line name (Past limits.Names) = codes "mpy: library Names\n"
stop_line name (LibraryFault path) = named_line (codes "mpy: read fault") path
stop_line name (LibraryUnaccepted source) = source_line source.path source.fault
stop_line name Raised = []
stop_line name Memory = []
stop_line name (Steps count) = codes "mpy: step limit " ++ decimal count ++ codes "\n"
stop_line name Unsaved = codes "mpy: snapshot TooBig\n"
stop_line name (Unresumed fault) = snapshot_line name fault

-- what is said of a command on the file of this name
abbrev pub line_of : List ℕ → Ending → List ℕ
line_of name Done = []
line_of name (Unaccepted fault) = source_line name fault
line_of name (Unread fault) = file_line name fault
line_of name (Unverified fault) = verify_line name fault
line_of name (Unmerged fault) = merge_line fault
line_of name (Unopened fault) = main_line name fault
line_of name (Unfrozen fault) = frozen_line name fault
line_of name (Unboarded fault) = board_line name fault
line_of name (Different difference) = difference_line name difference
line_of name (Stopped stop) = stop_line name stop
line_of name ReadFault = named_line (codes "mpy: read fault") name
line_of name WriteFault = codes "mpy: write fault out\n"
line_of name Unwritten = named_line (codes "mpy: write fault") name
line_of name NoMemory = codes "mpy: memory\n"
line_of name Absent = named_line (codes "mpy: absent") name

-- the name that the line has: of the file that is written where that failed, else of the one that is read
abbrev pub name_in : (read written : List ℕ) → Ending → List ℕ
name_in read written Done = read
name_in read written (Unaccepted fault) = read
name_in read written (Unread fault) = read
name_in read written (Unverified fault) = read
name_in read written (Unmerged fault) = read
name_in read written (Unopened fault) = read
name_in read written (Unfrozen fault) = read
name_in read written (Unboarded fault) = read
name_in read written (Different difference) = read
name_in read written (Stopped stop) = read
name_in read written ReadFault = read
name_in read written WriteFault = read
name_in read written Unwritten = written
name_in read written NoMemory = read
name_in read written Absent = read

-- the place of that name among the words
abbrev pub place_in : Ending → ℕ
place_in Done = 1
place_in (Unaccepted fault) = 1
place_in (Unread fault) = 1
place_in (Unverified fault) = 1
place_in (Unmerged fault) = 1
place_in (Unopened fault) = 1
place_in (Unfrozen fault) = 1
place_in (Unboarded fault) = 1
place_in (Different difference) = 1
place_in (Stopped stop) = 1
place_in ReadFault = 1
place_in WriteFault = 1
place_in Unwritten = 2
place_in NoMemory = 1
place_in Absent = 1

-- a call puts the line, or fails behind a front of it, and then the count of faults rose
abbrev pub Puts : Option (List ℕ) → Option (List ℕ) → ℕ → ℕ → List ℕ → Result (Unit {0}) Failed → Type 0
Puts old new faults_old faults_new line (Ok done) = Appends old new line × (faults_new ≡ faults_old)
Puts old new faults_old faults_new line (Err failed) = AppendsFront old new line × Rose faults_old faults_new

-- the line was said, or a put of it failed behind a front of it
abbrev pub Says : Option (List ℕ) → Option (List ℕ) → ℕ → ℕ → List ℕ → Type 0
Says old new faults_old faults_new line = (Appends old new line × (faults_new ≡ faults_old)) ⊎ (AppendsFront old new line × Rose faults_old faults_new)
