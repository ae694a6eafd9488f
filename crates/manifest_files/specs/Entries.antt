-- The entries of a manifest.
use Rattle.std.specs.Prelude.{◌≡◌, ◌⊎◌, ℕ, zero, suc, ◌+◌, ◌==◌, nat_lt, nat_le, Bool, ◌&&◌, if◌then◌else◌, List, [], ◌∷◌, ◌++◌}
use Rattle.std.specs.Prelude.{length, take, map, Option, Some, None, Result, Ok, Err}
use Rattle.std.specs.Str.{bytes_eq}
use Rattle.std.specs.List.{list_all, list_any}
use Rattle.mpy_base.specs.declared.limits.TheConstants.{MAX_MODULES}
use Rattle.mpy_base.specs.declared.source.SourceFault.{SourceFault}
use Rattle.mpy_io.specs.Files.{FileOf}
use Rattle.py_tokens.specs.declared.token.Token.{Token}
use Rattle.py_tokens.specs.Tokens.{IsTokens, IsFirstFault}
use Rattle.manifest_lines.specs.declared.entry.Entry.{Entry}
use Rattle.manifest_lines.specs.declared.order.Order.{Order}
use Rattle.manifest_lines.specs.declared.order.Order.TheVariants.{Include, Freeze, Nothing, Require}
use Rattle.manifest_lines.specs.declared.manifest.Line.{Line}
use Rattle.manifest_lines.specs.Lines.{lines_of}
use Rattle.manifest_files.specs.declared.fault.ManifestFault.{ManifestFault}
use Rattle.manifest_files.specs.declared.fault.ManifestFault.TheVariants.{BadCall, Loop, Twice, Absent, Required, Deep, TooMany}
use Rattle.manifest_files.specs.declared.collecting.TheConstants.{MAX_OPEN}

-- ---- names

-- the bytes up to and with the last `/`, where others stand in front of these
abbrev pub slash_end : (at found : ℕ) → List ℕ → ℕ
slash_end at found [] = found
slash_end at found (byte ∷ bytes) = slash_end (at + 1) (if byte == 47 then at + 1 else found) bytes

-- how many bytes of a name are its folder's, with the last `/`
abbrev pub folder_length : List ℕ → ℕ
folder_length name = slash_end 0 0 name

-- the folder in which a file of this name lies, with its `/`
abbrev pub folder_of : List ℕ → List ℕ
folder_of name = take (folder_length name) name

-- ---- the lines of a manifest's bytes

-- a line that is no call
abbrev pub bad_line : ℕ → Line
bad_line number = record { number = number; order = None }

-- the lines of its tokens; where these have a fault, no line but that of the fault is read, and it is no call
abbrev pub AreLines : List ℕ → List Line → Type 0
AreLines bytes lines =
    ((tokens : List Token) × IsTokens 0 bytes tokens × (lines ≡ lines_of tokens))
    ⊎ ((fault : SourceFault) × IsFirstFault 0 bytes fault × (lines ≡ bad_line fault.line ∷ []))

-- ---- what a manifest says: entries and faults, in order

-- one entry, or one fault
abbrev pub Said : Type 0
Said = Result Entry ManifestFault

-- What a line says: by itself, or by the manifest that it includes.
pub data Saying : Type 0 where
  Itself : List Said → Saying
  Another : List ℕ → Saying

-- a line says a fault
abbrev pub faulty : ManifestFault → Saying
faulty fault = Itself (Err fault ∷ [])

-- the entry with its path from the folder on
abbrev pub placed : List ℕ → Entry → Entry
placed folder entry = record entry { path = folder ++ entry.path }

-- the entry in a folder
abbrev pub said_entry : List ℕ → Entry → Said
said_entry folder entry = Ok (placed folder entry)

-- is the name one of these?
abbrev pub is_open : List (List ℕ) → List ℕ → Bool
is_open names name = list_any (λ other. bytes_eq other name) names

-- is each byte below 128?
abbrev pub is_ascii : List ℕ → Bool
is_ascii text = list_all (λ byte. nat_lt byte 128) text

-- an include by a path, which is ASCII as each literal is, in a manifest of that name
abbrev pub include_saying : List (List ℕ) → (name : List ℕ) → (line : ℕ) → (path : List ℕ) → Saying
include_saying opened name line path =
    if is_ascii path then (if is_open opened (folder_of name ++ path) then faulty (Loop (folder_of name ++ path)) else Another (folder_of name ++ path))
    else faulty (BadCall name line)

-- an entry whose names and path are ASCII, as each literal is, and whose level is one of the four
abbrev pub is_plain : Entry → Bool
is_plain entry = is_ascii entry.«module» && (is_ascii entry.path && (is_ascii entry.source && nat_le entry.opt 3))

-- entries in the folder of a manifest of that name
abbrev pub freeze_saying : (name : List ℕ) → (line : ℕ) → List Entry → Saying
freeze_saying name line entries =
    if list_all is_plain entries then Itself (map (said_entry (folder_of name)) entries) else faulty (BadCall name line)

-- what the order of a line says; a line without one is no call
abbrev pub order_saying : List (List ℕ) → (name : List ℕ) → (line : ℕ) → Option Order → Saying
order_saying opened name line None = faulty (BadCall name line)
order_saying opened name line (Some (Include path)) = include_saying opened name line path
order_saying opened name line (Some (Freeze entries)) = freeze_saying name line entries
order_saying opened name line (Some Nothing) = Itself []
order_saying opened name line (Some (Require wanted)) = faulty (Required wanted)

-- what a line of the manifest of that name says, which is the last of the opened ones
abbrev pub line_saying : List (List ℕ) → (name : List ℕ) → Line → Saying
line_saying opened name line = order_saying opened name line.number line.order

-- what a saying comes to, where `another` tells what the manifest of a name says
abbrev pub IsSaid : (List ℕ → List Said → Type 0) → Saying → List Said → Type 0
IsSaid another (Itself own) said = said ≡ own
IsSaid another (Another inner) said = another inner said

-- what lines say one behind another
abbrev pub AreSaid : (Line → List Said → Type 0) → List Line → List Said → Type 0
AreSaid one [] said = said ≡ []
AreSaid one (line ∷ lines) said = (first : List Said) × (others : List Said) × one line first × AreSaid one lines others × (said ≡ first ++ others)

-- what a file says: its lines, where it is there, and else that it is absent
abbrev pub FileSays : (List Line → List Said → Type 0) → (name : List ℕ) → Option (List ℕ) → List Said → Type 0
FileSays its name None said = said ≡ Err (Absent name) ∷ []
FileSays its name (Some bytes) said = (lines : List Line) × AreLines bytes lines × its lines said

-- What a manifest says within these opened ones, where `left` more may be opened: what its lines say, each include what the
-- manifest that it names says.
abbrev pub Says : FileOf → (left : ℕ) → (opened : List (List ℕ)) → (name : List ℕ) → List Said → Type 0
Says files zero opened name said = said ≡ Err (Deep name) ∷ []
Says files (suc left) opened name said =
    FileSays (AreSaid (λ line. IsSaid (Says files left (opened ++ name ∷ [])) (line_saying (opened ++ name ∷ []) name line))) name (files name) said

-- ---- the entries of what is said

-- the entries, or the first fault
abbrev pub Answer : Type 0
Answer = Result (List Entry) ManifestFault

-- is there an entry of the module?
abbrev pub has_module : List Entry → List ℕ → Bool
has_module entries name = list_any (λ entry. bytes_eq entry.«module» name) entries

-- one more entry, which is refused where its module is there, and else where there are as many as may be
abbrev pub one_more : List Entry → Entry → Answer
one_more entries entry =
    if has_module entries entry.«module» then Err (Twice entry.«module»)
    else (if nat_lt (length entries) MAX_MODULES then Ok (entries ++ entry ∷ []) else Err TooMany)

-- the first fault of two parts, one behind the other
abbrev pub and_then : Answer → (List Entry → Answer) → Answer
and_then (Ok entries) more = more entries
and_then (Err fault) more = Err fault

-- the entries behind these, or the first fault
abbrev pub entries_after : List Entry → List Said → Answer
entries_after entries [] = Ok entries
entries_after entries (Ok entry ∷ said) = and_then (one_more entries entry) (λ more. entries_after more said)
entries_after entries (Err fault ∷ said) = Err fault

-- what a line says within the opened manifests, of which the last has that name
abbrev pub LineSays : FileOf → (left : ℕ) → (opened : List (List ℕ)) → (name : List ℕ) → Line → List Said → Type 0
LineSays files left opened name line = IsSaid (Says files left opened) (line_saying opened name line)

-- the answer to a manifest of that name, the first that is opened
abbrev pub IsAnswer : FileOf → (name : List ℕ) → Answer → Type 0
IsAnswer files name answer = (said : List Said) × Says files MAX_OPEN [] name said × (answer ≡ entries_after [] said)

-- the entries of the manifest of that name
abbrev pub AreEntries : FileOf → (name : List ℕ) → List Entry → Type 0
AreEntries files name entries = IsAnswer files name (Ok entries)

-- the first fault of the manifest of that name
abbrev pub IsFault : FileOf → (name : List ℕ) → ManifestFault → Type 0
IsFault files name fault = IsAnswer files name (Err fault)
