-- The order of words, the program's own name left out.
use Rattle.std.specs.Prelude.{ℕ, ◌-◌, Bool, false, ◌&&◌, ◌||◌, List, [], ◌∷◌, length, drop, Option, Some, None, codes, ◌==◌}
use Rattle.std.specs.Prelude.{if◌then◌else◌, slice_index_or, Result, Ok, Err}
use Rattle.mpy_words.specs.declared.order.Command.{Command}
use Rattle.mpy_words.specs.declared.order.Command.TheVariants.{Go, Check, CheckAs, Dump, Cross, Merge, Freeze, Migrate, Run, Resume, Board, Stress}
use Rattle.mpy_words.specs.declared.order.Named.{Named}
use Rattle.mpy_words.specs.declared.order.Setting.{Setting}
use Rattle.mpy_words.specs.declared.order.Order.{Order}
use Rattle.mpy_words.specs.declared.order.WordFault.{WordFault}
use Rattle.mpy_words.specs.declared.order.WordFault.TheVariants.{NoCommand, Unknown, MissingName, MissingValue, BadNumber, Twice}
use Rattle.mpy_words.specs.declared.given.Given.{Given}
use Rattle.mpy_words.specs.Command.{command_of, names_of, takes_files, names_file, setting_of}
use Rattle.mpy_words.specs.Given.{none_given, is_given, with_name, with_option, order_with}

abbrev pub Outcome : Type 0
Outcome = Result Order WordFault

-- the first and the second word behind the command
abbrev pub first_name : List (List ℕ) → List ℕ
first_name words = slice_index_or words 1 []

abbrev pub second_name : List (List ℕ) → List ℕ
second_name words = slice_index_or words 2 []

-- the words that name files behind OUT
abbrev pub file_names : List (List ℕ) → List (List ℕ)
file_names words = drop 2 words

-- the name that a file is to store of its source: the word that was given, else SRC
abbrev pub source_name : List (List ℕ) → Option ℕ → List ℕ
source_name words None = first_name words
source_name words (Some at) = slice_index_or words at []

-- the name of the main module of an image: the word that was given, else `main`
abbrev pub main_name : List (List ℕ) → Option ℕ → List ℕ
main_name words None = codes "main"
main_name words (Some at) = slice_index_or words at []

-- the name of the file that a run saves to, if one is given
abbrev pub saved_name : List (List ℕ) → Option ℕ → Option (List ℕ)
saved_name words None = None
saved_name words (Some at) = Some (slice_index_or words at [])

-- a word that begins so names no file
abbrev pub begins_with_dash : List ℕ → Bool
begins_with_dash [] = false
begins_with_dash (byte ∷ bytes) = byte == 45

-- the place of the first of these words, which are the last of `count` words
abbrev pub place : ℕ → List (List ℕ) → ℕ
place count words = count - length words

-- where the first of these words has a value
abbrev pub valued : ℕ → List (List ℕ) → Option Given → (Given → Outcome) → Outcome
valued count words None go = Err (BadNumber (place count words))
valued count words (Some more) go = go more

-- ---- options, behind those that were given already

abbrev pub once : Given → Setting → Outcome → Outcome
once given s more = if is_given given s then Err (Twice s) else more

-- a word that the option can't have as its value: it names a file, and the word none
abbrev pub names_none : Setting → List ℕ → Bool
names_none s value = names_file s && begins_with_dash value

abbrev pub known : ℕ → List (List ℕ) → Option Setting → (Setting → Outcome) → Outcome
known count words None go = Err (Unknown (place count words))
known count words (Some s) go = go s

unfoldable pub settings : ℕ → Command → Given → List (List ℕ) → Outcome
settings count c given [] = Ok (order_with c given)
settings count c given (word ∷ []) =
    known count (word ∷ []) (setting_of c word) (λ s. once given s (Err (MissingValue s)))
settings count c given (word ∷ value ∷ words) =
    known count (word ∷ value ∷ words) (setting_of c word) (λ s.
    once given s (if names_none s value then Err (MissingValue s)
    else valued count (value ∷ words) (with_option given s (place count (value ∷ words)) value) (λ more.
    settings count c more words)))

-- ---- named words, files where the command takes them, and then options

-- the words from the first on that names no file
unfoldable pub past_files : List (List ℕ) → List (List ℕ)
past_files [] = []
past_files (word ∷ words) = if begins_with_dash word then word ∷ words else past_files words

abbrev pub behind_files : Command → List (List ℕ) → List (List ℕ)
behind_files c words = if takes_files c then past_files words else words

-- a word that is no option is unknown before a named word is missed
abbrev pub lacking : ℕ → Command → Named → List ℕ → List (List ℕ) → Outcome
lacking count c wanted word words =
    known count (word ∷ words) (setting_of c word) (λ s. Err (MissingName wanted))

unfoldable pub named : ℕ → Command → Given → List Named → List (List ℕ) → Outcome
named count c given [] words = settings count c given (behind_files c words)
named count c given (wanted ∷ more) [] = Err (MissingName wanted)
named count c given (wanted ∷ more) (word ∷ words) =
    if begins_with_dash word then lacking count c wanted word words
    else valued count (word ∷ words) (with_name given wanted word) (λ given. named count c given more words)

-- the check that these words ask for: that of a source and a file where two words name files
abbrev pub check_of : List (List ℕ) → Command
check_of [] = Check
check_of (file ∷ []) = Check
check_of (source ∷ file ∷ words) = if begins_with_dash source || begins_with_dash file then Check else CheckAs

-- the command of a first word with these behind it
abbrev pub command_in : Command → List (List ℕ) → Command
command_in Check words = check_of words
command_in c words = c

abbrev pub of_command : ℕ → Option Command → List (List ℕ) → Outcome
of_command count None words = Err (Unknown 0)
of_command count (Some c) words =
    let command = command_in c words in
    named count command none_given (names_of command) words

-- the order, or the first fault from left to right
abbrev pub order_of : List (List ℕ) → Outcome
order_of [] = Err NoCommand
order_of (word ∷ words) = of_command (length (word ∷ words)) (command_of word) words
