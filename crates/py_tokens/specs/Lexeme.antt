-- What stands in front of the bytes of a source, told by the byte or two that they begin with.
use Rattle.std.specs.Prelude.{◌≡◌, ◌≢◌, ◌⊎◌, ℕ, ◌+◌, ◌≤◌, List, [], ◌∷◌, ◌++◌, length, take, drop, codes, All, Contains, Bool, true, false, ℤ, Result, Ok, Err}
use Rattle.mpy_base.specs.declared.source.SourceCode.{SourceCode}
use Rattle.mpy_base.specs.declared.source.SourceCode.TheVariants as code
use Rattle.mpy_base.specs.declared.refused.Refused.{Refused}
use Rattle.mpy_base.specs.declared.refused.Refused.TheVariants as refused
use Rattle.py_tokens.specs.declared.token.Tok.{Tok}
use Rattle.py_tokens.specs.declared.token.Tok.TheVariants as toks
use Rattle.py_tokens.specs.declared.lexeme.Lexeme.{Lexeme}
use Rattle.py_tokens.specs.declared.lexeme.Lexeme.TheVariants as lexemes
use Rattle.py_tokens.specs.declared.lexeme.LexemeFault.{LexemeFault}
use Rattle.py_tokens.specs.declared.lexeme.Class.{Class}
use Rattle.py_tokens.specs.declared.lexeme.Class.TheVariants as classes
use Rattle.py_tokens.specs.declared.prefix.Prefix.{Prefix}
use Rattle.py_tokens.specs.declared.prefix.Prefix.TheVariants as prefixes
use Rattle.py_tokens.specs.declared.number.NumberFault.{NumberFault}
use Rattle.py_tokens.specs.declared.number.NumberFault.TheVariants as numbers
use Rattle.py_tokens.specs.declared.operator.Operator.{Operator}
use Rattle.py_tokens.specs.declared.operator.Operator.TheVariants as operators
use Rattle.py_tokens.specs.declared.escape.StringFaultKind.{StringFaultKind}
use Rattle.py_tokens.specs.declared.escape.StringFaultKind.TheVariants as strings
use Rattle.py_tokens.specs.declared.string.StringFault.{StringFault}
use Rattle.py_tokens.specs.declared.word.Word.{Word}
use Rattle.py_tokens.specs.LineEnd.{Begins, IsLineByte, IsLineEnd}
use Rattle.py_tokens.specs.Name.{IsNameStart, IsNamePart}
use Rattle.py_tokens.specs.Word.{IsWord, refused_words}
use Rattle.py_tokens.specs.Number as number
use Rattle.py_tokens.specs.Operator.{Spells, Stands, IsLongest}
use Rattle.py_tokens.specs.Literal.{IsQuote, IsPrintable, IsLiteral, IsLiteralFault}
use Rattle.py_tokens.specs.Prefix.{IsPrefix}

-- a lexeme and its text, or why there is none
abbrev pub Answer : Type 0
Answer = Result (Lexeme × List ℕ) LexemeFault

-- a blank or a tab
abbrev pub IsBlank : ℕ → Type 0
IsBlank byte = (byte ≡ 32) ⊎ (byte ≡ 9)

-- what stands in a comment
abbrev pub IsInLine : ℕ → Type 0
IsInLine byte = ¬ IsLineByte byte

-- a byte that begins an operator, or nothing: not a blank, `#`, a backslash, a letter, `_` or a quote
abbrev pub IsMark : ℕ → Type 0
IsMark byte = IsPrintable byte × ¬ IsBlank byte × (byte ≢ 35) × (byte ≢ 92) × ¬ IsNameStart byte × ¬ IsQuote byte

-- what the bytes begin
abbrev pub Announces : Class → List ℕ → Type 0
Announces classes.Blank bytes = Begins IsBlank bytes
Announces classes.Comment bytes = Begins (λ byte. byte ≡ 35) bytes
Announces classes.Backslash bytes = Begins (λ byte. byte ≡ 92) bytes
Announces classes.LineEnd bytes = Begins IsLineByte bytes
Announces classes.Name bytes = Begins IsNameStart bytes
Announces classes.Number bytes = number.BeginsRun bytes
Announces classes.Quote bytes = Begins IsQuote bytes
Announces classes.Mark bytes = Begins IsMark bytes × ¬ number.BeginsRun bytes
Announces classes.BadByte bytes = Begins (λ byte. ¬ IsPrintable byte × ¬ IsLineByte byte) bytes

-- the text is the longest front of the bytes that is all of such a kind
pub record IsRunOf (P : ℕ → Type 0) (text bytes : List ℕ) : Type 0 where
  pub rest : List ℕ
  pub parts : bytes ≡ text ++ rest
  pub all : All P text
  pub ends : ¬ Begins P rest

-- a fault at the first byte of a token, and one with a word
abbrev pub fault : SourceCode → Answer
fault kind = Err (record { code = kind; at = 0; word = [] })

-- a token that the language leaves out, with its word
abbrev pub not_in_profile : List ℕ → Answer
not_in_profile word = Err (record { code = code.NotInProfile; at = 0; word = word })

-- a token of the text
abbrev pub token : Tok → List ℕ → Answer
token tok text = Ok (lexemes.Token tok, text)

-- the token of a number, or its fault
abbrev pub number_answer : List ℕ → Result ℤ NumberFault → Answer
number_answer run (Ok n) = token (toks.Int n) run
number_answer run (Err numbers.BadToken) = fault code.BadToken
number_answer run (Err numbers.Float) = not_in_profile (codes "float")
number_answer run (Err numbers.Complex) = not_in_profile (codes "complex")
number_answer run (Err numbers.TooBig) = fault code.TooBigNumber

-- the token of an operator, or the fault that the language leaves it out
abbrev pub operator_answer : Operator → List ℕ → Answer
operator_answer (operators.Op op) text = token (toks.Op op) text
operator_answer operators.Refused text = not_in_profile text

-- the fault of a string, which stands `at` bytes behind its prefix
abbrev pub string_fault : StringFaultKind → ℕ → LexemeFault
string_fault strings.BadByte at = record { code = code.BadByte; at = at; word = [] }
string_fault strings.BadToken at = record { code = code.BadToken; at = at; word = [] }
string_fault strings.Escape at = record { code = code.NotInProfile; at = at; word = codes "escape" }
string_fault strings.NonAscii at = record { code = code.NotInProfile; at = at; word = codes "non-ascii" }

-- behind the prefix the bytes begin with a literal, or with the fault of one
abbrev pub StringAnswers : Bool → List ℕ → List ℕ → Answer → Type 0
StringAnswers raw prefix bytes answer =
    ((text rest value : List ℕ) × IsLiteral raw text rest value × (bytes ≡ text ++ rest) × (answer ≡ token (toks.Str value) (prefix ++ text)))
    ⊎ ((its : StringFault) × IsLiteralFault raw bytes its × (answer ≡ Err (string_fault its.kind (length prefix + its.at))))

-- what a prefix makes of the bytes behind it
abbrev pub PrefixAnswers : Prefix → List ℕ → List ℕ → Answer → Type 0
PrefixAnswers prefixes.Plain name bytes answer = StringAnswers false name bytes answer
PrefixAnswers prefixes.Raw name bytes answer = StringAnswers true name bytes answer
PrefixAnswers prefixes.Bytes name bytes answer = answer ≡ not_in_profile (codes "bytes")
PrefixAnswers prefixes.Format name bytes answer = answer ≡ not_in_profile (codes "f-string")

-- what a name is that is no prefix: a word, a refused word, or a name
abbrev pub WordAnswers : ℕ → List ℕ → Answer → Type 0
WordAnswers opt name answer =
    ((word : Word) × IsWord opt name word × (answer ≡ token (toks.Word word) name))
    ⊎ (Contains refused_words name × (answer ≡ not_in_profile name))
    ⊎ (((word : Word) → ¬ IsWord opt name word) × ¬ Contains refused_words name × (answer ≡ token (toks.Name name) name))

-- a name directly before a quote is a prefix where it is spelled like one
abbrev pub NameAnswers : ℕ → List ℕ → List ℕ → Answer → Type 0
NameAnswers opt name behind answer =
    ((prefix : Prefix) × IsPrefix prefix name × Begins IsQuote behind × PrefixAnswers prefix name behind answer)
    ⊎ (((prefix : Prefix) → IsPrefix prefix name → ¬ Begins IsQuote behind) × WordAnswers opt name answer)

-- a join, a line end or a string, whose text may hold a line end
abbrev pub may_span : Lexeme → Bool
may_span lexemes.Join = true
may_span lexemes.LineEnd = true
may_span (lexemes.Token (toks.Str value)) = true
may_span lexeme = false

-- the answer is what stands in front of bytes that begin so
abbrev pub Answers : ℕ → Class → List ℕ → Answer → Type 0
Answers opt classes.Blank bytes answer = (text : List ℕ) × IsRunOf IsBlank text bytes × (answer ≡ Ok (lexemes.Blank, text))
Answers opt classes.Comment bytes answer = (text : List ℕ) × IsRunOf IsInLine text bytes × (answer ≡ Ok (lexemes.Comment, text))
Answers opt classes.LineEnd bytes answer =
    (text rest : List ℕ) × (bytes ≡ text ++ rest) × IsLineEnd text rest × (answer ≡ Ok (lexemes.LineEnd, text))
Answers opt classes.Backslash bytes answer =
    ((text rest : List ℕ) × (bytes ≡ 92 ∷ (text ++ rest)) × IsLineEnd text rest × (answer ≡ Ok (lexemes.Join, 92 ∷ text)))
    ⊎ (¬ Begins IsLineByte (drop 1 bytes) × (answer ≡ fault code.BadToken))
Answers opt classes.Name bytes answer =
    (name : List ℕ) × (run : IsRunOf IsNamePart name bytes) × NameAnswers opt name run.rest answer
Answers opt classes.Number bytes answer =
    (run : List ℕ) × IsRunOf number.IsRunPart run bytes × (value : Result ℤ NumberFault) × number.Says run value × (answer ≡ number_answer run value)
Answers opt classes.Quote bytes answer = StringAnswers false [] bytes answer
Answers opt classes.Mark bytes answer =
    ((operator : Operator) × (text : List ℕ) × IsLongest operator text bytes × (answer ≡ operator_answer operator text))
    ⊎ (((operator : Operator) (text : List ℕ) → Spells operator text → ¬ Stands text bytes) × (answer ≡ fault code.BadToken))
Answers opt classes.BadByte bytes answer = answer ≡ fault code.BadByte

-- the answer is what stands in front of the bytes
abbrev pub IsFront : ℕ → List ℕ → Answer → Type 0
IsFront opt bytes answer = (class : Class) × Announces class bytes × Answers opt class bytes answer

-- the refusal is the fault, or want of memory
abbrev pub Refuses : SourceCode → ℕ → List ℕ → Refused LexemeFault → Type 0
Refuses kind at word (refused.Fault its) = its ≡ record { code = kind; at = at; word = word }
Refuses kind at word refused.NoMemory = Unit {0}

-- what was read, with the length of the text, is such an answer
abbrev pub Finds : (Answer → Type 0) → List ℕ → Result (Lexeme × ℕ) (Refused LexemeFault) → Type 0
Finds P bytes (Ok found) = (1 ≤ found.1) × (found.1 ≤ length bytes) × P (Ok (found.0, take found.1 bytes))
Finds P bytes (Err (refused.Fault its)) = (its.at ≤ length bytes) × P (Err its)
Finds P bytes (Err refused.NoMemory) = Unit {0}
