-- The words, and what a text is.
use Rattle.std.specs.Prelude.{◌≡◌, ◌⊎◌, ℕ, List, [], ◌∷◌, codes, ◌==◌, if◌then◌else◌}
use Rattle.py_tokens.specs.declared.word.Word.{Word}
use Rattle.py_tokens.specs.declared.word.Word.TheVariants as words

-- how a word is written
abbrev pub spelling : Word → List ℕ
spelling words.False = codes "False"
spelling words.None = codes "None"
spelling words.True = codes "True"
spelling words.And = codes "and"
spelling words.As = codes "as"
spelling words.Assert = codes "assert"
spelling words.Break = codes "break"
spelling words.Continue = codes "continue"
spelling words.Def = codes "def"
spelling words.Del = codes "del"
spelling words.Elif = codes "elif"
spelling words.Else = codes "else"
spelling words.Except = codes "except"
spelling words.Finally = codes "finally"
spelling words.For = codes "for"
spelling words.From = codes "from"
spelling words.Global = codes "global"
spelling words.If = codes "if"
spelling words.Import = codes "import"
spelling words.In = codes "in"
spelling words.Is = codes "is"
spelling words.Not = codes "not"
spelling words.Or = codes "or"
spelling words.Pass = codes "pass"
spelling words.Raise = codes "raise"
spelling words.Return = codes "return"
spelling words.Try = codes "try"
spelling words.While = codes "while"

-- the words of Python that this language leaves out
abbrev pub refused_words : List (List ℕ)
refused_words = codes "class" ∷ codes "lambda" ∷ codes "nonlocal" ∷ codes "async" ∷ codes "await" ∷ codes "with" ∷ codes "yield" ∷ []

-- the word that `__debug__` is at a level of optimization
abbrev pub debug_word : ℕ → Word
debug_word opt = if opt == 0 then words.True else words.False

-- the text is the word, spelled out or by `__debug__`
abbrev pub IsWord : ℕ → List ℕ → Word → Type 0
IsWord opt text w = (text ≡ spelling w) ⊎ ((text ≡ codes "__debug__") × (w ≡ debug_word opt))
