-- How deep tokens nest.
use Rattle.std.specs.Prelude.{◌≡◌, ℕ, ◌+◌, ◌<◌, ◌≤◌, List, [], ◌∷◌, ◌++◌, length, take, sum, reverse}
use Rattle.std.specs.List.{fold}
use Rattle.py_tokens.specs.declared.operator.Op.{Op}
use Rattle.py_tokens.specs.declared.operator.Op.TheVariants as ops
use Rattle.py_tokens.specs.declared.word.Word.{Word}
use Rattle.py_tokens.specs.declared.word.Word.TheVariants as words
use Rattle.py_tokens.specs.declared.token.Tok.{Tok}
use Rattle.py_tokens.specs.declared.token.Tok.TheVariants as toks
use Rattle.py_tokens.specs.declared.token.Token.{Token}
use Rattle.py_nest.specs.declared.effect.Effect.{Effect}
use Rattle.py_nest.specs.declared.effect.Effect.TheVariants.{Pushes, Closes, Pops, Counts, Clears, Keeps}

-- effects
-- =======

-- what an operator does to the levels
abbrev pub effect_of_op : Op → Effect
effect_of_op ops.OpenParen = Pushes
effect_of_op ops.OpenBracket = Pushes
effect_of_op ops.OpenBrace = Pushes
effect_of_op ops.CloseParen = Closes
effect_of_op ops.CloseBracket = Closes
effect_of_op ops.CloseBrace = Closes
effect_of_op ops.Comma = Clears
effect_of_op ops.Colon = Clears
effect_of_op ops.Semicolon = Clears
effect_of_op ops.Assign = Clears
effect_of_op ops.PlusAssign = Clears
effect_of_op ops.MinusAssign = Clears
effect_of_op ops.StarAssign = Clears
effect_of_op ops.DoubleSlashAssign = Clears
effect_of_op ops.PercentAssign = Clears
effect_of_op ops.DoubleStarAssign = Clears
effect_of_op ops.AmpersandAssign = Clears
effect_of_op ops.BarAssign = Clears
effect_of_op ops.CaretAssign = Clears
effect_of_op ops.ShiftLeftAssign = Clears
effect_of_op ops.ShiftRightAssign = Clears
effect_of_op op = Counts

-- what a word does to the levels
abbrev pub effect_of_word : Word → Effect
effect_of_word words.And = Counts
effect_of_word words.Or = Counts
effect_of_word words.Not = Counts
effect_of_word words.In = Counts
effect_of_word words.Is = Counts
effect_of_word words.If = Counts
effect_of_word words.Else = Counts
effect_of_word word = Keeps

-- brackets and indents are levels; operators that stand between or before operands count in theirs
abbrev pub effect_of : Tok → Effect
effect_of (toks.Op op) = effect_of_op op
effect_of (toks.Word word) = effect_of_word word
effect_of toks.Indent = Pushes
effect_of toks.Dedent = Pops
effect_of toks.Newline = Clears
effect_of tok = Keeps

-- levels
-- ======

-- the count of the level on top, and the counts of those below it, the upper ones first
pub record Levels : Type 0 where
  pub top : ℕ
  pub below : List ℕ

-- the base level alone
abbrev pub base : Levels
base = record { top = 0; below = [] }

-- The level on top is gone, and `more` is added to the count below it. The base level stays as it is.
abbrev pub popped : Levels → List ℕ → ℕ → Levels
popped levels [] more = levels
popped levels (count ∷ below) more = record { top = count + more; below = below }

-- the levels behind such a token
abbrev pub behind : Effect → Levels → Levels
behind Pushes levels = record { top = 0; below = levels.top ∷ levels.below }
behind Closes levels = popped levels levels.below 1
behind Pops levels = popped levels levels.below 0
behind Counts levels = record { top = levels.top + 1; below = levels.below }
behind Clears levels = record { top = 0; below = levels.below }
behind Keeps levels = levels

-- the sum of the counts, and one for each level that was pushed
abbrev pub depth : Levels → ℕ
depth levels = levels.top + sum levels.below + length levels.below

-- the levels behind a token
abbrev pub after : Levels → Token → Levels
after levels token = behind (effect_of token.kind) levels

-- nest
-- ====

-- the levels behind tokens
abbrev pub levels_of : List Token → Levels
levels_of tokens = fold after base tokens

-- how deep tokens nest at their end
abbrev pub nest : List Token → ℕ
nest tokens = depth (levels_of tokens)

-- no front of the tokens nests too deep
abbrev pub Nests : List Token → Type 0
Nests tokens = (count : ℕ) → nest (take count tokens) ≤ 200

-- the shortest front that nests too deep ends with a token in that line
pub record IsTooDeep (tokens : List Token) (line : ℕ) : Type 0 where
  pub front : List Token
  pub last : Token
  pub rest : List Token
  pub splits : tokens ≡ front ++ last ∷ rest
  pub nests : Nests front
  pub passes : 200 < nest (front ++ last ∷ [])
  pub stands : line ≡ last.line

-- what a stack of counts holds in front of a place, the last first
abbrev pub counts_below : List ℕ → ℕ → List ℕ
counts_below counts place = reverse (take place counts)
