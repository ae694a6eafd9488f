-- What a reader reads from, and the steps that every rule is made of.
use Rattle.std.specs.Prelude.{◌≡◌, ℕ, Bool, true, false, if◌then◌else◌, List, [], ◌∷◌, length, drop, Option, Some, None, Result, Ok, Err}
use Rattle.std.specs.Str.{bytes_eq}
use Rattle.mpy_base.specs.declared.refused.Refused.{Refused}
use Rattle.mpy_base.specs.declared.refused.Refused.TheVariants as refused
use Rattle.py_tokens.specs.declared.token.Tok.{Tok}
use Rattle.py_tokens.specs.declared.token.Tok.TheVariants as tok
use Rattle.py_tokens.specs.declared.token.Token.{Token}
use Rattle.py_tokens.specs.Word as word
use Rattle.py_tokens.specs.Operator as op
use Rattle.py_expressions.specs.declared.cursor.Mark.{Mark}
use Rattle.py_expressions.specs.declared.cursor.Mark.TheVariants as mark
use Rattle.py_expressions.specs.declared.cursor.Syntax.{Syntax}
use Rattle.py_expressions.specs.declared.cursor.Cursor.{Cursor}

-- where a token stands
pub record Place : Type 0 where
  pub at : ℕ
  pub end : ℕ
  pub line : ℕ

-- the token of the kind that stands at the place
abbrev pub at : Place → Tok → Token
at place kind = record { kind = kind; at = place.at; end = place.end; line = place.line }

-- What is ahead, and how many tokens were ahead at the end of the longest front so far.
pub record Input : Type 0 where
  pub ahead : List Token
  pub front : ℕ

-- what a cursor of the code stands for
abbrev pub input_of : Cursor → Input
input_of c = record { ahead = c.ahead.now; front = c.front }

-- the kind of the first token, and `End` where there is none
abbrev pub kind_at : List Token → Tok
kind_at [] = tok.End
kind_at (t ∷ ts) = t.kind

-- the kind of the next token, and `End` where there is none
abbrev pub kind : Input → Tok
kind i = kind_at i.ahead

-- is the token of the kind this mark?
abbrev pub is_mark : Mark → Tok → Bool
is_mark (mark.Word a) (tok.Word b) = bytes_eq (word.spelling a) (word.spelling b)
is_mark (mark.Op a) (tok.Op b) = bytes_eq (op.spelling a) (op.spelling b)
is_mark mark.Newline tok.Newline = true
is_mark mark.Indent tok.Indent = true
is_mark mark.Dedent tok.Dedent = true
is_mark mark.End tok.End = true
is_mark _ _ = false

-- the kind of the first token, where there is one
abbrev pub seen : Option Tok → Tok
seen None = tok.End
seen (Some kind) = kind

-- the input behind the next token
abbrev pub next : Input → Input
next i = record i { ahead = drop 1 i.ahead }

-- ---- readers

-- a value and the input behind it, or how many tokens were ahead at the end of the longest front
abbrev pub Outcome : Type 0 → Type 0
Outcome A = Result (A × Input) ℕ

-- a reader of what is ahead
abbrev pub Parser : Type 0 → Type 0
Parser A = Input → Outcome A

-- what is read behind a value, or the refusal that there was
abbrev pub and_then : {A B : Type 0} → Outcome A → (A → Parser B) → Outcome B
and_then (Ok p) f = f p.0 p.1
and_then (Err e) f = Err e

-- a reader, and then the one that its value gives
infixl 10 ◌>>=◌
abbrev pub ◌>>=◌ : {A B : Type 0} → Parser A → (A → Parser B) → Parser B
p >>= f = λ i. and_then (p i) f

-- a reader, and then another one, whatever the value of the first
infixl 10 ◌>>◌
abbrev pub ◌>>◌ : {A B : Type 0} → Parser A → Parser B → Parser B
p >> q = p >>= (λ _. q)

-- this value, without a look at any token
abbrev pub pure : {A : Type 0} → A → Parser A
pure a = λ i. Ok (a, i)

-- a reader, and the function of its value
infixr 11 ◌<$>◌
abbrev pub ◌<$>◌ : {A B : Type 0} → (A → B) → Parser A → Parser B
f <$> p = p >>= (λ x. pure (f x))

-- a refusal names the longest front so far
abbrev pub refuse : {A : Type 0} → Parser A
refuse = λ i. Err i.front

-- the kind of the next token, which stays
abbrev pub peek : Parser Tok
peek = λ i. Ok (kind i, i)

-- passes the next token
abbrev pub take_token : Parser (Unit {0})
take_token = λ i. Ok (tt, next i)

-- this mark comes next, and is there
abbrev pub sees_at : Mark → List Token → Bool
sees_at mark [] = false
sees_at mark (t ∷ ts) = is_mark mark t.kind

-- does this mark come next?
unfoldable pub sees : Mark → Input → Bool
sees mark i = sees_at mark i.ahead

-- passes this mark, which must come next
unfoldable pub expect : Mark → Parser (Unit {0})
expect mark = λ i. if sees mark i then Ok (tt, next i) else refuse i

-- the input behind this mark, if it comes next
unfoldable pub after : Mark → Input → Input
after mark i = if sees mark i then next i else i

-- takes this mark, if it comes next
abbrev pub eat : Mark → Parser Bool
eat mark = λ i. Ok (sees mark i, after mark i)

-- this mark comes next, behind what was read
abbrev pub closed : {A : Type 0} → Mark → A → Parser A
closed mark found = expect mark >> pure found

-- the name that a token of the kind is
abbrev pub name_by : Tok → Parser (List ℕ)
name_by (tok.Name text) = take_token >> pure text
name_by _ = refuse

-- NAME
unfoldable pub name : Parser (List ℕ)
name = peek >>= name_by

-- a bound on the turns of a loop: each takes a token
abbrev pub turns : Input → ℕ
turns i = length i.ahead

-- what a function that reads ensures: the outcome, unless memory fails
abbrev pub Reads : {A : Type 0} → Outcome A → Result A (Refused Syntax) → Cursor → Type 0
Reads outcome (Ok a) new = outcome ≡ Ok (a, input_of new)
Reads outcome (Err (refused.Fault e)) new = outcome ≡ Err e.left
Reads outcome (Err refused.NoMemory) new = Unit {0}
