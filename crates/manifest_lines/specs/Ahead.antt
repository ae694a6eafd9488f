-- What a reader takes from the tokens ahead of it, and the steps that every reading is made of.
use Rattle.std.specs.Prelude.{◌≡◌, ℕ, Bool, true, false, ◌&&◌, if◌then◌else◌, List, [], ◌∷◌, drop, Option, Some, None, Result, Ok, Err}
use Rattle.mpy_base.specs.declared.refused.Refused.{Refused}
use Rattle.mpy_base.specs.declared.refused.Refused.TheVariants as refused
use Rattle.py_tokens.specs.declared.operator.Op.TheVariants as op
use Rattle.py_tokens.specs.declared.token.Tok.{Tok}
use Rattle.py_tokens.specs.declared.token.Tok.TheVariants as tok
use Rattle.py_tokens.specs.declared.token.Token.{Token}
use Rattle.manifest_lines.specs.declared.ahead.Ahead.{Ahead}
use Rattle.manifest_lines.specs.declared.ahead.NoCall.{NoCall}
use Rattle.manifest_lines.specs.declared.ahead.Sign.{Sign}
use Rattle.manifest_lines.specs.declared.ahead.Sign.TheVariants.{Open, Close, Comma, Equals}

-- what is read and the tokens behind it, where it is there
abbrev pub Outcome : Type 0 → Type 0
Outcome A = Option (A × List Token)

-- a reader of the tokens ahead
abbrev pub Parser : Type 0 → Type 0
Parser A = List Token → Outcome A

-- what is read behind a value, where there is one
abbrev pub and_then : {A B : Type 0} → Outcome A → (A → Parser B) → Outcome B
and_then (Some p) f = f p.0 p.1
and_then None f = None

-- a reader, and then the one that its value gives
infixl 10 ◌>>=◌
abbrev pub ◌>>=◌ : {A B : Type 0} → Parser A → (A → Parser B) → Parser B
p >>= f = λ tokens. and_then (p tokens) f

-- a reader, and then another one, whatever the value of the first
infixl 10 ◌>>◌
abbrev pub ◌>>◌ : {A B : Type 0} → Parser A → Parser B → Parser B
p >> q = p >>= (λ _. q)

-- this value, without a look at any token
abbrev pub pure : {A : Type 0} → A → Parser A
pure a = λ tokens. Some (a, tokens)

-- a reader, and the function of its value
infixr 11 ◌<$>◌
abbrev pub ◌<$>◌ : {A B : Type 0} → (A → B) → Parser A → Parser B
f <$> p = p >>= (λ x. pure (f x))

-- nothing is there
abbrev pub refuse : {A : Type 0} → Parser A
refuse = λ tokens. None

-- ---- one token

-- the kind of the first token, and `End` where there is none
abbrev pub kind_at : List Token → Tok
kind_at [] = tok.End
kind_at (t ∷ ts) = t.kind

-- the kind of the first token, where there is one
abbrev pub seen : Option Tok → Tok
seen None = tok.End
seen (Some kind) = kind

-- is the token of the kind this sign?
abbrev pub is_sign : Sign → Tok → Bool
is_sign Open (tok.Op op.OpenParen) = true
is_sign Close (tok.Op op.CloseParen) = true
is_sign Comma (tok.Op op.Comma) = true
is_sign Equals (tok.Op op.Assign) = true
is_sign sign kind = false

-- the tokens behind the next one
abbrev pub next : List Token → List Token
next tokens = drop 1 tokens

-- the kind of the next token, which stays
abbrev pub peek : Parser Tok
peek = λ tokens. Some (kind_at tokens, tokens)

-- passes the next token
abbrev pub take_token : Parser (Unit {0})
take_token = λ tokens. Some (tt, next tokens)

-- does this sign come next?
unfoldable pub sees : Sign → List Token → Bool
sees sign tokens = is_sign sign (kind_at tokens)

-- passes this sign, which must come next
unfoldable pub expect : Sign → Parser (Unit {0})
expect sign = λ tokens. if sees sign tokens then Some (tt, next tokens) else None

-- the tokens behind this sign, if it comes next
unfoldable pub after : Sign → List Token → List Token
after sign tokens = if sees sign tokens then next tokens else tokens

-- takes this sign, if it comes next
abbrev pub eat : Sign → Parser Bool
eat sign = λ tokens. Some (sees sign tokens, after sign tokens)

-- the name that a token of the kind is
abbrev pub name_by : Tok → Parser (List ℕ)
name_by (tok.Name text) = take_token >> pure text
name_by kind = refuse

-- NAME
unfoldable pub name : Parser (List ℕ)
name = peek >>= name_by

-- is the token of the kind a name?
abbrev pub is_name : Tok → Bool
is_name (tok.Name text) = true
is_name kind = false

-- a name and `=` come next
unfoldable pub sees_named : List Token → Bool
sees_named tokens = is_name (kind_at tokens) && is_sign Equals (kind_at (next tokens))

-- nothing is ahead
abbrev pub end : Parser (Unit {0})
end [] = Some (tt, [])
end (t ∷ ts) = None

-- ---- answers

-- what a function that reads ensures: what is read, unless memory fails
abbrev pub Reads : {A : Type 0} → Outcome A → Result A (Refused NoCall) → Ahead → Type 0
Reads outcome (Ok a) new = outcome ≡ Some (a, new.tokens.now)
Reads outcome (Err (refused.Fault none)) new = outcome ≡ None
Reads outcome (Err refused.NoMemory) new = Unit {0}

-- a value where there is one, unless memory fails
abbrev pub Gives : {A : Type 0} → Option A → Result A (Refused NoCall) → Type 0
Gives value (Ok a) = value ≡ Some a
Gives value (Err (refused.Fault none)) = value ≡ None
Gives value (Err refused.NoMemory) = Unit {0}
