-- Calls of a name with literal arguments. Arguments with a name stand behind those without one, and have different names.
use Rattle.std.specs.Prelude.{ℕ, zero, suc, Bool, false, not, if◌then◌else◌, List, [], ◌∷◌, ◌++◌, length, Option, Some, None, option_map, is_some}
use Rattle.std.specs.Str.{bytes_eq}
use Rattle.std.specs.List.{list_any}
use Rattle.py_tokens.specs.declared.token.Token.{Token}
use Rattle.manifest_lines.specs.declared.ahead.Sign.TheVariants as sign
use Rattle.manifest_lines.specs.declared.call.Argument.{Argument}
use Rattle.manifest_lines.specs.declared.call.Call.{Call}
use Rattle.manifest_lines.specs.Ahead as ahead
use Rattle.manifest_lines.specs.Ahead.{Parser, ◌>>=◌, ◌>>◌, pure, refuse, eat, expect, sees, sees_named}
use Rattle.manifest_lines.specs.Literals.{literal}

-- is a name given, and is it this one?
abbrev pub is_text : Option (List ℕ) → List ℕ → Bool
is_text None name = false
is_text (Some text) name = bytes_eq text name

-- has the argument this name?
abbrev pub is_named : List ℕ → Argument → Bool
is_named name argument = is_text argument.name name

-- has any of the arguments a name?
abbrev pub has_names : List Argument → Bool
has_names arguments = list_any (λ argument. is_some argument.name) arguments

-- has any of the arguments this name?
abbrev pub has_name : List Argument → List ℕ → Bool
has_name arguments name = list_any (is_named name) arguments

-- an argument of that name, or of none, may stand behind these
abbrev pub name_may_follow : List Argument → Option (List ℕ) → Bool
name_may_follow before None = not (has_names before)
name_may_follow before (Some name) = not (has_name before name)

-- may the argument stand behind these?
abbrev pub may_follow : List Argument → Argument → Bool
may_follow before argument = name_may_follow before argument.name

-- NAME "=" literal
abbrev pub named_argument : Parser Argument
named_argument = do
  name ← ahead.name
  expect sign.Equals
  value ← literal
  pure (record { name = Some name; value = value })

-- literal
abbrev pub nameless_argument : Parser Argument
nameless_argument = do
  value ← literal
  pure (record { name = None; value = value })

-- [ NAME "=" ] literal
unfoldable pub argument : Parser Argument
argument = λ tokens. (if sees_named tokens then named_argument else nameless_argument) tokens

-- the comma behind an argument, which may be missing in front of the closing bracket
unfoldable pub separator : Parser (Unit {0})
separator = λ tokens. if sees sign.Close tokens then Some (tt, tokens) else expect sign.Comma tokens

-- the next argument, behind these, and none where the closing bracket is taken
unfoldable pub next_argument : List Argument → Parser (Option Argument)
next_argument before = do
  closed ← eat sign.Close
  if closed then pure None else (do
    its ← argument
    if may_follow before its then (do
      separator
      pure (Some its)) else refuse)

-- the argument that was read, and what follows; or those that were found, where none was
abbrev pub arguments_by : (List Argument → Parser (List Argument)) → List Argument → Option Argument → Parser (List Argument)
arguments_by go found None = pure found
arguments_by go found (Some its) = go (found ++ its ∷ [])

-- the arguments behind those that were found, up to the closing bracket
unfoldable pub arguments_from : ℕ → List Argument → Parser (List Argument)
arguments_from zero found = refuse
arguments_from (suc turns) found = next_argument found >>= arguments_by (arguments_from turns) found

-- [ argument { "," argument } [ "," ] ] ")"
unfoldable pub arguments : Parser (List Argument)
arguments = λ tokens. arguments_from (length tokens) [] tokens

-- nothing is ahead
abbrev pub end : Parser (Unit {0})
end = ahead.end

-- NAME "(" [ argument { "," argument } [ "," ] ] ")"
unfoldable pub call : Parser Call
call = do
  name ← ahead.name
  expect sign.Open
  found ← arguments
  end
  pure (record { name = name; arguments = found })

-- the call that the tokens are, all of them
abbrev pub call_of : List Token → Option Call
call_of tokens = option_map (λ found. found.0) (call tokens)
