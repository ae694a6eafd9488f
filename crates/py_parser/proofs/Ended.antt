-- The tokens of a source end with an End.
use Rattle.std.proofs.Common.{◌≡◌, List, [], ◌∷◌, ◌++◌}
use Rattle.py_tokens.specs.declared.token.Tok.TheVariants as toks
use Rattle.py_tokens.specs.declared.token.Token.{Token}
use Rattle.py_tokens.specs.Lines.{Place, empty_token}
use Rattle.py_parser.specs.Parsed.{IsEnded}

pub ended : (tokens front : List Token) (place : Place) → tokens ≡ front ++ empty_token toks.End place ∷ [] → IsEnded tokens
ended tokens front place is = record { front = front; last = record { at = place.at; end = place.at; line = place.line }; is = is }
