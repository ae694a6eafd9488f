-- Tokens such as a source gives: each formed, and on lines that never fall.
use Rattle.std.specs.Prelude.{◌≡◌, ◌≤◌, ◌<◌, ◌^◌, ℕ, ℤ, pos, negsuc, Bool, true, false, nat_lt, List, [], ◌∷◌, length}
use Rattle.std.specs.List.{list_all}
use Rattle.py_tokens.specs.declared.token.Tok.{Tok}
use Rattle.py_tokens.specs.declared.token.Tok.TheVariants as toks
use Rattle.py_tokens.specs.declared.token.Token.{Token}

-- is each byte below 128?
abbrev pub is_ascii : List ℕ → Bool
is_ascii text = list_all (λ byte. nat_lt byte 128) text

-- a number has no sign, and 30 bits at most
abbrev pub is_number : ℤ → Bool
is_number (pos n) = nat_lt n (2 ^ 30)
is_number (negsuc n) = false

-- is the token one that a source gives, by its kind?
abbrev pub token_formed : Tok → Bool
token_formed (toks.Name text) = is_ascii text
token_formed (toks.Str text) = is_ascii text
token_formed (toks.Int n) = is_number n
token_formed _ = true

-- none stands above this line, and none above one in front of it
abbrev pub FormedFrom : ℕ → List Token → Type 0
FormedFrom least [] = Unit {0}
FormedFrom least (t ∷ ts) = (token_formed t.kind ≡ true) × (least ≤ t.line) × FormedFrom t.line ts

-- each token is formed, and they are fewer than 2^32
pub record AreFormed (tokens : List Token) : Type 0 where
  pub each : FormedFrom 1 tokens
  pub fewer : length tokens < 2 ^ 32
