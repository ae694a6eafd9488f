-- The front of bytes as a name.
use Rattle.std.proofs.Common.{ℕ, zero, suc, ◌<◌, ◌≤◌, List, [], ◌∷◌, length, take, get_or, All, arith}
use Rattle.std.proofs.lemmas.List.Elements.{All-tail}
use Rattle.py_tokens.specs.Name.{IsNameStart, IsNamePart, IsName}

pub name_front : (bytes : List ℕ) (n : ℕ) → 1 ≤ length bytes → IsNameStart (get_or bytes 0 0) → All IsNamePart (take n bytes) → 0 < n → IsName (take n bytes)
name_front bytes zero some start all h = absurd (omega arith)
name_front [] (suc n) some start all h = absurd (omega arith)
name_front (byte ∷ bytes) (suc n) some start all h = (start, All-tail IsNamePart byte (take n bytes) all)
