-- Prefixes of string literals.
use Rattle.std.specs.Prelude.{◌≡◌, ◌⊎◌, ℕ, ◌+◌, List, [], ◌∷◌, codes}
use Rattle.py_tokens.specs.declared.prefix.Prefix.{Prefix}
use Rattle.py_tokens.specs.declared.prefix.Prefix.TheVariants as prefixes

-- the text is spelled so in small letters, and in any case itself
abbrev pub IsInAnyCase : List ℕ → List ℕ → Type 0
IsInAnyCase [] [] = Unit {0}
IsInAnyCase (letter ∷ letters) (byte ∷ text) = ((byte ≡ letter) ⊎ (byte + 32 ≡ letter)) × IsInAnyCase letters text
IsInAnyCase letters text = ⊥

-- the text is that prefix, in any case
abbrev pub IsPrefix : Prefix → List ℕ → Type 0
IsPrefix prefixes.Plain text = IsInAnyCase (codes "u") text
IsPrefix prefixes.Raw text = IsInAnyCase (codes "r") text
IsPrefix prefixes.Bytes text = IsInAnyCase (codes "b") text ⊎ IsInAnyCase (codes "br") text ⊎ IsInAnyCase (codes "rb") text
IsPrefix prefixes.Format text = IsInAnyCase (codes "f") text ⊎ IsInAnyCase (codes "fr") text ⊎ IsInAnyCase (codes "rf") text
