-- Bytes that are read one by one.
use Rattle.std.proofs.Common.{ℕ, ◌+◌, ◌<◌, List, [], ◌∷◌, length, take, set, Option, sym, subst}
use Rattle.std.proofs.lemmas.List.{take_more_set}
use Rattle.std.proofs.KnownBytes.{Consumes-trans}
use Rattle.std.specs.Io.KnownBytes.{Consumes}

pub took_more : (a b c : Option (List ℕ)) (line : List ℕ) (len byte : ℕ) → len < length line → Consumes a b (take len line) → Consumes b c (byte ∷ []) → Consumes a c (take (len + 1) (set line len byte))
took_more a b c line len byte within before more =
    subst (λ (taken : List ℕ). Consumes a c taken) (sym (take_more_set line len byte within)) (Consumes-trans a b c (take len line) (byte ∷ []) before more)
