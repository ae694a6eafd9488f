-- Stored names are ASCII.
use Rattle.std.proofs.Common.{◌≡◌, ◌<◌, ℕ, Bool, true, false, if◌then◌else◌, ltb, get_or, List, refl, arith}
use Rattle.std.proofs.lemmas.Bool.{ltb-true}
use Rattle.std.proofs.lemmas.List.Elements.{All-map}
use Rattle.mpy_reader.specs.mpy_tree.File.{IsAscii}
use Rattle.source_files.specs.Sources.{ascii_of, stored}

one_or_other : (b : Bool) (byte : ℕ) → ltb byte 128 ≡ b → (if b then byte else 63) < 128
one_or_other true byte e = ltb-true byte 128 e
one_or_other false byte e = omega arith

pub stored_is_ascii : (path : List ℕ) → IsAscii (stored path)
stored_is_ascii path = All-map (λ byte. byte < 128) ascii_of path (λ k d lt. one_or_other (ltb (get_or path k d) 128) (get_or path k d) refl)
