-- Stored names.
use Rattle.std.proofs.Common.{◌≡◌, ◌∷◌, [], codes, refl}
use Rattle.source_files.specs.Sources.{stored}

ascii : stored (codes "p/a.py") ≡ codes "p/a.py"
ascii = refl

-- two bytes from 128 on
marked : stored (195 ∷ 169 ∷ 46 ∷ 112 ∷ 121 ∷ []) ≡ codes "??.py"
marked = refl
