-- The last parts of small names.
use Rattle.std.proofs.Common.{◌≡◌, [], Some, None, refl}
use Rattle.std.specs.Prelude.{codes}
use Rattle.bc_library.specs.Texts.{last_part}

last_of_three : last_part (codes "a.b.c") ≡ Some (codes "c")
last_of_three = refl

last_is_empty : last_part (codes "a.") ≡ Some []
last_is_empty = refl

no_dot : last_part (codes "ab") ≡ None
no_dot = refl
