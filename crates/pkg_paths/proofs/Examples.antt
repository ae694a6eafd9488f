-- The files of small names.
use Rattle.std.proofs.Common.{◌≡◌, [], ◌∷◌, Some, None, false, codes, refl}
use Rattle.mpy_io.specs.Memory.{file_of}
use Rattle.pkg_paths.specs.Plain.{is_plain, IsPlain}
use Rattle.pkg_paths.specs.Paths.{package_file, plain_file, candidates}
use Rattle.pkg_paths.specs.Finds.{first_there}

two_parts : candidates (codes "lib/") (codes "p.q") (codes ".py") ≡ codes "lib/p/q/__init__.py" ∷ codes "lib/p/q.py" ∷ []
two_parts = refl

one_part : candidates [] (codes "a_1") (codes ".mpy") ≡ codes "a_1/__init__.mpy" ∷ codes "a_1.mpy" ∷ []
one_part = refl

-- why no part may be `__init__`
in_common : package_file [] (codes "p") (codes ".py") ≡ plain_file [] (codes "p.__init__") (codes ".py")
in_common = refl

plain_name : IsPlain (codes "p.q_1.Z")
plain_name = refl

empty_part : is_plain (codes "p..q") ≡ false
empty_part = refl

empty_name : is_plain [] ≡ false
empty_name = refl

other_byte : is_plain (codes "p/q") ≡ false
other_byte = refl

package_first : first_there (file_of ((codes "p.py", codes "1") ∷ (codes "p/__init__.py", codes "2") ∷ [])) (candidates [] (codes "p") (codes ".py")) ≡ Some (codes "p/__init__.py", codes "2")
package_first = refl

plain_else : first_there (file_of ((codes "p.py", codes "1") ∷ (codes "q/__init__.py", codes "2") ∷ [])) (candidates [] (codes "p") (codes ".py")) ≡ Some (codes "p.py", codes "1")
plain_else = refl

none_there : first_there (file_of ((codes "p.py", codes "1") ∷ [])) (candidates [] (codes "p.q") (codes ".py")) ≡ None
none_there = refl
