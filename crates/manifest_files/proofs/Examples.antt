-- What small manifests say.
use Rattle.std.proofs.Common.{◌≡◌, ℕ, List, [], ◌∷◌, Some, None, Ok, Err, codes, refl}
use Rattle.manifest_lines.specs.declared.entry.Entry.{Entry}
use Rattle.manifest_lines.specs.declared.order.Order.TheVariants.{Include, Freeze, Require}
use Rattle.manifest_files.specs.declared.fault.ManifestFault.TheVariants.{BadCall, Loop, Twice, Required}
use Rattle.manifest_files.specs.Entries.{folder_of, Itself, Another, order_saying, entries_after}

abbrev entry : (its path source : List ℕ) → ℕ → Entry
entry its path source opt = record { «module» = its; path = path; source = source; opt = opt }

abbrev one : Entry
one = entry (codes "a") (codes "a.py") (codes "a.py") 0

abbrev two : Entry
two = entry (codes "b") (codes "b.py") (codes "b.py") 1

no_folder : folder_of (codes "m.py") ≡ []
no_folder = refl

two_folders : folder_of (codes "x/y/m.py") ≡ codes "x/y/"
two_folders = refl

bad_call : order_saying (codes "m.py" ∷ []) (codes "m.py") 3 None ≡ Itself (Err (BadCall (codes "m.py") 3) ∷ [])
bad_call = refl

from_its_folder : order_saying (codes "x/m.py" ∷ []) (codes "x/m.py") 1 (Some (Freeze (one ∷ [])))
    ≡ Itself (Ok (entry (codes "a") (codes "x/a.py") (codes "a.py") 0) ∷ [])
from_its_folder = refl

another : order_saying (codes "x/m.py" ∷ []) (codes "x/m.py") 1 (Some (Include (codes "n.py"))) ≡ Another (codes "x/n.py")
another = refl

-- names are compared as they are
not_cleaned : order_saying (codes "m.py" ∷ []) (codes "m.py") 1 (Some (Include (codes "./m.py"))) ≡ Another (codes "./m.py")
not_cleaned = refl

in_a_loop : order_saying (codes "x/m.py" ∷ codes "x/n.py" ∷ []) (codes "x/n.py") 1 (Some (Include (codes "m.py"))) ≡ Itself (Err (Loop (codes "x/m.py")) ∷ [])
in_a_loop = refl

required : order_saying (codes "m.py" ∷ []) (codes "m.py") 1 (Some (Require (codes "x"))) ≡ Itself (Err (Required (codes "x")) ∷ [])
required = refl

in_order : entries_after [] (Ok two ∷ Ok one ∷ []) ≡ Ok (two ∷ one ∷ [])
in_order = refl

twice_first : entries_after [] (Ok one ∷ Ok one ∷ Err (Required (codes "x")) ∷ []) ≡ Err (Twice (codes "a"))
twice_first = refl

fault_first : entries_after [] (Ok one ∷ Err (Required (codes "x")) ∷ Ok one ∷ []) ≡ Err (Required (codes "x"))
fault_first = refl
