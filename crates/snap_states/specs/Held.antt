-- The keys of a dict that were looked at.
use Rattle.std.specs.Prelude.{◌≡◌, ℕ, ℤ, Bool, true, not, List, [], ◌∷◌, ◌++◌, if◌then◌else◌}
use Rattle.std.specs.List.{list_any}
use Rattle.std.specs.Ordering.{int_eq}
use Rattle.std.specs.Str.{bytes_eq}
use Rattle.prim_walks.specs.py_values.Keys.{PlainKey, NoneKey, NumberKey, TextKey}

-- None or not, numbers, and texts
pub record Held : Type 0 where
  pub nothing : Bool
  pub numbers : List ℤ
  pub texts : List (List ℕ)

-- the key is held
abbrev pub has_key : Held → PlainKey → Bool
has_key held NoneKey = held.nothing
has_key held (NumberKey z) = list_any (int_eq z) held.numbers
has_key held (TextKey text) = list_any (bytes_eq text) held.texts

-- the keys with one more
abbrev pub with_key : Held → PlainKey → Held
with_key held NoneKey = record held { nothing = true }
with_key held (NumberKey z) = record held { numbers = held.numbers ++ z ∷ [] }
with_key held (TextKey text) = record held { texts = held.texts ++ text ∷ [] }

-- the key was added, unless it was held
pub record IsAdded (old : Held) (key : PlainKey) (new : Held) (was_new : Bool) : Type 0 where
  pub tells : was_new ≡ not (has_key old key)
  pub keys : new ≡ (if was_new then with_key old key else old)
