-- A key that was read, as what it is to a dict.
use Rattle.arena_objects.specs.declared.keys.Key.{Key}
use Rattle.arena_objects.specs.declared.keys.Key.TheVariants as keys
use Rattle.py_values.specs.Keys.{PlainKey, NoneKey, NumberKey, TextKey}

-- what the key is to a dict
abbrev pub plain : Key → PlainKey
plain keys.None = NoneKey
plain (keys.Number z) = NumberKey z
plain (keys.Text s) = TextKey s.now
