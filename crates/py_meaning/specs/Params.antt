-- Parameters have the first slots.
use Rattle.std.specs.Prelude.{◌≡◌, ◌≤◌, List, [], ◌∷◌, ◌++◌, length}
use Rattle.py_meaning.specs.Tree.{Name}
use Rattle.py_meaning.specs.Program.{Text}

-- the locals of a text are its parameters and then others
abbrev pub BeginsWithParams : Text → Type 0
BeginsWithParams text = (others : List Name) × (text.locals ≡ text.params ++ others)

-- the locals of each text are its parameters and then others
abbrev pub AllBeginWithParams : List Text → Type 0
AllBeginWithParams [] = Unit {0}
AllBeginWithParams (text ∷ texts) = BeginsWithParams text × AllBeginWithParams texts

-- each parameter of a text has a slot: it has as many locals at least
abbrev pub HasSlots : Text → Type 0
HasSlots text = length text.params ≤ length text.locals

-- each parameter of each text has a slot
abbrev pub AllHaveSlots : List Text → Type 0
AllHaveSlots [] = Unit {0}
AllHaveSlots (text ∷ texts) = HasSlots text × AllHaveSlots texts
