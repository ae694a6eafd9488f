-- Which names are local to which functions, and the first misuse.
use Rattle.std.specs.Prelude.{◌≡◌, ℕ, zero, suc, ◌<◌, Bool, false, not, ◌&&◌, ◌||◌, if◌then◌else◌, nat_eq, List, [], ◌∷◌, ◌++◌}
use Rattle.std.specs.Prelude.{take, filter, slice_get, Option, Some, None, option_and_then}
use Rattle.std.specs.List.{filter_map}
use Rattle.mpy_base.specs.declared.source.SourceFault.{SourceFault}
use Rattle.mpy_base.specs.declared.source.SourceCode.{SourceCode}
use Rattle.mpy_base.specs.declared.source.SourceCode.TheVariants.{Capture, LateGlobal, OutsideLoop, OutsideFunction}
use Rattle.py_tree.specs.declared.stmt.Module.{Module}
use Rattle.py_scopes.specs.declared.event.Act.{Act}
use Rattle.py_scopes.specs.declared.event.Act.TheVariants.{Use, Bind, Declare, Jump, Return, Enter, Leave}
use Rattle.py_scopes.specs.declared.event.Event.{Event}
use Rattle.py_scopes.specs.declared.names.Tells.{Tells}
use Rattle.py_scopes.specs.declared.names.Tells.TheVariants.{Bound, Declared, Occurring}
use Rattle.py_scopes.specs.Events.{events_of}
use Rattle.py_scopes.specs.Names.{has, firsts, Table}

-- ---- where an event stands

-- an event, and the functions around it by their numbers, the innermost first
pub record Mark : Type 0 where
  pub event : Event
  pub around : List ℕ

-- an event with the functions around it
abbrev pub mark : Event → List ℕ → Mark
mark event around = record { event = event; around = around }

-- functions have numbers from 0 on, in the order in which they begin
abbrev pub next_behind : Act → ℕ → ℕ
next_behind Enter next = suc next
next_behind _ next = next

-- the functions around a function that ends
abbrev pub outer : List ℕ → List ℕ
outer [] = []
outer (f ∷ around) = around

-- the functions around what follows an event
abbrev pub around_behind : Act → ℕ → List ℕ → List ℕ
around_behind Enter next around = next ∷ around
around_behind Leave next around = outer around
around_behind _ next around = around

-- the events with the functions around them; `next` is the number of the next function to begin
abbrev pub marks_from : ℕ → List ℕ → List Event → List Mark
marks_from next around [] = []
marks_from next around (e ∷ events) =
    mark e around ∷ marks_from (next_behind e.act next) (around_behind e.act next around) events

-- the events of a source with the functions around them
abbrev pub marks : List Event → List Mark
marks = marks_from 0 []

-- how many functions begin
abbrev pub functions : List Event → ℕ
functions [] = 0
functions (e ∷ events) = next_behind e.act (functions events)

-- ---- the names of a function's own text

-- the name that an act binds, declares or uses
abbrev pub told : Tells → Act → Option (List ℕ)
told Bound (Bind name) = Some name
told Declared (Declare name) = Some name
told Occurring (Use name) = Some name
told Occurring (Bind name) = Some name
told _ _ = None

-- whether f is the innermost function
abbrev pub is_own : ℕ → List ℕ → Bool
is_own f [] = false
is_own f (g ∷ around) = nat_eq f g

-- the name that an event tells of f's own text
abbrev pub told_of : Tells → ℕ → Mark → Option (List ℕ)
told_of tells f m = if is_own f m.around then told tells m.event.act else None

-- the names that the events of each function's own text tell, each once, where it first stands
abbrev pub own : Tells → List Mark → Table
own tells ms f = firsts (filter_map (told_of tells f) ms)

-- ---- locals

-- a name is local to a function that binds it and doesn't declare it global
abbrev pub is_local : Table → Table → ℕ → List ℕ → Bool
is_local bound declared f name = has name (bound f) && not (has name (declared f))

-- a function's locals by slot: parameters stand first, since they are bound where it begins
abbrev pub locals : Table → Table → ℕ → List (List ℕ)
locals bound declared f = filter (λ name. not (has name (declared f))) (bound f)

-- the locals of each of the first n functions
abbrev pub locals_below : Table → Table → ℕ → List (List (List ℕ))
locals_below bound declared zero = []
locals_below bound declared (suc n) = locals_below bound declared n ++ locals bound declared n ∷ []

-- ---- faults

-- a name is searched from the innermost of these functions on: the first in which it is local or declared decides
abbrev pub is_found : Table → Table → List ℕ → List ℕ → Bool
is_found bound declared name [] = false
is_found bound declared name (f ∷ around) =
    is_local bound declared f name || (not (has name (declared f)) && is_found bound declared name around)

-- a used name that is neither local nor declared in the innermost function is searched in those around it
abbrev pub is_captured : Table → Table → List ℕ → List ℕ → Bool
is_captured bound declared name [] = false
is_captured bound declared name (f ∷ around) =
    not (is_local bound declared f name) && (not (has name (declared f)) && is_found bound declared name around)

-- whether the name occurs in the innermost function's own text
abbrev pub is_late : Table → List ℕ → List ℕ → Bool
is_late occurring name [] = false
is_late occurring name (f ∷ around) = has name (occurring f)

-- a fault in that line, which names this word
abbrev pub fault : SourceCode → ℕ → List ℕ → Option SourceFault
fault code line name = Some (record { code = code; line = line; word = name })

-- what is wrong with an act: by the names bound and declared in the whole text, those that occur in front, and the
-- functions around it
abbrev pub wrong : Table → Table → Table → List ℕ → ℕ → Act → Option SourceFault
wrong bound declared occurring around line (Use name) = if is_captured bound declared name around then fault Capture line name else None
wrong bound declared occurring around line (Declare name) = if is_late occurring name around then fault LateGlobal line name else None
wrong bound declared occurring around line (Jump looped) = if looped then None else fault OutsideLoop line []
wrong bound declared occurring [] line Return = fault OutsideFunction line []
wrong bound declared occurring (f ∷ around) line Return = None
wrong bound declared occurring around line (Bind name) = None
wrong bound declared occurring around line Enter = None
wrong bound declared occurring around line Leave = None

-- the fault of the n-th event
abbrev pub fault_at : List Mark → ℕ → Option SourceFault
fault_at ms n =
    option_and_then (λ (m : Mark). wrong (own Bound ms) (own Declared ms) (own Occurring (take n ms)) m.around m.event.line m.event.act)
    (slice_get ms n)

-- the first in the text
pub record IsFirst (ms : List Mark) (f : SourceFault) : Type 0 where
  pub place : ℕ
  pub here : fault_at ms place ≡ Some f
  pub none_before : (n : ℕ) → n < place → fault_at ms n ≡ None

-- no event is a misuse
abbrev pub AreFaultless : List Mark → Type 0
AreFaultless ms = (n : ℕ) → fault_at ms n ≡ None

-- ---- a source

-- the events of a tree with the functions around them
abbrev pub marks_of : Module → List Mark
marks_of tree = marks (events_of tree)

-- the locals of each of its functions, in slot order
abbrev pub slots_of : Module → List (List (List ℕ))
slots_of tree = let ms = marks_of tree in locals_below (own Bound ms) (own Declared ms) (functions (events_of tree))

-- the first misuse of a name in a source
abbrev pub IsFirstFault : Module → SourceFault → Type 0
IsFirstFault tree f = IsFirst (marks_of tree) f

-- a source misuses no name
abbrev pub IsFaultless : Module → Type 0
IsFaultless tree = AreFaultless (marks_of tree)
