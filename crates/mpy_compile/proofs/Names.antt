-- What names of imports give is ASCII.
use Rattle.std.proofs.Common.{ℕ, ◌<◌, Bool, true, false, cond, List, [], ◌∷◌, Option, Some, None}
use Rattle.std.specs.Prelude.{nat_eq}
use Rattle.std.specs.List.{onto_first}
use Rattle.std.proofs.lemmas.List.Elements.{All-nil, All-cons, All-head, All-tail}
use Rattle.emit_module.specs.bc_machine.py_effects.Modules.{parts_of, first_of}
use Rattle.emit_module.specs.py_meaning.Tree.{Name}
use Rattle.emit_module.specs.py_meaning.Statements.{bound_name, from_name, read_parts}
use Rattle.emit_module.specs.tr_source.Spelled.{IsAscii, IsAsciiOption, AllAscii}

abbrev Below : ℕ → Type 0
Below byte = byte < 128

onto_ascii : (byte : ℕ) (parts : List Name) → byte < 128 → AllAscii parts → AllAscii (onto_first byte parts)
onto_ascii byte [] b h = (All-cons Below byte [] b (All-nil Below), tt)
onto_ascii byte (part ∷ parts) b h = (All-cons Below byte part b h.0, h.1)

split_ascii : (byte : ℕ) (stops : Bool) (parts : List Name) → byte < 128 → AllAscii parts → AllAscii (cond stops ([] ∷ parts) (onto_first byte parts))
split_ascii byte true parts b h = (All-nil Below, h)
split_ascii byte false parts b h = onto_ascii byte parts b h

all_parts : (name : Name) → IsAscii name → AllAscii (parts_of name)
all_parts [] h = (All-nil Below, tt)
all_parts (byte ∷ bytes) h = split_ascii byte (nat_eq 46 byte) (parts_of bytes) (All-head Below byte bytes h) (all_parts bytes (All-tail Below byte bytes h))

first_ascii : (parts : List Name) → AllAscii parts → IsAscii (first_of parts)
first_ascii [] h = All-nil Below
first_ascii (part ∷ parts) h = h.0

pub bound_ascii : (name : Name) (bound : Option Name) → IsAscii name → IsAsciiOption bound → IsAscii (bound_name name bound)
bound_ascii name None h k = first_ascii (parts_of name) (all_parts name h)
bound_ascii name (Some other) h k = k

pub from_ascii : (name : Name) (bound : Option Name) → IsAscii name → IsAsciiOption bound → IsAscii (from_name name bound)
from_ascii name None h k = h
from_ascii name (Some other) h k = k

read_ascii : (parts : List Name) (bound : Option Name) → AllAscii parts → AllAscii (read_parts parts bound)
read_ascii [] None h = tt
read_ascii [] (Some other) h = tt
read_ascii (part ∷ parts) None h = tt
read_ascii (part ∷ parts) (Some other) h = h.1

pub parts_ascii : (name : Name) (bound : Option Name) → IsAscii name → AllAscii (read_parts (parts_of name) bound)
parts_ascii name bound h = read_ascii (parts_of name) bound (all_parts name h)
