-- What a line calls the parts of a code.
use Rattle.std.specs.Prelude.{ℕ, List, codes}
use Rattle.trans_parts.specs.declared.part.What.{What}
use Rattle.trans_parts.specs.declared.part.What.TheVariants as whats

-- the word of a part
abbrev pub name_of : What → List ℕ
name_of whats.Name = codes "name"
name_of whats.Args = codes "args"
name_of whats.Defaults = codes "defaults"
name_of whats.State = codes "state"
name_of whats.Handlers = codes "handlers"
name_of whats.Children = codes "children"
name_of whats.Instr = codes "instr"
name_of whats.Line = codes "line"
