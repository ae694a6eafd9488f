-- Sets of texts.
use Rattle.std.specs.Prelude.{ℕ, List, Vec}
use Rattle.std.specs.declared.alloc.Global.{Global}

-- the bytes of a key
abbrev pub bytes_of : Vec ℕ Global → List ℕ
bytes_of key = key.items
