-- Numbers beside texts.
use Rattle.std.specs.Prelude.{ℕ, List, Option, Vec}
use Rattle.std.specs.Map.{lookup}
use Rattle.std.specs.Str.{bytes_eq}
use Rattle.std.specs.declared.alloc.Global.{Global}
use Rattle.arena_heap.specs.declared.value.ConstNo.{ConstNo}

-- the number that stands beside a text
abbrev pub beside : List (Vec ℕ Global × ConstNo) → List ℕ → Option ConstNo
beside entries text = lookup (λ key. bytes_eq text key.items) entries
