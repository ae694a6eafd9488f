-- When the code of a text passes a limit.
use Rattle.std.specs.Prelude.{◌≡◌, ◌≤◌, ◌+◌, max, length, Bool, ◌||◌, nat_lt, nat_le, if◌then◌else◌, Option, Some, None}
use Rattle.mpy_base.specs.declared.source.SourceCode.{SourceCode}
use Rattle.mpy_base.specs.declared.source.SourceCode.TheVariants.{TooLong, StateTooBig}
use Rattle.bc_scheme.specs.py_meaning.Program.{Text}
use Rattle.bc_scheme.specs.Heights.{tall_block, held_in}
use Rattle.emit_measures.specs.declared.faults.Measures.{Measures}
use Rattle.emit_measures.specs.Limits.{saturated}

-- more than 4,096 slots, 100 handler entries or 255 parameters, or the 32nd function in a row
abbrev pub is_big_state : Measures → Bool
is_big_state m = (m.crowded || nat_le 32 m.depth) || ((nat_lt 255 m.params || nat_lt 100 m.entries) || nat_lt 4096 (m.locals + max 1 m.height))

-- more than 16,000 bytes come before a state that is too big
abbrev pub fault_of : Measures → Option SourceCode
fault_of m = if nat_lt 16000 m.length then Some TooLong else (if is_big_state m then Some StateTooBig else None)

-- these are the text's numbers
pub record IsMeasured (text : Text) (m : Measures) : Type 0 where
  pub locals : m.locals ≡ length text.locals
  pub params : m.params ≡ length text.params
  pub height : m.height ≡ saturated (tall_block text.level text.body)
  pub entries : m.entries ≡ saturated (held_in text.body)

-- the text keeps the limits
pub record IsWithin (text : Text) : Type 0 where
  pub state : length text.locals + max 1 (tall_block text.level text.body) ≤ 4096
  pub held : held_in text.body ≤ 100
  pub params : length text.params ≤ 255
