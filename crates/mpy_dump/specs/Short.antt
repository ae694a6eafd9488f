-- Texts of a few bytes, and what is listed by them.
use Rattle.std.specs.Prelude.{◌≡◌, ℕ, ◌+◌, ◌/◌, ◌%◌, ◌<◌, ◌≤◌, List, [], ◌∷◌, ◌++◌, take, length, codes, decimal, slice_index_or, slice_set}
use Rattle.mpy_tree.specs.bc_ops.declared.instr.Instr.{Instr}
use Rattle.mpy_tree.specs.bc_ops.Code.{Spells}
use Rattle.mpy_tree.specs.Raw.{Module}
use Rattle.mpy_dump.specs.declared.short.Short.{Short}
use Rattle.mpy_dump.specs.declared.head.Head.{Head}
use Rattle.mpy_dump.specs.declared.tails.Tails.{Tails}
use Rattle.mpy_dump.specs.Instructions.{head_text, instr_tail}

-- the text, which is a front of the bytes
abbrev pub short_text : Short → List ℕ
short_text short = take short.len short.bytes

-- what a line begins with: the text of the head, with its last digit put in
abbrev pub begins : Head → List ℕ
begins head = slice_set (short_text head.text) head.last head.digit

-- what the line of an instruction at the offset begins with, and where the offset ends in it
pub record IsHead (start : ℕ) (head : Head) : Type 0 where
  pub text : begins head ≡ head_text start head.line
  pub last : head.last + 1 ≡ length (decimal start)

-- how the line of the instruction with these bytes ends, wherever it stands; an empty text says nothing
abbrev pub IsTail : Module → List ℕ → Short → Type 0
IsTail m bytes tail = 0 < tail.len → (instr : Instr) × Spells bytes instr × ((end : ℕ) → short_text tail ≡ instr_tail m end instr)

-- one for each byte
abbrev pub AreSingles : Module → List Short → Type 0
AreSingles m tails = (byte : ℕ) (other : Short) → byte < 256 → IsTail m (byte ∷ []) (slice_index_or tails byte other)

-- one for each pair of a first byte from 16 to 55 and a number of one byte, at their place among all pairs
abbrev pub two_bytes : ℕ → List ℕ
two_bytes place = (16 + place / 128) ∷ place % 128 ∷ []

-- a tail for each pair, at its place
abbrev pub ArePairs : Module → List Short → Type 0
ArePairs m tails = (place : ℕ) (other : Short) → place < 5120 → IsTail m (two_bytes place) (slice_index_or tails place other)

-- the tails of both kinds
pub record AreTails (m : Module) (tails : Tails) : Type 0 where
  pub singles : AreSingles m tails.singles
  pub pairs : ArePairs m tails.pairs

-- the line of the instruction that ends at the offset ends with these bytes and a number of at most five digits
pub record IsJumpEnd (end : ℕ) (instr : Instr) (bytes : List ℕ) (len target : ℕ) : Type 0 where
  pub short : len ≤ 32
  pub few : target < 100000
  pub text : (m : Module) → instr_tail m end instr ≡ take len bytes ++ (decimal target ++ codes "\n")
