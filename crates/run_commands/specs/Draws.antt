-- Numbers that are drawn from a generator, by its states.
use Rattle.std.specs.Prelude.{ℕ, zero, suc, ◌+◌, ◌*◌, ◌/◌, ◌%◌, ◌^◌}

-- the state that follows
unfoldable pub next : ℕ → ℕ
next state = (state * 1103515245 + 12345) % 2 ^ 31

-- the state after some draws
abbrev pub after : ℕ → ℕ → ℕ
after state zero = state
after state (suc draws) = after (next state) draws

-- the number that the draw gives which led to a state
unfoldable pub drawn : ℕ → ℕ
drawn state = state / 65536 % 1000
