-- What is asked for a room that may be past the numbers.
use Rattle.std.proofs.Common.{ℕ, ◌+◌, ◌-◌, ◌*◌, ◌^◌, ◌<◌, ◌≤◌, ◌≡◌, min, Option, Some, None, unwrap_or, ◌∙◌, ap, inl, inr, arith, mul_comm, le-mul_of_pos_right}
use Rattle.std.proofs.lemmas.Bool.{cases_lt}
use Rattle.std.specs.Option.{SomeIff}

-- the room itself, where it is small
pub room_small : (answer : Option ℕ) (room given : ℕ) → SomeIff answer (room < 2 ^ 64) room → given ≡ unwrap_or answer (2 ^ 64 - 1) → room < 2 ^ 32 → given ≡ room
room_small None room given past e small = absurd (past (omega arith))
room_small (Some r) room given found e small = e ∙ found.1

pub asked_for_room : (answer : Option ℕ) (room given head each asked : ℕ) → SomeIff answer (room < 2 ^ 64) room → given ≡ unwrap_or answer (2 ^ 64 - 1) → 0 < each
    → asked ≡ min (min (given * each) (2 ^ 64 - 1) + head) (2 ^ 64 - 1) → asked ≡ min (head + each * room) (2 ^ 64 - 1)
asked_for_room (Some r) room given head each asked found e some q =
    let same : given * each ≡ each * room = ap (λ x. x * each) (e ∙ found.1) ∙ mul_comm room each in
    omega (arith, q, same)
asked_for_room None room given head each asked past e some q = elim (cases_lt room (2 ^ 64)) [
  | inl low ↦ absurd (past low)
  | inr high ↦
      let more : given ≤ given * each = le-mul_of_pos_right given some in
      let times : room ≤ room * each = le-mul_of_pos_right room some in
      omega (arith, q, e, more, times, mul_comm room each)
]
