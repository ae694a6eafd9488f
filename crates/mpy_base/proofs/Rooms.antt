-- Rooms are powers of two, and each number of items has one that is the least.
use Rattle.std.proofs.Common.{ℕ, zero, suc, ◌+◌, ◌-◌, ◌*◌, ◌^◌, ◌<◌, ◌≤◌, ◌≡◌, max, Bool, true, false, refl, sym, ◌∙◌, ap, subst, inl, inr, arith, pow_pos, pow_mono, pow-suc, pow-add}
use Rattle.std.specs.Int.{IsPowerOfTwo, IsNextPowerOfTwo}
use Rattle.std.proofs.lemmas.Bool.{cases_lt, le-leb, lt-leb}
use Rattle.mpy_base.specs.Weights.{IsRoom, IsRoomFor, doubled, room_for}

pub room_positive : (room : ℕ) → IsRoom room → 4 ≤ room
room_positive room (k, e) = omega (arith, e, pow_pos k)

pub room_doubled : (room : ℕ) → IsRoom room → IsRoom (2 * room)
room_doubled room (k, e) = (suc k, omega (arith, e, pow-suc 2 k))

-- the next room is twice as large
pub rooms_apart : (a b : ℕ) → IsRoom a → IsRoom b → a < b → 2 * a ≤ b
rooms_apart a b (j, ea) (k, eb) h = elim (cases_lt j k) [
  | inl low ↦ let up : 2 ^ suc j ≤ 2 ^ k = pow_mono low in omega (arith, ea, eb, up, pow-suc 2 j)
  | inr high ↦ let down : 2 ^ k ≤ 2 ^ j = pow_mono high in absurd (omega (arith, ea, eb, down))
]

pub doubled_is : (times room items : ℕ) → IsRoom room → items ≤ room + times → ((other : ℕ) → IsRoom other → items ≤ other → room ≤ other) → IsRoomFor items (doubled times room items)
doubled_is zero room items is_room enough least = record { is_room = is_room; holds = omega arith; least = least }
doubled_is (suc times) room items is_room enough least = elim (cases_lt room items) [
  | inl low ↦ subst (λ (b : Bool). IsRoomFor items (elim b [ true ↦ room | false ↦ doubled times (2 * room) items ])) (sym (lt-leb items room low))
      (doubled_is times (2 * room) items (room_doubled room is_room) (omega (arith, room_positive room is_room))
      (λ other o h. rooms_apart room other is_room o (omega arith)))
  | inr high ↦ subst (λ (b : Bool). IsRoomFor items (elim b [ true ↦ room | false ↦ doubled times (2 * room) items ])) (sym (le-leb items room high))
      (record { is_room = is_room; holds = high; least = least })
]

pub room_is : (items : ℕ) → IsRoomFor items (room_for items)
room_is items = doubled_is items 4 items (0, refl) (omega arith) (λ other o h. room_positive other o)

pub one_room : (items a b : ℕ) → IsRoomFor items a → IsRoomFor items b → a ≡ b
one_room items a b p q = omega (arith, p.least b q.is_room q.holds, q.least a p.is_room p.holds)

-- what is past a room needs twice as much
pub room_for-next : (room : ℕ) → IsRoom room → room_for (suc room) ≡ 2 * room
room_for-next room r =
    one_room (suc room) (room_for (suc room)) (2 * room) (room_is (suc room))
    (record { is_room = room_doubled room r; holds = omega (arith, room_positive room r); least = λ other o h. rooms_apart room other r o h })

power_is_room : (p : ℕ) → IsPowerOfTwo p → 4 ≤ p → IsRoom p
power_is_room p (k, e) h = elim (cases_lt k 2) [
  | inl low ↦ let small : 2 ^ suc k ≤ 2 ^ 2 = pow_mono low in absurd (omega (arith, e, small, pow-suc 2 k))
  | inr high ↦
      let same : 2 + (k - 2) ≡ k = omega arith in
      (k - 2, e ∙ (ap (λ (j : ℕ). 2 ^ j) (sym same) ∙ pow-add 2 2 (k - 2)))
]

pub room_of_power : (items p : ℕ) → IsNextPowerOfTwo (max items 4) p → IsRoomFor items p
room_of_power items p next =
    let is_room : IsRoom p = power_is_room p next.0 (omega (arith, next.1)) in
    record {
      is_room = is_room;
      holds = omega (arith, next.1);
      least = λ other o h. elim (cases_lt other p) [
        | inl low ↦ omega (arith, next.2, rooms_apart other p o is_room low, room_positive other o)
        | inr high ↦ high
      ];
    }

-- more than 2^63 items need 2^64 or more
pub room_past : (items : ℕ) → 2 ^ 63 < max items 4 → 2 ^ 64 ≤ room_for items
room_past items h =
    let r = room_is items in
    rooms_apart (2 ^ 63) (room_for items) (61, refl) r.is_room (omega (arith, r.holds))
