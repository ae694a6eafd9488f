use Rattle.std.proofs.Common.{ℕ, arith, subst, max}
use Rattle.mpy_base.proofs.Rooms.{room_past, room_of_power, room_is, one_room}
use Rattle.std.specs.Int.{IsNextPowerOfTwo}
use Rattle.mpy_base.proofs.room.room_for.Goals as goal

pub returns-then-least : goal.returns-then-least
returns-then-least c h = omega (arith, h, room_past c.args.items (omega (arith, c.max-least.ensures, c.if-least.true)))

pub returns-else-least : goal.returns-else-least
returns-else-least c =
    let next : IsNextPowerOfTwo (max c.args.items 4) c.next_power_of_two.result = subst (λ (m : ℕ). IsNextPowerOfTwo m c.next_power_of_two.result) c.max-least.ensures (c.next_power_of_two.ensures.power, c.next_power_of_two.ensures.lower_bound, c.next_power_of_two.ensures.upper_bound) in
    let same = one_room c.args.items _ _ (room_of_power c.args.items c.next_power_of_two.result next) (room_is c.args.items) in
    (omega (arith, same, next.2, c.max-least.ensures, c.if-least.false), same)
