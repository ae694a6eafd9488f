use Rattle.std.proofs.Common.{ℕ, ◌+◌, ◌-◌, ◌*◌, ◌^◌, ◌<◌, ◌≡◌, min, sym, ◌∙◌, ap, subst, arith, le-mul_of_pos_right, mul_comm}
use Rattle.qstr_pool.specs.mpy_base.Weights.{Fits, no_room, room_for}
use Rattle.std.proofs.lemmas.Result.{err_from_is_err_and}
use Rattle.arena_heap.proofs.Asking.{room_small, asked_for_room}
use Rattle.arena_heap.proofs.Views.{no_room-capped, fits_capped, fits_uncapped, on_err}
use Rattle.arena_heap.proofs.arena.Arena.ask_room.Goals as goal
use Rattle.arena_heap.proofs.arena.Arena.ask_room.Goals.{After-saturating_add, In_ok-ask}

asked : (c : After-saturating_add) → c.saturating_add.result ≡ min (c.args.head + c.args.each * room_for c.args.items) (2 ^ 64 - 1)
asked c = asked_for_room c.room_for.result _ _ _ _ _ c.room_for.ensures c.unwrap_or-room.ensures c.requires (omega (arith, c.saturating_add.ensures, c.saturating_mul.ensures))

pub returns-in_err-ask-clause-told : goal.returns-in_err-ask-clause-told
returns-in_err-ask-clause-told c =
    let p = err_from_is_err_and c.from_residual.result c.from_residual.ensures.1 in
    rw (p.1, p.2) (c.in_err-ask.ensures.told
    ∙ (ap (λ (x : ℕ). no_room c.args.self.now x 0) (asked (goal.at.returns-in_err-ask-clause-told c).After-saturating_add)
    ∙ no_room-capped c.args.self.now (c.args.head + c.args.each * room_for c.args.items) 0 c.ask.ensures.few))

pub returns-in_err-ask-clause-err : goal.returns-in_err-ask-clause-err
returns-in_err-ask-clause-err c =
    on_err c.from_residual.result _
    (λ f. c.in_err-ask.ensures.err
    (subst (λ (x : ℕ). Fits c.args.self.now x 0) (sym (asked (goal.at.returns-in_err-ask-clause-err c).After-saturating_add))
    (fits_capped (c.args.head + c.args.each * room_for c.args.items) c.ask.ensures.few f)))

fits : (c : In_ok-ask) → Fits c.args.self.now (c.args.head + c.args.each * room_for c.args.items) 0
fits c = fits_uncapped (c.args.head + c.args.each * room_for c.args.items) c.ask.ensures.few (subst (λ (x : ℕ). Fits c.args.self.now x 0) (asked (goal.at.returns-clause-fits c).After-saturating_add) c.in_ok-ask.ensures.ok)

small : (c : In_ok-ask) → room_for c.args.items < 2 ^ 32
small c = omega (arith, (fits c).cells_fit, c.ask.ensures.few, le-mul_of_pos_right (room_for c.args.items) c.requires, mul_comm c.args.each (room_for c.args.items))

pub returns-clause-fits : goal.returns-clause-fits
returns-clause-fits c = fits c

pub returns-clause-room : goal.returns-clause-room
returns-clause-room c = room_small c.room_for.result _ _ c.room_for.ensures c.unwrap_or-room.ensures (small c)

pub overflow_cast-result : goal.overflow_cast-result
overflow_cast-result c = omega (arith, small c, room_small c.room_for.result _ _ c.room_for.ensures c.unwrap_or-room.ensures (small c))
