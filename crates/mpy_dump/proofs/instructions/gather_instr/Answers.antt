use Rattle.std.proofs.Common.{◌++◌, List, ℕ, length, take, sym, ap, ◌∙◌, append_assoc, arith, length-append, length-take}
use Rattle.std.specs.Prelude.{codes, decimal}
use Rattle.mpy_dump.proofs.Pens.{gathers_held}
use Rattle.mpy_dump.proofs.instructions.gather_instr.Goals as goal

pub add_number-requires-clause-few : goal.add_number-requires-clause-few
add_number-requires-clause-few g c = c.in-Some.ensures.few

pub add_number-requires-clause-room : goal.add_number-requires-clause-room
add_number-requires-clause-room g c =
    omega (arith, c.requires.room, c.in-Some.ensures.short, ap length c.add_front.ensures, length-append c.args.pen.now.text (take c.in-Some.len c.in-Some.name.now), length-take c.in-Some.len c.in-Some.name.now)

pub returns : goal.returns
returns g c =
    let jump = c.in-Some.ensures in
    let held = c.args.pen.now.text in
    let behind = decimal c.in-Some.target ++ codes "\n" in
    gathers_held _ _ _ (c.add_number.ensures ∙ (ap (λ (z : List ℕ). z ++ behind) c.add_front.ensures
    ∙ (append_assoc held (take c.in-Some.len c.in-Some.name.now) behind ∙ ap (λ (z : List ℕ). held ++ z) (sym (jump.text c.args.module.now)))))
