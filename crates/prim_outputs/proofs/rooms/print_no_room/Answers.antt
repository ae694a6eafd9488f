use Rattle.prim_outputs.proofs.Putting.{wrote_puts}
use Rattle.prim_outputs.proofs.rooms.print_no_room.Goals as goal

pub returns-clause-same_reference : goal.returns-clause-same_reference
returns-clause-same_reference g c =
    (wrote_puts g.S.Sink.told g.S.Sink.count _ (λ p. p.out.ghost_name) (λ p. p.failed) (λ p. p.out.now) (λ old piece new h. h) c.args.printer.now c.write_no_room.new.pen _ c.write_no_room.ensures).0

pub returns-clause-puts : goal.returns-clause-puts
returns-clause-puts g c =
    (wrote_puts g.S.Sink.told g.S.Sink.count _ (λ p. p.out.ghost_name) (λ p. p.failed) (λ p. p.out.now) (λ old piece new h. h) c.args.printer.now c.write_no_room.new.pen _ c.write_no_room.ensures).1
