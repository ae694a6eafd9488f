use Rattle.prim_builtins.proofs.prim_walks_lemmas.PenSteps.{wrote_then, wrote_piece}
use Rattle.prim_outputs.proofs.Walked.{all_strs, some_there}
use Rattle.prim_outputs.proofs.Putting.{wrote_puts}
use Rattle.prim_outputs.proofs.prints.write_line.Goals as goal

pub returns-clause-same_reference : goal.returns-clause-same_reference
returns-clause-same_reference g c =
    let texts = g.C.Constants.text_of c.args.consts.now in
    let tuples = g.C.Constants.items_of c.args.consts.now in
    let all = some_there (all_strs texts tuples c.args.arena.now c.args.args.now) c.requires.end in
    (wrote_puts g.S.Sink.told g.S.Sink.count _ (λ p. p.out.ghost_name) (λ p. p.failed) (λ p. p.out.now) (λ old piece new h. h) c.args.printer.now c.put.new.self _ (wrote_then {old = c.args.printer.now} {mid = c.put_texts.new.pen} {new = c.put.new.self} (c.put_texts.ensures all.0 all.1) (wrote_piece c.put_texts.new.pen c.put.new.self _ c.put.ensures.taken))).0

pub returns-clause-puts : goal.returns-clause-puts
returns-clause-puts g c all are =
    (wrote_puts g.S.Sink.told g.S.Sink.count _ (λ p. p.out.ghost_name) (λ p. p.failed) (λ p. p.out.now) (λ old piece new h. h) c.args.printer.now c.put.new.self _ (wrote_then {old = c.args.printer.now} {mid = c.put_texts.new.pen} {new = c.put.new.self} (c.put_texts.ensures all are) (wrote_piece c.put_texts.new.pen c.put.new.self _ c.put.ensures.taken))).1
