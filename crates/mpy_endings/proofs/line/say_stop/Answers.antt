use Rattle.std.proofs.Common.{ℕ, List, codes, ap, sym, subst, ◌∙◌}
use Rattle.mpy_endings.specs.declared.ending.Stop.{Stop}
use Rattle.mpy_endings.specs.Line.{Puts, named_line, source_line, stop_line}
use Rattle.mpy_endings.proofs.line.say_stop.Goals as goal

pub returns-in-LibraryFault-clause-line : goal.returns-in-LibraryFault-clause-line
returns-in-LibraryFault-clause-line g c =
    let line = ap (λ (path : List ℕ). named_line (codes "mpy: read fault") path) c.bytes.ensures ∙ sym (ap (stop_line c.args.name.now) c.in-LibraryFault.is) in
    subst (λ (bs : List ℕ). Puts (g.E.Sink.told c.args.say.now) (g.E.Sink.told c.put_named.new.say) (g.E.Sink.count c.args.say.now) (g.E.Sink.count c.put_named.new.say) bs c.put_named.result) line c.put_named.ensures

pub returns-in-LibraryUnaccepted-clause-line : goal.returns-in-LibraryUnaccepted-clause-line
returns-in-LibraryUnaccepted-clause-line g c =
    let line = ap (λ (path : List ℕ). source_line path c.in-LibraryUnaccepted.source.fault) c.bytes-in-LibraryUnaccepted.ensures ∙ sym (ap (stop_line c.args.name.now) c.in-LibraryUnaccepted.is) in
    subst (λ (bs : List ℕ). Puts (g.E.Sink.told c.args.say.now) (g.E.Sink.told c.say_fault.new.say) (g.E.Sink.count c.args.say.now) (g.E.Sink.count c.say_fault.new.say) bs c.say_fault.result) line c.say_fault.ensures

pub returns-in-Steps-clause-line : goal.returns-in-Steps-clause-line
returns-in-Steps-clause-line g c =
    subst (λ (s : Stop). Puts (g.E.Sink.told c.args.say.now) (g.E.Sink.told c.say_steps.new.say) (g.E.Sink.count c.args.say.now) (g.E.Sink.count c.say_steps.new.say) (stop_line c.args.name.now s) c.say_steps.result) (sym c.in-Steps.is) c.say_steps.ensures

pub returns-in-Unresumed-clause-line : goal.returns-in-Unresumed-clause-line
returns-in-Unresumed-clause-line g c =
    subst (λ (s : Stop). Puts (g.E.Sink.told c.args.say.now) (g.E.Sink.told c.say_snapshot.new.say) (g.E.Sink.count c.args.say.now) (g.E.Sink.count c.say_snapshot.new.say) (stop_line c.args.name.now s) c.say_snapshot.result) (sym c.in-Unresumed.is) c.say_snapshot.ensures
