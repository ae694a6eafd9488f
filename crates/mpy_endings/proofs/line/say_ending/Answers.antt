use Rattle.std.proofs.Common.{ℕ, List, codes, ap, sym, subst, ◌∙◌}
use Rattle.mpy_endings.specs.declared.ending.Ending.{Ending}
use Rattle.mpy_endings.specs.Line.{Puts, named_line, source_line, line_of}
use Rattle.mpy_endings.proofs.line.say_ending.Goals as goal

pub returns-in-Unaccepted-clause-line : goal.returns-in-Unaccepted-clause-line
returns-in-Unaccepted-clause-line g c =
    let line = ap (λ (name : List ℕ). source_line name c.in-Unaccepted.fault) c.as_bytes.ensures.value ∙ sym (ap (line_of c.args.name.now) c.in-Unaccepted.is) in
    subst (λ (bs : List ℕ). Puts (g.E.Sink.told c.args.say.now) (g.E.Sink.told c.say_fault.new.say) (g.E.Sink.count c.args.say.now) (g.E.Sink.count c.say_fault.new.say) bs c.say_fault.result) line c.say_fault.ensures

pub returns-in-ReadFault-clause-line : goal.returns-in-ReadFault-clause-line
returns-in-ReadFault-clause-line g c =
    let line = ap (λ (name : List ℕ). named_line (codes "mpy: read fault") name) c.as_bytes-in-ReadFault.ensures.value ∙ sym (ap (line_of c.args.name.now) c.in-ReadFault.is) in
    subst (λ (bs : List ℕ). Puts (g.E.Sink.told c.args.say.now) (g.E.Sink.told c.put_named.new.say) (g.E.Sink.count c.args.say.now) (g.E.Sink.count c.put_named.new.say) bs c.put_named.result) line c.put_named.ensures

pub returns-in-WriteFault-clause-line : goal.returns-in-WriteFault-clause-line
returns-in-WriteFault-clause-line g c =
    subst (λ (e : Ending). Puts (g.E.Sink.told c.args.say.now) (g.E.Sink.told c.put.new.say) (g.E.Sink.count c.args.say.now) (g.E.Sink.count c.put.new.say) (line_of c.args.name.now e) c.put.result) (sym c.in-WriteFault.is) c.put.ensures

pub returns-in-Unwritten-clause-line : goal.returns-in-Unwritten-clause-line
returns-in-Unwritten-clause-line g c =
    let line = ap (λ (name : List ℕ). named_line (codes "mpy: write fault") name) c.as_bytes-in-Unwritten.ensures.value ∙ sym (ap (line_of c.args.name.now) c.in-Unwritten.is) in
    subst (λ (bs : List ℕ). Puts (g.E.Sink.told c.args.say.now) (g.E.Sink.told c.put_named-in-Unwritten.new.say) (g.E.Sink.count c.args.say.now) (g.E.Sink.count c.put_named-in-Unwritten.new.say) bs c.put_named-in-Unwritten.result) line c.put_named-in-Unwritten.ensures

pub returns-in-NoMemory-clause-line : goal.returns-in-NoMemory-clause-line
returns-in-NoMemory-clause-line g c =
    subst (λ (e : Ending). Puts (g.E.Sink.told c.args.say.now) (g.E.Sink.told c.put-in-NoMemory.new.say) (g.E.Sink.count c.args.say.now) (g.E.Sink.count c.put-in-NoMemory.new.say) (line_of c.args.name.now e) c.put-in-NoMemory.result) (sym c.in-NoMemory.is) c.put-in-NoMemory.ensures

pub returns-in-Absent-clause-line : goal.returns-in-Absent-clause-line
returns-in-Absent-clause-line g c =
    let line = ap (λ (name : List ℕ). named_line (codes "mpy: absent") name) c.as_bytes-in-Absent.ensures.value ∙ sym (ap (line_of c.args.name.now) c.in-Absent.is) in
    subst (λ (bs : List ℕ). Puts (g.E.Sink.told c.args.say.now) (g.E.Sink.told c.put_named-in-Absent.new.say) (g.E.Sink.count c.args.say.now) (g.E.Sink.count c.put_named-in-Absent.new.say) bs c.put_named-in-Absent.result) line c.put_named-in-Absent.ensures
