use Rattle.std.proofs.Common.{ℕ, List, codes, ap, sym, subst, ◌∙◌}
use Rattle.mpy_endings.specs.Line.{Puts, named_line, source_line, sources_line}
use Rattle.mpy_endings.proofs.freezing.say_sources.Goals as goal

pub returns-in-Absent : goal.returns-in-Absent
returns-in-Absent g c =
    let line = ap (λ (path : List ℕ). named_line (codes "mpy: absent") path) c.bytes.ensures ∙ sym (ap (sources_line c.args.name.now) c.in-Absent.is) in
    subst (λ (bs : List ℕ). Puts (g.E.Sink.told c.args.say.now) (g.E.Sink.told c.put_named.new.say) (g.E.Sink.count c.args.say.now) (g.E.Sink.count c.put_named.new.say) bs c.put_named.result) line c.put_named.ensures

pub returns-in-Unaccepted : goal.returns-in-Unaccepted
returns-in-Unaccepted g c =
    let line = ap (λ (path : List ℕ). source_line path c.in-Unaccepted.fault) c.bytes-in-Unaccepted.ensures ∙ sym (ap (sources_line c.args.name.now) c.in-Unaccepted.is) in
    subst (λ (bs : List ℕ). Puts (g.E.Sink.told c.args.say.now) (g.E.Sink.told c.say_fault.new.say) (g.E.Sink.count c.args.say.now) (g.E.Sink.count c.say_fault.new.say) bs c.say_fault.result) line c.say_fault.ensures

pub returns-in-Unread : goal.returns-in-Unread
returns-in-Unread g c =
    let line = ap (λ (path : List ℕ). named_line (codes "mpy: read fault") path) c.bytes-in-Unread.ensures ∙ sym (ap (sources_line c.args.name.now) c.in-Unread.is) in
    subst (λ (bs : List ℕ). Puts (g.E.Sink.told c.args.say.now) (g.E.Sink.told c.put_named-in-Unread.new.say) (g.E.Sink.count c.args.say.now) (g.E.Sink.count c.put_named-in-Unread.new.say) bs c.put_named-in-Unread.result) line c.put_named-in-Unread.ensures
