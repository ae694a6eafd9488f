use Rattle.std.proofs.Common.{ℕ, List, codes, ap, sym, subst, ◌∙◌}
use Rattle.mpy_endings.specs.Line.{Puts, named_line, main_line}
use Rattle.mpy_endings.proofs.freezing.say_main.Goals as goal

pub returns-in-NoMain : goal.returns-in-NoMain
returns-in-NoMain g c =
    let line = ap (λ (main : List ℕ). named_line (codes "mpy: absent") main) c.bytes.ensures ∙ sym (ap (main_line c.args.name.now) c.in-NoMain.is) in
    subst (λ (bs : List ℕ). Puts (g.E.Sink.told c.args.say.now) (g.E.Sink.told c.put_named.new.say) (g.E.Sink.count c.args.say.now) (g.E.Sink.count c.put_named.new.say) bs c.put_named.result) line c.put_named.ensures
