use Rattle.std.proofs.Common.{ℕ, List, ◌++◌, codes, ap, sym, subst, ◌∙◌}
use Rattle.mpy_endings.specs.declared.ending.BoardFault.{BoardFault}
use Rattle.mpy_endings.specs.Line.{Puts, board_line}
use Rattle.mpy_endings.proofs.boards.say_board.Goals as goal

pub returns-in-NoModule : goal.returns-in-NoModule
returns-in-NoModule g c =
    let line = ap (λ (missing : List ℕ). (codes "mpy: " ++ c.args.name.now ++ codes ": board 4 NoModule ") ++ (missing ++ codes "\n")) c.bytes.ensures ∙ sym (ap (board_line c.args.name.now) c.in-NoModule.is) in
    subst (λ (bs : List ℕ). Puts (g.E.Sink.told c.args.say.now) (g.E.Sink.told c.say_missing.new.say) (g.E.Sink.count c.args.say.now) (g.E.Sink.count c.say_missing.new.say) bs c.say_missing.result) line c.say_missing.ensures

pub returns-in-Unwritten : goal.returns-in-Unwritten
returns-in-Unwritten g c =
    subst (λ (f : BoardFault). Puts (g.E.Sink.told c.args.say.now) (g.E.Sink.told c.say_output.new.say) (g.E.Sink.count c.args.say.now) (g.E.Sink.count c.say_output.new.say) (board_line c.args.name.now f) c.say_output.result) (sym c.in-Unwritten.is) c.say_output.ensures
