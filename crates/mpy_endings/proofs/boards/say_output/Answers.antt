use Rattle.std.proofs.Common.{◌++◌, List, ℕ, codes, subst, ◌∙◌}
use Rattle.mpy_endings.specs.Line.{Puts}
use Rattle.mpy_endings.proofs.boards.say_output.Goals as goal

pub returns : goal.returns
returns g c =
    subst (λ (bs : List ℕ). Puts (g.E.Sink.told c.args.say.now) (g.E.Sink.told c.put_three.new.say) (g.E.Sink.count c.args.say.now) (g.E.Sink.count c.put_three.new.say) (codes "mpy: write fault " ++ bs ++ codes ".out\n") c.put_three.result)
    (c.as_bytes.ensures.value ∙ c.format.ensures.text) c.put_three.ensures
