use Rattle.std.proofs.Common.{◌≡◌, List, [], ◌∷◌, ◌++◌, ap, ◌∙◌}
use Rattle.manifest_lines.specs.declared.manifest.Line.{Line}
use Rattle.manifest_lines.specs.Lines.{line, lines_of}
use Rattle.manifest_lines.proofs.Splits.{none_left, one_more_line}
use Rattle.manifest_lines.proofs.manifest.lines.Goals as goal

pub returns-in_default : goal.returns-in_default
returns-in_default c =
    none_left c.more.found.items (lines_of c.args.tokens.now) c.more.rest.now c.split_at.result.1.now c.line_length.result c.line_length.ensures.length c.split_at.ensures.back c.in_default.ensures.cases c.more.invariant

pub more-preserved : goal.more-preserved
more-preserved c =
    let pushed : c.push.new.self.items ≡ c.more.found.items ++ c.in_ok-judged.field-0 ∷ [] = c.in_ok-push.ensures.items in
    let items : c.push.new.self.items ≡ c.more.found.items ++ line c.split_at.result.0.now ∷ [] = pushed ∙ ap (λ (z : Line). c.more.found.items ++ z ∷ []) c.in_ok-judged.ensures in
    ap (λ (ls : List Line). ls ++ lines_of c.in-Some.others.now) items
    ∙ one_more_line c.more.found.items (lines_of c.args.tokens.now) c.more.rest.now c.split_at.result.1.now c.in-Some.others.now c.split_at.result.0.now c.in-Some._end.now c.line_length.result
    c.line_length.ensures.length c.split_at.ensures.front c.split_at.ensures.back c.in-Some.ensures.cases.0 c.more.invariant
