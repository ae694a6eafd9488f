use Rattle.std.proofs.Common.{◌≡◌, ℕ, Bool, false, cond, List, [], ◌∷◌, ◌++◌, take, sym, ap, ◌∙◌, arith}
use Rattle.std.specs.List.{list_any}
use Rattle.std.specs.Str.{bytes_eq}
use Rattle.std.proofs.lemmas.Result.{IfOk-weaker}
use Rattle.py_tree.specs.declared.expr.Expr.{Expr}
use Rattle.py_expressions.specs.Reading.{is_new}
use Rattle.py_expressions.proofs.Tabled.{looked_up, one_more_later}
use Rattle.py_expressions.proofs.calls.is_new.Goals as goal

pub returns-clause-tells : goal.returns-clause-tells
returns-clause-tells c =
    let first : list_any (λ (key : List ℕ × Expr). bytes_eq key.0 c.args.name.now) (take 16 c.args.keys.now) ≡ false = sym c.has_name-2.ensures ∙ c.if-has_name.false in
    IfOk-weaker c.insert.result (λ w. w ≡ is_new c.bytes.result.now c.args.table.now) _
    (λ w e. looked_up c.args.keys.now c.args.name.now c.args.table.now w first c.requires (e ∙ ap (λ (text : List ℕ). is_new text c.args.table.now) c.bytes.ensures)) c.insert.ensures.tells

pub returns-clause-later : goal.returns-clause-later
returns-clause-later c =
    IfOk-weaker c.insert.result (λ w. c.insert.new.self ≡ cond w (c.args.table.now ++ c.bytes.result.now ∷ []) c.args.table.now) _
    (λ w put h value. one_more_later c.args.keys.now c.args.name.now value c.args.table.now c.insert.new.self w (omega arith) c.requires
    (put ∙ ap (λ (text : List ℕ). cond w (c.args.table.now ++ text ∷ []) c.args.table.now) c.bytes.ensures) h) c.insert.ensures.names
