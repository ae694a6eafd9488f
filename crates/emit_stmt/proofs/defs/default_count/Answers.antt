use Rattle.std.proofs.Common.{rules, ◌≡◌, sym, ◌∙◌}
use Rattle.std.specs.Prelude.{is_some}
use Rattle.std.specs.List.{count_by}
use Rattle.std.proofs.lemmas.List.Sums.{length-filter}
use Rattle.py_tree.specs.declared.stmt.Param.{Param}
use Rattle.emit_stmt.proofs.DefForms.{given_count}
use Rattle.emit_stmt.proofs.defs.default_count.Goals as goal

pub returns : goal.returns
returns c =
    let counted : c.count.result ≡ count_by (λ (param : Param). is_some param.default) c.args.params.now = search rules in
    counted ∙ sym (length-filter (λ (param : Param). is_some param.default) c.args.params.now) ∙ given_count c.args.params.now
