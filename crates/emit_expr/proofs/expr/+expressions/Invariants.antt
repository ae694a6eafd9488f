use Rattle.std.proofs.Common.{drop, map}
use Rattle.emit_draft.specs.bc_scheme.py_meaning.Plain.{plain_expr, exprs, pairs_of, keys_of}
use Rattle.emit_expr.specs.Emits.{plain_links, plain_pairs, plain_keys}
use Rattle.emit_expr.proofs.Rows.{BuildsEs, BuildsK, BuildsD, BuildsO, BuildsL}
use Rattle.emit_expr.proofs.expr.+expressions.Given as goal

abbrev pub invariant-emit_all-loop-item : goal.invariant-emit_all-loop-item
invariant-emit_all-loop-item l = BuildsEs l.fn.draft l.draft l.scope l.line (exprs (map plain_expr (drop l.item-index l.items))) (exprs (map plain_expr l.items))

abbrev pub invariant-emit_joined-loop-item : goal.invariant-emit_joined-loop-item
invariant-emit_joined-loop-item l = BuildsO l.initial.draft l.draft l.scope l.line l.op l.end (exprs (map plain_expr (drop l.item-index l.rest))) (exprs (map plain_expr l.rest))

abbrev pub invariant-emit_keys-loop-name : goal.invariant-emit_keys-loop-name
invariant-emit_keys-loop-name l = BuildsK l.fn.draft l.draft l.scope l.line (keys_of (plain_keys (drop l.name-index l.keys))) (keys_of (plain_keys l.keys))

abbrev pub invariant-emit_links-loop-op : goal.invariant-emit_links-loop-op
invariant-emit_links-loop-op l = BuildsL l.initial.draft l.draft l.scope l.line l.fail (plain_links (drop l.op-index l.front)) (plain_links l.front)

abbrev pub invariant-emit_pairs-loop-key : goal.invariant-emit_pairs-loop-key
invariant-emit_pairs-loop-key l = BuildsD l.fn.draft l.draft l.scope l.line (pairs_of (plain_pairs (drop l.key-index l.pairs))) (pairs_of (plain_pairs l.pairs))
