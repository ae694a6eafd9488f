use Rattle.std.proofs.Common.{ℕ, List, All, Err, Vec, Global, ap, sym, subst, ◌∙◌, ◌≡◌}
use Rattle.std.proofs.lemmas.Result.{err_from_is_err_and}
use Rattle.image_open.specs.bc_library.Texts.{IsPlain}
use Rattle.image_open.specs.image_grammar.declared.entry.Entry.{Entry}
use Rattle.image_open.proofs.Whole.{opened_found}
use Rattle.image_freeze.specs.Frozen.{frozen}
use Rattle.image_freeze.specs.Ended.{HasWritten, has_read, unread}
use Rattle.image_freeze.proofs.Same.{image_same}
use Rattle.image_freeze.proofs.migrate.migrated.Goals as goal

pub returns-in_err-entries : goal.returns-in_err-entries
returns-in_err-entries c =
    let p = err_from_is_err_and c.from_residual.result c.from_residual.ensures.1 in
    unread _ c.in_err-entries.ensures (p.1 ∙ ap (λ z. Err z) p.2)

pub write-requires-clause-plain : goal.write-requires-clause-plain
write-requires-clause-plain c = subst (All (λ (e : Entry). IsPlain e.name)) (sym c.as_slice.ensures) (opened_found c.args.bytes.now c.in_ok-entries.entries c.in_ok-entries.ensures).2

pub write-requires-clause-same : goal.write-requires-clause-same
write-requires-clause-same c =
    subst (All (λ (e : Entry). frozen e.held ≡ e.held)) (sym c.as_slice.ensures) (image_same c.args.bytes.now c.in_ok-entries.entries (opened_found c.args.bytes.now c.in_ok-entries.entries c.in_ok-entries.ensures).0)

pub returns : goal.returns
returns c = has_read c.in_ok-entries.entries c.in_ok-entries.ensures (subst (λ (z : List Entry). HasWritten z (λ (v : Vec ℕ Global). v.items) c.write.result) c.as_slice.ensures c.write.ensures)
