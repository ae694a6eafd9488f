use Rattle.std.proofs.Common.{◌+◌, ◌<◌, ◌++◌, ◌∙◌, List, ℕ, ap, sym, arith}
use Rattle.std.proofs.lemmas.List.{append-nil}
use Rattle.bc_prelude.proofs.Entries.{entry_taken, change_none, grown}
use Rattle.bc_prelude.proofs.lines.write_change.Goals as goal
use Rattle.bc_prelude.proofs.lines.write_change.Goals.{then-bytes_left-gt0, else-bytes_left-gt0+then-lines_left-gt0}

pub loop-bytes_left-preserved : goal.loop-bytes_left-preserved
loop-bytes_left-preserved c =
    let some : 0 < c.loop-bytes_left.bytes_left + c.loop-bytes_left.lines_left = elim c.if-bytes_left-gt0.branch [ then-bytes_left-gt0 w ↦ omega arith | else-bytes_left-gt0+then-lines_left-gt0 w ↦ omega arith ] in
    let h = c.first_step-step.ensures in
    let whole = entry_taken c.loop-bytes_left.out.items _ c.write_step.new.out.items c.loop-bytes_left.bytes_left c.loop-bytes_left.lines_left c.first_step-step.result.bytes c.first_step-step.result.lines c.first_step-step.result.short some h.short h.bytes h.lines c.in_ok-write_step.ensures.ok c.loop-bytes_left.invariant.whole in
    record { whole = whole; front = grown _ _ _ c.loop-bytes_left.invariant.front.0 _ c.loop-bytes_left.invariant.front.1 c.in_ok-write_step.ensures.ok }

pub returns-clause-ok : goal.returns-clause-ok
returns-clause-ok c =
    let none = change_none c.loop-bytes_left.bytes_left c.loop-bytes_left.lines_left (omega arith) in
    sym (append-nil c.loop-bytes_left.out.items) ∙ (ap (λ (z : List ℕ). c.loop-bytes_left.out.items ++ z) (sym none) ∙ c.loop-bytes_left.invariant.whole)
