use Rattle.std.proofs.Common.{◌≤◌, sym, subst}
use Rattle.snap_loading.proofs.suspended.kept_law.Goals as goal

pub returns-clause-saved : goal.returns-clause-saved
returns-clause-saved c shelf main cells bytes ports n snap vm s =
    let p = c.program_law.ensures.exists shelf s.is_vm.runnable in
    c.suspended_law.ensures shelf main cells bytes ports n vm s.is_vm s.goes_on
    (record {
      cells = s.held.cells;
      bytes = s.held.bytes;
      few_cells = subst (λ z. z ≤ 4194304) (sym (c.first_law.ensures.cells shelf main cells bytes ports n vm p.0 s.is_vm s.goes_on s.runs p.1)) s.few_cells;
      few_bytes = subst (λ z. z ≤ 16777216) (sym (c.first_law.ensures.bytes shelf main cells bytes ports n vm p.0 s.is_vm s.goes_on s.runs p.1)) s.few_bytes;
      few_calls = s.few_calls;
      few_paid = s.few_steps;
    })
    s.runs

pub returns-clause-first : goal.returns-clause-first
returns-clause-first c shelf main cells bytes ports n snap vm s =
    let p = c.program_law.ensures.exists shelf s.is_vm.runnable in
    c.first_law.ensures.first shelf main cells bytes ports n vm p.0 s.is_vm s.goes_on s.runs p.1
