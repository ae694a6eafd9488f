use Rattle.std.proofs.Common.{◌≡◌, List, ℕ, ◌++◌, ◌∙◌, Err, inl, inr, ap, subst}
use Rattle.std.proofs.lemmas.Result.{err_from_is_err_and}
use Rattle.snap_saving.specs.Put.{whole}
use Rattle.snap_saving.specs.Saved.{IsLong}
use Rattle.snap_saving.specs.Shown.{snapshot_of}
use Rattle.snap_saving.proofs.Adding.{exit}
use Rattle.snap_saving.proofs.Fitting.{few_fit, few_spelled, whole_long}
use Rattle.snap_saving.proofs.saving.save.Goals as goal

pub returns-then-are_many-clause-fault : goal.returns-then-are_many-clause-fault
returns-then-are_many-clause-fault c = inl c.if-are_many.ensures.yes

pub returns-then-is_deep-clause-fault : goal.returns-then-is_deep-clause-fault
returns-then-is_deep-clause-fault c = inr (inl c.if-is_deep.ensures.yes)

pub returns-in_err-put_state-clause-fault : goal.returns-in_err-put_state-clause-fault
returns-in_err-put_state-clause-fault c =
    let p = err_from_is_err_and c.from_residual-in_err-put_state.result c.from_residual-in_err-put_state.ensures.1 in
    let s = snapshot_of c.args.library.now c.args.arena.now c.args.modules.now c.args.frames.now.calls c.args.paid in
    let is : c.from_residual-in_err-put_state.result ≡ Err c.in_err-put_state.field-0.0 = cc (p.1, p.2) in
    exit (IsLong (c.new-out.result.items ++ whole s)) _ c.from_residual-in_err-put_state.result c.in_err-put_state.field-0.0 is c.in_err-put_state.ensures.fault
    (λ long. inr (inr (whole_long s (subst IsLong (ap (λ (old : List ℕ). old ++ whole s) c.new-out.ensures.items) long))))

pub returns-then-is_long-clause-fault : goal.returns-then-is_long-clause-fault
returns-then-is_long-clause-fault c =
    let s = snapshot_of c.args.library.now c.args.arena.now c.args.modules.now c.args.frames.now.calls c.args.paid in
    inr (inr (whole_long s (subst IsLong (c.in_ok-put_state.ensures.ok ∙ ap (λ (old : List ℕ). old ++ whole s) c.new-out.ensures.items) c.if-is_long.ensures.yes)))

pub returns-clause-saved : goal.returns-clause-saved
returns-clause-saved c =
    let s = snapshot_of c.args.library.now c.args.arena.now c.args.modules.now c.args.frames.now.calls c.args.paid in
    record { is = few_spelled s c.if-are_many.ensures.no _ (c.in_ok-put_state.ensures.ok ∙ ap (λ (old : List ℕ). old ++ whole s) c.new-out.ensures.items) c.if-is_long.ensures.no }

pub returns-clause-fits : goal.returns-clause-fits
returns-clause-fits c =
    let s = snapshot_of c.args.library.now c.args.arena.now c.args.modules.now c.args.frames.now.calls c.args.paid in
    few_fit s c.if-are_many.ensures.no _ (c.in_ok-put_state.ensures.ok ∙ ap (λ (old : List ℕ). old ++ whole s) c.new-out.ensures.items) c.if-is_long.ensures.no

pub returns-clause-few_bytes : goal.returns-clause-few_bytes
returns-clause-few_bytes c = c.if-is_long.ensures.no

pub returns-clause-few_steps : goal.returns-clause-few_steps
returns-clause-few_steps c = c.if-are_many.ensures.no

pub returns-clause-few_calls : goal.returns-clause-few_calls
returns-clause-few_calls c = c.if-is_deep.ensures.no
