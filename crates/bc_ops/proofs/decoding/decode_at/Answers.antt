use Rattle.std.proofs.Common.{◌∙◌, length}
use Rattle.bc_ops.specs.declared.decoding.CodeFault.TheVariants as faults
use Rattle.bc_ops.proofs.Reading.{instr_read, instr_refused, moved, not_read, read_inside, only_reading, exactly}
use Rattle.bc_ops.proofs.decoding.decode_at.Goals as goal

pub returns-in-Ok-clause-only : goal.returns-in-Ok-clause-only
returns-in-Ok-clause-only c text rest instr s e =
    moved c.args.at c.in-Ok.len (length text) c.in-Ok.instr instr (only_reading _ text rest instr (instr_read c.in-Ok.instr c.in-Ok.len) c.in-Ok.ensures s (c.split_at.ensures.back ∙ e))

pub returns-in-Err-clause-only : goal.returns-in-Err-clause-only
returns-in-Err-clause-only c text rest instr s e =
    not_read c.in-Err.fault instr (length text) _ (only_reading _ text rest instr (instr_refused c.in-Err.fault) c.in-Err.ensures s (c.split_at.ensures.back ∙ e))

pub returns-in-Ok-clause-unknown : goal.returns-in-Ok-clause-unknown
returns-in-Ok-clause-unknown c byte =
    rw (← c.split_at.ensures.back) (read_inside c.in-Ok.instr c.in-Ok.instr c.in-Ok.len _ _ _ (exactly _ (instr_read c.in-Ok.instr c.in-Ok.len) (faults.UnknownOpcode byte) c.in-Ok.ensures))

pub returns-in-Err-clause-unknown : goal.returns-in-Err-clause-unknown
returns-in-Err-clause-unknown c byte =
    rw (← c.split_at.ensures.back) (exactly _ (instr_refused c.in-Err.fault) (faults.UnknownOpcode byte) c.in-Err.ensures)

pub returns-in-Ok-clause-outside : goal.returns-in-Ok-clause-outside
returns-in-Ok-clause-outside c byte =
    rw (← c.split_at.ensures.back) (read_inside c.in-Ok.instr c.in-Ok.instr c.in-Ok.len _ _ _ (exactly _ (instr_read c.in-Ok.instr c.in-Ok.len) (faults.OutsideProfile byte) c.in-Ok.ensures))

pub returns-in-Err-clause-outside : goal.returns-in-Err-clause-outside
returns-in-Err-clause-outside c byte =
    rw (← c.split_at.ensures.back) (exactly _ (instr_refused c.in-Err.fault) (faults.OutsideProfile byte) c.in-Err.ensures)

pub returns-in-Ok-clause-truncated : goal.returns-in-Ok-clause-truncated
returns-in-Ok-clause-truncated c =
    rw (← c.split_at.ensures.back) (read_inside c.in-Ok.instr c.in-Ok.instr c.in-Ok.len _ _ _ (exactly _ (instr_read c.in-Ok.instr c.in-Ok.len) faults.Truncated c.in-Ok.ensures))

pub returns-in-Err-clause-truncated : goal.returns-in-Err-clause-truncated
returns-in-Err-clause-truncated c =
    rw (← c.split_at.ensures.back) (exactly _ (instr_refused c.in-Err.fault) faults.Truncated c.in-Err.ensures)

pub returns-in-Ok-clause-bad_number : goal.returns-in-Ok-clause-bad_number
returns-in-Ok-clause-bad_number c =
    rw (← c.split_at.ensures.back) (read_inside c.in-Ok.instr c.in-Ok.instr c.in-Ok.len _ _ _ (exactly _ (instr_read c.in-Ok.instr c.in-Ok.len) faults.BadNumber c.in-Ok.ensures))

pub returns-in-Err-clause-bad_number : goal.returns-in-Err-clause-bad_number
returns-in-Err-clause-bad_number c =
    rw (← c.split_at.ensures.back) (exactly _ (instr_refused c.in-Err.fault) faults.BadNumber c.in-Err.ensures)
