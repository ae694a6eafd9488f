use Rattle.std.proofs.Common.{get_or}
use Rattle.bc_ops.proofs.Reading.{behind_first, rejoined, front_found}
use Rattle.bc_ops.proofs.decoding.decode_front.Goals as goal

pub returns-in_ok-instr-in-len1-up : goal.returns-in_ok-instr-in-len1-up
returns-in_ok-instr-in-len1-up c =
    let bytes = c.args.bytes.now in
    let h = c.in_ok-instr-in-len1-up.ensures in
    front_found bytes (behind_first bytes) h.0 h.1 (get_or bytes 0 0) c.in_ok-instr-in-len1-up.len c.form_at.result c.in_ok-instr-in-len1-up.instr (rejoined bytes c.in-len1-up.len_at_least) c.form_at.ensures h.2 h.3 h.4
