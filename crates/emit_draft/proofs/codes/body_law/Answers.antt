use Rattle.emit_draft.proofs.Making.{has_body, body_reads}
use Rattle.emit_draft.proofs.codes.body_law.Goals as goal

pub returns : goal.returns
returns c = record { body = has_body; reads = body_reads }
