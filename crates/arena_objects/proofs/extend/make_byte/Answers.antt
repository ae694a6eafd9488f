use Rattle.arena_objects.proofs.MadeTexts.{byte_made}
use Rattle.arena_objects.proofs.extend.make_byte.Goals as goal

pub returns-clause-made : goal.returns-clause-made
returns-clause-made c = byte_made c.args.byte c.in_ok-t.ensures.made c.text_fill.ensures.filled
