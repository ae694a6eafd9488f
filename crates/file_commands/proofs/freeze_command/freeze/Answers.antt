use Rattle.std.proofs.Common.{List, ℕ, Option, subst}
use Rattle.mpy_io.specs.Files.{FileOf, BecomesFront}
use Rattle.file_commands.proofs.freeze_command.freeze.Goals as goal

pub returns-in-Ok-clause-went : goal.returns-in-Ok-clause-went
returns-in-Ok-clause-went g c =
    let new = g.F.Folder.files c.write.new.self in (
      c.in-Ok.bytes.items,
      c.in-Ok.ensures.frozen,
      subst (λ (b : List ℕ). BecomesFront (g.F.Folder.files c.args.folder.now) new c.args.written.now b) c.deref.ensures.value
          (subst (λ (f : Option FileOf). BecomesFront f new c.args.written.now c.deref.result.now) c.in-Ok.ensures.files c.in-Err.ensures.err),
    )
