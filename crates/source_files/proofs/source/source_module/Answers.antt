use Rattle.std.proofs.Common.{List, ℕ, ap, length, refl, sym, subst}
use Rattle.mpy_reader.specs.mpy_tree.Raw.{Module}
use Rattle.library_files.specs.Comes.{IsVerifiedFile}
use Rattle.source_files.specs.Sources.{stored}
use Rattle.source_files.proofs.Given.{module_of}
use Rattle.source_files.proofs.source.source_module.Goals as goal

pub verified_of-requires : goal.verified_of-requires
verified_of-requires c =
    subst (λ (z : List ℕ). (m : Module) × IsVerifiedFile z m) (sym c.deref.ensures.value)
    (c.compiled_law.ensures c.args.level c.args.source.now (stored c.args.path.now) c.in-Ok.bytes.items c.in-Ok.ensures)
