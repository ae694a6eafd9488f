use Rattle.std.proofs.Common.{List, ℕ, sym, subst, ◌∙◌}
use Rattle.image_freeze.specs.image_open.mpy_tree.File.{IsAscii}
use Rattle.image_freeze.specs.image_open.mpy_tree.Raw.{Module}
use Rattle.source_files.specs.library_files.Comes.{IsVerifiedFile}
use Rattle.frozen_files.proofs.Given.{module_of, not_compiled}
use Rattle.frozen_files.proofs.source.compiled.Goals as goal

pub compile-requires-clause-name_is : goal.compile-requires-clause-name_is
compile-requires-clause-name_is c = subst IsAscii (sym c.bytes.ensures) c.requires.source

pub read_module-requires : goal.read_module-requires
read_module-requires c =
    subst (λ (z : List ℕ). (m : Module) × IsVerifiedFile z m) (sym c.deref.ensures.value)
    (c.compiled_law.ensures c.args.entry.now.opt c.args.text.now c.bytes.result.now c.in-Ok.bytes.items c.in-Ok.ensures)

pub returns-in-Ok-read_module : goal.returns-in-Ok-read_module
returns-in-Ok-read_module c =
    module_of c.args.entry.now c.args.text.now c.bytes.result.now c.in-Ok.bytes.items c.deref.result.now c.in-Ok-read_module.raw c.bytes.ensures c.deref.ensures.value c.in-Ok.ensures c.in-Ok-read_module.ensures
