use Rattle.std.proofs.Common.{refl, sym, subst, ◌∙◌}
use Rattle.bc_library.specs.Shelf.{Shelf}
use Rattle.vm_kept.specs.state_exits.Importing.{fetched_import}
use Rattle.vm_kept.specs.state_exits.Running.{RunsWith}
use Rattle.bc_library.specs.Constants.{items_at, text_at}
use Rattle.vm_machine.proofs.Texts.{name_text}
use Rattle.vm_machine.proofs.Fetched.{few, in_program, runs_with}
use Rattle.vm_machine.proofs.acting.import_on.Goals as goal

pub import-ended-requires-clause-runs : goal.import-ended-requires-clause-runs
import-ended-requires-clause-runs c =
    subst (λ (z : Shelf). RunsWith (text_at c.args.library.now) (items_at c.args.library.now) c.deref.result.now z c.args.vm.now.arena c.args.vm.now.modules c.args.vm.now.frames c.args.row.now (fetched_import c.args.name c.args.end)) (sym c.requires.rows)
    (runs_with c.args.library.now c.args.vm.now c.args.row.now (fetched_import c.args.name c.args.end) c.requires.fetched c.deref.result.now c.deref.ensures.value)

pub import-ended-requires-clause-rows : goal.import-ended-requires-clause-rows
import-ended-requires-clause-rows c = c.requires.rows

pub import-ended-requires-clause-key : goal.import-ended-requires-clause-key
import-ended-requires-clause-key c = name_text c.args.library.now

pub import-ended-requires-clause-short : goal.import-ended-requires-clause-short
import-ended-requires-clause-short c = few c.args.library.now c.args.vm.now c.requires.fetched.is_vm

pub returns : goal.returns
returns c = record {
  comes = λ p of. in_program c.args.library.now c.args.vm.now c.args.row.now (fetched_import c.args.name c.args.end) c.requires.fetched p of c.deref.result.now c.deref.ensures.value (c.import-ended.ensures.comes p (of.shelf_is ∙ sym c.requires.rows));
  memory = record { frames = c.import-ended.ensures.rooms; modules = c.import-ended.ensures.registry; names = refl; operands = refl; bindings = refl; items = refl };
  paid = refl;
}
