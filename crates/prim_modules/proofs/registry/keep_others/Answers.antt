use Rattle.std.proofs.Common.{rules}
use Rattle.std.specs.Prelude.{not, bytes_eq}
use Rattle.std.proofs.lemmas.Fn.{filter_same}
use Rattle.prim_assignments.specs.prim_walks.Plain.{plain_name}
use Rattle.prim_modules.specs.declared.entry.Entry.{Entry}
use Rattle.prim_modules.proofs.registry.keep_others.Goals as goal

pub returns-clause-items : goal.returns-clause-items
returns-clause-items g c =
    let texts = g.C.Constants.text_of c.args.consts.now in
    let tuples = g.C.Constants.items_of c.args.consts.now in
    filter_same _ (λ (entry : Entry). not (bytes_eq (plain_name texts tuples entry.name) c.args.name.now)) _ (λ x b f' k. search rules) _ _ c.retain.ensures.filtered
