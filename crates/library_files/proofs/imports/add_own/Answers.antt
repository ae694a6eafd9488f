use Rattle.std.proofs.Common.{sym, ap, subst, ◌∙◌, ◌++◌, length, arith}
use Rattle.std.proofs.lemmas.Result.{on_ok_weaker}
use Rattle.bc_ops.specs.Listing.{IsListOf, Lists}
use Rattle.bc_prelude.proofs.Pieces.{parts_short}
use Rattle.bc_prelude.proofs.Preludes.{same_prelude}
use Rattle.bc_library.proofs.bc_verify_lemmas.Bodies.{same_instructions}
use Rattle.library_files.proofs.Walks.{body_imports, item_imports}
use Rattle.library_files.proofs.imports.add_own.Goals as goal

pub parts_of-requires : goal.parts_of-requires
parts_of-requires c = let is = c.requires.resolves.1 in (is.prelude, is.begins)

pub items_of-requires-clause-decodes : goal.items_of-requires-clause-decodes
items_of-requires-clause-decodes c =
    let is = c.requires.resolves.1 in
    let parts = c.parts_of.ensures in
    let bytes = c.args.bytes.now in
    let prelude = c.parts_of.result.prelude in
    let same = same_prelude bytes prelude is.prelude parts.begins is.begins in
    let instructions = parts.instructions_are ∙ same_instructions bytes prelude is.prelude parts.begins is.begins same in
    (is.items, subst (λ z. IsListOf z is.items) (sym instructions) is.is_list)

pub items_of-requires-clause-short : goal.items_of-requires-clause-short
items_of-requires-clause-short c =
    let parts = c.parts_of.ensures in
    let few = parts_short c.args.bytes.now c.parts_of.result.prelude parts.begins in
    omega (arith, ap length parts.instructions_are, few, c.requires.short)

pub returns : goal.returns
returns c =
    let m = c.args.module.now in
    let parts = c.parts_of.ensures in
    let listed = c.in_ok-listed.listed in
    let lists = subst (λ z. Lists z listed.items.items listed.offsets.items) parts.instructions_are c.in_ok-listed.ensures in
    on_ok_weaker c.add_items.result
    (λ added body is. added ∙ ap (λ z. c.args.names.now.items ++ z)
    (ap (item_imports m) c.deref.ensures.value ∙ body_imports m c.args.bytes.now body c.parts_of.result.prelude parts.begins listed.items.items listed.offsets.items lists is))
    c.add_items.ensures
