use Rattle.std.proofs.Common.{sym, subst, ◌∙◌, ◌≤◌, length, arith, rules}
use Rattle.mpy_base.specs.declared.limits.TheConstants.{MAX_CODE_BYTES}
use Rattle.mpy_tree.proofs.bc_prelude_lemmas.Preludes.{same_prelude}
use Rattle.mpy_tree.specs.bc_ops.Listing.{IsListOf, Lists}
use Rattle.bc_verify.proofs.Bodies.{same_instructions, instructions_short}
use Rattle.bc_verify.proofs.code.read_code.Goals as goal

pub parts_of-parts-requires : goal.parts_of-parts-requires
parts_of-parts-requires c = let says = c.requires.says.2 in (says.prelude, says.begins)

pub items_of-requires-clause-decodes : goal.items_of-requires-clause-decodes
items_of-requires-clause-decodes c =
    let bytes = c.args.bytes.now in
    let says = c.requires.says.2 in
    let parts = c.parts_of-parts.ensures in
    let prelude = c.parts_of-parts.result.prelude in
    let same = same_prelude bytes says.prelude prelude says.begins parts.begins in
    let behind = same_instructions bytes says.prelude prelude says.begins parts.begins same ∙ sym parts.instructions_are in
    (c.requires.says.0.items, subst (λ z. IsListOf z c.requires.says.0.items) behind says.lists.is_list)

pub items_of-requires-clause-short : goal.items_of-requires-clause-short
items_of-requires-clause-short c =
    let parts = c.parts_of-parts.ensures in
    let short = instructions_short c.args.bytes.now c.parts_of-parts.result.prelude parts.begins in
    subst (λ z. length z ≤ MAX_CODE_BYTES) (sym parts.instructions_are) (omega (arith, short, c.requires.short))

pub returns : goal.returns
returns c =
    let parts = c.parts_of-parts.ensures in
    record {
      prelude = c.parts_of-parts.result.prelude;
      begins = parts.begins;
      lists = subst (λ z. Lists z c.in_ok-listed.listed.items.items c.in_ok-listed.listed.offsets.items) parts.instructions_are c.in_ok-listed.ensures;
      n_state = search rules;
      n_exc = search rules;
      arguments = search rules;
    }
