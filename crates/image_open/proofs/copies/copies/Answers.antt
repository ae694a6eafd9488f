use Rattle.std.proofs.Common.{sym, ap, subst}
use Rattle.image_grammar.specs.bc_library.Texts.{IsPlain}
use Rattle.image_grammar.specs.declared.entry.Entry.{Entry}
use Rattle.image_open.proofs.Behind.{module_there, next_copied}
use Rattle.image_open.proofs.copies.copies.Goals as goal

pub loop-number-preserved : goal.loop-number-preserved
loop-number-preserved c =
    let lib = c.args.lib.now in
    let e = c.in_ok-copy_entry.field-0 in
    let at = module_there lib c.loop-number.number c.in-Some-name_of.name.now c.in-Some.held.now e c.in-Some.ensures c.in-Some-name_of.ensures.name c.in_ok-copy_entry.ensures in
    next_copied lib.modules c.loop-number.number c.loop-number.entries.items c.push.new.self.items e c.in_ok-push.ensures.items at
    (subst IsPlain (sym (ap (λ (z : Entry). z.name) c.in_ok-copy_entry.ensures)) c.in-Some-name_of.ensures.plain) c.loop-number.invariant
