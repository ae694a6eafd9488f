use Rattle.std.proofs.Common.{refl, arith, rules}
use Rattle.vm_machine.proofs.Titling as names
use Rattle.vm_machine.proofs.names.module_names.Goals as goal

pub loop-number-init : goal.loop-number-init
loop-number-init c = names.none_yet c.args.library.now c.new-names.result.items (search rules)

pub loop-number-preserved : goal.loop-number-preserved
loop-number-preserved c =
    names.one_more c.args.library.now c.loop-number.number c.loop-number.names.items c.push.new.self.items c.in-Some.title (record { name = c.in-Some.title.name; last = c.in-Some.title.last }) c.loop-number.invariant
    (c.in-Some.ensures.some.0 refl) c.in-Some.ensures.is refl refl c.in_ok-push.ensures.items

pub returns-in_default : goal.returns-in_default
returns-in_default c = names.whole c.args.library.now c.loop-number.number c.loop-number.names.items c.loop-number.invariant (names.absent c.args.library.now c.loop-number.number (λ some. absurd (let no = c.in_default.ensures.some.1 some in cc)))

pub returns : goal.returns
returns c = let few = c.library_law.ensures.few in names.whole c.args.library.now c.loop-number.number c.loop-number.names.items c.loop-number.invariant (omega (arith, few, c.loop-number-test.false))
