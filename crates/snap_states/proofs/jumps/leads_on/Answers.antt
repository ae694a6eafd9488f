use Rattle.std.proofs.Common.{◌≡◌, ◌+◌, ◌-◌, ◌<◌, ◌≤◌, ◌&&◌, Bool, true, false, length, drop, ap, sym, ◌∙◌, refl, arith, rules}
use Rattle.std.proofs.lemmas.List.{take_rest}
use Rattle.std.proofs.lemmas.Bool.{false≢true}
use Rattle.bc_shapes.specs.declared.shape.Entry.{Entry}
use Rattle.bc_shapes.proofs.Loops.{and_first}
use Rattle.bc_flow.specs.Verified.{at}
use Rattle.bc_flow.specs.Views.{table_of}
use Rattle.snap_states.specs.Stacks.{stack_as, leaves_first, leads_on, arrives}
use Rattle.snap_states.proofs.Leading.{leads_step, leads_end}
use Rattle.snap_states.proofs.jumps.leads_on.Goals as goal

and_second : (a b : Bool) → a ≡ true → (a && b) ≡ b
and_second true b h = refl
and_second false b h = absurd (false≢true h)

abbrev no_entry : Entry
no_entry = record { handler = 0; is_finally = false; active = false; height = 0 }

pub returns-then-not-passes : goal.returns-then-not-passes
returns-then-not-passes c =
    let a = at (table_of c.args.states.now) in
    let es = c.args.entries.now in
    let i = c.loop-i.i in
    let st = stack_as c.loop-i.rest.now in
    let lt : i < c.args.count = omega arith in
    let le : i < length es = omega arith in
    let step = leads_step a c.args.target c.args.iterator c.args.count i es st no_entry lt le in
    let passed = c.passes.ensures ∙ ap (λ z. leaves_first a c.args.target c.args.iterator (c.args.count - i - 1) z st) (take_rest es i) in
    let no : c.passes.result ≡ false = search rules in
    sym (c.loop-i.invariant ∙ step ∙ and_first _ _ (sym passed ∙ no))

pub loop-i-preserved : goal.loop-i-preserved
loop-i-preserved c =
    let a = at (table_of c.args.states.now) in
    let es = c.args.entries.now in
    let i = c.loop-i.i in
    let st = stack_as c.loop-i.rest.now in
    let lt : i < c.args.count = omega arith in
    let le : i < length es = omega arith in
    let step = leads_step a c.args.target c.args.iterator c.args.count i es st no_entry lt le in
    let passed = c.passes.ensures ∙ ap (λ z. leaves_first a c.args.target c.args.iterator (c.args.count - i - 1) z st) (take_rest es i) in
    let yes : c.passes.result ≡ true = search rules in
    c.loop-i.invariant ∙ step ∙ and_second _ _ (sym passed ∙ yes)
    ∙ ap (leads_on a c.args.target c.args.iterator (c.args.count - (i + 1)) (drop (i + 1) es)) (sym c.lowest-rest.ensures)

pub returns : goal.returns
returns c =
    let a = at (table_of c.args.states.now) in
    let es = c.args.entries.now in
    let i = c.loop-i.i in
    let st = stack_as c.loop-i.rest.now in
    let all : i ≡ c.args.count = omega arith in
    let le : c.args.count ≤ i = omega arith in
    c.arrives.ensures ∙ ap (λ z. arrives a c.args.target c.args.iterator z st) (take_rest es c.args.count)
    ∙ ap (λ n. arrives a c.args.target c.args.iterator (drop n es) st) (sym all)
    ∙ sym (leads_end a c.args.target c.args.iterator c.args.count i (drop i es) st le)
    ∙ sym c.loop-i.invariant
