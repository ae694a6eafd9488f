use Rattle.std.proofs.Common.{ℕ, ◌-◌, Bool, true, false, Option, Result, Ok, Err, map, sym, ap, ◌∙◌, subst}
use Rattle.std.specs.Prelude.{IfSome, IfNone}
use Rattle.arena_objects.specs.arena_heap.declared.value.Value.{Value}
use Rattle.py_primitives.specs.mpy_base.World.{pairs_at}
use Rattle.arena_objects.specs.Iterables.{items_in}
use Rattle.arena_objects.specs.Keys.{IsValueOf, Lacks}
use Rattle.py_primitives.specs.py_values.Equality.{equal_within, answers}
use Rattle.prim_walks.specs.declared.budget.Halt.{Halt}
use Rattle.prim_walks.specs.Plain.{plain, plain_pair, plain_heap}
use Rattle.prim_walks.proofs.RunSteps.{run_answers, none_is}
use Rattle.prim_walks.proofs.EqualSteps.{items_step, pairs_step, pairs_lack, halted, went}
use Rattle.prim_walks.proofs.FoundPairs.{found, lacking}
use Rattle.prim_walks.proofs.equality.+equal_values.Goals as goal

pub equal_items-returns-in-Ok-false : goal.equal_items-returns-in-Ok-false
equal_items-returns-in-Ok-false g t c =
    let texts = g.C.Constants.text_of c.args.consts.now in
    let tuples = g.C.Constants.items_of c.args.consts.now in
    let h = c.args.arena.now in
    let new = c.equal_values.new.budget.left in
    let pair : Bool → Result Bool Halt × Option ℕ = λ b. (Ok b, new) in
    c.loop-at.invariant ∙ items_step (plain_heap texts tuples h) (equal_within (plain_heap texts tuples h) c.args.depth) (plain texts tuples) (items_in tuples h c.args.a) (items_in tuples h c.args.b) c.loop-at.at c.item_at-x.result c.item_at-y.result
    c.loop-at.budget.left new (Ok false) c.item_at-x.ensures.item c.item_at-y.ensures.item (c.in-Ok-false.ensures ∙ ap pair c.in-Ok-false.field-0-test)

pub equal_items-returns-in-Err : goal.equal_items-returns-in-Err
equal_items-returns-in-Err g t c =
    let texts = g.C.Constants.text_of c.args.consts.now in
    let tuples = g.C.Constants.items_of c.args.consts.now in
    let h = c.args.arena.now in
    c.loop-at.invariant ∙ items_step (plain_heap texts tuples h) (equal_within (plain_heap texts tuples h) c.args.depth) (plain texts tuples) (items_in tuples h c.args.a) (items_in tuples h c.args.b) c.loop-at.at c.item_at-x.result c.item_at-y.result
    c.loop-at.budget.left c.equal_values.new.budget.left (Err c.in-Err.halt) c.item_at-x.ensures.item c.item_at-y.ensures.item c.in-Err.ensures

pub equal_items-loop-at-preserved : goal.equal_items-loop-at-preserved
equal_items-loop-at-preserved g t c =
    let texts = g.C.Constants.text_of c.args.consts.now in
    let tuples = g.C.Constants.items_of c.args.consts.now in
    let h = c.args.arena.now in
    let new = c.equal_values.new.budget.left in
    let pair : Bool → Result Bool Halt × Option ℕ = λ b. (Ok b, new) in
    c.loop-at.invariant ∙ items_step (plain_heap texts tuples h) (equal_within (plain_heap texts tuples h) c.args.depth) (plain texts tuples) (items_in tuples h c.args.a) (items_in tuples h c.args.b) c.loop-at.at c.item_at-x.result c.item_at-y.result
    c.loop-at.budget.left new (Ok true) c.item_at-x.ensures.item c.item_at-y.ensures.item (c.in-Ok-true.ensures ∙ ap pair c.in-Ok-true.field-0-test)

pub equal_pairs-returns-in_default : goal.equal_pairs-returns-in_default
equal_pairs-returns-in_default g t c =
    let texts = g.C.Constants.text_of c.args.consts.now in
    let tuples = g.C.Constants.items_of c.args.consts.now in
    let h = c.args.arena.now in
    let d = c.args.d.cell in
    let e = c.args.e.cell in
    let heap = plain_heap texts tuples h in
    let read = c.pair_at-key.ensures.pair in
    let none = none_is c.dict_get.result c.in_default.not-Some in
    let lacks = subst (λ (o : Option Value). IfNone o (Lacks texts h e c.pair_at-key.result.0)) none c.dict_get.ensures.none in
    c.loop-at.invariant ∙ pairs_lack heap (equal_within heap c.args.depth) (plain_pair texts tuples) (map (plain_pair texts tuples) (pairs_at h e)) (pairs_at h d) c.loop-at.at c.pair_at-key.result c.loop-at.budget.left read
    (lacking texts tuples h c.sound_law.ensures c.requires.all_told d e c.requires.first c.requires.second c.loop-at.at c.pair_at-key.result read lacks)

pub equal_pairs-returns-in-Ok-false : goal.equal_pairs-returns-in-Ok-false
equal_pairs-returns-in-Ok-false g t c =
    let texts = g.C.Constants.text_of c.args.consts.now in
    let tuples = g.C.Constants.items_of c.args.consts.now in
    let h = c.args.arena.now in
    let d = c.args.d.cell in
    let e = c.args.e.cell in
    let heap = plain_heap texts tuples h in
    let new = c.equal_values.new.budget.left in
    let pair : Bool → Result Bool Halt × Option ℕ = λ b. (Ok b, new) in
    let read = c.pair_at-key.ensures.pair in
    let is_value = subst (λ (o : Option Value). IfSome o (IsValueOf texts h e c.pair_at-key.result.0)) c.in-Some.is c.dict_get.ensures.found in
    let value = found texts tuples h c.sound_law.ensures c.requires.all_told d e c.requires.first c.requires.second c.loop-at.at c.pair_at-key.result read c.in-Some.y is_value in
    c.loop-at.invariant ∙ pairs_step heap (equal_within heap c.args.depth) (plain_pair texts tuples) (map (plain_pair texts tuples) (pairs_at h e)) (pairs_at h d) c.loop-at.at c.pair_at-key.result (plain texts tuples c.in-Some.y)
    c.loop-at.budget.left new (Ok false) read value (c.in-Ok-false.ensures ∙ ap pair c.in-Ok-false.field-0-test)

pub equal_pairs-returns-in-Err : goal.equal_pairs-returns-in-Err
equal_pairs-returns-in-Err g t c =
    let texts = g.C.Constants.text_of c.args.consts.now in
    let tuples = g.C.Constants.items_of c.args.consts.now in
    let h = c.args.arena.now in
    let d = c.args.d.cell in
    let e = c.args.e.cell in
    let heap = plain_heap texts tuples h in
    let new = c.equal_values.new.budget.left in
    let read = c.pair_at-key.ensures.pair in
    let is_value = subst (λ (o : Option Value). IfSome o (IsValueOf texts h e c.pair_at-key.result.0)) c.in-Some.is c.dict_get.ensures.found in
    let value = found texts tuples h c.sound_law.ensures c.requires.all_told d e c.requires.first c.requires.second c.loop-at.at c.pair_at-key.result read c.in-Some.y is_value in
    c.loop-at.invariant ∙ pairs_step heap (equal_within heap c.args.depth) (plain_pair texts tuples) (map (plain_pair texts tuples) (pairs_at h e)) (pairs_at h d) c.loop-at.at c.pair_at-key.result (plain texts tuples c.in-Some.y)
    c.loop-at.budget.left new (Err c.in-Err.halt) read value c.in-Err.ensures

pub equal_pairs-loop-at-preserved : goal.equal_pairs-loop-at-preserved
equal_pairs-loop-at-preserved g t c =
    let texts = g.C.Constants.text_of c.args.consts.now in
    let tuples = g.C.Constants.items_of c.args.consts.now in
    let h = c.args.arena.now in
    let d = c.args.d.cell in
    let e = c.args.e.cell in
    let heap = plain_heap texts tuples h in
    let new = c.equal_values.new.budget.left in
    let pair : Bool → Result Bool Halt × Option ℕ = λ b. (Ok b, new) in
    let read = c.pair_at-key.ensures.pair in
    let is_value = subst (λ (o : Option Value). IfSome o (IsValueOf texts h e c.pair_at-key.result.0)) c.in-Some.is c.dict_get.ensures.found in
    let value = found texts tuples h c.sound_law.ensures c.requires.all_told d e c.requires.first c.requires.second c.loop-at.at c.pair_at-key.result read c.in-Some.y is_value in
    c.loop-at.invariant ∙ pairs_step heap (equal_within heap c.args.depth) (plain_pair texts tuples) (map (plain_pair texts tuples) (pairs_at h e)) (pairs_at h d) c.loop-at.at c.pair_at-key.result (plain texts tuples c.in-Some.y)
    c.loop-at.budget.left new (Ok true) read value (c.in-Ok-true.ensures ∙ ap pair c.in-Ok-true.field-0-test)

pub equal_values-returns-in-Err : goal.equal_values-returns-in-Err
equal_values-returns-in-Err g t c =
    let texts = g.C.Constants.text_of c.args.consts.now in
    let tuples = g.C.Constants.items_of c.args.consts.now in
    let left : Option ℕ = c.args.budget.now.left in
    let pair : Halt → Result Bool Halt × Option ℕ = λ halt. (Err halt, left) in
    let kept : Option ℕ → Result Bool Halt × Option ℕ = λ n. (Err c.in-Err.halt, n) in
    halted (plain_heap texts tuples c.args.arena.now) (plain texts tuples c.args.a) (plain texts tuples c.args.b) c.args.depth left c.if-depth-eq0.false c.in-Err.ensures.spent
    ∙ (ap pair (sym c.in-Err.ensures.cause) ∙ ap kept (sym c.in-Err.ensures.kept))

pub equal_values-returns-in-Decided : goal.equal_values-returns-in-Decided
equal_values-returns-in-Decided g t c =
    let texts = g.C.Constants.text_of c.args.consts.now in
    let tuples = g.C.Constants.items_of c.args.consts.now in
    let heap = plain_heap texts tuples c.args.arena.now in
    went heap (plain texts tuples c.args.a) (plain texts tuples c.args.b) c.args.depth c.args.budget.now.left c.spend.new.self.left c.spend.new.self.left (Ok c.in-Decided.same) (answers c.in-Decided.same) c.if-depth-eq0.false c.in-Ok.ensures.ok
    (c.in-Decided.ensures.met (equal_within heap (c.args.depth - 1))) (run_answers c.in-Decided.same c.spend.new.self.left)

pub equal_values-returns-in-Items : goal.equal_values-returns-in-Items
equal_values-returns-in-Items g t c =
    let texts = g.C.Constants.text_of c.args.consts.now in
    let tuples = g.C.Constants.items_of c.args.consts.now in
    let heap = plain_heap texts tuples c.args.arena.now in
    went heap (plain texts tuples c.args.a) (plain texts tuples c.args.b) c.args.depth c.args.budget.now.left c.spend.new.self.left c.equal_items.new.budget.left c.equal_items.result _ c.if-depth-eq0.false c.in-Ok.ensures.ok
    (c.in-Items.ensures.met (equal_within heap (c.args.depth - 1))) c.equal_items.ensures

pub equal_values-returns-in-Pairs : goal.equal_values-returns-in-Pairs
equal_values-returns-in-Pairs g t c =
    let texts = g.C.Constants.text_of c.args.consts.now in
    let tuples = g.C.Constants.items_of c.args.consts.now in
    let heap = plain_heap texts tuples c.args.arena.now in
    went heap (plain texts tuples c.args.a) (plain texts tuples c.args.b) c.args.depth c.args.budget.now.left c.spend.new.self.left c.equal_pairs.new.budget.left c.equal_pairs.result _ c.if-depth-eq0.false c.in-Ok.ensures.ok
    (c.in-Pairs.ensures.met (equal_within heap (c.args.depth - 1))) c.equal_pairs.ensures
