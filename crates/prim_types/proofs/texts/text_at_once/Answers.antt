use Rattle.std.proofs.Common.{◌≤◌, ℕ, length, sym, ap, ◌∙◌, subst, arith}
use Rattle.std.specs.Prelude.{IfSome, vec_capacity}
use Rattle.mpy_base.specs.World.{Heap}
use Rattle.prim_builtins.specs.arena_heap.declared.value.Value.{Value}
use Rattle.prim_builtins.specs.arena_heap.Values.{Leads}
use Rattle.prim_builtins.specs.arena_objects.Keys.{AllTold}
use Rattle.prim_types.specs.Texts.{found_text, text_in}
use Rattle.prim_types.proofs.FoundTexts.{room_found, items_found}
use Rattle.prim_types.proofs.texts.text_at_once.Goals as goal

pub whole_text-requires-clause-leads : goal.whole_text-requires-clause-leads
whole_text-requires-clause-leads g c = subst (λ (w : Heap Value ℕ). Leads w.objects c.args.v) (sym c.lend_scratch.ensures.same) c.requires.leads

pub whole_text-requires-clause-all_told : goal.whole_text-requires-clause-all_told
whole_text-requires-clause-all_told g c =
    let texts = g.C.Constants.text_of c.args.consts.now in
    let tuples = g.C.Constants.items_of c.args.consts.now in
    subst (λ (w : Heap Value ℕ). AllTold texts tuples w.objects) (sym c.lend_scratch.ensures.same) c.requires.all_told

pub whole_text-requires-clause-room : goal.whole_text-requires-clause-room
whole_text-requires-clause-room g c =
    let texts = g.C.Constants.text_of c.args.consts.now in
    let tuples = g.C.Constants.items_of c.args.consts.now in
    let h = c.args.arena.now in
    let scratch = c.in_ok-scratch.scratch in
    let low : length (text_in texts tuples h c.args.raw c.args.v) ≤ vec_capacity scratch = omega (arith, c.requires.bytes, c.if-capacity-count.false, c.capacity.ensures) in
    subst (λ (w : Heap Value ℕ). IfSome (found_text texts tuples w c.args.raw c.args.v) (λ text. length text ≤ vec_capacity scratch)) (sym c.lend_scratch.ensures.same)
    (room_found (found_text texts tuples h c.args.raw c.args.v) low)

pub returns-clause-text : goal.returns-clause-text
returns-clause-text g c =
    let texts = g.C.Constants.text_of c.args.consts.now in
    let tuples = g.C.Constants.items_of c.args.consts.now in
    let h = c.args.arena.now in
    items_found c.whole_text.result (found_text texts tuples h c.args.raw c.args.v)
    (c.whole_text.ensures.text ∙ ap (λ (w : Heap Value ℕ). found_text texts tuples w c.args.raw c.args.v) c.lend_scratch.ensures.same)
