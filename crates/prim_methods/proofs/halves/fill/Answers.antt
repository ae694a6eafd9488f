use Rattle.std.proofs.Common.{◌≡◌, ◌<◌, List, length, map, Option, Some, sym, ap, ◌∙◌, subst, arith}
use Rattle.std.specs.Prelude.{slice_get}
use Rattle.std.specs.Option.{option_map}
use Rattle.std.proofs.lemmas.List.{length-map}
use Rattle.std.proofs.lemmas.Option.{slice_get-map}
use Rattle.mpy_base.specs.World.{pairs_of, pairs_at}
use Rattle.prim_assignments.specs.arena_heap.declared.value.Value.{Value}
use Rattle.prim_assignments.specs.arena_heap.Values.{Leads}
use Rattle.prim_methods.specs.Halves.{half_of}
use Rattle.prim_methods.proofs.DictHalves.{half_leads}
use Rattle.prim_methods.proofs.ListFills.{elsewhere, step}
use Rattle.prim_methods.proofs.halves.fill.Goals as goal

pub put_in_list-requires-clause-leads : goal.put_in_list-requires-clause-leads
put_in_list-requires-clause-leads c =
    let objects = c.loop-at.arena.objects in
    subst (Leads objects) (sym c.chosen.ensures) (half_leads (Leads objects) c.args.half c.in-Some.key c.in-Some.v c.in-Some.ensures.key_leads c.in-Some.ensures.leads)

pub loop-at-preserved : goal.loop-at-preserved
loop-at-preserved c =
    let h = c.args.arena.now in
    let l = c.args.l.cell in
    let d = c.args.d.cell in
    let a = c.loop-at.arena in
    let at = c.loop-at.at in
    let pairs : List (Value × Value) = pairs_at h d in
    let f = half_of c.args.half in
    let target = map f pairs in
    let apart : d ≡ l → ⊥ = λ e. (let list = c.requires.list in let dict = c.requires.dict in cc) in
    let same : pairs_at a d ≡ pairs = ap pairs_of (elsewhere h l c.requires.list target a at d c.loop-at.invariant apart) in
    let lt : at < length target = omega (arith, c.loop-at-test.true, c.dict_len-at-end.ensures, length-map pairs f) in
    let pair : slice_get pairs at ≡ Some (c.in-Some.key, c.in-Some.v) = sym (ap (λ (ps : List (Value × Value)). slice_get ps at) same) ∙ sym c.in-Some.ensures.pair in
    let read : slice_get target at ≡ Some c.chosen.result = slice_get-map f pairs at ∙ (ap (λ (o : Option (Value × Value)). option_map f o) pair ∙ ap (λ (v : Value). Some v) (sym c.chosen.ensures)) in
    step h l c.requires.list target a c.put_in_list.new.arena at c.chosen.result c.loop-at.invariant lt read c.put_in_list.ensures
