use Rattle.std.proofs.Common.{ℕ, ◌≡◌, List, Option, Some, sym, ◌∙◌, ap, subst}
use Rattle.std.specs.Prelude.{slice_get}
use Rattle.arena_heap.specs.declared.value.Value.{Value}
use Rattle.py_values.specs.mpy_base.World.{pairs_at}
use Rattle.arena_heap.specs.Constants.{IsTold}
use Rattle.arena_objects.specs.Keys.{key_of, key_in}
use Rattle.py_values.specs.Keys.{PlainKey}
use Rattle.arena_objects.proofs.Places.{no_pair, read_pair}
use Rattle.arena_objects.proofs.Tolds.{told_pairs}
use Rattle.arena_objects.proofs.finding.has_key.Goals as goal

pub is_sought-requires-clause-told : goal.is_sought-requires-clause-told
is_sought-requires-clause-told g c =
    let pairs = pairs_at c.args.arena.now c.args.d.cell in
    let read = read_pair pairs c.args.at (c.in-Some.other, c.in-Some.field-0-1) c.in-Some.ensures.pair in
    let texts = g.C.Constants.text_of c.args.consts.now in
    let tuples = g.C.Constants.items_of c.args.consts.now in
    subst (λ (p : Value × Value). IsTold texts tuples p.0) (sym (read.1 no_pair)) (told_pairs texts tuples c.args.arena.now c.args.d.cell c.requires.dict c.requires.all_told c.args.at no_pair read.0).0

-- the key of the pair at the place is what was compared
key_read : (f : Value → Option PlainKey) (pairs : List (Value × Value)) (at : ℕ) (other v : Value) → Some (other, v) ≡ slice_get pairs at → f (key_in pairs at) ≡ f other
key_read f pairs at other v e = ap (λ (pair : Value × Value). f pair.0) (sym ((read_pair pairs at (other, v) e).1 no_pair))

pub returns : goal.returns
returns g c =
    let h = c.args.arena.now in
    let pairs = pairs_at h c.args.d.cell in
    let at = key_read (key_of (g.C.Constants.text_of c.args.consts.now) h) pairs c.args.at c.in-Some.other c.in-Some.field-0-1 c.in-Some.ensures.pair in
    (λ yes. at ∙ c.is_sought.ensures.0 yes, λ same. c.is_sought.ensures.1 (sym at ∙ same))
