use Rattle.std.proofs.Common.{◌≡◌, ℕ, List, [], ◌∷◌, get_or, refl, ap, ◌∙◌}
use Rattle.std.proofs.lemmas.List.Elements.{All-nil}
use Rattle.prim_faults.specs.mpy_base.World.{TextObject}
use Rattle.prim_faults.specs.arena_heap.declared.value.Value.TheVariants as values
use Rattle.prim_faults.specs.arena_heap.Values.{ArenaObject}
use Rattle.prim_faults.specs.arena_heap.Constants.{IsTold}
use Rattle.prim_faults.specs.arena_objects.Iterables.{or_nothing, spelled}
use Rattle.prim_faults.specs.py_values.Shown.{Shown, Text}
use Rattle.prim_faults.specs.py_primitives.Iterables.{shown_item}
use Rattle.prim_faults.specs.prim_walks.Plain.{plain_heap}
use Rattle.prim_faults.proofs.Outcomes.{made_outcome, refused_outcome}
use Rattle.prim_operators.proofs.ItemsShown.{str_shown}
use Rattle.prim_operators.proofs.items.str_item.Goals as goal

pub returns-in-Ok : goal.returns-in-Ok
returns-in-Ok g c =
    let texts = g.C.Constants.text_of c.args.consts.now in
    let tuples = g.C.Constants.items_of c.args.consts.now in
    let h = c.args.arena.now in
    let heap = plain_heap texts tuples h in
    let bytes = c.text_bytes.result.now in
    let same : spelled texts h c.args.s ≡ bytes = ap or_nothing c.text_bytes.ensures.bytes in
    let is = ap (λ (s : Shown). shown_item heap c.args.at s) (str_shown texts tuples h c.args.s c.requires.str c.requires.leads ∙ ap (λ (bs : List ℕ). Text bs) same) in
    let o : ArenaObject = TextObject (get_or bytes c.args.at 0 ∷ []) in
    made_outcome texts tuples h c.make_byte.new.arena o c.requires.all_told _ is _ (values.Text c.in-Ok.letter) c.in-Ok.ensures.made refl
    (record { meets = c.in-Ok.ensures.kind; small = tt }) tt (All-nil (IsTold texts tuples))

pub returns-in-Err : goal.returns-in-Err
returns-in-Err g c =
    let texts = g.C.Constants.text_of c.args.consts.now in
    let tuples = g.C.Constants.items_of c.args.consts.now in
    let h = c.args.arena.now in
    let heap = plain_heap texts tuples h in
    let bytes = c.text_bytes.result.now in
    let same : spelled texts h c.args.s ≡ bytes = ap or_nothing c.text_bytes.ensures.bytes in
    let is = ap (λ (s : Shown). shown_item heap c.args.at s) (str_shown texts tuples h c.args.s c.requires.str c.requires.leads ∙ ap (λ (bs : List ℕ). Text bs) same) in
    let o : ArenaObject = TextObject (get_or bytes c.args.at 0 ∷ []) in
    refused_outcome texts tuples h c.make_byte.new.arena o c.requires.all_told _ is c.in-Err.room c.in-Err.ensures.refused
