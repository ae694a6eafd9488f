use Rattle.std.proofs.Common.{ℕ, sym, ap, ◌∙◌, inl, inr}
use Rattle.prim_operators.specs.mpy_base.World.{Heap, pairs_at}
use Rattle.prim_operators.specs.arena_heap.declared.value.Value.{Value}
use Rattle.prim_operators.specs.arena_heap.declared.value.Value.TheVariants as values
use Rattle.prim_operators.specs.py_primitives.Outcome.{gives}
use Rattle.prim_operators.specs.mpy_base.Val.{Nil}
use Rattle.prim_operators.specs.prim_walks.Plain.{plain_heap}
use Rattle.prim_operators.proofs.prim_faults_lemmas.Outcomes.{answered, full_outcome}
use Rattle.prim_operators.proofs.DictKeys.{IsKnownKey, each_key}
use Rattle.prim_assignments.proofs.PutPairs.{found_or_missed, put_there, put_new, put_refused}
use Rattle.prim_assignments.proofs.pairs.put_pair.Goals as goal

pub returns-in-Ok : goal.returns-in-Ok
returns-in-Ok g c =
    let texts = g.C.Constants.text_of c.args.consts.now in
    let tuples = g.C.Constants.items_of c.args.consts.now in
    let h = c.args.arena.now in
    let d = c.args.d.cell in
    let pairs = pairs_at h d in
    let known : IsKnownKey texts tuples h c.args.key = record { key = c.requires.key; leads = c.requires.key_leads; told = c.requires.key_told } in
    let each = each_key texts tuples h d c.requires.dict c.sound_law.ensures c.requires.all_told c.args.key known in
    let new = c.dict_set.new.arena in
    let done = answered texts tuples h new values.None _ c.in-Ok.ensures.later c.in-Ok.ensures.all_told (record { meets = tt; small = tt }) tt in
    elim (found_or_missed texts tuples h c.args.key known pairs) [
      | inl f ↦
          let now = c.in-Ok.ensures.set f.at (record { within = f.stands.within; equal = f.stands.equal; first = f.stands.first }) in
          done (put_there texts tuples h d c.args.key c.args.v known each f.at f.stands c.requires.dict (c.room_law.ensures.rooms d) c.room_law.ensures.fits
          ∙ ap (λ (w : Heap Value ℕ). gives Nil (plain_heap texts tuples w)) (sym now))
      | inr misses ↦
          let now = c.in-Ok.ensures.added (record { differs = misses }) in
          done (put_new texts tuples h d c.args.key c.args.v known each misses (c.in-Ok.ensures.fits (record { differs = misses }))
          ∙ ap (λ (w : Heap Value ℕ). gives Nil (plain_heap texts tuples w)) (sym now))
    ]

pub returns-in-Err : goal.returns-in-Err
returns-in-Err g c =
    let texts = g.C.Constants.text_of c.args.consts.now in
    let tuples = g.C.Constants.items_of c.args.consts.now in
    let h = c.args.arena.now in
    let d = c.args.d.cell in
    let known : IsKnownKey texts tuples h c.args.key = record { key = c.requires.key; leads = c.requires.key_leads; told = c.requires.key_told } in
    let each = each_key texts tuples h d c.requires.dict c.sound_law.ensures c.requires.all_told c.args.key known in
    let refused = c.in-Err.ensures.refused in
    full_outcome texts tuples h c.dict_set.new.arena c.in-Err.room _ 0 _ refused c.requires.all_told
    (put_refused texts tuples h d c.args.key c.args.v known each c.in-Err.ensures.new_key.differs refused.too_much)
