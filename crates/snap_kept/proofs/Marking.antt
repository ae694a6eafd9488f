-- Where the flow goes, an entry that is active stays so.
use Rattle.std.proofs.Common.{◌≡◌, inl, inr, ℕ, suc, List, [], ◌∷◌, map, length, true, cond, ◌||◌, Some, refl, sym, ◌∙◌, subst, arith}
use Rattle.std.specs.Prelude.{slice_get, nat_le, nat_lt, nat_eq}
use Rattle.std.specs.List.{AllByRecursion as Each}
use Rattle.std.proofs.lemmas.Bool.{and_parts, false≢true, le-leb, leb-true}
use Rattle.bc_progress.specs.bc_flow.bc_shapes.declared.shape.Entry.{Entry as FlowEntry}
use Rattle.bc_progress.specs.bc_flow.bc_shapes.declared.kinds.Kind.{Kind}
use Rattle.bc_progress.specs.bc_flow.Action.{Action, Return}
use Rattle.bc_progress.specs.bc_flow.Code as flows
use Rattle.bc_progress.specs.bc_flow.declared.edges.Change.{Change}
use Rattle.bc_progress.specs.bc_flow.Edges.{falls, target, change, runs, behind, mark, is_marked, all_marked, raise_ways, run_ways}
use Rattle.bc_progress.specs.bc_flow.Verified.{Assigned, Holds as Meets}
use Rattle.bc_progress.specs.bc_flow.Machine as flow
use Rattle.bc_progress.specs.bc_flow.Machine.{Stack}
use Rattle.bc_progress.proofs.bc_flow_lemmas.Never.{Good}
use Rattle.bc_progress.proofs.bc_flow_lemmas.Sound.{Fits, Sound}
use Rattle.bc_progress.proofs.bc_flow_lemmas.Going.{Here, next_part, jump_part, raise_parts, run_parts}
use Rattle.bc_progress.specs.bc_machine.State.{Entry, remark}
use Rattle.bc_progress.specs.Slots.{flow_entry}
use Rattle.snap_kept.specs.Frames.{IsHeld, AreHeld, IsMarked, KeepsNone}

some_action : (x y : Action) → Some x ≡ Some y → x ≡ y
some_action x y e = cc

module _ (code : flows.Code) (a : Assigned) (holds : Meets code a) (p : ℕ) (st : Stack) (es : List FlowEntry) (g : Good code a (flow.Run p st es)) where
  abbrev ks : List Kind
  ks = g.runs.at.slots

  -- the rules hold here
  here : (i : Action) → slice_get code.actions p ≡ Some i → Here code a i p ks es g.runs.bound st
  here i e =
      let r = g.runs in
      let f = holds.closed p r.at r.is in
      let is : f.action ≡ i = some_action f.action i (sym f.is ∙ e) in
      let h : Here code a f.action p ks r.at.entries r.bound st = record {
        handlers = f.handlers;
        height = f.height;
        falls_on = f.falls;
        along = f.along;
        stands = r.slots;
        fits_in = subst (λ z. Fits z (length st)) (sym r.entries) r.fits;
        sound = subst (λ z. Sound a r.bound z st) (sym r.entries) r.sound;
      } in
      subst (λ z. Here code a i p ks z r.bound st) r.entries (subst (λ z. Here code a z p ks r.at.entries r.bound st) is h)

  pub raise_marks : all_marked (raise_ways es) ≡ true
  raise_marks =
      let f = holds.closed p g.runs.at g.runs.is in
      (raise_parts code a f.action p ks es g.runs.bound st (here f.action f.is)).1

  pub next_marks : (i : Action) → slice_get code.actions p ≡ Some i → falls i ≡ true → is_marked (suc p) (map (mark (suc p)) (behind (change i) (length ks) es)) ≡ true
  next_marks i e f = (next_part code a i p ks es g.runs.bound st (here i e) f).1

  pub jump_marks : (i : Action) (t : ℕ) → slice_get code.actions p ≡ Some i → target i ≡ Some t → is_marked t (map (mark t) (behind (change i) (length ks) es)) ≡ true
  jump_marks i t e q = (jump_part code a i p ks es g.runs.bound st t (here i e) q).1

  pub run_marks : (i : Action) → slice_get code.actions p ≡ Some i → all_marked (run_ways (runs i (length es)) es) ≡ true
  run_marks i e = (run_parts code a i p ks es g.runs.bound st (here i e)).1

  -- where entries stay as they are
  pub next_kept : (i : Action) → slice_get code.actions p ≡ Some i → falls i ≡ true → change i ≡ change Return → is_marked (suc p) (map (mark (suc p)) es) ≡ true
  unfolding change
  next_kept i e f c = subst (λ (z : Change). is_marked (suc p) (map (mark (suc p)) (behind z (length ks) es)) ≡ true) c (next_marks i e f)

  pub jump_kept : (i : Action) (t : ℕ) → slice_get code.actions p ≡ Some i → target i ≡ Some t → change i ≡ change Return → is_marked t (map (mark t) es) ≡ true
  unfolding change
  jump_kept i t e q c = subst (λ (z : Change). is_marked t (map (mark t) (behind z (length ks) es)) ≡ true) c (jump_marks i t e q)

-- an entry that is held and active is held where the flow goes
one_held : (p q : ℕ) (e : Entry) → cond (e.active || nat_eq e.handler q) (nat_le e.handler q) (nat_lt q e.handler) ≡ true → IsMarked p e → IsHeld p e → IsHeld q e
one_held p q e m k (inl none) = inl none
one_held p q e m k (inr le) =
    let on : e.active ≡ true = k ∙ le-leb e.handler p le in
    let there : cond (true || nat_eq e.handler q) (nat_le e.handler q) (nat_lt q e.handler) ≡ true = subst (λ z. cond (z || nat_eq e.handler q) (nat_le e.handler q) (nat_lt q e.handler) ≡ true) on m in
    inr (leb-true e.handler q there)

pub held_go : (p q : ℕ) (entries : List Entry) → is_marked q (map (mark q) (map flow_entry entries)) ≡ true → Each (IsMarked p) entries → AreHeld p entries → AreHeld q entries
held_go p q [] m k h = tt
held_go p q (e ∷ entries) m k h =
    let both = and_parts (cond (e.active || nat_eq e.handler q) (nat_le e.handler q) (nat_lt q e.handler)) (is_marked q (map (mark q) (map flow_entry entries))) m in
    (one_held p q e (both.0) (k.0) (h.0), held_go p q entries (both.1) (k.1) (h.1))

-- entries with their marks
pub held_marked : (p q : ℕ) (entries : List Entry) → AreHeld p entries → AreHeld p (map (remark q) entries)
held_marked p q [] h = tt
held_marked p q (e ∷ entries) h = (h.0, held_marked p q entries (h.1))

pub all_marks : (q : ℕ) (entries : List Entry) → Each (IsMarked q) (map (remark q) entries)
all_marks q [] = tt
all_marks q (e ∷ entries) = (refl, all_marks q entries)

pub held_up : (p : ℕ) (entries : List Entry) → AreHeld p entries → AreHeld (suc p) entries
held_up p [] h = tt
held_up p (e ∷ entries) h = (one (h.0), held_up p entries (h.1))
  where
    one : IsHeld p e → IsHeld (suc p) e
    one (inl none) = inl none
    one (inr le) = inr (omega (arith, le))

pub held_back : (p q : ℕ) (entries : List Entry) → AreHeld p (map (remark q) entries) → AreHeld p entries
held_back p q [] h = tt
held_back p q (e ∷ entries) h = (h.0, held_back p q entries (h.1))

-- an entry that is held, and active from its handler on
one_none : (p : ℕ) (e : Entry) → IsHeld p e → IsMarked p e → KeepsNone e
one_none p e (inl none) m = λ off. none
one_none p e (inr le) m = λ off. absurd (false≢true (sym off ∙ m ∙ le-leb e.handler p le))

pub none_kept : (p : ℕ) (entries : List Entry) → AreHeld p entries → Each (IsMarked p) entries → Each KeepsNone entries
none_kept p [] h m = tt
none_kept p (e ∷ entries) h m = (one_none p e (h.0) (m.0), none_kept p entries (h.1) (m.1))
