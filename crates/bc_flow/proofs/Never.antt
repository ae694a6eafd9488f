-- Each instruction, and whole runs.
use Rattle.std.proofs.Common.{◌≡◌, ℕ, zero, suc, ◌+◌, ◌-◌, ◌≤◌, Bool, true, false, not, ◌&&◌, List, [], ◌∷◌, length, map, drop, Some, refl, sym, ap, ◌∙◌, subst, arith, if◌then◌else◌}
use Rattle.std.specs.Prelude.{min, nat_le, slice_get}
use Rattle.std.proofs.lemmas.Bool.{and_parts, and_from, false≢true, leb-true, le-leb, eqb-true}
use Rattle.bc_shapes.specs.declared.kinds.Kind.{Kind}
use Rattle.bc_shapes.specs.declared.kinds.Want.TheVariants as wants
use Rattle.bc_shapes.specs.declared.shape.Entry.{Entry}
use Rattle.bc_shapes.specs.Shape.{At, fits, after}
use Rattle.bc_flow.specs.Code.{Code, code_of}
use Rattle.bc_flow.specs.declared.code.Code.{Code as RustCode}
use Rattle.bc_flow.proofs.Few.{FewOut, throw_few, act_few}
use Rattle.bc_flow.proofs.Rows.{code_fine}
use Rattle.bc_flow.specs.declared.edges.Change.TheVariants.{Push}
use Rattle.bc_flow.specs.Action.{Action, Straight, Branch, Jump, Setup, PopExcept, EndFinally, Unwind, Return, Raise}
use Rattle.bc_flow.specs.Edges.{Next, There, takes, gives, gives_there, falls, target, change, runs, behind, floor, lowest, left, deep, base, holds, finds, room, stays, iterator_if, run_ways, all_marked, slots_of, edge_of, edges, mark, is_marked}
use Rattle.bc_flow.specs.Verified.{Assigned, Leads, Each, Fine, Holds, Verified}
use Rattle.bc_flow.specs.Machine.{Slot, Value, NoneOrException, KeptReturn, KeptJump, Iter1, Iter2, Iter3, Iter4, Null, Method, Stack, St, Run, Ends, Stuck, Choice, is_wanted, all_wanted, cut, go, throw, leave, unwind, resume, act, fetched, within, step, steps, NeverStuck}
use Rattle.bc_flow.proofs.Sound.{Stands, empty, stands_below, stands-length, stands_drop, stands_wanted, cut_all, cut-length, Fits, KeptOk, Sound, sound_setup, sound_pop}
use Rattle.bc_flow.proofs.Runs.{GoodOut, reach_good, way_reach, throw_good, leave_good, unwind_good, can_return, can_unwind}
use Rattle.bc_flow.proofs.Going.{shape, Here, Arrives, raise_parts, run_parts, next_part, jump_part, asks_part, fits_part, deep_part, whole, slots-next, slots-there, raise_good, plain_good, gives_fine}

if_true : (a : Assigned) (b : Bool) (s t : St) → b ≡ true → GoodOut a s → GoodOut a (if b then s else t)
if_true a true s t e g = g
if_true a false s t e g = absurd (false≢true e)

module _ (code : Code) (a : Assigned) (p : ℕ) (ks : List Kind) (n : ℕ) (st : Stack) where
  pub setup_good : (i : Action) (es : List Entry) (hd : ℕ) (last : Bool) → Here code a i p ks es n st → change i ≡ Push hd last → takes i ≡ [] → gives i ≡ [] → falls i ≡ true → GoodOut a (go (suc p) st (record { handler = hd; is_finally = last; active = false; height = length st } ∷ es))
  setup_good i es hd last h c tk g f =
      let q = stands-length st ks h.stands in
      let new : ℕ → Entry = λ m. record { handler = hd; is_finally = last; active = false; height = m } in
      let r = next_part code a i p ks es n st h f in
      let r2 = subst (λ z. Arrives code a i p ks es n st (suc p) Next (behind z (length ks) es)) c r in
      let r3 = subst (λ m. Arrives code a i p ks es n st (suc p) Next (new m ∷ es)) (sym q) r2 in
      let e : slots_of i (shape ks es) Next ≡ ks =
      slots-next code a i p ks es n st ∙ ap (λ z. after z (length (takes i)) (base i (shape ks es))) g ∙ ap (λ z. after [] (length z) (base i (shape ks es))) tk ∙ whole code a i p ks es n st (ap (λ z. left z es (length ks)) c) in
      reach_good a (suc n) (suc p) st (new (length st) ∷ es)
      (way_reach a i (shape ks es) (suc p) (suc n) (new (length st) ∷ es) Next st r3.0 r3.1 (subst (Stands st) (sym e) h.stands) (omega arith, h.fits_in) (sound_setup a n (new (length st)) es st refl h.sound))

  pub pop_if : (t : ℕ) (e : Entry) (es : List Entry) (b : Bool) → e.is_finally ≡ b → not b ≡ true → GoodOut a (go t st es) → GoodOut a (if b then Stuck else go t st es)
  pop_if t e es true q f g = absurd (false≢true f)
  pop_if t e es false q f g = g

-- what is left after an entry is dropped
dropped : (a : Assigned) (n : ℕ) (e : Entry) (es : List Entry) (st : Stack) → length st ≡ e.height → Fits (e ∷ es) (length st) → Sound a n (e ∷ es) st → (m : ℕ) × Fits es (length st) × Sound a m es st
dropped a zero e es st q f w = absurd w
dropped a (suc n) e es st q f w = (n, subst (Fits es) (sym q) f.1, subst (Sound a n es) (cut_all e.height st (omega (arith, q))) w.1)

pub pop_good : (code : Code) (a : Assigned) (t p : ℕ) (ks : List Kind) (es : List Entry) (n : ℕ) (st : Stack) (b : Bool) → Here code a (PopExcept t) p ks es n st → GoodOut a (act (PopExcept t) b p st es)
unfolding takes change target gives_there
pop_good code a t p ks [] n st b h = absurd (false≢true (asks_part code a (PopExcept t) p ks [] n st h))
pop_good code a t p ks (e ∷ es) n st b h =
    let i = PopExcept t in
    let all = whole code a i p ks (e ∷ es) n st refl in
    let d = subst (λ z. deep (change i) (e ∷ es) (length (takes i)) (length z) ≡ true) all (deep_part code a i p ks (e ∷ es) n st h) in
    let eq : length ks - 0 ≡ e.height = eqb-true _ _ (and_parts _ _ d).1 in
    let q = stands-length st ks h.stands in
    let dr = dropped a n e es st (omega (arith, eq, q)) h.fits_in h.sound in
    let r = jump_part code a i p ks (e ∷ es) n st t h refl in
    let s : slots_of i (shape ks (e ∷ es)) There ≡ ks = slots-there code a i p ks (e ∷ es) n st ∙ all in
    pop_if code a p ks n st t e es e.is_finally refl (asks_part code a i p ks (e ∷ es) n st h)
    (reach_good a dr.0 t st es (way_reach a i (shape ks (e ∷ es)) t dr.0 es There st r.0 r.1 (subst (Stands st) (sym s) h.stands) dr.1 dr.2))

-- an END_FINALLY
pub end_stack : (code : Code) (a : Assigned) (p : ℕ) (ks : List Kind) (es : List Entry) (n : ℕ) (st : Stack) → Here code a EndFinally p ks es n st → all_wanted (wants.Cause ∷ []) st ≡ true
unfolding takes change
end_stack code a p ks es n st h = stands_wanted (wants.Cause ∷ []) st ks h.stands (subst (λ z. fits (takes EndFinally) z ≡ true) (whole code a EndFinally p ks es n st refl) (fits_part code a EndFinally p ks es n st h))

pub end_height : (code : Code) (a : Assigned) (p : ℕ) (ks : List Kind) (e : Entry) (es : List Entry) (n : ℕ) (st : Stack) → Here code a EndFinally p ks (e ∷ es) n st → length ks - 1 ≡ e.height
unfolding takes change
end_height code a p ks e es n st h =
    let d = subst (λ z. deep (change EndFinally) (e ∷ es) (length (takes EndFinally)) (length z) ≡ true) (whole code a EndFinally p ks (e ∷ es) n st refl) (deep_part code a EndFinally p ks (e ∷ es) n st h) in
    eqb-true _ _ (and_parts _ _ d).1

end_next : (code : Code) (a : Assigned) (p : ℕ) (ks : List Kind) (e : Entry) (es : List Entry) (n : ℕ) (s : Slot) (st : Stack) → Here code a EndFinally p ks (e ∷ es) n (s ∷ st) → (m : ℕ) → Fits es (length st) → Sound a m es st → GoodOut a (go (suc p) st es)
unfolding takes change gives falls
end_next code a p ks e es n s st h m f w =
    let i = EndFinally in
    let r = next_part code a i p ks (e ∷ es) n (s ∷ st) h refl in
    let sl : slots_of i (shape ks (e ∷ es)) Next ≡ drop 1 ks = slots-next code a i p ks (e ∷ es) n (s ∷ st) ∙ ap (drop 1) (whole code a i p ks (e ∷ es) n (s ∷ st) refl) in
    reach_good a m (suc p) st es (way_reach a i (shape ks (e ∷ es)) (suc p) m es Next st r.0 r.1 (subst (Stands st) (sym sl) (stands_drop 1 (s ∷ st) ks h.stands)) f w)

end_throw : (code : Code) (a : Assigned) (p : ℕ) (ks : List Kind) (e : Entry) (es : List Entry) (n : ℕ) (s : Slot) (st : Stack) → e.active ≡ true → length st ≡ e.height → Here code a EndFinally p ks (e ∷ es) n (s ∷ st) → (m : ℕ) → Fits es (length st) → Sound a m es st → GoodOut a (throw es st)
end_throw code a p ks e es n s st act_is len h m f w =
    let i = EndFinally in
    let r = raise_parts code a i p ks (e ∷ es) n (s ∷ st) h in
    let x = shape ks (e ∷ es) in
    let q = stands-length (s ∷ st) ks h.stands in
    let each = subst (λ b. Each a (map (edge_of i x) (if b then Rattle.bc_flow.specs.Edges.raise_ways es else (Rattle.bc_flow.specs.Edges.way_in e es ∷ [])))) act_is r.0 in
    let mk = subst (λ b. all_marked (if b then Rattle.bc_flow.specs.Edges.raise_ways es else (Rattle.bc_flow.specs.Edges.way_in e es ∷ [])) ≡ true) act_is r.1 in
    let c : cut (length st) ks ≡ drop 1 ks = ap (λ k. drop k ks) (let z : length ks - length st ≡ 1 = omega (arith, q) in z) in
    throw_good a i x m (length st) es st refl f (subst (Stands st) (sym c) (stands_drop 1 (s ∷ st) ks h.stands)) w each mk

resume_if : (a : Assigned) (b : Bool) (s t : St) → GoodOut a s → GoodOut a t → GoodOut a (if b then s else t)
resume_if a true s t g h = g
resume_if a false s t g h = h

kept_at : (a : Assigned) (n : ℕ) (e : Entry) (es : List Entry) (s : Slot) (st : Stack) → length st ≡ e.height → Sound a (suc n) (e ∷ es) (s ∷ st) → KeptOk a (Sound a n) s es st
kept_at a n e es s st q w = w.0 [] s st refl q

end_act : (code : Code) (a : Assigned) (p : ℕ) (ks : List Kind) (e : Entry) (es : List Entry) (n : ℕ) (s : Slot) (st : Stack) (b : Bool) → is_wanted wants.Cause s ≡ true → e.active ≡ true → length st ≡ e.height → Here code a EndFinally p ks (e ∷ es) n (s ∷ st) → Sound a n (e ∷ es) (s ∷ st) → GoodOut a (resume s b p es st)
end_act code a p ks e es zero s st b wt ac q h w = absurd w
end_act code a p ks e es (suc n) NoneOrException st b wt ac q h w =
    let dr = dropped a (suc n) e es st q (omega (arith, q), h.fits_in.1) (sound_pop a (suc n) (e ∷ es) NoneOrException st (omega (arith, q), h.fits_in.1) w) in
    resume_if a b (throw es st) (go (suc p) st es) (end_throw code a p ks e es (suc n) NoneOrException st ac q h dr.0 dr.1 dr.2) (end_next code a p ks e es (suc n) NoneOrException st h dr.0 dr.1 dr.2)
end_act code a p ks e es (suc n) KeptReturn st b wt ac q h w = leave_good a EndFinally (shape ks (e ∷ es)) n es st (kept_at a n e es KeptReturn st q w)
end_act code a p ks e es (suc n) (KeptJump t d it) st b wt ac q h w = unwind_good a EndFinally (shape ks (e ∷ es)) n t it d es st (kept_at a n e es (KeptJump t d it) st q w)
end_act code a p ks e es (suc n) Value st b wt ac q h w = absurd (false≢true wt)
end_act code a p ks e es (suc n) Iter1 st b wt ac q h w = absurd (false≢true wt)
end_act code a p ks e es (suc n) Iter2 st b wt ac q h w = absurd (false≢true wt)
end_act code a p ks e es (suc n) Iter3 st b wt ac q h w = absurd (false≢true wt)
end_act code a p ks e es (suc n) Iter4 st b wt ac q h w = absurd (false≢true wt)
end_act code a p ks e es (suc n) Null st b wt ac q h w = absurd (false≢true wt)
end_act code a p ks e es (suc n) Method st b wt ac q h w = absurd (false≢true wt)

end_asks : (code : Code) (a : Assigned) (p : ℕ) (ks : List Kind) (es : List Entry) (n : ℕ) (st : Stack) → Here code a EndFinally p ks es n st → Rattle.bc_flow.specs.Edges.top_is_active es ≡ true
unfolding change
end_asks code a p ks es n st h = asks_part code a EndFinally p ks es n st h

pub end_good : (code : Code) (a : Assigned) (p : ℕ) (ks : List Kind) (es : List Entry) (n : ℕ) (st : Stack) (b : Bool) → Here code a EndFinally p ks es n st → GoodOut a (act EndFinally b p st es)
end_good code a p ks es n [] b h = absurd (false≢true (end_stack code a p ks es n [] h))
end_good code a p ks [] n (s ∷ st) b h = absurd (false≢true (end_asks code a p ks [] n (s ∷ st) h))
end_good code a p ks (e ∷ es) n (s ∷ st) b h =
    let ac = end_asks code a p ks (e ∷ es) n (s ∷ st) h in
    let eq = end_height code a p ks e es n (s ∷ st) h in
    let q = stands-length (s ∷ st) ks h.stands in
    if_true a e.active (resume s b p es st) Stuck ac (end_act code a p ks e es n s st b (and_parts _ _ (end_stack code a p ks (e ∷ es) n (s ∷ st) h)).0 ac (omega (arith, eq, q)) h h.sound)

-- a return
return_stack : (code : Code) (a : Assigned) (p : ℕ) (ks : List Kind) (es : List Entry) (n : ℕ) (st : Stack) → Here code a Return p ks es n st → all_wanted (wants.Value ∷ []) st ≡ true
unfolding takes change
return_stack code a p ks es n st h = stands_wanted (wants.Value ∷ []) st ks h.stands (subst (λ z. fits (takes Return) z ≡ true) (whole code a Return p ks es n st refl) (fits_part code a Return p ks es n st h))

return_leave : (code : Code) (a : Assigned) (p : ℕ) (ks : List Kind) (es : List Entry) (n : ℕ) (st : Stack) → Here code a Return p ks es n st → GoodOut a (leave es st)
unfolding runs
return_leave code a p ks es n st h =
    let r = run_parts code a Return p ks es n st h in
    leave_good a Return (shape ks es) n es st (can_return a Return (shape ks es) n (length st) es st refl h.fits_in (subst (λ z. Stands st z) (sym (cut_all (length st) ks (let q = stands-length st ks h.stands in omega (arith, q)))) h.stands) h.sound r.0 r.1)

pub return_good : (code : Code) (a : Assigned) (p : ℕ) (ks : List Kind) (es : List Entry) (n : ℕ) (st : Stack) (b : Bool) → Here code a Return p ks es n st → GoodOut a (act Return b p st es)
return_good code a p ks es n [] b h = absurd (false≢true (return_stack code a p ks es n [] h))
return_good code a p ks es n (s ∷ st) b h = if_true a (is_wanted wants.Value s) (leave es (s ∷ st)) Stuck (and_parts _ _ (return_stack code a p ks es n (s ∷ st) h)).0 (return_leave code a p ks es n (s ∷ st) h)

pub lowest_most : (d : ℕ) (es : List Entry) (n : ℕ) → lowest d es n ≤ n
lowest_most zero es n = omega arith
lowest_most (suc d) [] n = omega arith
lowest_most (suc d) (e ∷ es) n = let h = lowest_most d es (min e.height n) in omega (arith, h)

-- a jump out of entries
pub jump_good : (code : Code) (a : Assigned) (t d : ℕ) (it : Bool) (p : ℕ) (ks : List Kind) (es : List Entry) (n : ℕ) (st : Stack) → Here code a (Unwind t d it) p ks es n st → GoodOut a (unwind t it d es st)
unfolding takes change target gives_there runs base
jump_good code a t d it p ks es n st h =
    let i = Unwind t d it in
    let x = shape ks es in
    let r = run_parts code a i p ks es n st h in
    let j = jump_part code a i p ks es n st t h refl in
    let q = stands-length st ks h.stands in
    let low : lowest d es (length ks) ≤ length ks = lowest_most d es (length ks) in
    let dp = deep_part code a i p ks es n st h in
    let fl : floor (drop d es) ≤ length (base i x) - length (takes i) = leb-true _ _ (and_parts _ _ (and_parts _ _ dp).0).1 in
    let len : length (base i x) ≡ lowest d es (length ks) = cut-length (lowest d es (length ks)) ks low in
    let l = subst (λ z. Leads a (record { to = t; at = record { slots = z; entries = map (mark t) (drop d es) } })) (slots-there code a i p ks es n st) j.0 in
    unwind_good a i x n t it d es st
    (can_unwind a i x n (length ks) t it d es st q h.fits_in
    (subst (λ z. Stands st z) (sym (cut_all (length ks) ks (omega arith))) h.stands) h.sound
    (leb-true _ _ (asks_part code a i p ks es n st h)) r.0 r.1 l j.1 (fits_part code a i p ks es n st h) (omega (arith, fl, len)))

record_here : (code : Code) (a : Assigned) (p : ℕ) (x : At) (n : ℕ) (st : Stack) (f : Fine code a p x) → Stands st x.slots → Fits x.entries (length st) → Sound a n x.entries st → Here code a f.action p x.slots x.entries n st
record_here code a p x n st f s t w = record { handlers = f.handlers; height = f.height; falls_on = f.falls; along = f.along; stands = s; fits_in = t; sound = w }

pub act_good : (code : Code) (a : Assigned) (i : Action) (p : ℕ) (ks : List Kind) (es : List Entry) (n : ℕ) (st : Stack) (b : Bool) → gives_fine i ≡ true → Here code a i p ks es n st → GoodOut a (act i b p st es)
unfolding takes change gives falls
act_good code a (Setup t last) p ks es n st b f h = setup_good code a p ks n st (Setup t last) es t last h refl refl refl refl
act_good code a Return p ks es n st b f h = return_good code a p ks es n st b h
act_good code a (Unwind t d it) p ks es n st b f h = jump_good code a t d it p ks es n st h
act_good code a EndFinally p ks es n st b f h = end_good code a p ks es n st b h
act_good code a (PopExcept t) p ks es n st b f h = pop_good code a t p ks es n st b h
act_good code a (Straight ws gs) p ks es n st b f h = plain_good code a (Straight ws gs) p ks es n st h refl f b
act_good code a (Branch ws gs there t) p ks es n st b f h = plain_good code a (Branch ws gs there t) p ks es n st h refl f b
act_good code a (Jump t) p ks es n st b f h = plain_good code a (Jump t) p ks es n st h refl f b
act_good code a (Raise k) p ks es n st b f h = plain_good code a (Raise k) p ks es n st h refl f b

raises_if : (a : Assigned) (b : Bool) (s t : St) → GoodOut a s → GoodOut a t → GoodOut a (if b then s else t)
raises_if a true s t g h = g
raises_if a false s t g h = h

within_if : (a : Assigned) (b : Bool) (s : St) → b ≡ true → GoodOut a s → GoodOut a (within b s)
within_if a true s e g = g
within_if a false s e g = absurd (false≢true e)

few_within : (m : ℕ) (b : Bool) (s : St) → FewOut m s → FewOut m (within b s)
few_within m true s f = f
few_within m false s f = tt

few_raises : (m : ℕ) (b : Bool) (s t : St) → FewOut m s → FewOut m t → FewOut m (if b then s else t)
few_raises m true s t f g = f
few_raises m false s t f g = g

room_first : (code : Code) (i : Action) (x : At) → room code i x ≡ true → nat_le (code.locals + length x.slots) code.n_state ≡ true
unfolding room
room_first code i x r = (and_parts _ _ (and_parts _ _ r).0).0

-- a state that the assignment has, with few enough entries
pub record Good (code : Code) (a : Assigned) (s : St) : Type 0 where
  pub runs : GoodOut a s
  pub few : FewOut code.n_exc s

-- no instruction gives a cause again
abbrev pub GivesNoCause : Code → Type 0
GivesNoCause code = (p : ℕ) (i : Action) → slice_get code.actions p ≡ Some i → gives_fine i ≡ true

pub step_good : (code : Code) (a : Assigned) → GivesNoCause code → Holds code a → (c : Choice) (s : St) → Good code a s → Good code a (step code c s)
step_good code a rows v c Ends g = record { runs = tt; few = tt }
step_good code a rows v c Stuck g = g
step_good code a rows v c (Run p st es) g =
    let r = g.runs in
    let f = v.closed p r.at r.is in
    let h = record_here code a p r.at r.bound st f r.slots (subst (λ z. Fits z (length st)) (sym r.entries) r.fits) (subst (λ z. Sound a r.bound z st) (sym r.entries) r.sound) in
    let q = stands-length st r.at.slots r.slots in
    let few : length r.at.entries ≤ code.n_exc = subst (λ z. length z ≤ code.n_exc) (sym r.entries) g.few in
    let fine = rows p f.action f.is in
    let ok = raises_if a c.raises (throw r.at.entries st) (act f.action c.straight p st r.at.entries)
    (raise_good code a f.action p r.at.slots r.at.entries r.bound st h) (act_good code a f.action p r.at.slots r.at.entries r.bound st c.straight fine h) in
    let fits = few_raises code.n_exc c.raises (throw r.at.entries st) (act f.action c.straight p st r.at.entries)
    (throw_few code.n_exc r.at.entries st few) (act_few code f.action p (length r.at.slots) r.at.entries st c.straight f.handlers few) in
    let ok2 = subst (λ z. GoodOut a (if c.raises then throw z st else act f.action c.straight p st z)) r.entries ok in
    let fits2 = subst (λ z. FewOut code.n_exc (if c.raises then throw z st else act f.action c.straight p st z)) r.entries fits in
    let room : nat_le (code.locals + length st) code.n_state ≡ true = ap (λ m. nat_le (code.locals + m) code.n_state) q ∙ room_first code f.action r.at f.state in
    let both : (nat_le (code.locals + length st) code.n_state && nat_le (length es) code.n_exc) ≡ true = and_from _ _ room (le-leb _ _ g.few) in
    record {
      runs = within_if a (nat_le (code.locals + length st) code.n_state && nat_le (length es) code.n_exc) _ both (subst (λ o. GoodOut a (fetched o c p st es)) (sym f.is) ok2);
      few = few_within code.n_exc (nat_le (code.locals + length st) code.n_state && nat_le (length es) code.n_exc) _ (subst (λ o. FewOut code.n_exc (fetched o c p st es)) (sym f.is) fits2);
    }

pub start_good : (code : Code) (a : Assigned) → Holds code a → Good code a (Run 0 [] [])
start_good code a v =
    let l = v.start in
    record {
      runs = record { bound = 0; at = l.at; is = l.is; entries = sym l.under.entries; slots = stands_below [] [] l.at.slots empty l.under.slots; fits = tt; sound = tt };
      few = omega arith;
    }

pub steps_good : (code : Code) (a : Assigned) → GivesNoCause code → Holds code a → (cs : List Choice) (s : St) → Good code a s → Good code a (steps code cs s)
steps_good code a rows v [] s g = g
steps_good code a rows v (c ∷ cs) s g = steps_good code a rows v cs (step code c s) (step_good code a rows v c s g)

pub never_stuck : (c : RustCode) → Verified (code_of c) → NeverStuck (code_of c)
never_stuck c v cs e = subst (GoodOut v.0) e (steps_good (code_of c) v.0 (code_fine c) v.1 cs (Run 0 [] []) (start_good (code_of c) v.0 v.1)).runs
