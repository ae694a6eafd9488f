-- A step of verified code holds no more entries than there may be.
use Rattle.std.proofs.Common.{◌≡◌, ℕ, zero, suc, ◌≤◌, Bool, true, false, List, [], ◌∷◌, length, drop, Option, Some, None, arith, if◌then◌else◌}
use Rattle.std.proofs.lemmas.Bool.{and_parts, leb-true}
use Rattle.std.proofs.lemmas.List.{length-map}
use Rattle.bc_shapes.specs.declared.shape.Entry.{Entry}
use Rattle.bc_flow.specs.Action.{Action, Straight, Branch, Jump, Setup, PopExcept, EndFinally, Unwind, Return, Raise}
use Rattle.bc_flow.specs.Code.{Code}
use Rattle.bc_flow.specs.Edges.{takes, gives, gives_there, falls, target, change, behind, holds, iterator_if}
use Rattle.bc_flow.specs.Machine.{Slot, NoneOrException, KeptReturn, KeptJump, Stack, St, Run, Ends, Stuck, is_wanted, all_wanted, given, cut, remark, go, enter, throw, is_run, leave, unwind, resume, goes, plain, act}

abbrev pub FewOut : ℕ → St → Type 0
FewOut m (Run p st es) = length es ≤ m
FewOut m Ends = Unit {0}
FewOut m Stuck = Unit {0}

module _ (m : ℕ) where
  few_if : (b : Bool) (s t : St) → FewOut m s → FewOut m t → FewOut m (if b then s else t)
  few_if true s t f g = f
  few_if false s t f g = g

  go_few : (p : ℕ) (st : Stack) (es : List Entry) → length es ≤ m → FewOut m (go p st es)
  go_few p st es h = let e = length-map es (remark p) in omega (arith, e, h)

  pub throw_few : (es : List Entry) (st : Stack) → length es ≤ m → FewOut m (throw es st)
  throw_few [] st h = tt
  throw_few (e ∷ es) st h = few_if e.active (throw es (cut e.height st)) (enter e es NoneOrException st) (throw_few es (cut e.height st) (omega (arith, h))) (go_few e.handler (NoneOrException ∷ cut e.height st) (e ∷ es) h)

  leave_few : (es : List Entry) (st : Stack) → length es ≤ m → FewOut m (leave es st)
  leave_few [] st h = tt
  leave_few (e ∷ es) st h = few_if (is_run e) (enter e es KeptReturn st) (leave es (cut e.height st)) (go_few e.handler (KeptReturn ∷ cut e.height st) (e ∷ es) h) (leave_few es (cut e.height st) (omega (arith, h)))

  unwind_few : (t : ℕ) (it : Bool) (d : ℕ) (es : List Entry) (st : Stack) → length es ≤ m → FewOut m (unwind t it d es st)
  unwind_few t it zero es st h = few_if (all_wanted (iterator_if it) st) (go t (drop (length (iterator_if it)) st) es) Stuck (go_few t (drop (length (iterator_if it)) st) es h) tt
  unwind_few t it (suc d) [] st h = tt
  unwind_few t it (suc d) (e ∷ es) st h = few_if (is_run e) (enter e es (KeptJump t d it) st) (unwind t it d es (cut e.height st)) (go_few e.handler (KeptJump t d it ∷ cut e.height st) (e ∷ es) h) (unwind_few t it d es (cut e.height st) (omega (arith, h)))

  resume_few : (s : Slot) (b : Bool) (p : ℕ) (es : List Entry) (st : Stack) → length es ≤ m → FewOut m (resume s b p es st)
  resume_few NoneOrException b p es st h = few_if b (throw es st) (go (suc p) st es) (throw_few es st h) (go_few (suc p) st es h)
  resume_few KeptReturn b p es st h = leave_few es st h
  resume_few (KeptJump t d it) b p es st h = unwind_few t it d es st h
  resume_few _ b p es st h = tt

  goes_few : (o : Option ℕ) (b f : Bool) (p : ℕ) (next there st : Stack) (es : List Entry) → length es ≤ m → FewOut m (goes o b f p next there st es)
  goes_few (Some t) false f p next there st es h = go_few t there es h
  goes_few (Some t) true true p next there st es h = go_few (suc p) next es h
  goes_few (Some t) true false p next there st es h = go_few t there es h
  goes_few None b true p next there st es h = go_few (suc p) next es h
  goes_few None b false p next there st es h = throw_few es st h

  plain_few : (i : Action) (b : Bool) (p : ℕ) (st : Stack) (es : List Entry) → length es ≤ m → FewOut m (plain i b p st es)
  plain_few i b p st es h = few_if (all_wanted (takes i) st) _ Stuck (goes_few (target i) b (falls i) p (given (gives i) (length (takes i)) st) (given (gives_there i) (length (takes i)) st) st es h) tt

pub holds_few : (code : Code) (i : Action) (p n : ℕ) (es : List Entry) → holds code i p n es ≡ true → length (behind (change i) n es) ≤ code.n_exc
unfolding holds
holds_few code i p n es h = leb-true _ _ (and_parts _ _ (and_parts _ _ h).0).1

pub act_few : (code : Code) (i : Action) (p n : ℕ) (es : List Entry) (st : Stack) (b : Bool) → holds code i p n es ≡ true → length es ≤ code.n_exc → FewOut code.n_exc (act i b p st es)
unfolding change
act_few code (Setup t last) p n es st b h f = go_few code.n_exc (suc p) st (record { handler = t; is_finally = last; active = false; height = length st } ∷ es) (holds_few code (Setup t last) p n es h)
act_few code Return p n es [] b h f = tt
act_few code Return p n es (s ∷ st) b h f = few_if code.n_exc (is_wanted Rattle.bc_shapes.specs.declared.kinds.Want.TheVariants.Value s) (leave es (s ∷ st)) Stuck (leave_few code.n_exc es (s ∷ st) f) tt
act_few code (Unwind t d it) p n es st b h f = unwind_few code.n_exc t it d es st f
act_few code EndFinally p n [] [] b h f = tt
act_few code EndFinally p n [] (s ∷ st) b h f = tt
act_few code EndFinally p n (e ∷ es) [] b h f = tt
act_few code EndFinally p n (e ∷ es) (s ∷ st) b h f = few_if code.n_exc e.active (resume s b p es st) Stuck (resume_few code.n_exc s b p es st (omega (arith, f))) tt
act_few code (PopExcept t) p n [] st b h f = tt
act_few code (PopExcept t) p n (e ∷ es) st b h f = few_if code.n_exc e.is_finally Stuck (go t st es) tt (go_few code.n_exc t st es (omega (arith, f)))
act_few code (Straight ws gs) p n es st b h f = plain_few code.n_exc (Straight ws gs) b p st es f
act_few code (Branch ws gs there t) p n es st b h f = plain_few code.n_exc (Branch ws gs there t) b p st es f
act_few code (Jump t) p n es st b h f = plain_few code.n_exc (Jump t) b p st es f
act_few code (Raise k) p n es st b h f = plain_few code.n_exc (Raise k) b p st es f
