-- What a good state of a flow comes to at each kind of instruction.
use Rattle.std.proofs.Common.{◌≡◌, ℕ, suc, ◌+◌, ◌-◌, ◌≤◌, List, [], drop, length, Bool, true, false, ◌&&◌, Some, refl, sym, ◌∙◌, subst, arith, if◌then◌else◌, length-drop}
use Rattle.std.specs.Prelude.{slice_get, nat_le}
use Rattle.std.proofs.lemmas.Bool.{leb-true, and_parts}
use Rattle.bc_flow.specs.bc_shapes.declared.kinds.Want.{Want}
use Rattle.bc_flow.specs.bc_shapes.declared.kinds.Give.{Give}
use Rattle.bc_flow.specs.bc_shapes.declared.shape.Entry.{Entry}
use Rattle.bc_flow.specs.bc_shapes.Shape.{At, fits, takes as values_on}
use Rattle.bc_flow.specs.Action.{Action, Straight, Branch, Jump, Return, Raise}
use Rattle.bc_flow.specs.Code.{Code}
use Rattle.bc_flow.specs.Edges.{takes, gives, falls, target, gives_there, floor, finds, change, base, left, deep}
use Rattle.bc_flow.specs.Verified.{Assigned, Holds}
use Rattle.bc_flow.specs.Machine.{Stack, St, Run, Stuck, Choice, all_wanted, given, go, throw, act, fetched, within}
use Rattle.bc_flow.proofs.Never.{Good, GivesNoCause, step_good}
use Rattle.bc_flow.proofs.Sound.{stands-length}

abbrev raising : Choice
raising = record { raises = true; straight = true }

abbrev acting : Bool → Choice
acting b = record { raises = false; straight = b }

some_is : {A : Type 0} (x y : A) → Some x ≡ Some y → x ≡ y
some_is x y e = cc

deep_keep : (i : Action) (x : At) → change i ≡ change Return → finds i x ≡ true → (length (takes i) ≤ length x.slots) × (floor x.entries ≤ length x.slots - length (takes i))
unfolding finds base change
deep_keep i x k h =
    let all = drop (length x.slots - length x.slots) x.slots in
    let h2 : (fits (takes i) all && deep (change Return) x.entries (length (takes i)) (length all)) ≡ true =
    subst (λ c. (fits (takes i) (drop (length x.slots - left c x.entries (length x.slots)) x.slots) && deep c x.entries (length (takes i)) (length (drop (length x.slots - left c x.entries (length x.slots)) x.slots))) ≡ true) k h in
    let both : (nat_le (length (takes i)) (length all) && nat_le (floor x.entries) (length all - length (takes i))) ≡ true = (and_parts _ true (and_parts (fits (takes i) all) _ h2).1).0 in
    let pair = and_parts (nat_le (length (takes i)) (length all)) (nat_le (floor x.entries) (length all - length (takes i))) both in
    let most : length (takes i) ≤ length all = leb-true _ _ pair.0 in
    let le : floor x.entries ≤ length all - length (takes i) = leb-true _ _ pair.1 in
    let n = length-drop (length x.slots - length x.slots) x.slots in
    (omega (arith, most, n), omega (arith, le, n))

module _ (code : Code) (a : Assigned) (fine : GivesNoCause code) (holds : Holds code a) where
  unless_stuck : (b : Bool) (s : St) → Good code a (within b s) → (b ≡ true) × Good code a s
  unless_stuck true s g = (refl, g)
  unless_stuck false s g = absurd g.runs

  -- a state that is good goes on to one, whatever is chosen
  on : (i : Action) (c : Choice) (p : ℕ) (st : Stack) (es : List Entry) → Good code a (Run p st es) → slice_get code.actions p ≡ Some i → Good code a (if c.raises then throw es st else act i c.straight p st es)
  on i c p st es g e = subst (λ z. Good code a (fetched z c p st es)) e (unless_stuck _ _ (step_good code a fine holds c (Run p st es) g)).1

  pub acts : (i : Action) (b : Bool) (p : ℕ) (st : Stack) (es : List Entry) → Good code a (Run p st es) → slice_get code.actions p ≡ Some i → Good code a (act i b p st es)
  acts i b p st es g e = on i (acting b) p st es g e

  -- any instruction may raise
  pub raises : (i : Action) (p : ℕ) (st : Stack) (es : List Entry) → Good code a (Run p st es) → slice_get code.actions p ≡ Some i → Good code a (throw es st)
  raises i p st es g e = on i raising p st es g e

  -- slots and entries are within their rooms
  pub roomy : (p : ℕ) (st : Stack) (es : List Entry) → Good code a (Run p st es) → (code.locals + length st ≤ code.n_state) × (length es ≤ code.n_exc)
  roomy p st es g =
      let q = and_parts _ _ (unless_stuck _ _ (step_good code a fine holds raising (Run p st es) g)).0 in
      (leb-true _ _ q.0, leb-true _ _ q.1)

  -- there is an instruction
  pub stands : (p : ℕ) (st : Stack) (es : List Entry) → Good code a (Run p st es) → (i : Action) × (slice_get code.actions p ≡ Some i)
  stands p st es g = let f = holds.closed p g.runs.at g.runs.is in (f.action, f.is)

  pub found : (b : Bool) (s : St) → Good code a (if b then s else Stuck) → (b ≡ true) × Good code a s
  found true s g = (refl, g)
  found false s g = absurd g.runs

  -- one that goes on finds what it takes
  pub straight_on : (ws : List Want) (gs : List Give) (p : ℕ) (st : Stack) (es : List Entry) → Good code a (Run p st es) → slice_get code.actions p ≡ Some (Straight ws gs)
      → (all_wanted ws st ≡ true) × Good code a (go (suc p) (given gs (length ws) st) es)
  unfolding takes gives falls target gives_there
  straight_on ws gs p st es g e = found (all_wanted ws st) _ (acts (Straight ws gs) true p st es g e)

  pub branch_on : (ws : List Want) (gs there : List Give) (to p : ℕ) (st : Stack) (es : List Entry) → Good code a (Run p st es) → slice_get code.actions p ≡ Some (Branch ws gs there to)
      → (all_wanted ws st ≡ true) × Good code a (go (suc p) (given gs (length ws) st) es) × Good code a (go to (given there (length ws) st) es)
  unfolding takes gives falls target gives_there
  branch_on ws gs there to p st es g e =
      let x = found (all_wanted ws st) _ (acts (Branch ws gs there to) true p st es g e) in
      let y = found (all_wanted ws st) _ (acts (Branch ws gs there to) false p st es g e) in
      (x.0, x.1, y.1)

  pub jump_on : (to p : ℕ) (st : Stack) (es : List Entry) → Good code a (Run p st es) → slice_get code.actions p ≡ Some (Jump to) → Good code a (go to st es)
  unfolding takes gives falls target gives_there
  jump_on to p st es g e = acts (Jump to) true p st es g e

  pub raise_on : (count p : ℕ) (st : Stack) (es : List Entry) → Good code a (Run p st es) → slice_get code.actions p ≡ Some (Raise count) → all_wanted (values_on count []) st ≡ true
  unfolding takes gives falls target gives_there
  raise_on count p st es g e = (found (all_wanted (values_on count []) st) _ (acts (Raise count) true p st es g e)).0

  -- the entries lie below what is taken
  pub low : (i : Action) (p : ℕ) (st : Stack) (es : List Entry) → change i ≡ change Return → Good code a (Run p st es) → slice_get code.actions p ≡ Some i → (length (takes i) ≤ length st) × (floor es ≤ length st - length (takes i))
  low i p st es k g e =
      let r = g.runs in
      let f = holds.closed p r.at r.is in
      let is : f.action ≡ i = some_is f.action i (sym f.is ∙ e) in
      let q = deep_keep i r.at k (subst (λ z. finds z r.at ≡ true) is f.height) in
      let le = subst (λ z. floor z ≤ length r.at.slots - length (takes i)) r.entries q.1 in
      let n = stands-length st r.at.slots r.slots in
      (omega (arith, q.0, n), omega (arith, le, n))
