-- Verified code is never stuck.
use Rattle.std.proofs.Common.{◌≡◌, ℕ, zero, suc, ◌-◌, ◌≤◌, Bool, true, false, not, ◌&&◌, ◌||◌, List, [], ◌∷◌, ◌++◌, length, map, get_or, drop, Option, Some, None, refl, sym, ap, ◌∙◌, subst, arith, if◌then◌else◌, length-drop, length-append}
use Rattle.std.specs.Prelude.{nat_lt}
use Rattle.std.proofs.lemmas.Bool.{and_parts, false≢true, leb-true}
use Rattle.bc_shapes.specs.declared.kinds.Kind.{Kind}
use Rattle.bc_shapes.specs.declared.kinds.Kind.TheVariants as kinds
use Rattle.bc_shapes.specs.declared.kinds.Want.{Want}
use Rattle.bc_shapes.specs.declared.kinds.Want.TheVariants as wants
use Rattle.bc_shapes.specs.declared.kinds.Give.{Give}
use Rattle.bc_shapes.specs.declared.kinds.Give.TheVariants.{New, Again}
use Rattle.bc_shapes.specs.declared.shape.Entry.{Entry}
use Rattle.bc_shapes.specs.Shape.{At, fits, after}
use Rattle.bc_flow.specs.Code.{Code}
use Rattle.bc_flow.specs.declared.edges.Change.TheVariants.{Keep}
use Rattle.bc_flow.specs.Action.{Action, Straight, Branch, Jump, Setup, PopExcept, EndFinally, Unwind, Return, Raise}
use Rattle.bc_flow.specs.Edges.{How, Next, There, takes, gives, gives_there, falls, target, change, runs, behind, asks, floor, left, deep, base, finds, holds, ways, stays, mark, is_marked, arrive, next_way, jump_way, raise_ways, run_ways, all_marked, slots_of, edge_of}
use Rattle.bc_flow.specs.Verified.{Assigned, Leads, Each, also}
use Rattle.bc_flow.specs.Machine.{Slot, Value, NoneOrException, KeptReturn, KeptJump, Iter1, Iter2, Iter3, Iter4, Null, Method, Stack, St, Stuck, is_wanted, all_wanted, slot_of, give_slot, given, go, throw, goes, plain}
use Rattle.bc_flow.proofs.Sound.{Stands, stands-length, stands_given, stands_wanted, cut_all, Fits, Sound, sound_push, is_kept}
use Rattle.bc_flow.proofs.Runs.{GoodOut, reach_good, fits_floor, floor_fits, way_reach, throw_good, each_append, marked_append, sound_drop}

abbrev pub shape : List Kind → List Entry → At
shape ks es = record { slots = ks; entries = es }

-- an instruction of verified code, with a stack and entries as the assignment has them
pub record Here (code : Code) (a : Assigned) (i : Action) (p : ℕ) (ks : List Kind) (es : List Entry) (n : ℕ) (st : Stack) : Type 0 where
  pub handlers : holds code i p (length ks) es ≡ true
  pub height : finds i (shape ks es) ≡ true
  pub falls_on : stays code i p ≡ true
  pub along : Each a (map (edge_of i (shape ks es)) (ways code i p (length ks) es))
  pub stands : Stands st ks
  pub fits_in : Fits es (length st)
  pub sound : Sound a n es st

if_true : (a : Assigned) (b : Bool) (s t : St) → b ≡ true → GoodOut a s → GoodOut a (if b then s else t)
if_true a true s t e g = g
if_true a false s t e g = absurd (false≢true e)

module _ (code : Code) (a : Assigned) (i : Action) (p : ℕ) (ks : List Kind) (es : List Entry) (n : ℕ) (st : Stack) where
  pub raise_parts : Here code a i p ks es n st → Each a (map (edge_of i (shape ks es)) (raise_ways es)) × (all_marked (raise_ways es) ≡ true)
  unfolding ways holds
  raise_parts h =
      let x = shape ks es in
      let nx = next_way (falls i && nat_lt (suc p) (length code.actions)) p (behind (change i) (length ks) es) in
      let jm = jump_way (target i) (behind (change i) (length ks) es) in
      let e = each_append a i x (nx ++ jm ++ raise_ways es) (run_ways (runs i (length es)) es) h.along in
      let m = marked_append a i x (nx ++ jm ++ raise_ways es) (run_ways (runs i (length es)) es) (and_parts _ _ h.handlers).1 in
      ((each_append a i x (nx ++ jm) (raise_ways es) e.0).1, (marked_append a i x (nx ++ jm) (raise_ways es) m.0).1)

  pub run_parts : Here code a i p ks es n st → Each a (map (edge_of i (shape ks es)) (run_ways (runs i (length es)) es)) × (all_marked (run_ways (runs i (length es)) es) ≡ true)
  unfolding ways holds
  run_parts h =
      let x = shape ks es in
      let nx = next_way (falls i && nat_lt (suc p) (length code.actions)) p (behind (change i) (length ks) es) in
      let jm = jump_way (target i) (behind (change i) (length ks) es) in
      ((each_append a i x (nx ++ jm ++ raise_ways es) (run_ways (runs i (length es)) es) h.along).1, (marked_append a i x (nx ++ jm ++ raise_ways es) (run_ways (runs i (length es)) es) (and_parts _ _ h.handlers).1).1)

  near_parts : Here code a i p ks es n st → (Each a (map (edge_of i (shape ks es)) (next_way (falls i && nat_lt (suc p) (length code.actions)) p (behind (change i) (length ks) es))) × (all_marked (next_way (falls i && nat_lt (suc p) (length code.actions)) p (behind (change i) (length ks) es)) ≡ true)) × (Each a (map (edge_of i (shape ks es)) (jump_way (target i) (behind (change i) (length ks) es))) × (all_marked (jump_way (target i) (behind (change i) (length ks) es)) ≡ true))
  unfolding ways holds
  near_parts h =
      let x = shape ks es in
      let nx = next_way (falls i && nat_lt (suc p) (length code.actions)) p (behind (change i) (length ks) es) in
      let jm = jump_way (target i) (behind (change i) (length ks) es) in
      let e = each_append a i x (nx ++ jm) (raise_ways es) (each_append a i x (nx ++ jm ++ raise_ways es) (run_ways (runs i (length es)) es) h.along).0 in
      let m = marked_append a i x (nx ++ jm) (raise_ways es) (marked_append a i x (nx ++ jm ++ raise_ways es) (run_ways (runs i (length es)) es) (and_parts _ _ h.handlers).1).0 in
      let e2 = each_append a i x nx jm e.0 in
      let m2 = marked_append a i x nx jm m.0 in
      ((e2.0, m2.0), (e2.1, m2.1))

  pub asks_part : Here code a i p ks es n st → asks (change i) es ≡ true
  unfolding holds
  asks_part h = (and_parts _ _ (and_parts _ _ h.handlers).0).0

  -- the edge to a position, and its marks
  abbrev pub Arrives : ℕ → How → List Entry → Type 0
  Arrives to how fs = Leads a (edge_of i (shape ks es) (arrive to fs how)) × (is_marked to (map (mark to) fs) ≡ true)

  next_if : (b : Bool) (fs : List Entry) → b ≡ true → Each a (map (edge_of i (shape ks es)) (next_way b p fs)) → all_marked (next_way b p fs) ≡ true → Arrives (suc p) Next fs
  next_if true fs e (also l r) m = (l, (and_parts _ _ m).0)
  next_if false fs e each m = absurd (false≢true e)

  stays_if : (f b : Bool) → f ≡ true → (not f || b) ≡ true → (f && b) ≡ true
  stays_if true b e h = h
  stays_if false b e h = absurd (false≢true e)

  pub next_part : Here code a i p ks es n st → falls i ≡ true → Arrives (suc p) Next (behind (change i) (length ks) es)
  unfolding stays
  next_part h f = let q = near_parts h in next_if (falls i && nat_lt (suc p) (length code.actions)) (behind (change i) (length ks) es) (stays_if (falls i) _ f h.falls_on) q.0.0 q.0.1

  jump_if : (o : Option ℕ) (t : ℕ) (fs : List Entry) → o ≡ Some t → Each a (map (edge_of i (shape ks es)) (jump_way o fs)) → all_marked (jump_way o fs) ≡ true → Arrives t There fs
  jump_if None t fs e each m = cc
  jump_if (Some u) t fs e (also l r) m = subst (λ z. Arrives z There fs) (some_is u t e) (l, (and_parts _ _ m).0)
    where
      some_is : (x y : ℕ) → Some x ≡ Some y → x ≡ y
      some_is x y e = cc

  pub jump_part : (t : ℕ) → Here code a i p ks es n st → target i ≡ Some t → Arrives t There (behind (change i) (length ks) es)
  jump_part t h e = let q = near_parts h in jump_if (target i) t (behind (change i) (length ks) es) e q.1.0 q.1.1

  -- what it finds
  pub fits_part : Here code a i p ks es n st → fits (takes i) (base i (shape ks es)) ≡ true
  unfolding finds
  fits_part h = (and_parts _ _ h.height).0

  pub deep_part : Here code a i p ks es n st → deep (change i) es (length (takes i)) (length (base i (shape ks es))) ≡ true
  unfolding finds
  deep_part h = (and_parts _ _ h.height).1

  pub whole : left (change i) es (length ks) ≡ length ks → base i (shape ks es) ≡ ks
  unfolding base
  whole e = ap (λ m. drop (length ks - m) ks) e ∙ cut_all (length ks) ks (omega arith)

  pub slots-next : slots_of i (shape ks es) Next ≡ after (gives i) (length (takes i)) (base i (shape ks es))
  unfolding slots_of
  slots-next = refl

  pub slots-there : slots_of i (shape ks es) There ≡ after (gives_there i) (length (takes i)) (base i (shape ks es))
  unfolding slots_of
  slots-there = refl

  pub raise_good : Here code a i p ks es n st → GoodOut a (throw es st)
  raise_good h =
      let r = raise_parts h in
      throw_good a i (shape ks es) n (length st) es st refl h.fits_in (subst (λ z. Stands st z) (sym (cut_all (length st) ks (let q = stands-length st ks h.stands in omega (arith, q)))) h.stands) h.sound r.0 r.1

-- Slots that an instruction gives keep nothing.

abbrev pub Plains : Stack → Type 0
Plains [] = Unit {0}
Plains (s ∷ st) = (is_kept s ≡ false) × Plains st

-- a slot that is taken as anything but a cause keeps nothing
abbrev not_cause : Want → Bool
not_cause wants.Cause = false
not_cause _ = true

pub wanted_plain : (w : Want) (s : Slot) → not_cause w ≡ true → is_wanted w s ≡ true → is_kept s ≡ false
wanted_plain w Value f e = refl
wanted_plain w NoneOrException f e = refl
wanted_plain w Iter1 f e = refl
wanted_plain w Iter2 f e = refl
wanted_plain w Iter3 f e = refl
wanted_plain w Iter4 f e = refl
wanted_plain w Null f e = refl
wanted_plain w Method f e = refl
wanted_plain wants.Cause KeptReturn f e = absurd (false≢true f)
wanted_plain _ KeptReturn f e = absurd (false≢true e)
wanted_plain wants.Cause (KeptJump t d it) f e = absurd (false≢true f)
wanted_plain _ (KeptJump t d it) f e = absurd (false≢true e)

-- what is given again is no cause
abbrev pub is_fine : List Want → Give → Bool
is_fine ws (New k) = true
is_fine [] (Again n) = false
is_fine (w ∷ ws) (Again zero) = not_cause w
is_fine (w ∷ ws) (Again (suc n)) = is_fine ws (Again n)

abbrev pub all_fine : List Want → List Give → Bool
all_fine ws [] = true
all_fine ws (g ∷ gs) = is_fine ws g && all_fine ws gs

abbrev pub gives_fine : Action → Bool
gives_fine (Straight ws gs) = all_fine ws gs
gives_fine (Branch ws gs there to) = all_fine ws gs && all_fine ws there
gives_fine _ = true

new_plain : (k : Kind) → is_kept (slot_of k) ≡ false
new_plain kinds.Value = refl
new_plain kinds.Cause = refl
new_plain kinds.Either = refl
new_plain kinds.Iter1 = refl
new_plain kinds.Iter2 = refl
new_plain kinds.Iter3 = refl
new_plain kinds.Iter4 = refl
new_plain kinds.Null = refl
new_plain kinds.Method = refl

again_plain : (ws : List Want) (n : ℕ) (st : Stack) → is_fine ws (Again n) ≡ true → all_wanted ws st ≡ true → is_kept (get_or st n NoneOrException) ≡ false
again_plain [] n st f e = absurd (false≢true f)
again_plain (w ∷ ws) n [] f e = absurd (false≢true e)
again_plain (w ∷ ws) zero (s ∷ st) f e = wanted_plain w s f (and_parts _ _ e).0
again_plain (w ∷ ws) (suc n) (s ∷ st) f e = again_plain ws n st f (and_parts _ _ e).1

give_plain : (ws : List Want) (g : Give) (st : Stack) → is_fine ws g ≡ true → all_wanted ws st ≡ true → is_kept (give_slot st g) ≡ false
give_plain ws (New k) st f e = new_plain k
give_plain ws (Again n) st f e = again_plain ws n st f e

list_plain : (ws : List Want) (gs : List Give) (st : Stack) → all_fine ws gs ≡ true → all_wanted ws st ≡ true → Plains (map (give_slot st) gs)
list_plain ws [] st f e = tt
list_plain ws (g ∷ gs) st f e = let p = and_parts (is_fine ws g) (all_fine ws gs) f in (give_plain ws g st p.0 e, list_plain ws gs st p.1 e)

pub gives_plain : (i : Action) (st : Stack) → gives_fine i ≡ true → all_wanted (takes i) st ≡ true → Plains (map (give_slot st) (gives i))
unfolding takes gives
gives_plain (Straight ws gs) st f e = list_plain ws gs st f e
gives_plain (Branch ws gs there to) st f e = list_plain ws gs st (and_parts (all_fine ws gs) (all_fine ws there) f).0 e
gives_plain (Jump to) st f e = tt
gives_plain (Setup to last) st f e = tt
gives_plain (PopExcept to) st f e = tt
gives_plain EndFinally st f e = tt
gives_plain (Unwind to d it) st f e = tt
gives_plain Return st f e = tt
gives_plain (Raise n) st f e = tt

pub there_plain : (i : Action) (st : Stack) → gives_fine i ≡ true → all_wanted (takes i) st ≡ true → Plains (map (give_slot st) (gives_there i))
unfolding takes gives_there
there_plain (Straight ws gs) st f e = tt
there_plain (Branch ws gs there to) st f e = list_plain ws there st (and_parts (all_fine ws gs) (all_fine ws there) f).1 e
there_plain (Jump to) st f e = tt
there_plain (Setup to last) st f e = tt
there_plain (PopExcept to) st f e = tt
there_plain EndFinally st f e = tt
there_plain (Unwind to d it) st f e = tt
there_plain Return st f e = tt
there_plain (Raise n) st f e = tt

fits_given : (es : List Entry) (ss su : Stack) → Fits es (length su) → Fits es (length (ss ++ su))
fits_given es ss su f = fits_floor es (length su) (length (ss ++ su)) f (let l = length-append ss su in let fl = floor_fits es (length su) f in omega (arith, l, fl))

sound_given : (a : Assigned) (n : ℕ) (es : List Entry) (ss su : Stack) → Plains ss → Fits es (length su) → Sound a n es su → Sound a n es (ss ++ su)
sound_given a n es [] su p f w = w
sound_given a n es (s ∷ ss) su p f w = sound_push a n es s (ss ++ su) (fits_given es ss su f) p.0 (sound_given a n es ss su p.1 f w)

-- An instruction that leaves the entries as they are.

module _ (code : Code) (a : Assigned) (i : Action) (p : ℕ) (ks : List Kind) (es : List Entry) (n : ℕ) (st : Stack) (h : Here code a i p ks es n st) (k : change i ≡ Keep) (fine : gives_fine i ≡ true) where
  all : base i (shape ks es) ≡ ks
  all = whole code a i p ks es n st (ap (λ c. left c es (length ks)) k)

  wanted : all_wanted (takes i) st ≡ true
  wanted = stands_wanted (takes i) st ks h.stands (subst (λ z. fits (takes i) z ≡ true) all (fits_part code a i p ks es n st h))

  low : floor es ≤ length (drop (length (takes i)) st)
  low =
      let d : deep Keep es (length (takes i)) (length ks) ≡ true = subst (λ z. deep Keep es (length (takes i)) (length z) ≡ true) all (subst (λ c. deep c es (length (takes i)) (length (base i (shape ks es))) ≡ true) k (deep_part code a i p ks es n st h)) in
      let le : floor es ≤ length ks - length (takes i) = leb-true _ _ (and_parts _ _ (and_parts _ _ d).0).1 in
      let q = stands-length st ks h.stands in
      let l = length-drop (length (takes i)) st in
      omega (arith, le, q, l)

  below : Fits es (length (drop (length (takes i)) st))
  below = fits_floor es (length st) _ h.fits_in low

  kept : Sound a n es (drop (length (takes i)) st)
  kept = sound_drop a i (shape ks es) n (length (takes i)) es st below h.sound

  goes_to : (to : ℕ) (how : How) (gs : List Give) → Plains (map (give_slot st) gs) → slots_of i (shape ks es) how ≡ after gs (length (takes i)) (base i (shape ks es)) → Arrives code a i p ks es n st to how (behind (change i) (length ks) es) → GoodOut a (go to (given gs (length (takes i)) st) es)
  goes_to to how gs pl e r =
      let r2 = subst (λ c. Arrives code a i p ks es n st to how (behind c (length ks) es)) k r in
      reach_good a n to (given gs (length (takes i)) st) es
      (way_reach a i (shape ks es) to n es how (given gs (length (takes i)) st) r2.0 r2.1
      (subst (Stands (given gs (length (takes i)) st)) (sym (e ∙ ap (after gs (length (takes i))) all)) (stands_given gs (length (takes i)) st ks h.stands))
      (fits_given es (map (give_slot st) gs) (drop (length (takes i)) st) below)
      (sound_given a n es (map (give_slot st) gs) (drop (length (takes i)) st) pl below kept))

  goes_next : falls i ≡ true → GoodOut a (go (suc p) (given (gives i) (length (takes i)) st) es)
  goes_next f = goes_to (suc p) Next (gives i) (gives_plain i st fine wanted) (slots-next code a i p ks es n st) (next_part code a i p ks es n st h f)

  goes_there : (t : ℕ) → target i ≡ Some t → GoodOut a (go t (given (gives_there i) (length (takes i)) st) es)
  goes_there t e = goes_to t There (gives_there i) (there_plain i st fine wanted) (slots-there code a i p ks es n st) (jump_part code a i p ks es n st t h e)

  goes_good : (o : Option ℕ) (b f : Bool) → target i ≡ o → falls i ≡ f → GoodOut a (goes o b f p (given (gives i) (length (takes i)) st) (given (gives_there i) (length (takes i)) st) st es)
  goes_good (Some t) false f e g = goes_there t e
  goes_good (Some t) true true e g = goes_next g
  goes_good (Some t) true false e g = goes_there t e
  goes_good None b true e g = goes_next g
  goes_good None b false e g = raise_good code a i p ks es n st h

  pub plain_good : (b : Bool) → GoodOut a (plain i b p st es)
  plain_good b = if_true a (all_wanted (takes i) st) _ Stuck wanted (goes_good (target i) b (falls i) refl refl)
