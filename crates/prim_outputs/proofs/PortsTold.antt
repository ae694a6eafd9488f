-- Ports that tell their contents, behind a call.
use Rattle.std.proofs.Common.{◌≡◌, ◌<◌, ◌≤◌, ◌↔◌, ◌++◌, inl, inr, ℕ, zero, suc, ℤ, pos, List, [], ◌∷◌, length, Bool, true, false, cond, Option, Some, None, Result, Ok, Err, drop, refl, sym, ap, ◌∙◌, subst, arith}
use Rattle.std.specs.Prelude.{IfSome, IsTrue, slice_get, slice_set}
use Rattle.std.specs.Option.{option_to_list}
use Rattle.prim_builtins.specs.arena_heap.declared.value.Value.{Value}
use Rattle.prim_builtins.specs.prim_faults.declared.stop.Stop.{Stop}
use Rattle.mpy_base.specs.World.{PortState}
use Rattle.mpy_base.specs.Val.{Val, Nil, Int}
use Rattle.mpy_io.specs.Ports.{PortView, IsFailing, first_pending, called, after_put, after_get}
use Rattle.port_set.specs.Calls.{Tell, CallsOne, CallsTold}
use Rattle.port_set.specs.Counts.{RoseBeyond}
use Rattle.port_set.proofs.Counting.{unlisted_rises}
use Rattle.port_set.proofs.Listed.{any_contains, contains_any}
use Rattle.port_set.proofs.ToldCall.{told_at}
use Rattle.prim_builtins.specs.py_primitives.Outcome as primitives
use Rattle.prim_builtins.specs.py_primitives.Faults.{Arithmetic, NoSuchPort, PortFailed}
use Rattle.prim_builtins.specs.py_values.declared.small_int.NumFault.TheVariants.{Overflow}
use Rattle.prim_builtins.specs.py_values.Range.{is_small}
use Rattle.prim_builtins.specs.py_primitives.Output.{PortOutcome, put_to, get_from, taken, others, call_fails, with_call, refused}
use Rattle.mpy_io.specs.Count.{Rose}
use Rattle.prim_builtins.specs.arena_heap.declared.value.Value.TheVariants as values
use Rattle.prim_builtins.specs.prim_faults.declared.fault.Fault.TheVariants as faults
use Rattle.prim_builtins.specs.prim_faults.declared.stop.Stop.TheVariants as stops
use Rattle.prim_outputs.specs.PortCalls.{DoesPort, Failed, IsListed, IsTaken}
use Rattle.std.proofs.lemmas.Bool.{cases_lt}
use Rattle.std.proofs.lemmas.List.{length-map}
use Rattle.std.proofs.lemmas.Option.{slice_get_past}

-- a call of a port that didn't fail isn't one that is to fail
fine : (port : PortState) (b : Bool) → call_fails port ≡ b → (IsFailing port → IsTrue false) → b ≡ false
fine port true e not = absurd (let f = not (any_contains port.failing port.calls e) in cc)
fine port false e not = refl

-- the number of a port that is there
pub within : {A : Type 0} (result no_port : A) (count at : ℕ) → ((result ≡ no_port) ↔ (count ≤ at)) → (result ≡ no_port → ⊥) → at < count
within result no_port count at iff not = elim (cases_lt at count) [
  | inl lt ↦ lt
  | inr past ↦ absurd (not (iff.1 past))
]

-- there are as many ports as contents
pub as_many : (old : List PortView) (contents : List PortState) → Tell old contents → length old ≡ length contents
as_many old contents tell =
    let told : PortView → Option PortState = λ view. view.told in
    let some : PortState → Option PortState = λ port. Some port in
    sym (length-map old told) ∙ (ap (λ (xs : List (Option PortState)). length xs) tell ∙ length-map contents some)

-- no port has the number
pub none_at : (old : List PortView) (contents : List PortState) (at : ℕ) → Tell old contents → length old ≤ at → slice_get contents at ≡ None
none_at old contents at tell past =
    let count = as_many old contents tell in
    slice_get_past contents at (omega (arith, count))

module _ (contents : List PortState) (new : List PortView) (at : ℕ) (n : ℤ) where
  -- a put that didn't fail
  pub put_fine : CallsTold contents new at (λ before after. (after ≡ after_put before n false) × (IsFailing before → IsTrue false))
      → DoesPort new (Ok values.None) (put_to contents at n (slice_get contents at))
  put_fine c =
      let fails : call_fails c.before ≡ false = fine c.before (call_fails c.before) refl c.call.1 in
      let after : c.after ≡ record (with_call c.before) { written = c.before.written ++ n ∷ [] } = c.call.0 in
      let is : put_to contents at n (slice_get contents at) ≡ record { answer = Ok Nil; ports = slice_set contents at c.after } = rw (c.here, fails, after) refl in
      λ texts tuples heap. record { answer = sym (ap (λ (o : PortOutcome). o.answer) is); ports = subst (λ (o : PortOutcome). Tell new o.ports) (sym is) c.others }

  -- one that failed, as it was to
  pub put_failed : CallsTold contents new at (λ before after. (after ≡ after_put before n true) × (IsFailing before → IsTrue true))
      → (put_to contents at n (slice_get contents at)).answer ≡ Err (primitives.Raises PortFailed)
      → DoesPort new (Err (stops.Raises faults.PortFailed)) (put_to contents at n (slice_get contents at))
  put_failed c e =
      let after : c.after ≡ with_call c.before = c.call.0 in
      let fails : call_fails c.before ≡ true = must_fail c.before (call_fails c.before) refl (ap (λ (o : Option PortState). (put_to contents at n o).answer) (sym c.here) ∙ e) in
      let is : put_to contents at n (slice_get contents at) ≡ record { answer = Err (primitives.Raises PortFailed); ports = slice_set contents at c.after } = rw (c.here, fails, after) refl in
      λ texts tuples heap. record { answer = sym (ap (λ (o : PortOutcome). o.answer) is); ports = subst (λ (o : PortOutcome). Tell new o.ports) (sym is) c.others }
    where
      okay : Result Val primitives.Stop
      okay = Ok Nil

      must_fail : (port : PortState) (b : Bool) → call_fails port ≡ b → (put_to contents at n (Some port)).answer ≡ Err (primitives.Raises PortFailed) → b ≡ true
      must_fail port true e h = refl
      must_fail port false e h = absurd (let q : (put_to contents at n (Some port)).answer ≡ Ok Nil = rw e refl in let r : okay ≡ Err (primitives.Raises PortFailed) = sym q ∙ h in cc)

  -- no port has the number
  pub put_nowhere : (old : List PortView) → Tell old contents → length old ≤ at → new ≡ old
      → DoesPort new (Err (stops.Raises faults.NoSuchPort)) (put_to contents at n (slice_get contents at))
  put_nowhere old tell past same =
      let is : put_to contents at n (slice_get contents at) ≡ refused NoSuchPort contents = rw (none_at old contents at tell past) refl in
      λ texts tuples heap. record { answer = sym (ap (λ (o : PortOutcome). o.answer) is); ports = subst (λ (o : PortOutcome). Tell new o.ports) (sym is) (subst (λ (vs : List PortView). Tell vs contents) (sym same) tell) }

slice_get_set : {A : Type 0} (xs : List A) (i : ℕ) (x : A) → i < length xs → slice_get (slice_set xs i x) i ≡ Some x
slice_get_set [] i x lt = absurd (omega arith)
slice_get_set (y ∷ ys) zero x lt = refl
slice_get_set (y ∷ ys) (suc i) x lt = slice_get_set ys i x (omega arith)

-- gets
-- ====

others_dropped : (pending : List ℤ) → others pending ≡ drop 1 pending
others_dropped [] = refl
others_dropped (n ∷ pending) = refl

first_taken : (pending : List ℤ) → taken (option_to_list (slice_get pending 0)) ≡ taken pending
first_taken [] = refl
first_taken (n ∷ pending) = refl

module _ (contents : List PortState) (new : List PortView) (at : ℕ) where
  -- a get that didn't fail
  pub get_fine : (answer : Option ℤ) (result : Result Value Stop) → IsTaken (option_to_list answer) result
      → CallsTold contents new at (λ before after. (after ≡ after_get before false) × (IsFailing before → IsTrue false) × (answer ≡ first_pending before))
      → DoesPort new result (get_from contents at (slice_get contents at))
  get_fine answer result gives c =
      let fails : call_fails c.before ≡ false = fine c.before (call_fails c.before) refl c.call.1 in
      let after : c.after ≡ record (with_call c.before) { pending = others c.before.pending } =
      c.call.0 ∙ ap (λ (ns : List ℤ). record (with_call c.before) { pending = ns }) (sym (others_dropped c.before.pending)) in
      let is : get_from contents at (slice_get contents at) ≡ record { answer = taken c.before.pending; ports = slice_set contents at c.after } = rw (c.here, fails, after) refl in
      λ texts tuples heap. record {
        answer = gives texts tuples heap ∙ (ap (λ (a : Option ℤ). taken (option_to_list a)) c.call.2 ∙ (first_taken c.before.pending ∙ sym (ap (λ (o : PortOutcome). o.answer) is)));
        ports = subst (λ (o : PortOutcome). Tell new o.ports) (sym is) c.others;
      }

  -- one that failed, as it was to
  pub get_failed : CallsTold contents new at (λ before after. (after ≡ after_get before true) × (IsFailing before → IsTrue true) × (Unit {0}))
      → (get_from contents at (slice_get contents at)).answer ≡ Err (primitives.Raises PortFailed)
      → DoesPort new (Err (stops.Raises faults.PortFailed)) (get_from contents at (slice_get contents at))
  get_failed c e =
      let after : c.after ≡ with_call c.before = c.call.0 in
      let fails : call_fails c.before ≡ true = must_fail c.before (call_fails c.before) refl (ap (λ (o : Option PortState). (get_from contents at o).answer) (sym c.here) ∙ e) in
      let is : get_from contents at (slice_get contents at) ≡ record { answer = Err (primitives.Raises PortFailed); ports = slice_set contents at c.after } = rw (c.here, fails, after) refl in
      λ texts tuples heap. record { answer = sym (ap (λ (o : PortOutcome). o.answer) is); ports = subst (λ (o : PortOutcome). Tell new o.ports) (sym is) c.others }
    where
      small : (b : Bool) (o : Result Val primitives.Stop) (n : ℤ) → cond b (Ok (Int n)) (Err (primitives.Raises (Arithmetic Overflow))) ≡ Err (primitives.Raises PortFailed) → ⊥
      small true o n h = absurd cc
      small false o n h = absurd cc

      not_taken : (pending : List ℤ) → taken pending ≡ Err (primitives.Raises PortFailed) → ⊥
      not_taken [] h = absurd cc
      not_taken (n ∷ pending) h = small (is_small n) (taken []) n h

      must_fail : (port : PortState) (b : Bool) → call_fails port ≡ b → (get_from contents at (Some port)).answer ≡ Err (primitives.Raises PortFailed) → b ≡ true
      must_fail port true e h = refl
      must_fail port false e h = absurd (not_taken port.pending (let q : (get_from contents at (Some port)).answer ≡ taken port.pending = rw e refl in sym q ∙ h))

  -- no port has the number
  pub get_nowhere : (old : List PortView) → Tell old contents → length old ≤ at → new ≡ old
      → DoesPort new (Err (stops.Raises faults.NoSuchPort)) (get_from contents at (slice_get contents at))
  get_nowhere old tell past same =
      let is : get_from contents at (slice_get contents at) ≡ refused NoSuchPort contents = rw (none_at old contents at tell past) refl in
      λ texts tuples heap. record { answer = sym (ap (λ (o : PortOutcome). o.answer) is); ports = subst (λ (o : PortOutcome). Tell new o.ports) (sym is) (subst (λ (vs : List PortView). Tell vs contents) (sym same) tell) }

-- a call that failed
pub failed_at : (old new : List PortView) (at : ℕ) (Call : PortView → PortView → Type 0) → ((before after : PortView) → Call before after → Rose before.count after.count) → ((before after : PortView) → Call before after → IfSome before.told (λ port. after.told ≡ Some (called port))) → at < length old → CallsOne old new at Call → Failed (Some (pos at)) old new
failed_at old new at Call rose told lt c = record {
  number = at;
  before = c.before;
  after = c.after;
  named = refl;
  was = c.here;
  is = ap (λ (vs : List PortView). slice_get vs at) c.others ∙ slice_get_set old at c.after lt;
  rose = rose c.before c.after c.call;
  told = told c.before c.after c.call;
}

-- calls that are listed to fail
-- =============================

-- the port that is called
record Listed (contents : List PortState) (at : ℕ) : Type 0 where
  port : PortState
  here : slice_get contents at ≡ Some port
  fails : call_fails port ≡ true

listed_here : (contents : List PortState) (at : ℕ) → IsListed (Some (pos at)) contents → Listed contents at
listed_here contents at h =
    let named : Some (pos at) ≡ Some (pos h.number) = h.named in
    let same : h.number ≡ at = cc in
    record {
      port = h.port;
      here = subst (λ (n : ℕ). slice_get contents n ≡ Some h.port) same h.here;
      fails = contains_any h.port.failing h.port.calls h.failing;
    }

pub put_listed : (contents : List PortState) (at : ℕ) (n : ℤ) → IsListed (Some (pos at)) contents → (put_to contents at n (slice_get contents at)).answer ≡ Err (primitives.Raises PortFailed)
put_listed contents at n h =
    let l = listed_here contents at h in
    let here : slice_get contents at ≡ Some l.port = l.here in
    let fails : call_fails l.port ≡ true = l.fails in
    rw (here, fails) refl

pub get_listed : (contents : List PortState) (at : ℕ) → IsListed (Some (pos at)) contents → (get_from contents at (slice_get contents at)).answer ≡ Err (primitives.Raises PortFailed)
get_listed contents at h =
    let l = listed_here contents at h in
    let here : slice_get contents at ≡ Some l.port = l.here in
    let fails : call_fails l.port ≡ true = l.fails in
    rw (here, fails) refl

none_listed : (told : Option PortState) (port : PortState) → told ≡ Some port → (IsFailing port → ⊥) → IfSome told (λ found. IsFailing found → ⊥)
none_listed told port is not = subst (λ (found : Option PortState). IfSome found (λ one. IsFailing one → ⊥)) (sym is) not

-- a call that failed, and wasn't listed to
pub failed_beyond : (called_is : Option ℤ) (old new : List PortView) (contents : List PortState) → Tell old contents → (f : Failed called_is old new) → (IsListed called_is contents → ⊥) → RoseBeyond f.number old new
failed_beyond called_is old new contents tell f not =
    let at = told_at old contents f.number f.before tell f.was in
    record {
      before = f.before;
      after = f.after;
      was = f.was;
      is = f.is;
      rose = unlisted_rises f.before f.after f.rose f.told
          (none_listed f.before.told at.port at.told (λ failing. not (record { number = f.number; port = at.port; named = f.named; here = at.here; failing = failing })));
    }
