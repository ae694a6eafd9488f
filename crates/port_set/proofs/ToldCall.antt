-- A call of one port of many, each of which tells its contents.
use Rattle.std.proofs.Common.{◌≡◌, ℕ, ℤ, Bool, IsTrue, List, map, set, slice_get, Option, Some, None, option_map, IfSome, Result, IfOk, is_err, refl, sym, ap, subst, ◌∙◌}
use Rattle.std.proofs.lemmas.List.{map-set}
use Rattle.std.proofs.lemmas.Option.{slice_get-map}
use Rattle.mpy_io.specs.mpy_base.World.{PortState}
use Rattle.mpy_io.specs.Ports.{PortView, IsFailing, first_pending, after_put, after_get, Puts, Gets}
use Rattle.port_set.specs.Calls.{CallsOne, Tell, CallsTold}

abbrev told_of : PortView → Option PortState
told_of view = view.told

abbrev some_of : PortState → Option PortState
some_of port = Some port

-- what a port tells, and the contents at its place
pub record AtPlace (view : PortView) (found : Option PortState) : Type 0 where
  pub port : PortState
  pub here : found ≡ Some port
  pub told : view.told ≡ Some port

at_place : (view : PortView) (found : Option PortState) → Some view.told ≡ option_map some_of found → AtPlace view found
at_place view None e = cc
at_place view (Some port) e = record { port = port; here = refl; told = cc }

pub told_at : (old : List PortView) (ports : List PortState) (i : ℕ) (view : PortView) → Tell old ports → slice_get old i ≡ Some view → AtPlace view (slice_get ports i)
told_at old ports i view tell here =
    at_place view (slice_get ports i)
    (sym (ap (option_map told_of) here) ∙ (sym (slice_get-map told_of old i) ∙ (ap (λ (all : List (Option PortState)). slice_get all i) tell ∙ slice_get-map some_of ports i)))

tell_set : (old : List PortView) (ports : List PortState) (i : ℕ) (view : PortView) (port : PortState) → Tell old ports → view.told ≡ Some port → Tell (set old i view) (set ports i port)
tell_set old ports i view port tell told =
    map-set told_of old i view ∙ (ap (set (map told_of old) i) told ∙ (ap (λ (all : List (Option PortState)). set all i (Some port)) tell ∙ sym (map-set some_of ports i port)))

pub at_some : {A : Type 0} (o : Option A) (x : A) (P : A → Type 0) → o ≡ Some x → IfSome o P → P x
at_some {A} o x P e p = subst (λ (found : Option A). IfSome found P) e p

pub call_told : (old new : List PortView) (ports : List PortState) (i : ℕ) (Call : PortView → PortView → Type 0) (Told : PortState → PortState → Type 0) → ((before after : PortView) (port : PortState) → before.told ≡ Some port → Call before after → (later : PortState) × (after.told ≡ Some later) × Told port later) → Tell old ports → CallsOne old new i Call → CallsTold ports new i Told
call_told old new ports i Call Told tells tell one =
    let at = told_at old ports i one.before tell one.here in
    let later = tells one.before one.after at.port at.told one.call in
    record {
      before = at.port;
      after = later.0;
      here = at.here;
      others = subst (λ (all : List PortView). Tell all (set ports i later.0)) (sym one.others) (tell_set old ports i one.after later.0 tell later.1);
      call = later.2;
    }

pub put_told : (old new : List PortView) (ports : List PortState) (i : ℕ) (n : ℤ) (failed : Bool) → Tell old ports → CallsOne old new i (λ before after. Puts before after n failed) → CallsTold ports new i (λ before after. (after ≡ after_put before n failed) × (IsFailing before → IsTrue failed))
put_told old new ports i n failed =
    call_told old new ports i _ _
    (λ before after port told puts.
    (after_put port n failed, at_some before.told port _ told puts.after, (refl, at_some before.told port _ told puts.failing)))

pub get_told : {E : Type 0} (old new : List PortView) (ports : List PortState) (i : ℕ) (result : Result (Option ℤ) E) → Tell old ports → CallsOne old new i (λ before after. Gets before after result) → CallsTold ports new i (λ before after. (after ≡ after_get before (is_err result)) × (IsFailing before → IsTrue (is_err result)) × IfOk result (λ answer. answer ≡ first_pending before))
get_told old new ports i result =
    call_told old new ports i _ _
    (λ before after port told gets.
    (after_get port (is_err result), at_some before.told port _ told gets.after, (refl, at_some before.told port _ told gets.failing, at_some before.told port _ told gets.answer)))
