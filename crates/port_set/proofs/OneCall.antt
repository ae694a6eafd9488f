-- One port of a list is called.
use Rattle.std.proofs.Common.{◌≡◌, ◌≢◌, ℕ, ℤ, zero, suc, ◌<◌, true, Bool, List, [], ◌∷◌, length, map, get_or, set, slice_get, Option, Some, option_map, Result, Ok, Err, is_err, w32, SFits, to_z, of_z, to_z-of_z, refl, sym, ap, subst, ◌∙◌}
use Rattle.std.proofs.lemmas.List.{map-set}
use Rattle.std.proofs.lemmas.Option.{slice_get-map, slice_get-get_or}
use Rattle.mpy_io.specs.Ports.{PortView, Puts, Gets}
use Rattle.port_set.specs.Calls.{CallsOne}
use Rattle.port_set.specs.Counts.{CountsKeep, Rises}
use Rattle.port_set.proofs.Counting.{counts_same, rises_same}

pub called_one : {P : Type 0} (seen : P → PortView) (ports old : List P) (i : ℕ) (p q : P) (Call : PortView → PortView → Type 0) → ports ≡ old → i < length old → p ≡ get_or ports i p → Call (seen p) (seen q) → CallsOne (map seen old) (map seen (set ports i q)) i Call
called_one {P} seen ports old i p q Call same within here call =
    let at : p ≡ get_or old i p = here ∙ ap (λ (xs : List P). get_or xs i p) same in
    record {
      before = seen p;
      after = seen q;
      here = slice_get-map seen old i ∙ (ap (λ (o : Option P). option_map seen o) (slice_get-get_or old i p within) ∙ ap (λ (x : P). Some (seen x)) (sym at));
      others = map-set seen ports i q ∙ ap (λ (xs : List P). set (map seen xs) i (seen q)) same;
      call = call;
    }

slice_get-set_other : {P : Type 0} (ports : List P) (i k : ℕ) (q : P) → k ≢ i → slice_get (set ports i q) k ≡ slice_get ports k
slice_get-set_other [] i k q apart = refl
slice_get-set_other (p ∷ ports) zero zero q apart = absurd (apart refl)
slice_get-set_other (p ∷ ports) zero (suc k) q apart = refl
slice_get-set_other (p ∷ ports) (suc i) zero q apart = refl
slice_get-set_other (p ∷ ports) (suc i) (suc k) q apart = slice_get-set_other ports i k q (λ e. apart (ap suc e))

pub kept_others : {P : Type 0} (ports old : List P) (i k : ℕ) (q : P) → ports ≡ old → k ≢ i → slice_get (set ports i q) k ≡ slice_get old k
kept_others {P} ports old i k q same apart =
    slice_get-set_other ports i k q apart ∙ ap (λ (xs : List P). slice_get xs k) same

counts_put : {P : Type 0} (seen : P → PortView) (ports : List P) (i : ℕ) (p q : P) → p ≡ get_or ports i p → Rises 0 (seen p) (seen q) → CountsKeep (map seen ports) (map seen (set ports i q))
counts_put seen [] i p q here rises = tt
counts_put {P} seen (port ∷ ports) zero p q here rises = (subst (λ (z : P). Rises 0 (seen z) (seen q)) here rises, counts_same (map seen ports))
counts_put seen (port ∷ ports) (suc i) p q here rises = (rises_same (seen port), counts_put seen ports i p q here rises)

-- no count falls
pub called_counts : {P : Type 0} (seen : P → PortView) (ports old : List P) (i : ℕ) (p q : P) → ports ≡ old → p ≡ get_or ports i p → Rises 0 (seen p) (seen q) → CountsKeep (map seen old) (map seen (set ports i q))
called_counts {P} seen ports old i p q same here rises =
    subst (λ (xs : List P). CountsKeep (map seen xs) (map seen (set ports i q))) same (counts_put seen ports i p q here rises)

-- the number that a call was given is the one that it writes
pub put_here : (old new : PortView) (n : ℤ) (failed : Bool) → SFits w32 n → Puts old new (to_z w32 (of_z w32 n)) failed → Puts old new n failed
put_here old new n failed fits puts = subst (λ (m : ℤ). Puts old new m failed) (to_z-of_z fits) puts

-- a fault is passed on as another
pub put_failed : {T E F : Type 0} (old new : PortView) (n : ℤ) (r : Result T E) (e : E) (passed : Result T F) → SFits w32 n → r ≡ Err e → is_err passed ≡ true → Puts old new (to_z w32 (of_z w32 n)) (is_err r) → Puts old new n (is_err passed)
put_failed {T} {E} old new n r e passed fits was failed puts =
    subst (λ (b : Bool). Puts old new n b) (ap (λ (x : Result T E). is_err x) was ∙ sym failed) (put_here old new n _ fits puts)

failed_get : {E F : Type 0} (old new : PortView) (e : E) (passed : Result (Option ℤ) F) → is_err passed ≡ true → Gets {E = E} old new (Err e) → Gets {E = F} old new passed
failed_get old new e (Ok _) failed gets = cc
failed_get old new e (Err _) failed gets =
    record { answer = gets.answer; after = gets.after; failing = gets.failing; cause = gets.cause }

pub get_failed : {E F : Type 0} (old new : PortView) (r : Result (Option ℤ) E) (e : E) (passed : Result (Option ℤ) F) → r ≡ Err e → is_err passed ≡ true → Gets old new r → Gets old new passed
get_failed {E} old new r e passed was failed gets =
    failed_get old new e passed failed (subst (λ (x : Result (Option ℤ) E). Gets old new x) was gets)

-- an answer is passed on
pub got : {E F : Type 0} (old new : PortView) (r : Result (Option ℤ) E) (answer : Option ℤ) → r ≡ Ok answer → Gets old new r → Gets {E = F} old new (Ok answer)
got {E} old new r answer was gets =
    let here = subst (λ (x : Result (Option ℤ) E). Gets old new x) was gets in
    record { answer = here.answer; after = here.after; failing = here.failing; cause = here.cause }
