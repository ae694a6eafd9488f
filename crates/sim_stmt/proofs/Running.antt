-- Imports of a meaning: what is registered stays so, and a module that was begun and has ended is registered.
use Rattle.std.proofs.Common.{◌≡◌, ℕ, zero, suc, List, [], ◌∷◌, ◌++◌, Bool, true, false, ◌||◌, Option, Some, None, refl, ap, ◌∙◌}
use Rattle.std.specs.Prelude.{Result, Ok, Err, cond, is_some}
use Rattle.bc_scheme.specs.mpy_base.Val.{Val, PlainWorld}
use Rattle.bc_scheme.specs.py_primitives.Outcome.{Stop, Raises, Full}
use Rattle.bc_scheme.specs.py_primitives.Faults.{TooDeep, NoModule, IncompatibleFile}
use Rattle.bc_scheme.specs.py_effects.Effect.{Place, Fails, Thrown, Filled, failed, fault_at, given, given_answer}
use Rattle.bc_scheme.specs.py_effects.Modules.{Made, make_module, store_module, registered_as, is_port}
use Rattle.bc_scheme.specs.py_effects.Growth.{IsRegistered, NamesKept, Growth}
use Rattle.bc_scheme.proofs.py_effects_lemmas.NamesStay.{made_registered, registrations}
use Rattle.bc_scheme.specs.py_meaning.Tree.{Name}
use Rattle.bc_scheme.specs.py_meaning.Program as programs
use Rattle.bc_scheme.specs.py_meaning.Program.{Entry, Runs, Refused, Program, first_file}
use Rattle.bc_scheme.specs.py_meaning.Outcomes.{Out, EVal, EExc, EOpen, EFull, e_turns, e_then, e_given, e_fails, e_does, e_choose}
use Rattle.bc_scheme.specs.py_meaning.Frames.{Frame, Exec, has_depth}
use Rattle.bc_scheme.specs.py_meaning.Imports.{run_unit, end_module, begin_unit, begin_entry}
use Rattle.bc_scheme.specs.py_meaning.Meaning.{sem}
use Rattle.bc_scheme.specs.py_meaning.Bounds.{world_e, GrowS}
use Rattle.bc_scheme.proofs.py_meaning_lemmas.Grow.{grow_does}
use Rattle.bc_scheme.proofs.py_meaning_lemmas.GrowUnits.{grow_unit}
use Rattle.bc_scheme.proofs.py_meaning_lemmas.GrowStmts.{grow_entry}
use Rattle.bc_scheme.proofs.py_meaning_lemmas.Growing.{growing}
use Rattle.bc_scheme.specs.bc_machine.Parts.{first_absent}

-- ---- the first name that is absent

-- of names that are there, none is absent, and the first absent one stands behind them
absent_by : (b : Bool) (x : Name) (o o1 r : Option Name) → cond b o (Some x) ≡ None → (o ≡ None → o1 ≡ r) → cond b o1 (Some x) ≡ r
absent_by true x o o1 r e h = h e
absent_by false x o o1 r e h = absurd cc

pub absent_behind : (w : PlainWorld) (front names : List Name) → first_absent w front ≡ None → first_absent w (front ++ names) ≡ first_absent w names
absent_behind w [] names e = refl
absent_behind w (x ∷ front) names e =
    absent_by (is_some (registered_as w.modules x) || is_port x) x (first_absent w front) (first_absent w (front ++ names)) (first_absent w names) e (λ q. absent_behind w front names q)

-- the name of a module that is there, or of one that is not
there_by : (o o1 : Option ℕ) (p : Bool) (x : Name) (a a1 : Option Name) → ((m : ℕ) → o ≡ Some m → (n : ℕ) × (o1 ≡ Some n)) → (a ≡ None → a1 ≡ None) → cond (is_some o || p) a (Some x) ≡ None → cond (is_some o1 || p) a1 (Some x) ≡ None
there_by (Some m) o1 p x a a1 h g e = ap (λ o. cond (is_some o || p) a1 (Some x)) (h m refl).1 ∙ g e
there_by None (Some n) true x a a1 h g e = g e
there_by None None true x a a1 h g e = g e
there_by None o1 false x a a1 h g e = absurd cc

abbrev pub Stay : PlainWorld → PlainWorld → Type 0
Stay = NamesKept (λ name. Unit {0})

pub stay_there : (w w1 : PlainWorld) (names : List Name) → Stay w w1 → first_absent w names ≡ None → first_absent w1 names ≡ None
stay_there w w1 [] p e = refl
stay_there w w1 (x ∷ names) p e =
    there_by (registered_as w.modules x) (registered_as w1.modules x) (is_port x) x (first_absent w names) (first_absent w1 names)
    (λ m q. let i = p.kept x tt (record { number = m; is = q }) in (i.number, i.is)) (stay_there w w1 names p) e

pub registered_there : (w : PlainWorld) (name : Name) → IsRegistered name w → first_absent w (name ∷ []) ≡ None
registered_there w name i = ap (λ o. cond (is_some o || is_port name) None (Some name)) i.is

pub both_there : (w : PlainWorld) (front : List Name) (name : Name) → first_absent w front ≡ None → first_absent w (name ∷ []) ≡ None → first_absent w (front ++ name ∷ []) ≡ None
both_there w front name e f = absent_behind w front (name ∷ []) e ∙ f

-- ---- what a meaning keeps

abbrev pub stays : Growth
stays = registrations (λ name. Unit {0}) (λ w. Unit {0}) (λ a b p u. tt)

-- what is known of the world behind a value
abbrev pub Then : {A : Type 0} → (PlainWorld → Type 0) → Out A → Type 0
Then P (EVal a t w) = P w
Then P (EExc x t w) = Unit {0}
Then P (EOpen w) = Unit {0}
Then P (EFull e t w) = Unit {0}

then_world : {A : Type 0} (P : PlainWorld → Type 0) (r : Out A) → P (world_e r) → Then P r
then_world P (EVal a t w) p = p
then_world P (EExc x t w) p = tt
then_world P (EOpen w) p = tt
then_world P (EFull e t w) p = tt

then_fails : (P : PlainWorld → Type 0) (f : Fails) (t : ℕ) → Then P (e_fails {A = Val} f t)
then_fails P (Thrown x w) t = tt
then_fails P (Filled e w) t = tt

module _ (program : Program) (n : ℕ) where
  abbrev ex : Exec
  ex = (sem program n).exec

  kept_exec : GrowS stays ex
  kept_exec = (growing stays program n).exec

  -- what is registered when an entry is begun still is where it has ended
  pub entry_keeps : (frame : Frame) (place : Place) (name : Name) (o : Option Entry) (t : ℕ) (w : PlainWorld) → registered_as w.modules name ≡ None → Stay w (world_e (begin_entry program ex frame place name o t w))
  entry_keeps frame place name o t w none = (grow_entry stays program ex kept_exec frame place name o t w none tt).by

  module _ (frame : Frame) (place : Place) (name : Name) where
    ended_in : (made : Made) (r : Out Val) → IsRegistered name (world_e r) → Then (IsRegistered name) (end_module place name made r)
    ended_in made (EVal v t w) i =
        then_world (IsRegistered name) (e_does place (store_module w name made.number) t w)
        ((grow_does stays place (store_module w name made.number) t w (stays.store_made w name made.number)).by.kept name tt i)
    ended_in made (EExc x t w) i = tt
    ended_in made (EOpen w) i = tt
    ended_in made (EFull e t w) i = tt

    unit_in : (u : programs.Unit) (made : Made) (t : ℕ) (w : PlainWorld) → IsRegistered name w → Then (IsRegistered name) (end_module place name made (run_unit ex (first_file u) name made.names u 0 (suc frame.depth) t w))
    unit_in u made t w i = ended_in made _ ((grow_unit stays ex kept_exec (first_file u) name made.names u 0 (suc frame.depth) t w tt).by.kept name tt i)

    abbrev behind : programs.Unit → Made → ℕ → PlainWorld → Out Val
    behind u made t w = end_module place name made (run_unit ex (first_file u) name made.names u 0 (suc frame.depth) t w)

    failed_in : (u : programs.Unit) (f : Fails) (t : ℕ) → Then (IsRegistered name) (e_then (e_given (failed f) t) (behind u))
    failed_in u (Thrown x w) t = tt
    failed_in u (Filled e w) t = tt

    made_in : (u : programs.Unit) (w : PlainWorld) (t : ℕ) (r : Result Made Stop) → (make_module w name).answer ≡ r → Then (IsRegistered name) (e_then (e_given (given_answer place (make_module w name).world r) t) (behind u))
    made_in u w t (Ok made) e = unit_in u made t (make_module w name).world (made_registered w name made e)
    made_in u w t (Err (Full f)) e = tt
    made_in u w t (Err (Raises f)) e = failed_in u (fault_at place (make_module w name).world f) t

    turns_in : (u : programs.Unit) (w : PlainWorld) (m t : ℕ) → Then (IsRegistered name) (e_then (e_turns m t w (e_given (given place (make_module w name)))) (behind u))
    turns_in u w zero t = made_in u w t (make_module w name).answer refl
    turns_in u w (suc m) zero = tt
    turns_in u w (suc m) (suc t) = turns_in u w m t

    choice_in : (b : Bool) (u : programs.Unit) (t : ℕ) (w : PlainWorld) → Then (IsRegistered name) (e_choose b (begin_unit program ex frame place name u) (λ t1 w1. e_fails (fault_at place w1 TooDeep) t1) t w)
    choice_in true u t w = turns_in u w (make_module w name).visits t
    choice_in false u t w = then_fails (IsRegistered name) (fault_at place w TooDeep) t

    -- where an entry that was begun has ended, it is registered
    pub entry_registers : (o : Option Entry) (t : ℕ) (w : PlainWorld) → Then (IsRegistered name) (begin_entry program ex frame place name o t w)
    entry_registers None t w = then_fails (IsRegistered name) (fault_at place w (NoModule name)) t
    entry_registers (Some Refused) t w = then_fails (IsRegistered name) (fault_at place w IncompatibleFile) t
    entry_registers (Some (Runs u)) t w = choice_in (has_depth frame) u t w
