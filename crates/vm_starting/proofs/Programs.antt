-- The program of a library of files.
use Rattle.std.proofs.Common.{◌≡◌, ℕ, suc, List, [], ◌∷◌, ◌++◌, map, Option, Some, None, refl, sym, ap, subst, ◌∙◌}
use Rattle.std.specs.Prelude.{slice_get, option_and_then}
use Rattle.bc_resolved.specs.bc_verify.mpy_tree.File.{IsModule}
use Rattle.bc_resolved.specs.bc_verify.mpy_tree.Raw as raw
use Rattle.bc_resolved.specs.bc_verify.mpy_tree.Resolved.{ResolvedModule, Resolves}
use Rattle.bc_resolved.specs.bc_verify.Verified.{IsVerified}
use Rattle.vm_states.specs.bc_library.declared.fault.Member.TheVariants as members
use Rattle.vm_states.specs.bc_library.Constants.{items_at, text_at}
use Rattle.vm_states.specs.bc_library.Shelf.{Shelf, Named, member_of, module_at}
use Rattle.frame_calls.specs.bc_machine.Library as machine
use Rattle.frame_calls.specs.bc_machine.Library.{Name, Entry, Holds, Library, entry_in, module_in, module_of}
use Rattle.vm_states.specs.bc_library.Greatest.{IsGreatestIn, ShelfHas}
use Rattle.vm_states.specs.bc_progress.Plans.{Plan, Plans, IsVerifiedModule, Follows}
use Rattle.bc_resolved.specs.Rooms.{TakesAtMost, PlanAtMost}
use Rattle.bc_resolved.specs.Stored.{Stored, Kept, Refused, IsMachineModule, IsLibraryOf, AllModules}
use Rattle.vm_states.specs.bc_rows.Codes.{code_numbered}
use Rattle.vm_states.specs.frame_moves.Shown.{Tables}
use Rattle.vm_states.specs.Means.{Program, IsMeant, Means}
use Rattle.vm_starting.specs.Programs.{IsRunnable, stored_of, FindsAll, FitsGreatest, IsProgramOf}
use Rattle.vm_starting.proofs.Offsets.{Once, code_of_module, offsets_of, starts_are}
use Rattle.vm_starting.proofs.ProgramNames.{stored_in, IsEntryFor, IsHeld, finds, module_stored, refused_stored, none_stored, held_stored, module_named}

abbrev name_by : Option Named → Name
name_by None = []
name_by (Some n) = n.name

-- what numbers stand for
abbrev tables_of : (shelf : Shelf) → IsRunnable shelf → Tables
tables_of shelf is = record {
  texts = text_at shelf;
  tuples = items_at shelf;
  module_name = λ i. name_by (slice_get shelf.modules i);
  starts = λ i k. offsets_of (code_numbered shelf i k) (λ n e. code_of_module shelf is.are_modules i k n e);
}

-- what is stored
-- ==============

all_kept : (P : raw.Module → Type 0) (modules : List Named) (behind : List (Name × Stored)) → ((i : ℕ) (n : Named) → slice_get modules i ≡ Some n → P n.held) → AllModules P behind
    → AllModules P (map (λ (n : Named). (n.name, Kept n.held)) modules ++ behind)
all_kept P [] behind each h = h
all_kept P (n ∷ modules) behind each h = (each 0 n refl, all_kept P modules behind (λ i m e. each (suc i) m e) h)

all_refused : (P : raw.Module → Type 0) (refused : List Name) → AllModules P (map (λ (name : Name). (name, Refused)) refused)
all_refused P [] = tt
all_refused P (name ∷ refused) = (tt, all_refused P refused)

held_is : (a b : machine.Module) → (let x : Option Entry = Some (Holds a) in let y : Option Entry = Some (Holds b) in x ≡ y) → a ≡ b
held_is a b e = cc

module_there : (shelf : Shelf) (i : ℕ) (n : Named) → slice_get shelf.modules i ≡ Some n → module_at shelf i ≡ Some n.held
module_there shelf i n e = ap (λ (o : Option Named). option_and_then (λ (m : Named). Some m.held) o) e

all_stored : (P : raw.Module → Type 0) (shelf : Shelf) → ((i : ℕ) (m : raw.Module) → module_at shelf i ≡ Some m → P m) → AllModules P (stored_of shelf)
all_stored P shelf each = all_kept P shelf.modules (map (λ (name : Name). (name, Refused)) shelf.refused) (λ i n e. each i n.held (module_there shelf i n e)) (all_refused P shelf.refused)

-- what the laws of the lower crates say
pub record Laws : Type 0 where
  pub once : Once
  pub library : (stored : List (Name × Stored)) → AllModules IsModule stored → (library : Library) × IsLibraryOf stored library
  pub rooms : (m : raw.Module) (tree : ResolvedModule) → IsModule m → Resolves m tree → IsVerified m
      → (plans : ℕ → Plan) × IsVerifiedModule plans (module_of tree) × ((n_state n_exc : ℕ) → TakesAtMost n_state n_exc m → PlanAtMost n_state n_exc plans)

module _ (laws : Laws) (shelf : Shelf) (is : IsRunnable shelf) where
  library_there : (library : Library) × IsLibraryOf (stored_of shelf) library
  library_there = laws.library (stored_of shelf) (all_stored IsModule shelf is.are_modules)

  -- plans of a module of the library
  abbrev ArePlansOf : machine.Module → (ℕ → Plan) → Type 0
  ArePlansOf m plans = IsVerifiedModule plans m × ((n_state n_exc : ℕ) → IsGreatestIn (ShelfHas shelf) n_state n_exc → PlanAtMost n_state n_exc plans)

  takes : (i : ℕ) (m : raw.Module) (n_state n_exc : ℕ) → module_at shelf i ≡ Some m → IsGreatestIn (ShelfHas shelf) n_state n_exc → TakesAtMost n_state n_exc m
  takes i m n_state n_exc there greatest path code p f b =
      let has : ShelfHas shelf p = record { i = i; m = m; there = there; has = record { path = path; code = code; is = f; begins = b } } in
      (greatest.most_state p has, greatest.most_exc p has)

  module_plans : (m : raw.Module) (held : machine.Module) → IsHeld shelf.modules m → IsMachineModule m held → (plans : ℕ → Plan) × ArePlansOf held plans
  module_plans m held h k =
      let there : module_at shelf h.i ≡ Some m = module_there shelf h.i h.n h.there ∙ ap Some h.held_is in
      let r = laws.rooms m k.tree (is.are_modules h.i m there) k.resolves (is.are_verified h.i m there) in (
        r.0,
        (
          subst (IsVerifiedModule r.0) (sym k.machine_is) r.1,
          (λ n_state n_exc greatest. r.2 n_state n_exc (takes h.i m n_state n_exc there greatest)),
        ),
      )

  module _ (library : Library) (is_of : IsLibraryOf (stored_of shelf) library) where
    entry_for : (name : Name) (o : Option Stored) → stored_in (stored_of shelf) name ≡ o → IsEntryFor o (entry_in library name)
    entry_for name o e = subst (λ z. IsEntryFor z (entry_in library name)) e (finds (stored_of shelf) library name is_of)

    plans_by : (name : Name) (m : machine.Module) (o : Option Stored) → stored_in (stored_of shelf) name ≡ o → entry_in library name ≡ Some (Holds m) → (plans : ℕ → Plan) × ArePlansOf m plans
    plans_by name m None e f = absurd (let none : entry_in library name ≡ None = entry_for name None e in cc)
    plans_by name m (Some Refused) e f =
        absurd (let entry = entry_for name (Some Refused) e in let wrong : Some machine.Refused ≡ Some (Holds m) = ap Some (sym entry.2) ∙ (sym entry.1 ∙ f) in let no : machine.Refused ≡ Holds m = cc in cc)
    plans_by name m (Some (Kept own)) e f =
        let entry = entry_for name (Some (Kept own)) e in
        let both : Some (Holds entry.2.0) ≡ Some (Holds m) = ap Some (sym entry.2.2) ∙ (sym entry.1 ∙ f) in
        let same : entry.2.0 ≡ m = held_is entry.2.0 m both in
        module_plans own m (held_stored shelf name own e) (subst (IsMachineModule own) same entry.2.1)

    each : (name : Name) (m : machine.Module) → entry_in library name ≡ Some (Holds m) → (plans : ℕ → Plan) × ArePlansOf m plans
    each name m e = plans_by name m (stored_in (stored_of shelf) name) refl e

    plan_in : (name : Name) (o : Option Entry) → entry_in library name ≡ o → ℕ → Plan
    plan_in name None e number = record { n_state = 0; n_exc = 0; assigned = λ p. None }
    plan_in name (Some machine.Refused) e number = record { n_state = 0; n_exc = 0; assigned = λ p. None }
    plan_in name (Some (Holds m)) e number = (each name m e).0 number

    planned : (name : Name) (o : Option Entry) (e : entry_in library name ≡ o) (m : machine.Module) → o ≡ Some (Holds m) → ArePlansOf m (plan_in name o e)
    unfolding plan_in
    planned name None e m q = absurd cc
    planned name (Some machine.Refused) e m q = absurd (let wrong : machine.Refused ≡ Holds m = cc in cc)
    planned name (Some (Holds n)) e m q = subst (λ z. ArePlansOf z (λ number. (each name n e).0 number)) (held_is n m q) (each name n e).1

    plans : Plans
    plans name number = plan_in name (entry_in library name) refl number

    follows : Follows plans library
    unfolding plans
    follows name m e = (planned name (entry_in library name) refl m e).0

    abbrev program : Program
    program = record { shelf = shelf; library = library; tables = tables_of shelf is; plans = plans }

    meant : (i : ℕ) (n : Named) → slice_get shelf.modules i ≡ Some n → IsMeant program i n
    meant i n e =
        let stored = module_stored shelf i n e (λ k a f s. is.distinct i k n a e f (sym s)) in
        let entry = entry_for n.name (Some (Kept n.held)) stored in
        let machine_is = entry.2.1 in
        record {
          is_module = is.are_modules i n.held (module_there shelf i n e);
          is_verified = is.are_verified i n.held (module_there shelf i n e);
          name_is = ap name_by e;
          tree = machine_is.tree;
          resolves = machine_is.resolves;
          held = entry.1 ∙ ap Some (entry.2.2 ∙ ap Holds machine_is.machine_is);
          starts_are = λ k row l row_is listed. starts_are laws.once shelf i k row l row_is listed (code_numbered shelf i k) (λ c f. code_of_module shelf is.are_modules i k c f) row_is.there;
        }

    refused_in : (name : Name) → member_of shelf name ≡ Some members.Refused → entry_in library name ≡ Some machine.Refused
    refused_in name e = let entry = entry_for name (Some Refused) (refused_stored shelf name e) in entry.1 ∙ ap Some entry.2

    means : Means program
    means = record {
      constants = record { texts = refl; tuples = refl };
      follows = follows;
      modules = meant;
      refused = refused_in;
      others = λ name e. entry_for name None (none_stored shelf name e);
    }

    -- a code that is there is of a module that is held
    code_held : (o : Option Entry) (number : ℕ) (code : machine.Code) → machine.code_in (module_in o) number ≡ Some code → (m : machine.Module) × (o ≡ Some (Holds m))
    code_held None number code e = absurd cc
    code_held (Some machine.Refused) number code e = absurd cc
    code_held (Some (Holds m)) number code e = (m, refl)

    rooms : FitsGreatest program
    unfolding plans
    rooms n_state n_exc greatest name number code e =
        let held = code_held (entry_in library name) number code e in
        (planned name (entry_in library name) refl held.0 held.1).1 n_state n_exc greatest number

  pub exists : (p : Program) × IsProgramOf shelf p
  exists =
      let l = library_there in
      (program l.0 l.1, record { shelf_is = refl; library_is = l.1; means = means l.0 l.1; rooms = rooms l.0 l.1 })

pub finds_all : (p : Program) → Means p → FindsAll p.shelf p.library
finds_all p means = record {
  modules = λ name i m e f.
      let named = module_named p.shelf name i m e f in
      let meant = means.modules i named.n named.there in (
        meant.tree,
        subst (λ z. Resolves z meant.tree) named.held_is meant.resolves,
        subst (λ z. entry_in p.library z ≡ Some (Holds (module_of meant.tree))) named.name_is meant.held,
      );
  refused = means.refused;
  others = means.others;
}
