-- The instruction that the first of the calls stands at.
use Rattle.std.proofs.Common.{◌≡◌, ℕ, ◌<◌, List, [], ◌∷◌, length, Option, Some, None, refl, sym, ap, subst, arith}
use Rattle.std.specs.Prelude.{IsSome, All}
use Rattle.state_steps.specs.prim_faults.arena_heap.declared.value.StrNo.TheVariants as strs
use Rattle.bc_library.specs.Shelf.{Shelf}
use Rattle.state_steps.specs.vm_frames.bc_labels.Positions.{CodeList, Listed, Starts}
use Rattle.vm_kept.specs.state_calls.bc_rows.declared.row.Row.{Row}
use Rattle.vm_kept.specs.state_calls.bc_rows.Codes.{code_numbered}
use Rattle.vm_kept.specs.state_calls.bc_rows.Rows.{IsRow}
use Rattle.state_steps.specs.vm_frames.Calls.{Call, Calls, OfRunning}
use Rattle.vm_kept.specs.state_calls.frame_exits.declared.names.ModuleName.{ModuleName}
use Rattle.vm_kept.specs.state_calls.frame_exits.Left.{HasLast}
use Rattle.vm_kept.specs.state_calls.frame_exits.Names.{AreTablesOf}
use Rattle.vm_kept.specs.state_calls.vm_fetching.declared.instruction.Fetched.{Fetched}
use Rattle.vm_kept.specs.state_calls.vm_fetching.Fetches.{IsVerifiedRow}
use Rattle.vm_starting.specs.vm_states.Means.{Program, Means}
use Rattle.vm_starting.specs.vm_states.Ready.{IsFetched, IsReady}
use Rattle.vm_starting.specs.vm_states.Running.{FitCalls, IsRunning}
use Rattle.vm_kept.specs.state_exits.Modules.{AreNames}
use Rattle.vm_kept.specs.state_calls.Runs.{IsFetchedAt}
use Rattle.vm_starting.specs.Programs.{IsProgramOf}
use Rattle.vm_starting.specs.declared.opening.Vm.{Vm}
use Rattle.vm_starting.specs.Titles.{AreTitles}
use Rattle.vm_machine.specs.Acting.{HasFetched}
use Rattle.vm_machine.specs.Machine.{IsVm}

first_call : (p : Program) (calls : List Call) → FitCalls p calls → (c : Call) × (cs : List Call) × (calls ≡ c ∷ cs)
first_call p [] fits = absurd fits
first_call p (c ∷ cs) fits = (c, cs, refl)

first_of : (P : Call → Type 0) (calls : List Call) (c : Call) (cs : List Call) → calls ≡ c ∷ cs → OfRunning P calls → P c
first_of P calls c cs are h = subst (OfRunning P) are h

of_running : (P : Call → Type 0) (calls : List Call) (c : Call) (cs : List Call) → calls ≡ c ∷ cs → P c → OfRunning P calls
of_running P calls c cs are h = subst (OfRunning P) (sym are) h

none_some : {A : Type 0} (o : Option A) → o ≡ None → IsSome o → ⊥
none_some None e some = cc
none_some (Some x) e some = cc

-- the laws that are used
pub record Laws : Type 0 where
  pub row : (p : Program) (s : Calls) (c : Call) (cs : List Call) → Means p → IsRunning p s → s.calls ≡ c ∷ cs → IsSome (code_numbered p.shelf c.module_number c.code)
  pub verified : (p : Program) (s : Calls) (c : Call) (cs : List Call) (row : Row) → Means p → IsRunning p s → s.calls ≡ c ∷ cs → IsRow p.shelf c.module_number c.code row → IsVerifiedRow p.shelf c.module_number row
  pub starts : (p : Program) (s : Calls) (c : Call) (cs : List Call) (row : Row) → Means p → IsRunning p s → s.calls ≡ c ∷ cs → IsRow p.shelf c.module_number c.code row → (l : CodeList) × Listed row.instructions.now l × Starts l.offsets c.at
  pub ready : (p : Program) (s : Calls) (c : Call) (cs : List Call) (row : Row) (fetched : Fetched) → Means p → IsRunning p s → s.calls ≡ c ∷ cs → IsRow p.shelf c.module_number c.code row → IsFetched p.shelf c.module_number row c.at fetched
      → IsReady p s row fetched

pub record NameLaws : Type 0 where
  pub tables : (p : Program) (names : List ModuleName) → Means p → AreTitles p.shelf names → AreTablesOf p.tables.texts p.tables.tuples names p.tables
  pub told : (p : Program) (names : List ModuleName) → Means p → AreTitles p.shelf names → All (λ m. IsSome (p.tables.texts (strs.Pool m.name))) names
  pub last : (p : Program) (names : List ModuleName) → Means p → AreTitles p.shelf names → All (HasLast p.tables.texts p.tables.tuples) names

-- the names are those of each program
pub names_in : (shelf : Shelf) (vm : Vm) → IsVm shelf vm → NameLaws → (p : Program) → IsProgramOf shelf p → AreNames p vm.names.items
names_in shelf vm h laws p of =
    let titles = subst (λ (z : Shelf). AreTitles z vm.names.items) (sym of.shelf_is) h.memory.names in
    record {
      as_many = titles.as_many;
      names_are = (laws.tables p vm.names.items of.means titles).names_are;
      told = laws.told p vm.names.items of.means titles;
      last = laws.last p vm.names.items of.means titles;
    }

module _ (shelf : Shelf) (vm : Vm) (h : IsVm shelf vm) (goes_on : vm.end ≡ None) (program : Program) (is_program : IsProgramOf shelf program) where
  running : (p : Program) → IsProgramOf shelf p → IsRunning p vm.frames
  running p of = (h.runs goes_on p of).state.running

  first : (p : Program) → IsProgramOf shelf p → (c : Call) × (cs : List Call) × (vm.frames.calls ≡ c ∷ cs)
  first p of = first_call p vm.frames.calls (running p of).fits

  pub some_calls : 0 < length vm.frames.calls
  some_calls = let n = ap length (first program is_program).2 in omega (arith, n)

  module _ (laws : Laws) (module_number code at : ℕ) (module_is : OfRunning (λ c. module_number ≡ c.module_number) vm.frames.calls) (code_is : OfRunning (λ c. code ≡ c.code) vm.frames.calls) (at_is : OfRunning (λ c. at ≡ c.at) vm.frames.calls) where
    -- what is known by the numbers of the first call
    module _ (p : Program) (of : IsProgramOf shelf p) where
      abbrev C : Call
      C = (first p of).0

      same_module : module_number ≡ C.module_number
      same_module = first_of (λ (c : Call). module_number ≡ c.module_number) vm.frames.calls (first p of).0 (first p of).1 (first p of).2 module_is

      same_code : code ≡ C.code
      same_code = first_of (λ (c : Call). code ≡ c.code) vm.frames.calls (first p of).0 (first p of).1 (first p of).2 code_is

      same_at : at ≡ C.at
      same_at = first_of (λ (c : Call). at ≡ c.at) vm.frames.calls (first p of).0 (first p of).1 (first p of).2 at_is

      to_call : (P : Shelf → ℕ → ℕ → ℕ → Type 0) → P shelf module_number code at → P p.shelf C.module_number C.code C.at
      to_call P x =
          subst (λ (z : Shelf). P z C.module_number C.code C.at) (sym of.shelf_is)
          (subst (λ (i : ℕ). P shelf i C.code C.at) same_module
          (subst (λ (k : ℕ). P shelf module_number k C.at) same_code
          (subst (λ (a : ℕ). P shelf module_number code a) same_at x)))

      from_call : (P : Shelf → ℕ → ℕ → ℕ → Type 0) → P p.shelf C.module_number C.code C.at → P shelf module_number code at
      from_call P x =
          subst (λ (a : ℕ). P shelf module_number code a) (sym same_at)
          (subst (λ (k : ℕ). P shelf module_number k C.at) (sym same_code)
          (subst (λ (i : ℕ). P shelf i C.code C.at) (sym same_module)
          (subst (λ (z : Shelf). P z C.module_number C.code C.at) of.shelf_is x)))

    pub row_there : code_numbered shelf module_number code ≡ None → ⊥
    row_there none =
        let f = first program is_program in
        let some = from_call program is_program (λ z i k a. IsSome (code_numbered z i k)) (laws.row program vm.frames f.0 f.1 is_program.means (running program is_program) f.2) in
        none_some (code_numbered shelf module_number code) none some

    module _ (row : Row) (is : IsRow shelf module_number code row) where
      row_in : (p : Program) (of : IsProgramOf shelf p) → IsRow p.shelf (C p of).module_number (C p of).code row
      row_in p of = to_call p of (λ z i k a. IsRow z i k row) is

      pub row_verified : IsVerifiedRow shelf module_number row
      row_verified =
          let f = first program is_program in
          from_call program is_program (λ z i k a. IsVerifiedRow z i row)
          (laws.verified program vm.frames f.0 f.1 row is_program.means (running program is_program) f.2 (row_in program is_program))

      pub row_starts : (l : CodeList) × Listed row.instructions.now l × Starts l.offsets at
      row_starts =
          let f = first program is_program in
          from_call program is_program (λ z i k a. (l : CodeList) × Listed row.instructions.now l × Starts l.offsets a)
          (laws.starts program vm.frames f.0 f.1 row is_program.means (running program is_program) f.2 (row_in program is_program))

      pub has_fetched : (fetched : Fetched) → IsFetched shelf module_number row at fetched → ((p : Program) → IsProgramOf shelf p → AreNames p vm.names.items) → HasFetched shelf vm row fetched
      has_fetched fetched read named = record {
        is_vm = h;
        goes_on = goes_on;
        program = program;
        is_program = is_program;
        named = named;
        ready = λ p of. (let f = first p of in laws.ready p vm.frames f.0 f.1 row fetched of.means (running p of) f.2 (row_in p of) (to_call p of (λ z i k a. IsFetched z i row a fetched) read));
        read = (
            let f = first program is_program in
            of_running (IsFetchedAt shelf fetched) vm.frames.calls f.0 f.1 f.2 (record {
              row = row;
              is_row = subst (λ (z : Shelf). IsRow z f.0.module_number f.0.code row) is_program.shelf_is (row_in program is_program);
              is_fetched = subst (λ (z : Shelf). IsFetched z f.0.module_number row f.0.at fetched) is_program.shelf_is (to_call program is_program (λ z i k a. IsFetched z i row a fetched) read);
            })
            );
        number = module_number;
        verified = row_verified;
      }
