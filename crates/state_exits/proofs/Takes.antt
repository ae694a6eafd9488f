-- The row of a call that waits, and what is fetched of it.
use Rattle.std.proofs.Common.{◌≡◌, ℕ, length, true, false, Option, None, sym, subst}
use Rattle.std.specs.Prelude.{IsSome}
use Rattle.vm_states.specs.mpy_tree.File.{IsModule}
use Rattle.vm_states.specs.mpy_tree.Raw as raw
use Rattle.vm_states.specs.mpy_tree.Resolved.{ResolvedModule, Resolves}
use Rattle.vm_states.specs.mpy_tree.Codes.{Placed, codes_of}
use Rattle.prim_faults.specs.arena_heap.declared.value.Value.{Value}
use Rattle.vm_states.specs.bc_labels.Positions.{CodeList, Listed, Starts}
use Rattle.vm_states.specs.bc_library.Shelf.{Shelf}
use Rattle.vm_states.specs.bc_machine.Library.{module_of}
use Rattle.vm_states.specs.bc_rows.declared.row.Row.{Row}
use Rattle.vm_states.specs.bc_rows.Codes.{code_numbered}
use Rattle.vm_states.specs.bc_rows.Rows.{IsRow}
use Rattle.vm_states.specs.vm_frames.Calls.{Call, Calls, OfRunning}
use Rattle.vm_states.specs.vm_fetching.declared.instruction.Fetched.{Fetched}
use Rattle.vm_states.specs.vm_fetching.Fetches.{IsVerifiedRow}
use Rattle.vm_states.specs.Means.{Program, Means}
use Rattle.vm_states.specs.Ready.{IsFetched}
use Rattle.state_exits.specs.Waiting.{IsWaiting}
use Rattle.state_exits.proofs.Taking.{First, first_of, row_there, verified_row, starts_at}

module _ (p : Program) (means : Means p) (v : Value) (s : Calls) (h : IsWaiting p v s) (shelf : Shelf) (same : p.shelf ≡ shelf) (number code : ℕ)
    (number_is : OfRunning (λ d. number ≡ d.module_number) s.calls) (code_is : OfRunning (λ d. code ≡ d.code) s.calls) where
  abbrev f : First p v s
  f = first_of p v s h

  abbrev first : Call
  first = f.first

  number_same : number ≡ first.module_number
  number_same = subst (OfRunning (λ d. number ≡ d.module_number)) f.are number_is

  code_same : code ≡ first.code
  code_same = subst (OfRunning (λ d. code ≡ d.code)) f.are code_is

  -- of the program's shelf and the call's numbers
  here : (P : Shelf → ℕ → ℕ → Type 0) → P shelf number code → P p.shelf first.module_number first.code
  here P x =
      subst (λ (z : ℕ). P p.shelf first.module_number z) code_same
      (subst (λ (z : ℕ). P p.shelf z code) number_same (subst (λ (z : Shelf). P z number code) (sym same) x))

  there : (P : Shelf → ℕ → ℕ → Type 0) → P p.shelf first.module_number first.code → P shelf number code
  there P x =
      subst (λ (z : Shelf). P z number code) same
      (subst (λ (z : ℕ). P p.shelf z code) (sym number_same) (subst (λ (z : ℕ). P p.shelf first.module_number z) (sym code_same) x))

  pub no_row : ((m : raw.Module) (tree : ResolvedModule) → IsModule m → Resolves m tree → length (module_of tree).codes ≡ length (codes_of m)) → code_numbered shelf number code ≡ None → ⊥
  no_row as_many none =
      let some : IsSome (code_numbered shelf number code) = there (λ x i k. IsSome (code_numbered x i k)) (row_there p means v s h as_many) in
      let wrong : false ≡ true = subst (λ (o : Option Placed). IsSome o) none some in
      absurd cc

  module _ (row : Row) (is : IsRow shelf number code row) where
    pub row_here : IsRow p.shelf first.module_number first.code row
    row_here = here (λ x i k. IsRow x i k row) is

    pub row_verified : IsVerifiedRow shelf number row
    row_verified = there (λ x i k. IsVerifiedRow x i row) (verified_row p means v s h row row_here)

    module _ (offset : ℕ) (at_is : OfRunning (λ d. offset ≡ d.at) s.calls) where
      at_same : offset ≡ first.at
      at_same = subst (OfRunning (λ d. offset ≡ d.at)) f.are at_is

      pub row_starts : (l : CodeList) × Listed row.instructions.now l × Starts l.offsets offset
      row_starts = subst (λ (z : ℕ). (l : CodeList) × Listed row.instructions.now l × Starts l.offsets z) (sym at_same) (starts_at p means v s h row row_here)

      pub fetched_here : (fetched : Fetched) → IsFetched shelf number row offset fetched → IsFetched p.shelf first.module_number row first.at fetched
      fetched_here fetched x = subst (λ (z : ℕ). IsFetched p.shelf first.module_number row z fetched) at_same (here (λ y i k. IsFetched y i row offset fetched) x)
