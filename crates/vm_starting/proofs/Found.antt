-- Codes of a program.
use Rattle.std.proofs.Common.{◌≡◌, ℕ, suc, ◌+◌, ◌<◌, ◌≤◌, Bool, true, false, ◌&&◌, nat_le, List, [], ◌∷◌, length, map, Option, Some, None, refl, ap, ◌∙◌, if◌then◌else◌, eq-eqb, arith}
use Rattle.std.specs.Prelude.{slice_get, option_and_then}
use Rattle.std.proofs.lemmas.Bool.Decides.{nat_tests}
use Rattle.std.proofs.lemmas.List.{length-map}
use Rattle.std.proofs.lemmas.Option.{slice_get_within}
use Rattle.bc_resolved.specs.bc_verify.bc_flow.Action.{Action}
use Rattle.bc_resolved.specs.bc_verify.bc_flow.Edges.{room}
use Rattle.frame_calls.specs.bc_labels.Positions.{CodeList, Listed, Starts, position_in}
use Rattle.bc_resolved.specs.bc_verify.mpy_tree.File.{IsModule}
use Rattle.bc_resolved.specs.bc_verify.mpy_tree.Raw as raw
use Rattle.bc_resolved.specs.bc_verify.mpy_tree.Resolved.{ResolvedModule, Resolves}
use Rattle.bc_resolved.specs.bc_verify.mpy_tree.Codes.{codes_of}
use Rattle.vm_states.specs.bc_library.Shelf.{Shelf, Named, module_at}
use Rattle.frame_calls.specs.bc_machine.Library.{Code, Line, Holds as Held, Entry, code_in, module_in, entry_in, code_at, module_of}
use Rattle.vm_states.specs.bc_progress.Plans.{Plan, IsVerifiedCode, action_of}
use Rattle.vm_states.specs.bc_rows.declared.row.Row.{Row}
use Rattle.vm_states.specs.bc_rows.Rows.{IsRow}
use Rattle.vm_states.specs.bc_rows.Runs.{RunsAs}
use Rattle.vm_states.specs.Means.{Program, IsMeant, Means}
use Rattle.vm_starting.specs.Codes.{IsCodeOf}

-- a verified code has a line
some_line : (count : ℕ) (plan : Plan) (code : Code) → IsVerifiedCode count plan code → 0 < length code.lines
some_line count plan code v =
    let leads = v.meets.start in
    let fine = v.meets.closed 0 leads.at leads.is in
    let actions : List Action = map (λ (l : Line). action_of l.item) code.lines in
    let within : 0 < length actions = slice_get_within actions 0 fine.action fine.is in
    omega (arith, within, length-map code.lines (λ (l : Line). action_of l.item))

-- and room for its locals
first_of_three : (a b c : Bool) → (a && b && c) ≡ true → a ≡ true
first_of_three true b c e = refl
first_of_three false b c e = e

within_sum : (a b n : ℕ) → nat_le (a + b) n ≡ true → a ≤ n
within_sum a b n e = grind (arith, nat_tests)

locals_fit : (count : ℕ) (plan : Plan) (code : Code) → IsVerifiedCode count plan code → code.locals ≤ plan.n_state
unfolding room
locals_fit count plan code v =
    let leads = v.meets.start in
    let fine = v.meets.closed 0 leads.at leads.is in
    within_sum code.locals (length leads.at.slots) plan.n_state (first_of_three _ _ _ fine.state)

first_starts : (offsets : List ℕ) → 0 < length offsets → (at : ℕ) × Starts offsets at
first_starts [] h = absurd (omega (arith, h))
first_starts (x ∷ offsets) h = (x, ap (λ b. slice_get (x ∷ offsets) (if b then 0 else suc (position_in offsets x))) (eq-eqb x x refl))

module _ (p : Program) (i : ℕ) (n : Named) (there : slice_get p.shelf.modules i ≡ Some n) (means : Means p) where
  meant : IsMeant p i n
  meant = means.modules i n there

  held : module_at p.shelf i ≡ Some n.held
  held = ap (λ (o : Option Named). option_and_then (λ (m : Named). Some m.held) o) there

  entry : entry_in p.library (p.tables.module_name i) ≡ Some (Held (module_of meant.tree))
  entry = ap (entry_in p.library) meant.name_is ∙ meant.held

  -- what the laws of the lower crates say
  module _ (each : (bytes : List ℕ) (l : CodeList) → Listed bytes l → length l.offsets ≡ length l.items)
      (within : (bytes : List ℕ) (l : CodeList) (at : ℕ) → Listed bytes l → Starts l.offsets at → at < length bytes)
      (runs : (shelf : Shelf) (i k : ℕ) (m : raw.Module) (tree : ResolvedModule) (row : Row) → IsModule m → module_at shelf i ≡ Some m
      → Resolves m tree → IsRow shelf i k row → (code : Code) × (slice_get (module_of tree).codes k ≡ Some code) × RunsAs shelf m row code) where
    pub code_for : (k : ℕ) (row : Row) → IsRow p.shelf i k row → IsCodeOf p i k row
    code_for k row is =
        let r = runs p.shelf i k n.held meant.tree row meant.is_module held meant.resolves is in
        let l = is.is_row.list in
        let code_there : code_at p.library (p.tables.module_name i) k ≡ Some r.0 = ap (λ (o : Option Entry). code_in (module_in o) k) entry ∙ r.1 in
        let verified = (means.follows (p.tables.module_name i) (module_of meant.tree) entry).codes k r.0 r.1 in
        let lines = some_line (length (module_of meant.tree).codes) (p.plans (p.tables.module_name i) k) r.0 verified in
        let many = r.2.as_many l is.is_row.listed in
        let as_many = each row.instructions.now l is.is_row.listed in
        let first = first_starts l.offsets (omega (arith, lines, many, as_many)) in
        let inside = within row.instructions.now l first.0 is.is_row.listed first.1 in
        record {
          m = n.held;
          held = held;
          code = r.0;
          there = code_there;
          runs = r.2;
          list = l;
          listed = is.is_row.listed;
          starts_are = meant.starts_are k row l is is.is_row.listed;
          some = omega (arith, inside);
          fits = locals_fit (length (module_of meant.tree).codes) (p.plans (p.tables.module_name i) k) r.0 verified;
        }

-- a row is of a module that is there
pub module_of_row : (p : Program) (i k : ℕ) (row : Row) → IsRow p.shelf i k row → (n : Named) × (slice_get p.shelf.modules i ≡ Some n)
module_of_row p i k row is = by (slice_get p.shelf.modules i) refl is.there
  where
    by : (o : Option Named) → slice_get p.shelf.modules i ≡ o → option_and_then (λ (m : raw.Module). slice_get (codes_of m) k) (option_and_then (λ (n : Named). Some n.held) o) ≡ Some is.code
        → (n : Named) × (slice_get p.shelf.modules i ≡ Some n)
    by None f g = absurd cc
    by (Some n) f g = (n, f)
