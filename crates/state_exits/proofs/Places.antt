-- The place of the running instruction, and what is found on the running call.
use Rattle.std.proofs.Common.{◌≡◌, ◌<◌, ℕ, List, [], ◌∷◌, length, Option, Some, All, sym, ap, ◌∙◌, subst, arith}
use Rattle.std.proofs.lemmas.List.Elements.{All-head}
use Rattle.prim_faults.specs.arena_heap.declared.value.StrNo.{StrNo}
use Rattle.prim_faults.specs.arena_heap.declared.value.StrNo.TheVariants as strs
use Rattle.prim_faults.specs.arena_objects.Iterables.{or_nothing}
use Rattle.vm_states.specs.mpy_tree.bc_prelude.Lines as lines
use Rattle.vm_states.specs.bc_library.Texts.{text_numbered}
use Rattle.bc_progress.specs.py_effects.Effect as effects
use Rattle.vm_states.specs.bc_rows.declared.row.Row.{Row}
use Rattle.prim_faults.specs.prim_walks.Plain.{plain_name}
use Rattle.vm_states.specs.prim_raising.declared.place.Place.{Place}
use Rattle.vm_states.specs.vm_frames.Calls.{Call, Calls, OfRunning}
use Rattle.vm_states.specs.frame_exits.Ends.{place_of}
use Rattle.vm_states.specs.vm_fetching.declared.instruction.Fetched.{Fetched}
use Rattle.vm_states.specs.Means.{Program, Means}
use Rattle.vm_states.specs.Ready.{IsPlaceOf, IsReady}
use Rattle.state_exits.specs.Running.{place_at}

abbrev placed : List ℕ → ℕ → List ℕ → effects.Place
placed file line name = record { file = file; line = line; name = name }

named_text : (p : Program) → Means p → (n : ℕ) (text : List ℕ) → text_numbered p.shelf.pool n ≡ Some text → plain_name p.tables.texts p.tables.tuples n ≡ text
named_text p means n text h = ap or_nothing (ap (λ (f : StrNo → Option (List ℕ)). f (strs.Pool n)) means.constants.texts ∙ h)

place_is : (p : Program) → Means p → (row : Row) (offset : ℕ) (place : effects.Place) → IsPlaceOf p.shelf row offset place → place_of p.tables (place_at row offset) ≡ place
place_is p means row offset place is =
    let line = lines.line_of row.line_table.now offset in
    ap (λ (z : List ℕ). placed z line (plain_name p.tables.texts p.tables.tuples row.name)) (named_text p means row.source place.file is.file)
    ∙ ap (λ (z : ℕ). placed place.file z (plain_name p.tables.texts p.tables.tuples row.name)) (sym is.line)
    ∙ ap (λ (z : List ℕ). placed place.file place.line z) (named_text p means row.name place.name is.name)

module _ (p : Program) (s : Calls) (row : Row) (fetched : Fetched) (r : IsReady p s row fetched) where
  pub some_run : 0 < length s.calls
  some_run = let n = ap (λ (z : List Call). length z) r.are in omega (arith, n)

  -- of the running call
  pub on_first : (P : Call → Type 0) → P r.first → OfRunning P s.calls
  on_first P h = subst (OfRunning P) (sym r.are) h

  pub of_first : (P : Call → Type 0) → OfRunning P s.calls → P r.first
  of_first P h = subst (OfRunning P) r.are h

  pub all_first : (P : Call → Type 0) → All P s.calls → P r.first
  all_first P h = All-head P r.first r.others (subst (All P) r.are h)

  pub place_here : Means p → (place : Place) → OfRunning (λ c. place ≡ place_at row c.at) s.calls → place_of p.tables place ≡ r.place
  place_here means place h = ap (place_of p.tables) (of_first (λ c. place ≡ place_at row c.at) h) ∙ place_is p means row r.first.at r.place r.place_is

pub place_found : (row : Row) (cs : List Call) (offset line : ℕ) → OfRunning (λ c. offset ≡ c.at) cs → line ≡ lines.line_of row.line_table.now offset
    → OfRunning (λ c. (let place : Place = record { file = row.source; line = line; name = row.name } in place) ≡ place_at row c.at) cs
place_found row [] offset line at is = at
place_found row (c ∷ cs) offset line at is =
    ap (λ (n : ℕ). let place : Place = record { file = row.source; line = n; name = row.name } in place) (is ∙ ap (lines.line_of row.line_table.now) at)
