-- Two rows of one code say the same, and what is fetched from one is fetched from the other.
use Rattle.std.proofs.Common.{◌≡◌, ℕ, List, ◌∷◌, length, map, Some, sym, ap, ap₂, subst, ◌∙◌}
use Rattle.std.proofs.lemmas.Option.{same_Some}
use Rattle.bc_resolved.specs.bc_verify.mpy_tree.Raw as raw
use Rattle.bc_resolved.specs.bc_verify.mpy_tree.Codes.{Placed}
use Rattle.vm_states.specs.bc_ops.Listing.{item}
use Rattle.vm_states.proofs.bc_ops_lemmas.Lists.{one_listing}
use Rattle.bc_resolved.specs.bc_verify.bc_prelude.declared.prelude.Prelude.{Prelude}
use Rattle.bc_resolved.specs.bc_verify.bc_prelude.Lines as lines
use Rattle.bc_resolved.specs.bc_verify.bc_flow.Code.{locals}
use Rattle.frame_calls.specs.bc_labels.Positions.{Listed}
use Rattle.vm_states.specs.bc_library.Shelf.{Shelf, table_text}
use Rattle.vm_states.specs.bc_library.Texts.{text_numbered}
use Rattle.frame_calls.specs.bc_machine.Library.{Code}
use Rattle.vm_states.specs.bc_rows.declared.row.Row.{Row}
use Rattle.vm_states.specs.bc_rows.Rows.{IsRowOf, IsRow}
use Rattle.vm_states.specs.bc_rows.Runs.{RunsAs, line_at}
use Rattle.vm_states.proofs.bc_rows_lemmas.Preludes.{SameParts, same_parts}
use Rattle.vm_states.specs.vm_fetching.declared.instruction.Fetched.{Fetched}
use Rattle.vm_states.specs.vm_fetching.Shows.{item_of_fetched, LocalIsWithin}
use Rattle.vm_states.specs.Ready.{IsFetched}

-- two rows say the same of all that a fetch reads
record SameRow (shelf : Shelf) (one other : Row) : Type 0 where
  pub instructions : one.instructions.now ≡ other.instructions.now
  pub table : one.line_table.now ≡ other.line_table.now
  pub texts : map (text_numbered shelf.pool) (one.name ∷ one.params) ≡ map (text_numbered shelf.pool) (other.name ∷ other.params)
  pub given : one.given ≡ other.given
  pub locals : one.locals ≡ other.locals
  pub children : one.children ≡ other.children

of_code : (shelf : Shelf) (i : ℕ) (n : Placed) (one other : Row) → IsRowOf shelf i n one → IsRowOf shelf i n other → SameRow shelf one other
of_code shelf i n one other a b =
    let parts : SameParts n.bytes a.prelude b.prelude a.begins b.begins = same_parts n.bytes a.prelude b.prelude a.begins b.begins in
    let instructions : one.instructions.now ≡ other.instructions.now = a.instructions ∙ (parts.instructions ∙ sym b.instructions) in
    let args : a.prelude.args ≡ b.prelude.args = ap (λ (p : Prelude). p.args) parts.prelude in
    let lists = one_listing other.instructions.now a.list.items b.list.items a.list.offsets b.list.offsets (subst (λ (z : List ℕ). Listed z a.list) instructions a.listed) b.listed in
    record {
      instructions = instructions;
      table = a.line_table ∙ (parts.lines ∙ sym b.line_table);
      texts = a.names ∙ (ap (map (table_text shelf i)) parts.indexes ∙ sym b.names);
      given = a.given ∙ (ap (λ (p : Prelude). p.defaults) parts.prelude ∙ sym b.given);
      locals = a.locals ∙ (ap₂ locals args lists.0 ∙ sym b.locals);
      children = a.children ∙ sym b.children;
    }

of_rows : (shelf : Shelf) (i k : ℕ) (one other : Row) → IsRow shelf i k one → IsRow shelf i k other → SameRow shelf one other
of_rows shelf i k one other a b =
    let codes : a.code ≡ b.code = same_Some a.code b.code (sym a.there ∙ b.there) in
    of_code shelf i b.code one other (subst (λ (n : Placed). IsRowOf shelf i n one) codes a.is_row) b.is_row

runs_too : (shelf : Shelf) (m : raw.Module) (one other : Row) (code : Code) → SameRow shelf one other → RunsAs shelf m other code → RunsAs shelf m one code
runs_too shelf m one other code s r =
    let texts : map (text_numbered shelf.pool) (one.name ∷ one.params) ≡ map Some (code.name ∷ code.params) = s.texts ∙ ap₂ (λ (x : _) (xs : List _). x ∷ xs) r.name r.params in
    record {
      name = cc;
      params = cc;
      given = s.given ∙ r.given;
      locals = s.locals ∙ r.locals;
      children = s.children ∙ r.children;
      as_many = λ l listed. r.as_many l (subst (λ (z : List ℕ). Listed z l) s.instructions listed);
      line = λ l at instr end listed starts reads.
          r.line l at instr end (subst (λ (z : List ℕ). Listed z l) s.instructions listed) starts reads
          ∙ ap (λ (z : List ℕ). Some (line_at m (length l.items) z at (item l.offsets end instr))) (sym s.table);
    }

pub fetched_too : (shelf : Shelf) (i k at : ℕ) (one other : Row) (f : Fetched) → IsRow shelf i k one → IsRow shelf i k other → IsFetched shelf i one at f → IsFetched shelf i other at f
fetched_too shelf i k at one other f is_one is_other fetched tables m code l are there runs listed starts =
    let s = of_rows shelf i k one other is_one is_other in
    let g = fetched tables m code l are there (runs_too shelf m one other code s runs) (subst (λ (z : List ℕ). Listed z l) (sym s.instructions) listed) starts in
    record {
      line = g.line ∙ ap (λ (z : List ℕ). Some (record { item = item_of_fetched tables l.offsets f.instruction; line = lines.line_of z at })) s.table;
      next = g.next;
      begins = g.begins;
      target = g.target;
      local = subst (λ (n : ℕ). LocalIsWithin n f.instruction) s.locals g.local;
      text = g.text;
      constant = g.constant;
    }
