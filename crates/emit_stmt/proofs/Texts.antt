-- The code of a text, from that of its block.
use Rattle.std.proofs.Common.{◌≡◌, ℕ, false, [], length, map, sym, ap, ◌∙◌, subst, append-nil}
use Rattle.std.specs.Prelude.{◌||◌}
use Rattle.std.proofs.lemmas.List.{length-map}
use Rattle.emit_expr.specs.bc_machine.bc_ops.declared.instr.Op.TheVariants as ops
use Rattle.emit_expr.specs.bc_machine.bc_ops.declared.instr.Instr.TheVariants as instrs
use Rattle.emit_expr.specs.py_meaning.Tree.{Block}
use Rattle.emit_expr.specs.py_meaning.Plain.{Part}
use Rattle.emit_expr.specs.bc_scheme.Context.{Context, plain}
use Rattle.emit_expr.specs.bc_scheme.Statements.{Around, StandsB}
use Rattle.emit_expr.specs.emit_draft.declared.draft.Draft.{Draft}
use Rattle.emit_expr.specs.emit_draft.declared.draft.DraftItem.TheVariants as drafts
use Rattle.emit_expr.specs.emit_draft.declared.scope.Scope.{Scope}
use Rattle.emit_expr.specs.emit_draft.Draft.{Adds, Binds}
use Rattle.emit_expr.specs.emit_draft.Emits.{label_at, line_at, After}
use Rattle.emit_expr.proofs.emit_draft_lemmas.Lists.{or_false}
use Rattle.emit_stmt.specs.declared.jumps.Loop.{Loop}
use Rattle.emit_stmt.specs.Children.{made, AreChildren}
use Rattle.emit_stmt.specs.Crowded.{crowded_block}
use Rattle.emit_stmt.specs.Steps.{PutsBehind, IsBehind, behind}
use Rattle.emit_stmt.specs.Emits.{EmitsB}
use Rattle.emit_stmt.specs.Text.{StandsText, IsFinished, EmitsText}
use Rattle.emit_stmt.proofs.Keeps.{behind_after, Holds, hold, held}
use Rattle.emit_stmt.proofs.Loops.{block_emits}

abbrev pub no_loop : ℕ → Loop
no_loop end = record { end = end; next = end; entries = 0; iterator = false }

abbrev no_around : ℕ → Around
no_around end = record { brk = end; cont = end; count = 0; iterator = false }

pub text_held : {a b d : Draft} {s : Scope} {end after : ℕ} {part : Part Block} (n : ℕ) → Adds a b end → EmitsB b d s (no_loop end) 0 after part
    → Holds a d s (crowded_block a.level 0 (part.make n)) end (λ c labels p q. AreChildren c 0 (made (part.make n)) → StandsB c (no_around (label_at labels end)) p (part.make n) q)
text_held n l eb = hold l (block_emits n l.level eb)

text_row : {c : Context} {m m1 q end : ℕ} (body : Block) → length c.lines ≡ q → StandsB c (no_around end) 0 body m → end ≡ m → IsBehind c m (plain ops.LoadConstNone) m1 → IsBehind c m1 (plain ops.ReturnValue) q
    → StandsText c body
text_row {c = c} {m = m} body len sb is (behind h1) (behind h2) =
    record { last = m; length = len; body = subst (λ z. StandsB c (no_around z) 0 body m) is sb; none = h1; return = h2 }

after_all : (d : Draft) (s : Scope) (c : Context) → IsFinished d s c → After d s c d.labels.items
after_all d s c f = record {
  lines = ([], f.lines ∙ sym (append-nil (map (line_at d.labels.items) d.lines)));
  bound = λ l p e. e;
  level = f.level;
  reads = f.reads;
  roomy = f.roomy;
}

pub text_emits : {a b d f g h : Draft} {s : Scope} {end after level : ℕ} {part : Part Block} → a.level ≡ level → a.lines ≡ [] → a.crowded ≡ false → Adds a b end → EmitsB b d s (no_loop end) 0 after part → Binds d f end
    → PutsBehind f g (drafts.Plain (instrs.Plain ops.LoadConstNone)) → PutsBehind g h (drafts.Plain (instrs.Plain ops.ReturnValue)) → EmitsText h level s part
text_emits {a = a} {h = h} {s = s} {end = end} {level = level} {part = part} level_is empty roomy l eb bound p1 p2 =
    let whole = λ (n : ℕ). behind_after (behind_after (held (text_held n l eb) bound) p1) p2 in
    record {
      level = (whole 0).grown.level ∙ level_is;
      crowded = λ n. sym (or_false h.crowded) ∙ (whole n).crowded ∙ ap (λ z. z || crowded_block a.level 0 (part.make n)) roomy ∙ ap (λ z. crowded_block z 0 (part.make n)) level_is;
      stands = λ n c fin kids.
          let at = (whole n).stands c h.labels.items (after_all h s c fin) in
          let start : length a.lines ≡ 0 = ap length empty in
          let len : length c.lines ≡ length h.lines = ap length fin.lines ∙ length-map h.lines (line_at h.labels.items) in
          text_row (part.make n) len (subst (λ z. StandsB c (no_around (label_at h.labels.items end)) z (part.make n) at.1.0) start (at.1.1.0 kids)) at.1.1.1 at.1.2 at.2;
    }
