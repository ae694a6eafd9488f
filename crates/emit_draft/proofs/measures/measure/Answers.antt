use Rattle.std.proofs.Common.{ℕ, length, sym, ap, ap₂, ◌∙◌}
use Rattle.emit_measures.specs.bc_scheme.py_meaning.Tree.{Block}
use Rattle.emit_measures.specs.bc_scheme.Heights.{tall_block, held_in}
use Rattle.emit_measures.specs.Limits.{saturated}
use Rattle.emit_draft.proofs.measures.measure.Goals as goal

pub returns-clause-text : goal.returns-clause-text
returns-clause-text c text n level locals params body = record {
  locals = c.len.ensures ∙ ap length (sym locals);
  params = sym params;
  height = c.block_height.ensures n ∙ ap₂ (λ (k : ℕ) (b : Block). saturated (tall_block k b)) (sym level) (sym body);
  entries = c.block_entries.ensures n ∙ ap (λ (b : Block). saturated (held_in b)) (sym body);
}
