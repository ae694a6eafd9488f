use Rattle.std.proofs.Common.{ℕ, sym, subst}
use Rattle.mpy_base.specs.World.{Heap, AText, IsA}
use Rattle.prim_builtins.specs.arena_heap.declared.value.Value.{Value}
use Rattle.prim_types.proofs.texts.fill_text.Goals as goal

pub put_part-requires-clause-text : goal.put_part-requires-clause-text
put_part-requires-clause-text g c = subst (λ (w : Heap Value ℕ). IsA w.objects AText c.args.t.cell) (sym c.text_at_once.ensures.same) c.requires.text
