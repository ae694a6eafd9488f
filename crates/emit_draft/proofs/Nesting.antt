-- Codes with their children.
use Rattle.std.proofs.Common.{◌≡◌, ℕ, suc, ◌+◌, List, [], ◌∷◌, length, map, refl, sym, ap, ap₂, subst, ◌∙◌, arith}
use Rattle.emit_measures.specs.bc_scheme.mpy_tree.declared.module.Code.{Code}
use Rattle.emit_measures.specs.bc_scheme.mpy_tree.Resolved.{Trees, no_more, more, node, IsTreeOf, AreTreesOf}
use Rattle.emit_measures.specs.bc_scheme.bc_machine.Library.{size_of, numbers_from, code_of}
use Rattle.emit_measures.specs.bc_scheme.py_meaning.Tree.{Block}
use Rattle.emit_measures.specs.bc_scheme.Translation.{own}
use Rattle.emit_draft.specs.declared.draft.Draft.{Draft}
use Rattle.emit_draft.specs.Emits.{line_at}
use Rattle.emit_draft.specs.declared.codes.CodeHead.{CodeHead}
use Rattle.emit_draft.specs.declared.codes.CodeLines.{CodeLines}
use Rattle.emit_draft.specs.Finished.{IsFinished, IsCodeOf, body_of}
use Rattle.emit_draft.specs.Children.{starts, sizes, tree_sizes}
use Rattle.emit_draft.proofs.Making.{has_body}

pub nested : (d : Draft) (head : CodeHead) (made : CodeLines) (inner : List Code) (code : Code) (trees : Trees) → IsFinished d made → IsCodeOf head made inner code → AreTreesOf trees inner → IsTreeOf (node (body_of head made) trees) code
nested d head made inner code trees f is h = (has_body d head made inner code f is, subst (AreTreesOf trees) (sym is.children) h)

pub nested_lines : (d : Draft) (head : CodeHead) (made : CodeLines) (children : List ℕ) → IsFinished d made → (code_of (body_of head made) children).lines ≡ map (line_at d.labels.items) d.lines
nested_lines d head made children f = f.reads (length (body_of head made).lines)

numbered : (n : ℕ) (trees : Trees) → numbers_from n trees ≡ starts n (tree_sizes trees)
numbered n no_more = refl
numbered n (more tree trees) = ap (λ ns. n ∷ ns) (numbered (n + size_of tree) trees)

from_none : (ns : List ℕ) → ns ≡ map (λ m. 0 + m) ns
from_none [] = refl
from_none (n ∷ ns) = let e : n ≡ 0 + n = omega arith in ap₂ (λ (m : ℕ) (ms : List ℕ). m ∷ ms) e (from_none ns)

pub nested_numbers : (n : ℕ) (b : Block) (trees : Trees) → own b ≡ starts (suc n) (sizes b) → tree_sizes trees ≡ sizes b → numbers_from (suc n) trees ≡ map (λ m. 0 + m) (own b)
nested_numbers n b trees e f = numbered (suc n) trees ∙ ap (starts (suc n)) f ∙ sym e ∙ from_none (own b)
