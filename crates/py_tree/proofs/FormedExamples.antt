-- Formed trees and others, computed.
use Rattle.std.proofs.Common.{◌≡◌, ℕ, ◌+◌, ◌<◌, ◌^◌, Bool, true, false, ◌&&◌, List, [], ◌∷◌, ◌++◌, map, None, refl, sym, ap, ◌∙◌, arith}
use Rattle.std.specs.List.{flat_map, sum}
use Rattle.py_tree.specs.declared.stmt.Module.{Module}
use Rattle.py_tree.specs.declared.stmt.Stmt.{Stmt, roll-Stmt}
use Rattle.py_tree.specs.declared.stmt.StmtKind.{StmtKind}
use Rattle.py_tree.specs.declared.stmt.StmtKind.TheVariants as s
use Rattle.py_tree.specs.Formed.{never_fall, stmt_formed, stmt_lines, stmt_defs, IsFormed}
use Rattle.py_tree.proofs.Formed.{both}
use Rattle.py_tree.proofs.Statements.{block_formed, formed_stmt, formed_Pass, formed_Try}
use Rattle.py_tree.proofs.Lines.{lines_stmt, lines_Pass}
use Rattle.py_tree.proofs.Defs.{defs_stmt, defs_Pass, sum_cons}

abbrev stands : ℕ → StmtKind → Stmt
stands line kind = roll-Stmt (record { line = line; kind = kind })

abbrev passes : ℕ → Stmt
passes line = stands line s.Pass

-- two `pass` in these lines
abbrev pair : ℕ → ℕ → Module
pair a b = record { body = passes a ∷ passes b ∷ [] }

passes_formed : (line : ℕ) → stmt_formed (passes line) ≡ true
passes_formed line = formed_stmt line s.Pass ∙ formed_Pass

passes_lines : (line : ℕ) → stmt_lines (passes line) ≡ line ∷ []
passes_lines line = lines_stmt line s.Pass ∙ ap (λ q. line ∷ q) lines_Pass

passes_defs : (line : ℕ) → stmt_defs (passes line) ≡ 0
passes_defs line = defs_stmt line s.Pass ∙ defs_Pass

pair_lines : (a b : ℕ) → flat_map stmt_lines (pair a b).body ≡ a ∷ b ∷ []
pair_lines a b = ap (λ q. q ++ (stmt_lines (passes b) ++ [])) (passes_lines a) ∙ ap (λ q. a ∷ (q ++ [])) (passes_lines b)

pair_formed : (a b : ℕ) → never_fall 1 (a ∷ b ∷ []) ≡ true → IsFormed (pair a b)
pair_formed a b h = record {
  parts = both (stmt_formed (passes a)) (stmt_formed (passes b) && true) (passes_formed a) (both (stmt_formed (passes b)) true (passes_formed b) refl);
  lines = ap (never_fall 1) (pair_lines a b) ∙ h;
  defs = let e = passes_defs a in let f = passes_defs b in let c = sum_cons stmt_defs (passes a) (passes b ∷ []) in let d = sum_cons stmt_defs (passes b) [] in omega arith;
}

in_two_lines : IsFormed (pair 1 3)
in_two_lines = pair_formed 1 3 refl

in_one_line : IsFormed (pair 2 2)
in_one_line = pair_formed 2 2 refl

never : false ≡ true → ⊥
never h = absurd cc

-- a line falls
line_falls : ¬ IsFormed (pair 2 1)
line_falls h = never (ap (never_fall 1) (sym (pair_lines 2 1)) ∙ h.lines)

-- no line is 0
line_none : ¬ IsFormed (pair 0 1)
line_none h = never (ap (never_fall 1) (sym (pair_lines 0 1)) ∙ h.lines)

alone : (a : Bool) → (a && true) ≡ true → a ≡ true
alone true h = refl
alone false h = h

never_behind : (a : Bool) → (a && false) ≡ true → ⊥
never_behind true h = never h
never_behind false h = never h

abbrev tries : StmtKind
tries = s.Try (passes 1 ∷ []) [] [] None

-- a `try` doesn't stand alone
try_alone : ¬ IsFormed (record { body = stands 1 tries ∷ [] })
try_alone h =
    let is = formed_stmt 1 tries ∙ formed_Try (passes 1 ∷ []) [] [] None in
    never_behind (block_formed (passes 1 ∷ [])) (sym is ∙ alone (stmt_formed (stands 1 tries)) h.parts)
