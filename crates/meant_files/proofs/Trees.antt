-- The tree of a translation imports what its source does.
use Rattle.std.proofs.Common.{◌≡◌, ℕ, zero, suc, ◌+◌, Bool, true, false, List, [], ◌∷◌, ◌++◌, length, map, drop, Option, Some, None, refl, sym, ap, ap₂, ◌∙◌, append-nil, arith}
use Rattle.std.specs.List.{flat_map, filter_map}
use Rattle.std.proofs.lemmas.List.Concat.{flat_map-append}
use Rattle.tr_source.specs.bc_scheme.bc_ops.declared.instr.Op.{Op}
use Rattle.tr_source.specs.bc_scheme.bc_ops.declared.instr.Op.TheVariants as ops
use Rattle.tr_source.specs.bc_scheme.mpy_tree.Resolved.{Resolved, plain, named, object, jump, unwind, ResolvedLine, Tree, node, Trees, no_more, more, ResolvedModule}
use Rattle.tr_source.specs.bc_scheme.py_meaning.Tree.{Name, Function, functions}
use Rattle.tr_source.specs.bc_scheme.py_meaning.Program.{Source, Text, source_texts, function_texts}
use Rattle.tr_source.specs.bc_scheme.bc_machine.Library.{Code, Line, Names, item_of, line_of, size_of, codes_from, codes_of}
use Rattle.tr_source.specs.bc_scheme.Context.{Context}
use Rattle.tr_source.specs.bc_scheme.Translation.{StandsCode, StandAll, Translates}
use Rattle.meant_files.specs.Imported.{imports, source_imports}
use Rattle.frozen_files.specs.library_files.Imports as held
use Rattle.frozen_files.specs.library_files.Imports.{import_of}
use Rattle.meant_files.proofs.Quiet.{imported_by, imported, Quiet, ◌>>◌, quiet}
use Rattle.meant_files.proofs.Statements.{of_block}

-- of an instruction, and of a code's lines
-- ========================================

-- what the lines of a code import
abbrev code_imports : Code → List Name
code_imports code = imported code.lines

abbrev listed : Option Name → List Name
listed (Some n) = n ∷ []
listed None = []

of_op : (op : Op) (n : Name) → imported_by (Names op n) ≡ listed (import_of (named op n))
of_op ops.ImportName n = refl
of_op op n = refl

of_item : (size : ℕ) (r : Resolved) → imported_by (item_of size r) ≡ listed (import_of r)
of_item size (plain instr) = refl
of_item size (named op text) = of_op op text
of_item size (object value) = refl
of_item size (jump op target) = refl
of_item size (unwind target byte) = refl

put_front : (o : Option Name) (ns ms : List Name) → ns ≡ ms → (let all : List Name = listed o ++ ns in all) ≡ Rattle.std.specs.List.cons_option o ms
put_front (Some n) ns ms e = ap (λ (z : List Name). n ∷ z) e
put_front None ns ms e = e

of_lines : (size : ℕ) (ls : List ResolvedLine) → imported (map (line_of size) ls) ≡ filter_map import_of (map (λ (l : ResolvedLine). l.item) ls)
of_lines size [] = refl
of_lines size (l ∷ ls) =
    ap (λ (z : List Name). z ++ imported (map (line_of size) ls)) (of_item size l.item)
    ∙ put_front (import_of l.item) (imported (map (line_of size) ls)) (filter_map import_of (map (λ (l : ResolvedLine). l.item) ls)) (of_lines size ls)

mutual
  of_tree : (number : ℕ) (tree : Tree) → flat_map code_imports (codes_from number tree) ≡ held.imports_of tree
  of_tree number (node body trees) = ap₂ (λ (x y : List Name). x ++ y) (of_lines (length body.lines) body.lines) (of_trees (suc number) trees)

  of_trees : (number : ℕ) (trees : Trees) → flat_map code_imports (codes_of number trees) ≡ held.imports_of_all trees
  of_trees number no_more = refl
  of_trees number (more tree trees) =
      flat_map-append code_imports (codes_from number tree) (codes_of (number + size_of tree) trees)
      ∙ ap₂ (λ (x y : List Name). x ++ y) (of_tree number tree) (of_trees (number + size_of tree) trees)

-- of a text, and of all
-- =====================

none_behind : (ls : List Line) (n : ℕ) → length ls ≡ n → imported (drop n ls) ≡ []
none_behind [] zero e = refl
none_behind [] (suc n) e = refl
none_behind (l ∷ ls) zero e = absurd (omega (arith, e))
none_behind (l ∷ ls) (suc n) e = none_behind ls n (omega (arith, e))

of_code : (all : List Code) (is_module : Bool) (text : Text) (code : Code) → StandsCode all is_module text code → code_imports code ≡ imports text.body
of_code all is_module text code s =
    let c : Context = record { lines = code.lines; level = text.level; is_module = is_module; locals = text.locals; children = code.children; base = text.base; codes = all } in
    let end : Quiet c s.last (suc (suc s.last)) = quiet s.none refl >> quiet s.return refl in
    let behind = end.same ∙ none_behind code.lines (suc (suc s.last)) s.length in
    (of_block s.body).is ∙ ap (λ (z : List Name). imports text.body ++ z) behind ∙ append-nil (imports text.body)

of_codes : (all : List Code) (is_module : Bool) (texts : List Text) (codes : List Code) → StandAll all is_module texts codes → flat_map code_imports codes ≡ flat_map (λ (text : Text). imports text.body) texts
of_codes all is_module [] codes s = ap (flat_map code_imports) s
of_codes all is_module (text ∷ texts) codes s =
    ap (flat_map code_imports) s.2 ∙ ap₂ (λ (x y : List Name). x ++ y) (of_code all is_module text s.0 s.3) (of_codes all false texts s.1 s.4)

-- the texts of a source are its module's and those of its functions
of_functions : (file : Name) (source : Source) (base : ℕ) (fs : List Function) (tables : List (List Name))
    → flat_map (λ (text : Text). imports text.body) (function_texts file source base fs tables) ≡ flat_map (λ (f : Function). imports f.body) fs
of_functions file source base [] tables = refl
of_functions file source base (f ∷ fs) [] = ap (λ (z : List Name). imports f.body ++ z) (of_functions file source base fs [])
of_functions file source base (f ∷ fs) (locals ∷ tables) = ap (λ (z : List Name). imports f.body ++ z) (of_functions file source base fs tables)

of_texts : (source : Source) → flat_map (λ (text : Text). imports text.body) (source_texts source.file source 0) ≡ source_imports source
of_texts source = ap (λ (z : List Name). imports source.body ++ z) (of_functions source.file source 0 (functions source.body) source.locals)

pub of_source : (source : Source) (m : ResolvedModule) → Translates source m → held.imports_of m.code ≡ source_imports source
of_source source m t = sym (of_tree 0 m.code) ∙ of_codes (codes_from 0 m.code) true (source_texts source.file source 0) (codes_from 0 m.code) t.codes ∙ of_texts source
