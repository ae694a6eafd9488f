-- What small modules import, what is asked for, and how small folders load.
use Rattle.std.proofs.Common.{◌≡◌, ℕ, List, [], ◌∷◌, codes, map, refl, pos}
use Rattle.std.specs.Prelude.{◌++◌, Some, None, if◌then◌else◌}
use Rattle.std.specs.Str.{bytes_eq}
use Rattle.bc_ops.specs.declared.instr.Op.TheVariants as ops
use Rattle.bc_ops.specs.declared.instr.Instr.TheVariants as instrs
use Rattle.mpy_reader.specs.mpy_tree.Resolved.{Resolved, plain, named, Body, node, no_more, more}
use Rattle.mpy_io.specs.Files.{FileOf}
use Rattle.mpy_reader.specs.mpy_tree.Raw.{Module}
use Rattle.bc_library.specs.Shelf.{no_entries, with_refused}
use Rattle.library_files.specs.declared.entry.Entry.TheVariants as entries
use Rattle.library_files.specs.Asked.{asked_for}
use Rattle.library_files.specs.Comes.{ComesTo, IsVerifiedFile}
use Rattle.library_files.specs.Imports.{imports_of}
use Rattle.library_files.specs.Loads.{Loaded, Loads, ends, next, taken}

abbrev body_of : List Resolved → Body
body_of instructions = record {
  name = codes "<module>";
  args = [];
  defaults = 0;
  n_state = 2;
  n_exc = 0;
  lines = map (λ instruction. record { item = instruction; line = 1 }) instructions;
}

abbrev importing : List ℕ → List Resolved
importing name = plain (instrs.Int (pos 0)) ∷ plain (instrs.Plain ops.LoadConstNone) ∷ named ops.ImportName name ∷ named ops.StoreName name ∷ []

-- a code without instructions
nothing : imports_of (node (body_of []) no_more) ≡ []
nothing = refl

-- names that are loaded and stored aren't imported
one : imports_of (node (body_of (importing (codes "a"))) no_more) ≡ codes "a" ∷ []
one = refl

-- the code's own imports come before those of its functions, the first function's before the second's, and a name
-- that is imported twice stands twice
preorder : imports_of (node (body_of (importing (codes "a"))) (
    more (node (body_of (importing (codes "b"))) (more (node (body_of (importing (codes "p.q"))) no_more) no_more)) (
    more (node (body_of (importing (codes "a"))) no_more) no_more)))
    ≡ codes "a" ∷ codes "b" ∷ codes "p.q" ∷ codes "a" ∷ []
preorder = refl

-- what is asked for where a name is imported
-- ==========================================

asked_plain : asked_for (codes "a") ≡ codes "a" ∷ []
asked_plain = refl

asked_dotted : asked_for (codes "p.q.r") ≡ codes "p" ∷ codes "p.q" ∷ codes "p.q.r" ∷ []
asked_dotted = refl

-- nothing below the built-in module, nor for a name that isn't plain
asked_port : asked_for (codes "port.x") ≡ []
asked_port = refl

asked_unplain : asked_for (codes "a-b") ≡ []
asked_unplain = refl

asked_empty : asked_for (codes "p..q") ≡ []
asked_empty = refl

-- small folders
-- =============

no_files : FileOf
no_files name = None

-- a name that the folder doesn't have isn't in the library
absent : Loads (ComesTo no_files []) no_entries 0 [] (codes "a" ∷ []) [] (Loaded no_entries)
unfolding no_files
absent =
    next no_entries 0 (codes "a" ∷ []) [] (codes "a") [] (Loaded no_entries) refl
    (taken no_entries 0 (codes "a") [] [] [] entries.Absent [] (Loaded no_entries) refl refl refl refl (ends no_entries 0))

one_byte : FileOf
one_byte name = if bytes_eq name (codes "a.mpy") then Some (0x4d ∷ []) else None

no_module : (m : Module) → IsVerifiedFile (0x4d ∷ []) m → ⊥
no_module m is =
    let s = is.file.spelling in
    let wrong : 0x4d ∷ [] ≡ 0x4d ∷ 6 ∷ 0 ∷ m.bits ∷ (s.qstr_count ++ (s.object_count ++ (s.qstrs ++ (s.objects ++ s.code)))) = s.text_is in
    cc

-- a file of no module is a refused entry
refused : Loads (ComesTo one_byte []) no_entries 0 [] (codes "a" ∷ []) [] (Loaded (with_refused no_entries (codes "a")))
unfolding one_byte
refused =
    next no_entries 0 (codes "a" ∷ []) [] (codes "a") [] (Loaded (with_refused no_entries (codes "a"))) refl
    (taken no_entries 0 (codes "a") [] [] [] entries.Refused [] (Loaded (with_refused no_entries (codes "a"))) refl no_module refl refl
    (ends (with_refused no_entries (codes "a")) 0))
