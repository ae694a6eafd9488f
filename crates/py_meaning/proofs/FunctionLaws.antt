-- A formed tree by its events.
use Rattle.std.proofs.Common.{◌≡◌, ℕ, ◌+◌, true, false, List, [], ◌∷◌, length, map, refl, sym, ap, subst, ◌∙◌}
use Rattle.std.specs.List.{list_all}
use Rattle.std.proofs.lemmas.List.{length-map}
use Rattle.std.proofs.lemmas.List.Folds.{list_all-map}
use Rattle.py_scopes.specs.py_tree.declared.stmt.Module.{Module}
use Rattle.py_scopes.specs.py_tree.declared.stmt.Stmt.{Stmt}
use Rattle.py_scopes.specs.py_tree.Formed.{IsFormed, stmt_formed}
use Rattle.py_scopes.specs.declared.names.Tells.TheVariants.{Bound, Declared}
use Rattle.py_scopes.specs.Names.{Table, firsts}
use Rattle.py_scopes.specs.Events as events
use Rattle.py_scopes.specs.Scopes.{Mark, locals_below, own, marks_of, slots_of, IsFaultless}
use Rattle.py_scopes.specs.Scopes as scopes
use Rattle.py_meaning.specs.Tree.{Function, functions}
use Rattle.py_meaning.specs.Plain.{block, plain_stmt, plain_tree}
use Rattle.py_meaning.specs.Program.{Source, source_texts, module_text, function_texts}
use Rattle.py_meaning.specs.Locals.{bound_names, locals_of}
use Rattle.py_meaning.specs.Globals.{all, stmt_globals, globals_of}
use Rattle.py_meaning.specs.Numbers.{AllNumbered}
use Rattle.py_meaning.specs.Params.{AllBeginWithParams, AllHaveSlots}
use Rattle.py_meaning.specs.Words.{WellPlaced}
use Rattle.py_meaning.proofs.Fits.{FitsBlock}
use Rattle.py_meaning.proofs.Parts.{BlockFits, block_fits}
use Rattle.py_meaning.proofs.Whole.{stmt_fits}
use Rattle.py_meaning.proofs.Slots.{locals_from, below_is, rows_are, length_rows}
use Rattle.py_meaning.proofs.Words.{faultless_right, faultless_timely}
use Rattle.py_meaning.proofs.Numbering.{source_numbered}
use Rattle.py_meaning.proofs.Starts.{texts_begin, have_slots}

map_same : (ss : List Stmt) → map (λ (s : Stmt). s) ss ≡ ss
map_same [] = refl
map_same (s ∷ ss) = ap (λ (more : List Stmt). s ∷ more) (map_same ss)

body_fits : (ss : List Stmt) → list_all (λ stmt. stmt) (map stmt_formed ss) ≡ true → BlockFits (block (map plain_stmt ss)) (λ looped. events.body looped (map events.stmt_events ss)) (all (map stmt_globals ss))
body_fits ss =
    let P : List Stmt → Type 0 = λ z. list_all (λ stmt. stmt) (map stmt_formed z) ≡ true → BlockFits (block (map plain_stmt z)) (λ looped. events.body looped (map events.stmt_events z)) (all (map stmt_globals z)) in
    subst P (map_same ss) (block_fits (λ (s : Stmt). s) stmt_fits ss)

module _ (tree : Module) (formed : IsFormed tree) where
  tree_fits : FitsBlock 1 (1 + (block (map plain_stmt tree.body)).defs) false (events.events_of tree) (plain_tree tree) (all (map stmt_globals tree.body))
  tree_fits = body_fits tree.body (list_all-map (λ b. b) stmt_formed tree.body ∙ formed.parts) 1 false

  abbrev fs : List Function
  fs = functions (plain_tree tree)

  pub as_many : length (globals_of tree) ≡ length fs
  as_many = sym tree_fits.declares.count ∙ tree_fits.binds.count ∙ length-map fs bound_names

  count_is : scopes.functions (events.events_of tree) ≡ length fs
  count_is = tree_fits.binds.count ∙ length-map fs bound_names

  pub slots_are : slots_of tree ≡ locals_of fs (globals_of tree)
  slots_are =
      let ms = marks_of tree in
      let bound : Table = own Bound ms in
      let declared : Table = own Declared ms in
      below_is bound declared (scopes.functions (events.events_of tree)) ∙ ap (locals_from bound declared 0) count_is
      ∙ rows_are bound declared fs (globals_of tree) 0 as_many (λ f h. ap firsts (tree_fits.binds.others 0 f [] refl)) (λ f h. ap firsts (tree_fits.declares.others 0 f [] refl))

  pub slots_count : length (slots_of tree) ≡ length fs
  slots_count = ap length slots_are ∙ length_rows fs (globals_of tree)

  pub placed : IsFaultless tree → WellPlaced false false (plain_tree tree)
  placed h = tree_fits.words 0 [] (faultless_right (marks_of tree) h)

  pub numbered : (source : Source) (base : ℕ) → source.body ≡ plain_tree tree → AllNumbered (source_texts source.file source base)
  numbered source base e =
      let fits = subst (λ b. FitsBlock 1 (1 + (block (map plain_stmt tree.body)).defs) false (events.events_of tree) b (all (map stmt_globals tree.body))) (sym e) tree_fits in
      source_numbered source.file source base 1 _ (functions source.body) fits.rises fits.inner

  pub begin : (source : Source) (base : ℕ) → IsFaultless tree → source.body ≡ plain_tree tree → source.locals ≡ slots_of tree → AllBeginWithParams (source_texts source.file source base)
  begin source base h e l =
      subst (λ b. AllBeginWithParams (module_text source.file source base ∷ function_texts source.file source base (functions b) source.locals)) (sym e)
      (subst (λ tables. AllBeginWithParams (module_text source.file source base ∷ function_texts source.file source base fs tables)) (sym (l ∙ slots_are))
      (texts_begin source.file source base fs (globals_of tree) tree_fits.distinct (tree_fits.kept [] 0 [] (faultless_timely (marks_of tree) h)) as_many))

  pub have : (source : Source) (base : ℕ) → IsFaultless tree → source.body ≡ plain_tree tree → source.locals ≡ slots_of tree → AllHaveSlots (source_texts source.file source base)
  have source base h e l = have_slots (source_texts source.file source base) (begin source base h e l)
