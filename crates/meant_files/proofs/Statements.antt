-- The instructions of statements import what the statements do, in their order.
use Rattle.std.proofs.Common.{◌≡◌, ℕ, suc, List, [], ◌∷◌, ◌++◌, Some, slice_get, refl, sym, ap, ◌∙◌, append_assoc}
use Rattle.tr_source.specs.bc_scheme.bc_ops.declared.instr.Op.TheVariants as ops
use Rattle.tr_source.specs.bc_scheme.bc_machine.Library.{Names}
use Rattle.tr_source.specs.py_tree.declared.stmt.Alias.{Alias}
use Rattle.tr_source.specs.bc_scheme.py_meaning.Tree.{Name, Stmt, Block, Branches, Handlers}
use Rattle.tr_source.specs.bc_scheme.py_meaning.Statements.{bound_name}
use Rattle.tr_source.specs.bc_scheme.Context.{Context}
use Rattle.tr_source.specs.bc_scheme.Statements.{Around, StandsM, StandsS, StandsB, StandsI, StandsX, StandsH, no_import, imported, «do», assign, aug_name, aug_attr, aug_index, delete, pass, «break», «continue», return_none, «return», reraise, raise, no_assert, no_assert_with, assert, assert_with, «import», from, «if», «while», «for», «try», finally, try_finally, def, no_stmt, stmt, «else», last_branch, branch, «except», no_clause, any, on, on_as}
use Rattle.meant_files.specs.Imported.{names_of, imports, imports_in, imports_of, imports_by}
use Rattle.meant_files.proofs.Quiet.{from_at, one_line, Quiet, ◌>>◌, nowhere, quiet, quiet_load, quiet_store, quiet_delete, quiet_e, quiet_t, quiet_a, quiet_gs, quiet_r, quiet_n, quiet_f, quiet_j, quiet_def}

-- what is imported between two positions
pub record Goes (c : Context) (p : ℕ) (names : List Name) (q : ℕ) : Type 0 where
  pub is : from_at c p ≡ names ++ from_at c q

still : {c : Context} {p q : ℕ} → Quiet c p q → Goes c p [] q
still a = record { is = a.same }

behind : {c : Context} {p m q : ℕ} {names : List Name} → Quiet c p m → Goes c m names q → Goes c p names q
behind a g = record { is = a.same ∙ g.is }

ended : {c : Context} {p m q : ℕ} {names : List Name} → Goes c p names m → Quiet c m q → Goes c p names q
ended {names = names} g a = record { is = g.is ∙ ap (λ (z : List Name). names ++ z) a.same }

joined : {c : Context} {p m q : ℕ} {some others : List Name} → Goes c p some m → Goes c m others q → Goes c p (some ++ others) q
joined {c = c} {q = q} {some = some} {others = others} g k = record { is = g.is ∙ ap (λ (z : List Name). some ++ z) k.is ∙ sym (append_assoc some others (from_at c q)) }

-- an import
here : {c : Context} {n p : ℕ} (name : Name) → slice_get c.lines p ≡ Some (record { item = Names ops.ImportName name; line = n }) → Goes c p (name ∷ []) (suc p)
here {c = c} {n = n} {p = p} name h = record { is = one_line c.lines p (record { item = Names ops.ImportName name; line = n }) h }

of_names : {c : Context} {line p q : ℕ} {aliases : List Alias} → StandsM c line p aliases q → Goes c p (names_of aliases) q
of_names no_import = still nowhere
of_names (imported {a = a} h h1 h2 d h3 d1) =
    behind (quiet h refl >> quiet h1 refl) (joined (here a.name h2) (behind (quiet_r d >> quiet_store (bound_name a.name a.bound) h3) (of_names d1)))

mutual
  of_stmt : {c : Context} {a : Around} {line p q : ℕ} {s : Stmt} → StandsS c a line p s q → Goes c p (imports_in s) q
  of_stmt («do» d h) = still (quiet_e d >> quiet h refl)
  of_stmt (assign d d1) = still (quiet_e d >> quiet_a d1)
  of_stmt (aug_name {n = n} h d h1 h2) = still (quiet_load n h >> quiet_e d >> quiet h1 refl >> quiet_store n h2)
  of_stmt (aug_attr d h h1 d1 h2 h3 h4) = still (quiet_e d >> quiet h refl >> quiet h1 refl >> quiet_e d1 >> quiet h2 refl >> quiet h3 refl >> quiet h4 refl)
  of_stmt (aug_index d d1 h h1 d2 h2 h3 h4) = still (quiet_e d >> quiet_e d1 >> quiet h refl >> quiet h1 refl >> quiet_e d2 >> quiet h2 refl >> quiet h3 refl >> quiet h4 refl)
  of_stmt (delete d) = still (quiet_gs d)
  of_stmt pass = still nowhere
  of_stmt («break» d) = still (quiet_j d)
  of_stmt («continue» d) = still (quiet_j d)
  of_stmt (return_none h h1) = still (quiet h refl >> quiet h1 refl)
  of_stmt («return» d h) = still (quiet_e d >> quiet h refl)
  of_stmt (reraise h) = still (quiet h refl)
  of_stmt (raise d h) = still (quiet_e d >> quiet h refl)
  of_stmt (no_assert level) = still nowhere
  of_stmt (no_assert_with level) = still nowhere
  of_stmt (assert level d h h1 h2) = still (quiet_e d >> quiet h refl >> quiet h1 refl >> quiet h2 refl)
  of_stmt (assert_with level d h h1 d1 h2 h3) = still (quiet_e d >> quiet h refl >> quiet h1 refl >> quiet_e d1 >> quiet h2 refl >> quiet h3 refl)
  of_stmt («import» d) = of_names d
  of_stmt (from {x = x} h d h1 h2 d1 h3) = ended (behind (quiet h refl >> quiet_n d >> quiet h1 refl) (here x h2)) (quiet_f d1 >> quiet h3 refl)
  of_stmt («if» d) = of_branches d
  of_stmt («while» d h d1 h1 d2) = behind (quiet_e d >> quiet h refl) (joined (of_block d1) (behind (quiet h1 refl) (of_block d2)))
  of_stmt («for» d h h1 d1 d2 h2 d3) = behind (quiet_e d >> quiet h refl >> quiet h1 refl >> quiet_t d1) (joined (of_block d2) (behind (quiet h2 refl) (of_block d3)))
  of_stmt («try» d) = of_clauses d
  of_stmt (finally h d h1 d1 h2) = behind (quiet h refl) (joined (of_block d) (behind (quiet h1 refl) (ended (of_block d1) (quiet h2 refl))))
  of_stmt (try_finally h d h1 d1 h2) = behind (quiet h refl) (joined (of_clauses d) (behind (quiet h1 refl) (ended (of_block d1) (quiet h2 refl))))
  of_stmt (def {x = x} child d h) = still (quiet_def d >> quiet_store x h)

  pub of_block : {c : Context} {a : Around} {p q : ℕ} {b : Block} → StandsB c a p b q → Goes c p (imports b) q
  of_block no_stmt = still nowhere
  of_block (stmt d d1) = joined (of_stmt d) (of_block d1)

  of_branches : {c : Context} {a : Around} {end p q : ℕ} {branches : Branches} → StandsI c a end p branches q → Goes c p (imports_of branches) q
  of_branches («else» d) = of_block d
  of_branches (last_branch d h d1) = behind (quiet_e d >> quiet h refl) (joined (of_block d1) (still nowhere))
  of_branches (branch more d h d1 h1 d2) = behind (quiet_e d >> quiet h refl) (joined (of_block d1) (behind (quiet h1 refl) (of_branches d2)))

  of_clauses : {c : Context} {a : Around} {line p q : ℕ} {b rest : Block} {handlers : Handlers} → StandsX c a line p b handlers rest q → Goes c p (imports b ++ imports_by handlers ++ imports rest) q
  of_clauses («except» h d h1 d1 h2 d2) = behind (quiet h refl) (joined (joined (of_block d) (behind (quiet h1 refl) (of_handlers d1))) (behind (quiet h2 refl) (of_block d2)))

  of_handlers : {c : Context} {a : Around} {end p q : ℕ} {handlers : Handlers} → StandsH c a end p handlers q → Goes c p (imports_by handlers) q
  of_handlers no_clause = still nowhere
  of_handlers (any h d h1) = behind (quiet h refl) (ended (of_block d) (quiet h1 refl))
  of_handlers (on h d h1 h2 h3 d1 h4 d2) = behind (quiet h refl >> quiet_e d >> quiet h1 refl >> quiet h2 refl >> quiet h3 refl) (joined (of_block d1) (behind (quiet h4 refl) (of_handlers d2)))
  of_handlers (on_as {x = x} h d h1 h2 h3 h4 d1 h5 h6 h7 h8 h9 h10 d2) =
      behind (quiet h refl >> quiet_e d >> quiet h1 refl >> quiet h2 refl >> quiet_store x h3 >> quiet h4 refl)
      (joined (of_block d1) (behind (quiet h5 refl >> quiet h6 refl >> quiet_store x h7 >> quiet_delete x h8 >> quiet h9 refl >> quiet h10 refl) (of_handlers d2)))
