-- The laws of expressions, statements, calls and imports, of a program in a library of its modules.
use Rattle.std.proofs.Common.{◌≡◌, ℕ, suc, ◌+◌, ◌-◌, ◌*◌, ◌≤◌, pos, List, [], ◌∷◌, length, Some, refl, sym, ap, subst, arith}
use Rattle.bc_scheme.specs.mpy_base.Val.{Val, Nil, Truth, Int, Str, Fixed, Empty, Built, At, PlainWorld}
use Rattle.bc_scheme.specs.bc_ops.declared.instr.Op.TheVariants as ops
use Rattle.bc_scheme.specs.py_effects.Names.{Locals}
use Rattle.bc_scheme.specs.py_effects.Modules.{prefixes, first_of}
use Rattle.bc_scheme.specs.py_effects.Calling.{Keys}
use Rattle.bc_scheme.specs.py_meaning.Tree.{Name}
use Rattle.bc_scheme.specs.py_meaning.Program.{Program, Text, OfText, content_at}
use Rattle.bc_scheme.specs.py_meaning.Statements.{last_of}
use Rattle.bc_scheme.specs.py_meaning.Frames.{place_at}
use Rattle.bc_scheme.specs.bc_machine.Library.{Library}
use Rattle.bc_scheme.specs.bc_machine.State.{Slot, Value, Role, Frame, State}
use Rattle.bc_scheme.specs.bc_machine.Parts.{looked_on, new_frame}
use Rattle.bc_scheme.specs.bc_machine.Operations.{Operands}
use Rattle.bc_scheme.specs.bc_machine.Step as steps
use Rattle.bc_scheme.specs.bc_machine.Step.{call_function}
use Rattle.bc_scheme.specs.Context.{number}
use Rattle.bc_scheme.specs.Link.{Links}
use Rattle.sim_stmt.specs.Sites.{Site, at, Fits}
use Rattle.sim_stmt.specs.Order.{InOrder}
use Rattle.sim_stmt.specs.Lands.{Goes}
use Rattle.sim_stmt.specs.Follows.{pushed, laid, given_on, FollowsExpressions, FollowsStatements, FollowsBlocks, FollowsCalls, FollowsMethods, FollowsImports, HasSite}
use Rattle.sim_stmt.proofs.Goes.{GoesIn}
use Rattle.sim_stmt.proofs.Lands.{Falls, falls_over}
use Rattle.sim_stmt.proofs.Operands.{operands_are}
use Rattle.sim_stmt.proofs.Exprs.{SimApply, pushed_fits, pushed_falls, fits_one, looked_fits, looked_falls, method_sim}
use Rattle.sim_stmt.proofs.Sizes.{ssize, bsize}
use Rattle.sim_stmt.proofs.Blocks.{IsText, text_lines, text_name, text_locals, text_children, IsCode, b_sim}
use Rattle.sim_stmt.proofs.Calls.{apply_sim}
use Rattle.sim_stmt.proofs.Imports.{name_sim, last_is}
use Rattle.sim_stmt.proofs.Stmts.{Sims, sims}
use Rattle.sim_stmt.proofs.Linked.{greatest, linked, started_all}

-- without the counts that the induction needs
goes : (library : Library) (K : ℕ) (L : State → Type 0) (s : State) (t left spare owed more size : ℕ) → InOrder library s → GoesIn library K L s t left spare owed more size → Goes library L s (t - left) more
goes library K L s t left spare owed more size order g = let a = g.from order in record { by = a.by; few = omega (arith, a.few, a.falls); lands = a.lands }

-- arguments on the slots
given_fits : (site : Site) (args : List Val) (keys : Keys) (slots : List Slot) → Fits site.frame.entries (length slots) → Fits site.frame.entries (length (given_on args keys slots))
given_fits site args keys slots fits = pushed_fits site.frame.entries (laid keys) (pushed args slots) (pushed_fits site.frame.entries args slots fits)

given_falls : (site : Site) (env : Locals) (args : List Val) (keys : Keys) (slots1 slots : List Slot) → Fits site.frame.entries (length slots1) → Falls site env slots1 slots → Falls site env (given_on args keys slots1) slots
given_falls site env args keys slots1 slots fits same =
    pushed_falls site env (laid keys) (pushed args slots1) slots (pushed_fits site.frame.entries args slots1 fits) (pushed_falls site env args slots1 slots fits same)

-- names that are asked of the last module
wanted_last : (library : Library) (site : Site) (line p : ℕ) (f : Frame) (w : PlainWorld) (v : Val) → (v ≡ Nil → ⊥) → (names : List Name) → steps.wanted library (place_at site.meant line) p f site.waiting w v names ≡ last_of names
wanted_last library site line p f w Nil asks names = absurd (asks refl)
wanted_last library site line p f w (Truth b) asks names = sym (last_is names)
wanted_last library site line p f w (Int z) asks names = sym (last_is names)
wanted_last library site line p f w (Str text) asks names = sym (last_is names)
wanted_last library site line p f w (Fixed vs) asks names = sym (last_is names)
wanted_last library site line p f w Empty asks names = sym (last_is names)
wanted_last library site line p f w (Built b) asks names = sym (last_is names)
wanted_last library site line p f w (At n) asks names = sym (last_is names)

module _ (program : Program) (library : Library) (links : Links program library) where
  -- the whole induction, where no body is greater than K
  all_sims : (K : ℕ) (some : 1 ≤ K) → greatest program ≤ K → (n : ℕ) → Sims program library K some n
  all_sims K some le = sims program library K some (linked program library links K le) (started_all program library links K le)

  applied : (K : ℕ) (some : 1 ≤ K) → greatest program ≤ K → (n : ℕ) → SimApply program library K some n
  applied K some le n = apply_sim program library K some (linked program library links K le) n (all_sims K some le n).s

  pub expressions : FollowsExpressions program library
  expressions site line p q e env slots depth t w sited stands quiet fits le order =
      let K = greatest program in
      goes library K _ _ t _ _ _ 0 _ order ((all_sims K (omega arith) (omega arith) depth).e site line p q e env slots t w sited stands quiet fits le)

  pub statements : FollowsStatements program library
  statements site around line p q s handled env slots depth t w sited stands below le order =
      let K = greatest program + ssize s in
      goes library K _ _ t _ _ _ 0 _ order ((all_sims K (omega arith) (omega arith) depth).s site around line p q s handled env slots t w sited stands below (omega arith) le)

  pub blocks : FollowsBlocks program library
  blocks site around p q b handled env slots depth t w sited stands below le order =
      let K = greatest program + bsize b in
      goes library K _ _ t _ _ _ 0 _ order
      (b_sim program library K depth (all_sims K (omega arith) (omega arith) depth).s site slots handled around p b q env t w sited stands below (omega arith) le)

  pub calls : FollowsCalls program library
  calls site line p callee args keys env slots depth t w sited has small quiet fits le order =
      let K = greatest program in
      let below = Value callee ∷ slots in
      let fits1 : Fits site.frame.entries (length below) = fits_one site.frame.entries (Value callee) slots fits in
      let st = given_on args keys below in
      goes library K _ _ t _ _ _ 3 _ order
      (applied K (omega arith) (omega arith) depth site line p (number ops.CallFunction (length args + 256 * length keys)) env st slots t w callee args keys sited has (quiet (suc p) (omega arith) (omega arith))
      (given_falls site env args keys below slots fits1 (falls_over site env (Value callee ∷ []) slots fits)) fits le
      (λ paid. ap (λ (o : Operands). call_function library (place_at site.meant line) paid (at site.frame p env st) site.waiting w o o.below) (operands_are (length args) (length keys) args keys below refl refl small)))

  pub methods : FollowsMethods program library
  methods site line p looked args keys env slots depth t w sited has small quiet fits le order =
      let K = greatest program in
      let sim = all_sims K (omega arith) (omega arith) depth in
      let fits1 : Fits site.frame.entries (length (looked_on looked slots)) = looked_fits program library K (omega arith) depth sim.e site.frame.entries looked slots fits in
      goes library K _ _ t _ _ _ 3 _ order
      (method_sim program library K (omega arith) depth sim.e (applied K (omega arith) (omega arith) depth) site line p (length args) (length keys) env slots t w looked args keys sited has (quiet (suc p) (omega arith) (omega arith)) fits le
      (given_falls site env args keys (looked_on looked slots) slots fits1 (looked_falls program library K (omega arith) depth sim.e site env looked slots fits)) refl refl small)

  -- an import that asks for None has the first module, and one that asks for names the last
  pub first_import : FollowsImports program library Nil (λ name. first_of (prefixes name))
  first_import site line p name env slots depth t w sited has quiet fits le order =
      let K = greatest program in
      goes library K _ _ t _ _ _ 5 _ order
      (name_sim program library K (omega arith) (started_all program library links K (omega arith)) depth (all_sims K (omega arith) (omega arith) depth).s site line p name Nil (first_of (prefixes name)) env slots sited has
      (quiet (suc p) (omega arith) (omega arith)) fits (λ w1. refl) t w le)

  pub last_import : (names : Val) → (names ≡ Nil → ⊥) → FollowsImports program library names (λ name. last_of (prefixes name))
  last_import names asks site line p name env slots depth t w sited has quiet fits le order =
      let K = greatest program in
      let st = Value names ∷ Value (Int (pos 0)) ∷ slots in
      goes library K _ _ t _ _ _ 5 _ order
      (name_sim program library K (omega arith) (started_all program library links K (omega arith)) depth (all_sims K (omega arith) (omega arith) depth).s site line p name names (last_of (prefixes name)) env slots sited has
      (quiet (suc p) (omega arith) (omega arith)) fits (λ w1. wanted_last library site line 0 (at site.frame p env st) w1 names asks (prefixes name)) t w le)

  -- the site of a text
  text_site : (K : ℕ) (name : Name) (number : ℕ) (text : Text) → IsText library K name number text → (names : ℕ) (role : Role) (waiting : List Frame) → HasSite library name number text names role waiting
  text_site K name number text is names role waiting = record {
    site = record {
      meant = record { file = text.file; name = text.name; level = text.level; module_name = name; names = names; base = text.base; locals = text.locals; depth = suc (length waiting) };
      context = record { lines = is.own.lines; level = text.level; is_module = is.is_module; locals = text.locals; children = is.own.children; base = 0; codes = is.all };
      frame = new_frame name number is.code [] names role;
      waiting = waiting;
      holder = is.m;
      code = is.code;
    };
    sited = record {
      of_module = is.of_module;
      of_code = is.of_code;
      lines = text_lines is;
      file = is.file;
      name = text_name is;
      level = refl;
      locals = refl;
      names = refl;
      module_name = refl;
      depth = refl;
      shift = text.base;
      children = text_children is;
      base = omega arith;
      codes = is.codes;
      rooms = omega (arith, text_locals is);
    };
    meant = refl;
    frame = refl;
    waits = refl;
    last = is.stands.last;
    body = is.stands.body;
    below = record { quiet = λ r l h. refl; fits = tt; kept = refl; iter = tt };
  }

  pub texts : (name : Name) (number : ℕ) (text : Text) → content_at program name number ≡ Some (OfText text) → (names : ℕ) (role : Role) (waiting : List Frame) → HasSite library name number text names role waiting
  texts name number text is =
      text_site (greatest program) name number text (subst (IsCode library (greatest program) name number) is (linked program library links (greatest program) (omega arith) name number))
