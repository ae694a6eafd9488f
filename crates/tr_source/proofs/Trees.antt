-- The codes of a tree.
use Rattle.std.proofs.Common.{◌≡◌, ℕ, zero, suc, ◌+◌, ◌≤◌, max, Bool, true, false, List, [], ◌∷◌, ◌++◌, length, map, drop, get_or, Some, refl, sym, ap, subst, arith, slice_get, append_assoc, append-nil, Option, None}
use Rattle.std.proofs.lemmas.List.{length-map}
use Rattle.emit_measures.specs.bc_scheme.mpy_tree.Resolved.{Resolved, ResolvedLine, plain, named, object, jump, unwind, Body, instrs_of, Tree, node, Trees, no_more, more, ResolvedModule}
use Rattle.emit_measures.specs.bc_scheme.py_meaning.Program.{Source, Text, source_texts}
use Rattle.emit_measures.specs.bc_scheme.bc_machine.Library.{Code, Line, item_of, line_of, local_of, locals_of, code_of, numbers_from, codes_from, codes_of, size_of}
use Rattle.emit_measures.specs.bc_scheme.Context.{Context}
use Rattle.emit_measures.specs.bc_scheme.Heights.{tall_block}
use Rattle.emit_measures.specs.bc_scheme.Translation.{StandsCode, HasState, StandAll, HaveStates, bodies, bodies_of, Translates}
use Rattle.bc_resolved.specs.bc_progress.Plans.{action_of}
use Rattle.bc_resolved.specs.Operands.{local_in, Keeps}
use Rattle.bc_resolved.specs.Verified.{flow_of, IsVerifiedBody, count_of, AreVerifiedIn, AreVerifiedAll, IsVerifiedTree}
use Rattle.tr_source.specs.Limits.{IsLimited, AllLimited, SourceLimited}
use Rattle.tr_source.proofs.Base.{Setting}
use Rattle.tr_source.proofs.Whole.{Ended, Assignment, assignment, verified, keeps_all, locals_all}

pub lines_actions : (n : ℕ) (ls : List ResolvedLine) → map (λ (l : Line). action_of l.item) (map (line_of n) ls) ≡ map (λ r. action_of (item_of n r)) (map (λ (l : ResolvedLine). l.item) ls)
lines_actions n [] = refl
lines_actions n (l ∷ ls) = ap (λ z. action_of (item_of n l.item) ∷ z) (lines_actions n ls)

pub lines_at : (n : ℕ) (ls : List ResolvedLine) (p : ℕ) (r : Resolved) → slice_get (map (λ (l : ResolvedLine). l.item) ls) p ≡ Some r
    → (line : ℕ) × (slice_get (map (line_of n) ls) p ≡ Some (record { item = item_of n r; line = line }))
lines_at n [] p r h = absurd (cc h)
lines_at n (l ∷ ls) zero r h = (l.line, ap (λ o. elim o as (λ z. Option Line) [ None ↦ None | Some z ↦ Some (record { item = item_of n z; line = l.line }) ]) h)
lines_at n (l ∷ ls) (suc p) r h = lines_at n ls p r h

local_same : (n : ℕ) (r : Resolved) → local_in (item_of n r) ≡ local_of r
local_same n (plain i) = refl
local_same n (named op t) = refl
local_same n (object c) = refl
local_same n (jump op t) = refl
local_same n (unwind t b) = refl

locals_most : (most n : ℕ) (rs : List Resolved) → most ≤ n → ((p : ℕ) (r : Resolved) → slice_get rs p ≡ Some r → local_of r ≤ n) → locals_of most rs ≤ n
locals_most most n [] a h = a
locals_most most n (r ∷ rs) a h = let x = h 0 r refl in let y = locals_most most n rs a (λ p. h (suc p)) in omega (arith, x, y)

-- one code
pub code_ok : (all : List Code) (is_module : Bool) (text : Text) (body : Body) (children : List ℕ) → StandsCode all is_module text (code_of body children) → HasState text body → IsLimited text → IsVerifiedBody (length children) body
code_ok all is_module text body children s st lim =
    let code = code_of body children in
    let c : Context = record { lines = code.lines; level = text.level; is_module = is_module; locals = text.locals; children = code.children; base = text.base; codes = all } in
    let top = max 1 (tall_block text.level text.body) in
    let e : Ended c text.body = record { last = s.last; length = s.length; body = s.body; none = s.none; return = s.return } in
    let x1 = st.n_state in let x6 = lim.tall in let x2 = lim.held in let x3 = st.n_exc in let x4 = lim.slots in let x5 = ap (λ z. length z) s.params in
    let g1 : Setting = record {
      c = c;
      code = record { actions = map (λ (l : Line). action_of l.item) code.lines; n_state = body.n_state; n_exc = body.n_exc; locals = length text.locals };
      actions = refl;
      top = top;
      room = omega (arith, x1);
      slots = omega (arith, x1);
      small = omega (arith, x1, x6);
    } in
    let a1 : Assignment g1 = assignment g1 text.body e (record { few_entries = omega (arith, x2, x3); tall = omega arith; held = omega (arith, x3); wide = lim.wide }) in
    let at = lines_at (length body.lines) body.lines in
    let loc : (p : ℕ) (r : Resolved) → slice_get (instrs_of body) p ≡ Some r → local_of r ≤ length text.locals =
    λ p r h. subst (λ z. z ≤ length text.locals) (local_same (length body.lines) r) (locals_all g1 a1 p _ ((at p r h).1)) in
    let most : locals_of (length body.args) (instrs_of body) ≤ length text.locals = locals_most (length body.args) (length text.locals) (instrs_of body) (omega (arith, x4, x5)) loc in
    let g2 : Setting = record {
      c = c;
      code = flow_of body;
      actions = sym (lines_actions (length body.lines) body.lines);
      top = top;
      room = omega (arith, x1, most);
      slots = omega (arith, x1);
      small = omega (arith, x1, x6);
    } in
    let a2 : Assignment g2 = assignment g2 text.body e (record { few_entries = omega (arith, x2, x3); tall = omega arith; held = omega (arith, x3); wide = lim.wide }) in
    record {
      instructions = λ p r h. subst (λ n. Keeps n body.n_state (length children) (item_of (length body.lines) r)) (length-map body.lines (line_of (length body.lines)))
          (keeps_all g2 a2 p _ ((at p r h).1));
      flow = verified g2 a2;
    }

pub numbers-length : (n : ℕ) (trees : Trees) → length (numbers_from n trees) ≡ count_of trees
numbers-length n no_more = refl
numbers-length n (more tree trees) = ap suc (numbers-length (n + size_of tree) trees)

-- what is left over of the texts
abbrev Rest : List Code → List Code → List Body → Type 0
Rest all cs bs = (texts : List Text) × StandAll all false texts cs × HaveStates texts bs × AllLimited texts

pub same_head : {A : Type 0} → (x y : A) (xs ys : List A) → x ∷ xs ≡ y ∷ ys → y ≡ x
same_head x y xs ys e = sym (ap (λ z. get_or z 0 x) e)

pub same_tail : {A : Type 0} → (x y : A) (xs ys : List A) → x ∷ xs ≡ y ∷ ys → ys ≡ xs
same_tail x y xs ys e = sym (ap (drop 1) e)

mutual
  in_tree : (all : List Code) (is_module : Bool) (texts : List Text) (number : ℕ) (tree : Tree) (cs : List Code) (bs : List Body) → StandAll all is_module texts (codes_from number tree ++ cs) → HaveStates texts (bodies tree ++ bs) → AllLimited texts
      → AreVerifiedIn tree × Rest all cs bs
  in_tree all is_module [] number (node body trees) cs bs s st lim = absurd (cc s)
  in_tree all is_module (text ∷ texts) number (node body trees) cs bs s st lim =
      let code = code_of body (numbers_from (suc number) trees) in
      let s1 : StandsCode all is_module text code = subst (λ z. StandsCode all is_module text z) (same_head code s.0 _ _ s.2) s.3 in
      let s2 = subst (λ z. StandAll all false texts z) (same_tail code s.0 (codes_of (suc number) trees ++ cs) s.1 s.2) s.4 in
      let t1 : HasState text body = subst (λ z. HasState text z) (same_head body st.0 _ _ st.2) st.3 in
      let t2 = subst (λ z. HaveStates texts z) (same_tail body st.0 (bodies_of trees ++ bs) st.1 st.2) st.4 in
      let r = in_trees all texts (suc number) trees cs bs s2 t2 lim.1 in
      ((subst (λ n. IsVerifiedBody n body) (numbers-length (suc number) trees) (code_ok all is_module text body (numbers_from (suc number) trees) s1 t1 lim.0), r.0), r.1)

  in_trees : (all : List Code) (texts : List Text) (number : ℕ) (trees : Trees) (cs : List Code) (bs : List Body) → StandAll all false texts (codes_of number trees ++ cs) → HaveStates texts (bodies_of trees ++ bs) → AllLimited texts
      → AreVerifiedAll trees × Rest all cs bs
  in_trees all texts number no_more cs bs s st lim = (tt, (texts, s, st, lim))
  in_trees all texts number (more tree trees) cs bs s st lim =
      let e = append_assoc (codes_from number tree) (codes_of (number + size_of tree) trees) cs in
      let a = in_tree all false texts number tree (codes_of (number + size_of tree) trees ++ cs) (bodies_of trees ++ bs) (subst (λ z. StandAll all false texts z) e s)
      (subst (λ z. HaveStates texts z) (append_assoc (bodies tree) (bodies_of trees) bs) st) lim in
      let b = in_trees all (a.1).0 (number + size_of tree) trees cs bs (a.1).1 (a.1).2 (a.1).3 in
      ((a.0, b.0), b.1)

-- a translation is verified
pub translation_verified : (source : Source) (m : ResolvedModule) → Translates source m → SourceLimited source → IsVerifiedTree m
translation_verified source m t lim =
    let e = append-nil (codes_from 0 m.code) in
    let texts = source_texts source.file source 0 in
    (in_tree (codes_from 0 m.code) true texts 0 m.code [] [] (subst (λ z. StandAll (codes_from 0 m.code) true texts z) (sym e) t.codes) (subst (λ z. HaveStates texts z) (sym (append-nil (bodies m.code))) t.states) lim).0
