-- A source has one translation at most.
use Rattle.std.proofs.Common.{◌≡◌, ℕ, suc, ◌+◌, ◌<◌, Bool, true, false, List, [], ◌∷◌, ◌++◌, length, map, Some, refl, sym, ap, ap₂, ◌∙◌, subst, arith, slice_get, append_assoc, append-nil, unwrap_or}
use Rattle.emit_measures.specs.bc_scheme.bc_ops.declared.listing.Target.TheVariants.{Position, Offset}
use Rattle.emit_measures.specs.bc_scheme.mpy_tree.Resolved.{Resolved, ResolvedLine, plain, named, object, jump, unwind, Body, Tree, node, Trees, no_more, more, ResolvedModule}
use Rattle.emit_measures.specs.bc_scheme.py_meaning.Program.{Source, Text, source_texts}
use Rattle.emit_measures.specs.bc_scheme.bc_machine.Library.{Code, Item, Plain, Names, Loads, Jumps, Unwinds, Line, item_of, line_of, code_of, numbers_from, codes_from, codes_of, size_of}
use Rattle.emit_measures.specs.bc_scheme.py_meaning.Numbers.{IsNumbered, AllNumbered}
use Rattle.emit_measures.specs.bc_scheme.Context.{Context}
use Rattle.emit_measures.specs.bc_scheme.Statements.{StandsB}
use Rattle.emit_measures.specs.bc_scheme.Translation.{StandsCode, HasState, StandAll, HaveStates, bodies, bodies_of, Translates}
use Rattle.bc_resolved.specs.Operands.{IsInside}
use Rattle.bc_resolved.specs.Verified.{IsVerifiedBody, count_of}
use Rattle.tr_source.specs.Limits.{AllLimited, SourceLimited}
use Rattle.tr_source.specs.Numbered.{SourceNumbered}
use Rattle.tr_source.proofs.Whole.{outside}
use Rattle.tr_source.proofs.Own.{own_once}
use Rattle.tr_source.proofs.Same.{other, Distinct, own_path, Same, same_behind}
use Rattle.tr_source.proofs.Once.{end_b, same_b}
use Rattle.tr_source.proofs.Trees.{code_ok, numbers-length, same_head, same_tail}

-- the same elements
same_lists : {A : Type 0} → (xs ys : List A) → length xs ≡ length ys → ((r : ℕ) → r < length ys → slice_get xs r ≡ slice_get ys r) → xs ≡ ys
same_lists [] [] e h = refl
same_lists [] (y ∷ ys) e h = absurd (omega (arith, e))
same_lists (x ∷ xs) [] e h = absurd (omega (arith, e))
same_lists (x ∷ xs) (y ∷ ys) e h =
    ap₂ (λ a b. a ∷ b) (ap (λ o. unwrap_or o x) (h 0 (omega arith))) (same_lists xs ys (omega (arith, e)) (λ r lt. h (suc r) (omega (arith, lt))))

record_same : (b1 b2 : Body) → b1.name ≡ b2.name → b1.args ≡ b2.args → b1.defaults ≡ b2.defaults → b1.n_state ≡ b2.n_state → b1.n_exc ≡ b2.n_exc → b1.lines ≡ b2.lines → b1 ≡ b2
record_same b1 b2 a b c d e f =
    ap (λ z. record b1 { name = z }) a
    ∙ ap (λ z. record b1 { name = b2.name; args = z }) b
    ∙ ap (λ z. record b1 { name = b2.name; args = b2.args; defaults = z }) c
    ∙ ap (λ z. record b1 { name = b2.name; args = b2.args; defaults = b2.defaults; n_state = z }) d
    ∙ ap (λ z. record b1 { name = b2.name; args = b2.args; defaults = b2.defaults; n_state = b2.n_state; n_exc = z }) e
    ∙ ap (λ z. record b1 { name = b2.name; args = b2.args; defaults = b2.defaults; n_state = b2.n_state; n_exc = b2.n_exc; lines = z }) f

-- what an item was resolved from, where its target is inside
un_item : Item → Resolved
un_item (Plain i) = plain i
un_item (Names op t) = named op t
un_item (Loads v) = object v
un_item (Jumps op p) = jump op (Position p)
un_item (Unwinds p b) = unwind (Position p) b

un_same : (n : ℕ) (r : Resolved) → IsInside n (item_of n r) → un_item (item_of n r) ≡ r
unfolding un_item
un_same n (plain i) h = refl
un_same n (named op t) h = refl
un_same n (object v) h = refl
un_same n (jump op (Position p)) h = refl
un_same n (jump op (Offset z)) h = absurd (omega (arith, h))
un_same n (unwind (Position p) b) h = refl
un_same n (unwind (Offset z) b) h = absurd (omega (arith, h))

abbrev line_with : Resolved → ℕ → ResolvedLine
line_with item line = record { item = item; line = line }

abbrev AllInside : ℕ → List ResolvedLine → Type 0
AllInside n ls = (p : ℕ) (r : Resolved) → slice_get (map (λ (l : ResolvedLine). l.item) ls) p ≡ Some r → IsInside n (item_of n r)

lines_same : (n m : ℕ) (ks ls : List ResolvedLine) → AllInside n ks → AllInside m ls → map (line_of n) ks ≡ map (line_of m) ls → ks ≡ ls
lines_same n m [] [] f g e = refl
lines_same n m [] (l ∷ ls) f g e = absurd (cc e)
lines_same n m (k ∷ ks) [] f g e = absurd (cc e)
lines_same n m (k ∷ ks) (l ∷ ls) f g e =
    let h : line_of n k ≡ line_of m l = same_head _ _ _ _ (sym e) in
    let t = lines_same n m ks ls (λ p. f (suc p)) (λ p. g (suc p)) (same_tail _ _ _ _ (sym e)) in
    let i : k.item ≡ l.item = sym (un_same n k.item (f 0 k.item refl)) ∙ ap (λ (z : Line). un_item z.item) h ∙ un_same m l.item (g 0 l.item refl) in
    ap₂ (λ x y. x ∷ y) (ap₂ line_with i (ap (λ (z : Line). z.line) h)) t

bodies_same : (all1 all2 : List Code) (is_module : Bool) (text : Text) (b1 b2 : Body) (ch1 ch2 : List ℕ) → StandsCode all1 is_module text (code_of b1 ch1) → StandsCode all2 is_module text (code_of b2 ch2) → HasState text b1 → HasState text b2
    → IsVerifiedBody (length ch1) b1 → IsVerifiedBody (length ch2) b2 → IsNumbered text → b1 ≡ b2
bodies_same all1 all2 is_module text b1 b2 ch1 ch2 s1 s2 t1 t2 v1 v2 numbered =
    let c1 = code_of b1 ch1 in let c2 = code_of b2 ch2 in
    let ctx : (lines : List Line) → List ℕ → List Code → Context = λ ls ch cs. record { lines = ls; level = text.level; is_module = is_module; locals = text.locals; children = ch; base = text.base; codes = cs } in
    let c = ctx c1.lines ch1 all1 in
    let distinct : Distinct c = subst (λ z. (i j n : ℕ) → slice_get z i ≡ Some n → slice_get z j ≡ Some n → j ≡ i) (sym s1.children) (own_once text numbered) in
    let d2 : StandsB (other c c2.lines all2) (outside s2.last) 0 text.body s2.last = subst (λ z. StandsB (ctx c2.lines z all2) (outside s2.last) 0 text.body s2.last) (s2.children ∙ sym s1.children) s2.body in
    let el : s2.last ≡ s1.last = end_b c c2.lines all2 distinct refl refl refl s1.body d2 in
    let zero_same : Same c c2.lines all2 distinct 0 = λ r lt. absurd (omega (arith, lt)) in
    let a1 = same_b c c2.lines all2 distinct (own_path false el el) refl zero_same s1.body d2 in
    let a2 = same_behind c c2.lines all2 distinct el a1 refl s1.none s2.none in
    let a3 = same_behind c c2.lines all2 distinct (ap suc el) a2 refl s1.return s2.return in
    let l1 = s1.length in let l2 = s2.length in
    let e : c2.lines ≡ c1.lines = same_lists c2.lines c1.lines (omega (arith, l1, l2, el)) (λ r lt. a3 r (omega (arith, lt, l1))) in
    let r = lines_same (length b1.lines) (length b2.lines) b1.lines b2.lines (λ p x h. (v1.instructions p x h).target) (λ p x h. (v2.instructions p x h).target) (sym e) in
    record_same b1 b2 (s1.name ∙ sym s2.name) (s1.params ∙ sym s2.params) (s1.given ∙ sym s2.given) (t1.n_state ∙ sym t2.n_state) (t1.n_exc ∙ sym t2.n_exc) r

-- what is left over of the texts
abbrev Rest : (all1 all2 : List Code) → List Code → List Code → List Body → List Body → Type 0
Rest all1 all2 cs ds bs es = (texts : List Text) × StandAll all1 false texts cs × StandAll all2 false texts ds × HaveStates texts bs × HaveStates texts es × AllLimited texts × AllNumbered texts

own_count : (all1 all2 : List Code) (is_module : Bool) (text : Text) (b1 b2 : Body) (n m : ℕ) (ts us : Trees) → StandsCode all1 is_module text (code_of b1 (numbers_from n ts)) → StandsCode all2 is_module text (code_of b2 (numbers_from m us)) → count_of ts ≡ count_of us
own_count all1 all2 is_module text b1 b2 n m ts us s1 s2 = sym (numbers-length n ts) ∙ ap (λ z. length z) (s1.children ∙ sym s2.children) ∙ numbers-length m us

mutual
  two_trees : (all1 all2 : List Code) (is_module : Bool) (texts : List Text) (n m : ℕ) (t u : Tree) (cs ds : List Code) (bs es : List Body) → StandAll all1 is_module texts (codes_from n t ++ cs) → StandAll all2 is_module texts (codes_from m u ++ ds) → HaveStates texts (bodies t ++ bs) → HaveStates texts (bodies u ++ es)
      → AllLimited texts → AllNumbered texts → (t ≡ u) × Rest all1 all2 cs ds bs es
  two_trees all1 all2 is_module [] n m (node b1 ts) (node b2 us) cs ds bs es s1 s2 t1 t2 lim num = absurd (cc s1)
  two_trees all1 all2 is_module (text ∷ texts) n m (node b1 ts) (node b2 us) cs ds bs es s1 s2 t1 t2 lim num =
      let c1 = code_of b1 (numbers_from (suc n) ts) in let c2 = code_of b2 (numbers_from (suc m) us) in
      let x1 : StandsCode all1 is_module text c1 = subst (λ z. StandsCode all1 is_module text z) (same_head c1 s1.0 _ _ s1.2) s1.3 in
      let x2 : StandsCode all2 is_module text c2 = subst (λ z. StandsCode all2 is_module text z) (same_head c2 s2.0 _ _ s2.2) s2.3 in
      let y1 = subst (λ z. StandAll all1 false texts z) (same_tail c1 s1.0 (codes_of (suc n) ts ++ cs) s1.1 s1.2) s1.4 in
      let y2 = subst (λ z. StandAll all2 false texts z) (same_tail c2 s2.0 (codes_of (suc m) us ++ ds) s2.1 s2.2) s2.4 in
      let h1 : HasState text b1 = subst (λ z. HasState text z) (same_head b1 t1.0 _ _ t1.2) t1.3 in
      let h2 : HasState text b2 = subst (λ z. HasState text z) (same_head b2 t2.0 _ _ t2.2) t2.3 in
      let k1 = subst (λ z. HaveStates texts z) (same_tail b1 t1.0 (bodies_of ts ++ bs) t1.1 t1.2) t1.4 in
      let k2 = subst (λ z. HaveStates texts z) (same_tail b2 t2.0 (bodies_of us ++ es) t2.1 t2.2) t2.4 in
      let v1 = code_ok all1 is_module text b1 (numbers_from (suc n) ts) x1 h1 lim.0 in
      let v2 = code_ok all2 is_module text b2 (numbers_from (suc m) us) x2 h2 lim.0 in
      let e = bodies_same all1 all2 is_module text b1 b2 (numbers_from (suc n) ts) (numbers_from (suc m) us) x1 x2 h1 h2 v1 v2 num.0 in
      let r = two_rows all1 all2 texts (suc n) (suc m) ts us (own_count all1 all2 is_module text b1 b2 (suc n) (suc m) ts us x1 x2) cs ds bs es y1 y2 k1 k2 lim.1 num.1 in
      (ap₂ node e r.0, r.1)

  two_rows : (all1 all2 : List Code) (texts : List Text) (n m : ℕ) (t u : Trees) → count_of t ≡ count_of u → (cs ds : List Code) (bs es : List Body) → StandAll all1 false texts (codes_of n t ++ cs) → StandAll all2 false texts (codes_of m u ++ ds) → HaveStates texts (bodies_of t ++ bs) → HaveStates texts (bodies_of u ++ es)
      → AllLimited texts → AllNumbered texts → (t ≡ u) × Rest all1 all2 cs ds bs es
  two_rows all1 all2 texts n m no_more no_more c cs ds bs es s1 s2 t1 t2 lim num = (refl, (texts, s1, s2, t1, t2, lim, num))
  two_rows all1 all2 texts n m no_more (more u us) c cs ds bs es s1 s2 t1 t2 lim num = absurd (omega (arith, c))
  two_rows all1 all2 texts n m (more t ts) no_more c cs ds bs es s1 s2 t1 t2 lim num = absurd (omega (arith, c))
  two_rows all1 all2 texts n m (more t ts) (more u us) c cs ds bs es s1 s2 t1 t2 lim num =
      let e1 = append_assoc (codes_from n t) (codes_of (n + size_of t) ts) cs in
      let e2 = append_assoc (codes_from m u) (codes_of (m + size_of u) us) ds in
      let a = two_trees all1 all2 false texts n m t u (codes_of (n + size_of t) ts ++ cs) (codes_of (m + size_of u) us ++ ds) (bodies_of ts ++ bs) (bodies_of us ++ es)
      (subst (λ z. StandAll all1 false texts z) e1 s1) (subst (λ z. StandAll all2 false texts z) e2 s2) (subst (λ z. HaveStates texts z) (append_assoc (bodies t) (bodies_of ts) bs) t1) (subst (λ z. HaveStates texts z) (append_assoc (bodies u) (bodies_of us) es) t2)
      lim num in
      let r = a.1 in
      let b = two_rows all1 all2 r.0 (n + size_of t) (m + size_of u) ts us (omega (arith, c)) cs ds bs es r.1 r.2 r.3 r.4 r.5 r.6 in
      (ap₂ more a.0 b.0, b.1)

pub one_translation : (source : Source) (m1 m2 : ResolvedModule) → Translates source m1 → Translates source m2 → SourceLimited source → SourceNumbered source → m1 ≡ m2
one_translation source m1 m2 t1 t2 lim num =
    let texts = source_texts source.file source 0 in
    let e1 = sym (append-nil (codes_from 0 m1.code)) in let e2 = sym (append-nil (codes_from 0 m2.code)) in
    let r = two_trees (codes_from 0 m1.code) (codes_from 0 m2.code) true texts 0 0 m1.code m2.code [] [] [] [] (subst (λ z. StandAll (codes_from 0 m1.code) true texts z) e1 t1.codes) (subst (λ z. StandAll (codes_from 0 m2.code) true texts z) e2 t2.codes)
    (subst (λ z. HaveStates texts z) (sym (append-nil (bodies m1.code))) t1.states) (subst (λ z. HaveStates texts z) (sym (append-nil (bodies m2.code))) t2.states) lim num in
    ap₂ (λ s c. let m : ResolvedModule = record { source = s; code = c } in m) (t1.file ∙ sym t2.file) r.0
