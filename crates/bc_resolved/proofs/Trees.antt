-- The tree that a module resolves to.
use Rattle.std.proofs.Common.{◌≡◌, ℕ, zero, suc, ◌+◌, ◌<◌, Bool, true, false, List, [], ◌∷◌, length, map, Some, refl, sym, ap, ◌∙◌, subst, arith}
use Rattle.std.specs.List.{AllByRecursion}
use Rattle.std.proofs.lemmas.List.{length-map}
use Rattle.std.proofs.lemmas.List.Elements.{recursion_from_All}
use Rattle.bc_progress.specs.mpy_base.declared.limits.TheConstants.{MAX_DEPTH}
use Rattle.bc_progress.specs.bc_ops.Listing.{Piece, starts, items_at}
use Rattle.bc_verify.specs.bc_prelude.Lines.{line_of}
use Rattle.bc_verify.specs.mpy_tree.declared.raw.RawCode.{RawCode, out-RawCode, out-roll-RawCode}
use Rattle.bc_verify.specs.mpy_tree.Raw.{Module}
use Rattle.bc_verify.specs.mpy_tree.File.{Many, IsOwnCode, AreChildren, IsCode, IsModule}
use Rattle.bc_verify.specs.mpy_tree.Resolved.{Body, lines_of, Tree, node, Trees, no_more, more, ResolvedModule, name_at, resolved, IsBody, ResolvesCode, ResolveCodes, Resolves}
use Rattle.bc_verify.proofs.mpy_tree_lemmas.Lines.{items_in, numbers_in}

count_starts : (at : ℕ) (pieces : List Piece) → length (starts at pieces) ≡ length pieces
count_starts at [] = refl
count_starts at (piece ∷ pieces) = ap suc (count_starts (at + length piece.text) pieces)

count_items : (ss : List ℕ) (at : ℕ) (pieces : List Piece) → length (items_at ss at pieces) ≡ length pieces
count_items ss at [] = refl
count_items ss at (piece ∷ pieces) = ap suc (count_items ss (at + length piece.text) pieces)

module _ (m : Module) (known : (n : ℕ) → n < length m.qstrs → (t : List ℕ) × (name_at m n ≡ Some t)) where
  texts_at : (ns : List ℕ) → AllByRecursion (λ n. n < length m.qstrs) ns → (ts : List (List ℕ)) × (map (name_at m) ns ≡ map Some ts)
  texts_at [] h = ([], refl)
  texts_at (n ∷ ns) h = let t = known n h.0 in let ts = texts_at ns h.1 in (t.0 ∷ ts.0, ap (λ z. z ∷ map (name_at m) ns) t.1 ∙ ap (λ z. Some t.0 ∷ z) ts.1)

  -- a code's own bytes
  body_by : (own : List ℕ) (c : IsOwnCode (length m.qstrs) own) (ts : List (List ℕ)) → map (name_at m) c.begins.indexes ≡ map Some ts → (body : Body) × IsBody m own body
  body_by own c [] e =
      let count = c.begins.count in let long = length-map c.begins.indexes (name_at m) in let none : length (map (name_at m) c.begins.indexes) ≡ 0 = ap length e in
      absurd (omega (arith, count, long, none))
  body_by own c (name ∷ args) e =
      let pieces = c.listed.pieces in
      let items = map (resolved m) c.items in
      let lines = map (line_of c.begins.lines) (starts 0 pieces) in
      let l1 = length-map (starts 0 pieces) (line_of c.begins.lines) in let l2 = count_starts 0 pieces in
      let l3 = length-map c.items (resolved m) in let l4 = ap length c.listed.items_are in let l5 = count_items (starts 0 pieces) 0 pieces in
      let same : length lines ≡ length items = omega (arith, l1, l2, l3, l4, l5) in (
        record { name = name; args = args; defaults = c.prelude.defaults; n_state = c.prelude.n_state; n_exc = c.prelude.n_exc; lines = lines_of items lines },
        record {
          prelude = c.prelude;
          begins = c.begins;
          names = e;
          defaults = refl;
          n_state = refl;
          n_exc = refl;
          items = c.items;
          is_list = c.listed;
          instrs = items_in items lines same;
          lines = numbers_in items lines same;
        },
      )

  body_of : (own : List ℕ) → IsOwnCode (length m.qstrs) own → (body : Body) × IsBody m own body
  body_of own c = let ts = texts_at c.begins.indexes (recursion_from_All _ c.begins.indexes c.names) in body_by own c ts.0 ts.1

  -- codes one behind the other
  trees_by : (Form : List ℕ → RawCode → Type 0) → ((text : List ℕ) (code : RawCode) → Form text code → (tree : Tree) × ResolvesCode m tree code)
      → (text : List ℕ) (codes : List RawCode) → Many Form text codes → (trees : Trees) × ResolveCodes m trees codes
  trees_by Form inner text [] h = (no_more, refl)
  trees_by Form inner text (code ∷ codes) h =
      let first = inner h.0 code h.2 in let others = trees_by Form inner h.1 codes h.4 in
      (more first.0 others.0, (code, codes, refl, first.1, others.1))

  children_by : (Form : List ℕ → RawCode → Type 0) → ((text : List ℕ) (code : RawCode) → Form text code → (tree : Tree) × ResolvesCode m tree code)
      → (has_children : Bool) (text : List ℕ) (codes : List RawCode) → AreChildren Form has_children text codes → (trees : Trees) × ResolveCodes m trees codes
  children_by Form inner false text codes h = (no_more, h.1)
  children_by Form inner true text codes h = trees_by Form inner h.1 codes h.5

  tree_of : (levels : ℕ) (text : List ℕ) (code : RawCode) → IsCode levels (length m.qstrs) text code → (tree : Tree) × ResolvesCode m tree code
  unfolding IsCode
  tree_of zero text code h = absurd h
  tree_of (suc levels) text code h =
      let body = body_of h.own h.is_own in
      let children = children_by (IsCode levels (length m.qstrs)) (tree_of levels) h.has_children h.behind h.children h.are_children in
      let same = ap out-RawCode h.code_is ∙ out-roll-RawCode (record { bytes = h.own; children = h.children }) in (
        node body.0 children.0,
        (
          subst (λ z. IsBody m z body.0) (sym (ap (λ z. z.bytes) same)) body.1,
          subst (ResolveCodes m children.0) (sym (ap (λ z. z.children) same)) children.1,
        ),
      )

pub resolves : (m : Module) → IsModule m → ((n : ℕ) → n < length m.qstrs → (t : List ℕ) × (name_at m n ≡ Some t)) → (tree : ResolvedModule) × Resolves m tree
resolves m h known =
    let some = h.1.some_qstrs in
    let source = known 0 (omega (arith, some)) in
    let code = tree_of m known MAX_DEPTH h.1.code m.code h.1.is_code in
    (record { source = source.0; code = code.0 }, record { source = source.1; code = code.1 })
