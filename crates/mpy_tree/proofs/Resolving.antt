-- A module resolves to one tree.
use Rattle.std.proofs.Common.{◌≡◌, ℕ, ◌+◌, List, [], ◌∷◌, ◌++◌, length, take, drop, Some, refl, sym, ap, subst, ◌∙◌, arith}
use Rattle.std.specs.Prelude.{map}
use Rattle.std.specs.List.{AllByRecursion}
use Rattle.std.proofs.lemmas.List.{append_cancel_left, take_at, drop_at}
use Rattle.std.proofs.lemmas.List.Elements.{recursion_from_All}
use Rattle.bc_ops.specs.declared.instr.Instr.{Instr}
use Rattle.bc_ops.specs.Listing.{Piece, IsPiece, joined, starts, IsListOf}
use Rattle.bc_ops.proofs.Law.{one_instruction}
use Rattle.bc_ops.proofs.Lists.{one_list}
use Rattle.bc_prelude.specs.declared.prelude.Prelude.{Prelude}
use Rattle.bc_prelude.specs.Prelude.{Begins}
use Rattle.bc_prelude.specs.Size.{IsSize}
use Rattle.bc_prelude.specs.Lines.{line_of}
use Rattle.bc_prelude.proofs.Chains.{one_chain}
use Rattle.bc_prelude.proofs.Indexes.{same_names, same_indexes}
use Rattle.bc_prelude.proofs.Preludes.{same_prelude}
use Rattle.mpy_tree.specs.declared.raw.RawCode.{RawCode, out-RawCode}
use Rattle.mpy_tree.specs.Raw.{Module}
use Rattle.mpy_tree.specs.Resolved.{ResolvedLine, Body, instrs_of, line_numbers, Tree, node, Trees, no_more, more, ResolvedModule, name_at, resolved, IsBody, ResolvesCode, ResolveCodes, Resolves}
use Rattle.mpy_tree.proofs.Lines.{same_lines}

-- a code's bytes part into instructions in one way
abbrev piece_of : List ℕ → Instr → Piece
piece_of text instr = record { text = text; instr = instr }

some_text : (piece : Piece) (bytes : List ℕ) → IsPiece piece → [] ≡ piece.text ++ bytes → ⊥
some_text piece bytes s e =
    let none : [] ≡ s.first ∷ (s.behind ++ bytes) = e ∙ ap (λ (z : List ℕ). z ++ bytes) s.parts in
    cc

same_piece : (p q : Piece) → p.text ≡ q.text → p.instr ≡ q.instr → p ≡ q
same_piece p q e f = ap (λ (z : List ℕ). piece_of z p.instr) e ∙ ap (piece_of q.text) f

one_parting : (ps qs : List Piece) → AllByRecursion IsPiece ps → AllByRecursion IsPiece qs → joined ps ≡ joined qs → ps ≡ qs
one_parting [] [] s t e = refl
one_parting [] (q ∷ qs) s t e = absurd (some_text q (joined qs) t.0 e)
one_parting (p ∷ ps) [] s t e = absurd (some_text p (joined ps) s.0 (sym e))
one_parting (p ∷ ps) (q ∷ qs) s t e =
    let same = one_instruction p.text q.text (joined ps) (joined qs) p.instr q.instr s.0 t.0 e in
    let others : joined ps ≡ joined qs = append_cancel_left q.text (joined ps) (joined qs) (ap (λ (z : List ℕ). z ++ joined ps) (sym same.0) ∙ e) in
    let heads : p ≡ q = same_piece p q same.0 same.1 in
    let tails : ps ≡ qs = one_parting ps qs s.1 t.1 others in
    cc

-- a code has one prelude, names, lines and instructions
record SameParts (code : List ℕ) (p q : Prelude) (a : Begins code p) (b : Begins code q) : Type 0 where
  prelude : p ≡ q
  indexes : a.indexes ≡ b.indexes
  lines : a.lines ≡ b.lines
  instructions : a.instructions ≡ b.instructions

same_parts : (code : List ℕ) (p q : Prelude) (a : Begins code p) (b : Begins code q) → SameParts code p q a b
same_parts code p q a b =
    let same : p ≡ q = same_prelude code p q a b in
    let args : p.args ≡ q.args = ap (λ (z : Prelude). z.args) same in
    let first = one_chain a.signature b.signature _ _ a.is_signature.chain b.is_signature.chain (sym a.code_is ∙ b.code_is) in
    let second = one_chain a.size b.size _ _ a.is_size.chain b.is_size.chain first.1 in
    let count : length a.indexes ≡ length b.indexes = omega (arith, a.count, b.count, args) in
    let third = same_names a.indexes b.indexes a.names b.names (a.lines ++ a.instructions) (b.lines ++ b.instructions) a.are_names b.are_names count second.1 in
    let sizes : length a.names + length a.lines ≡ length b.names + length b.lines =
    a.is_size.size_is ∙ sym (subst (λ (z : List ℕ). IsSize z (length b.names + length b.lines)) (sym second.0) b.is_size).size_is in
    let n = length b.lines in
    let names : length a.names ≡ length b.names = ap length third.0 in
    let lengths : length a.lines ≡ n = omega (arith, sizes, names) in
    record {
      prelude = same;
      indexes = same_indexes a.indexes b.indexes a.names b.names (a.lines ++ a.instructions) (b.lines ++ b.instructions) a.are_names b.are_names count second.1;
      lines = sym (take_at a.lines a.instructions n lengths) ∙ (ap (take n) third.1 ∙ take_at b.lines b.instructions n refl);
      instructions = sym (drop_at a.lines a.instructions n lengths) ∙ (ap (drop n) third.1 ∙ drop_at b.lines b.instructions n refl);
    }

same_texts : (xs ys : List (List ℕ)) → map (λ (x : List ℕ). Some x) xs ≡ map (λ (x : List ℕ). Some x) ys → xs ≡ ys
same_texts [] [] e = refl
same_texts [] (y ∷ ys) e = absurd cc
same_texts (x ∷ xs) [] e = absurd cc
same_texts (x ∷ xs) (y ∷ ys) e =
    let heads : x ≡ y = cc in
    let tails : xs ≡ ys = same_texts xs ys cc in
    cc

abbrev body_of : List ℕ → List (List ℕ) → ℕ → ℕ → ℕ → List ResolvedLine → Body
body_of name args defaults n_state n_exc lines = record { name = name; args = args; defaults = defaults; n_state = n_state; n_exc = n_exc; lines = lines }

same_body : (a b : Body) → a.name ≡ b.name → a.args ≡ b.args → a.defaults ≡ b.defaults → a.n_state ≡ b.n_state → a.n_exc ≡ b.n_exc → a.lines ≡ b.lines → a ≡ b
same_body a b name args defaults n_state n_exc lines =
    ap (λ z. body_of z a.args a.defaults a.n_state a.n_exc a.lines) name
    ∙ ap (λ z. body_of b.name z a.defaults a.n_state a.n_exc a.lines) args
    ∙ ap (λ z. body_of b.name b.args z a.n_state a.n_exc a.lines) defaults
    ∙ ap (λ z. body_of b.name b.args b.defaults z a.n_exc a.lines) n_state
    ∙ ap (λ z. body_of b.name b.args b.defaults b.n_state z a.lines) n_exc
    ∙ ap (λ z. body_of b.name b.args b.defaults b.n_state b.n_exc z) lines

one_body : (m : Module) (code : List ℕ) (a b : Body) → IsBody m code a → IsBody m code b → a ≡ b
one_body m code a b h k =
    let s = same_parts code h.prelude k.prelude h.begins k.begins in
    let texts : map (λ (x : List ℕ). Some x) (a.name ∷ a.args) ≡ map (λ (x : List ℕ). Some x) (b.name ∷ b.args) =
    sym h.names ∙ (ap (map (name_at m)) s.indexes ∙ k.names) in
    let named : a.name ∷ a.args ≡ b.name ∷ b.args = same_texts (a.name ∷ a.args) (b.name ∷ b.args) texts in
    let name : a.name ≡ b.name = cc in
    let args : a.args ≡ b.args = cc in
    let defaults : a.defaults ≡ b.defaults = h.defaults ∙ (ap (λ (z : Prelude). z.defaults) s.prelude ∙ sym k.defaults) in
    let n_state : a.n_state ≡ b.n_state = h.n_state ∙ (ap (λ (z : Prelude). z.n_state) s.prelude ∙ sym k.n_state) in
    let n_exc : a.n_exc ≡ b.n_exc = h.n_exc ∙ (ap (λ (z : Prelude). z.n_exc) s.prelude ∙ sym k.n_exc) in
    let list : IsListOf k.begins.instructions h.items = subst (λ (z : List ℕ). IsListOf z h.items) s.instructions h.is_list in
    let items : h.items ≡ k.items = one_list k.begins.instructions h.items k.items list k.is_list in
    let instrs : instrs_of a ≡ instrs_of b = h.instrs ∙ (ap (map (resolved m)) items ∙ sym k.instrs) in
    let joins : joined h.is_list.pieces ≡ joined k.is_list.pieces = sym h.is_list.bytes_are ∙ (s.instructions ∙ k.is_list.bytes_are) in
    let pieces : h.is_list.pieces ≡ k.is_list.pieces = one_parting _ _ (recursion_from_All IsPiece h.is_list.pieces h.is_list.spelled) (recursion_from_All IsPiece k.is_list.pieces k.is_list.spelled) joins in
    let numbers : line_numbers a ≡ line_numbers b =
    h.lines ∙ (ap (λ (z : List ℕ). map (line_of z) (starts 0 h.is_list.pieces)) s.lines ∙ (ap (λ (z : List Piece). map (line_of k.begins.lines) (starts 0 z)) pieces ∙ sym k.lines)) in
    same_body a b name args defaults n_state n_exc (same_lines a.lines b.lines instrs numbers)

mutual
  one_tree : (m : Module) (a b : Tree) (code : RawCode) → ResolvesCode m a code → ResolvesCode m b code → a ≡ b
  one_tree m (node x xs) (node y ys) code h k =
      let bodies : x ≡ y = one_body m (out-RawCode code).bytes x y h.0 k.0 in
      let trees : xs ≡ ys = one_row m xs ys (out-RawCode code).children h.1 k.1 in
      cc

  one_row : (m : Module) (a b : Trees) (codes : List RawCode) → ResolveCodes m a codes → ResolveCodes m b codes → a ≡ b
  one_row m no_more no_more codes h k = refl
  one_row m no_more (more y ys) codes h k = absurd (let e : [] ≡ k.0 ∷ k.1 = sym h ∙ k.2 in cc)
  one_row m (more x xs) no_more codes h k = absurd (let e : [] ≡ h.0 ∷ h.1 = sym k ∙ h.2 in cc)
  one_row m (more x xs) (more y ys) codes h k =
      let e : h.0 ∷ h.1 ≡ k.0 ∷ k.1 = sym h.2 ∙ k.2 in
      let first : k.0 ≡ h.0 = cc in
      let others : k.1 ≡ h.1 = cc in
      let heads : x ≡ y = one_tree m x y h.0 h.3 (subst (λ z. ResolvesCode m y z) first k.3) in
      let tails : xs ≡ ys = one_row m xs ys h.1 h.4 (subst (λ z. ResolveCodes m ys z) others k.4) in
      cc

abbrev module_of : List ℕ → Tree → ResolvedModule
module_of source tree = record { source = source; code = tree }

pub one_resolved : (m : Module) (a b : ResolvedModule) → Resolves m a → Resolves m b → a ≡ b
one_resolved m a b h k =
    let texts : Some a.source ≡ Some b.source = sym h.source ∙ k.source in
    let source : a.source ≡ b.source = cc in
    let tree : a.code ≡ b.code = one_tree m a.code b.code m.code h.code k.code in
    ap (λ (z : List ℕ). module_of z a.code) source ∙ ap (module_of b.source) tree
