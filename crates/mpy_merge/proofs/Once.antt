-- A code has one form with its numbers moved, and one that was written has none that is too far.
use Rattle.std.proofs.Common.{◌≡◌, ◌⊎◌, ℕ, zero, suc, List, [], ◌∷◌, ◌++◌, length, map, take, drop, Option, Some, None, slice_get, refl, sym, ap, ap₂, subst, ◌∙◌, inl, inr, arith}
use Rattle.std.specs.Prelude.{option_and_then}
use Rattle.std.specs.List.{AllZip}
use Rattle.bc_scheme.specs.bc_ops.declared.listing.Target.TheVariants.{Position}
use Rattle.bc_scheme.specs.bc_ops.declared.listing.Item as listings
use Rattle.bc_scheme.specs.bc_ops.declared.listing.Item.TheVariants as listed
use Rattle.bc_scheme.specs.bc_ops.Listing.{Lists}
use Rattle.bc_scheme.proofs.bc_ops_lemmas.Lists.{one_listing}
use Rattle.mpy_writer.specs.bc_labels.Choice.{IsTooFar}
use Rattle.mpy_writer.proofs.bc_labels_lemmas.Fewest.{never_both}
use Rattle.bc_verify.specs.bc_prelude.declared.prelude.Prelude.{Prelude}
use Rattle.bc_verify.specs.bc_prelude.Prelude.{Begins}
use Rattle.bc_verify.specs.bc_prelude.Lines.{line_of}
use Rattle.bc_verify.proofs.bc_prelude_lemmas.Preludes.{same_prelude}
use Rattle.bc_verify.proofs.bc_prelude_lemmas.Indexes.{same_indexes}
use Rattle.mpy_writer.specs.mpy_tree.declared.module.Item.{Item}
use Rattle.mpy_writer.specs.mpy_tree.declared.module.Item.TheVariants as items
use Rattle.mpy_writer.specs.mpy_tree.declared.module.Code.{Code, Code-F, out-Code, roll-Code, roll-out-Code}
use Rattle.mpy_writer.specs.mpy_tree.declared.raw.RawCode.{RawCode, RawCode-F, out-RawCode, roll-RawCode, roll-out-RawCode}
use Rattle.mpy_writer.specs.mpy_tree.Raw.{Module}
use Rattle.mpy_writer.specs.mpy_tree.Codes.{code_at}
use Rattle.mpy_writer.specs.declared.tables.Tables.{Tables}
use Rattle.mpy_writer.specs.File.{labelled, IsOwn, IsBig}
use Rattle.mpy_writer.proofs.Faults.{same_own}
use Rattle.mpy_merge.specs.Far.{IsFarOwn, HasFarCode}
use Rattle.mpy_merge.specs.Moved.{text_at, IsMovedItem, IsMovedCode, IsMovedOwn, IsMovedTree}
use Rattle.bc_verify.proofs.bc_prelude_lemmas.Pieces.{instructions_at, lines_at, names_at}

-- lists beside others
-- ===================

pub one_beside : {A B : Type 0} (R : A → B → Type 0) → ((x : A) (y z : B) → R x y → R x z → y ≡ z) → (xs : List A) (ys zs : List B) → AllZip R xs ys → AllZip R xs zs → ys ≡ zs
one_beside R one [] [] [] h k = refl
one_beside R one [] (y ∷ ys) zs h k = absurd h
one_beside R one [] [] (z ∷ zs) h k = absurd k
one_beside R one (x ∷ xs) [] zs h k = absurd h
one_beside R one (x ∷ xs) (y ∷ ys) [] h k = absurd k
one_beside {B = B} R one (x ∷ xs) (y ∷ ys) (z ∷ zs) h k = ap₂ (λ (v : B) (vs : List B). v ∷ vs) (one x y z h.0 k.0) (one_beside R one xs ys zs h.1 k.1)

pub beside_at : {A B : Type 0} (R : A → B → Type 0) (xs : List A) (ys : List B) (n : ℕ) (x : A) → AllZip R xs ys → slice_get xs n ≡ Some x → (y : B) × R x y
beside_at R [] ys n x zip e = absurd cc
beside_at R (a ∷ xs) [] n x zip e = absurd zip
beside_at R (a ∷ xs) (b ∷ ys) zero x zip e = let same : a ≡ x = cc in (b, subst (λ z. R z b) same zip.0)
beside_at R (a ∷ xs) (b ∷ ys) (suc n) x zip e = beside_at R xs ys n x zip.1 e

-- what a code's bytes say, twice
pub record Same (bytes : List ℕ) (p q : Prelude) (a : Begins bytes p) (b : Begins bytes q) : Type 0 where
  pub prelude : p ≡ q
  pub indexes : a.indexes ≡ b.indexes
  pub lines : a.lines ≡ b.lines
  pub instructions : a.instructions ≡ b.instructions

pub same : (bytes : List ℕ) (p q : Prelude) (a : Begins bytes p) (b : Begins bytes q) → Same bytes p q a b
same bytes p q a b =
    let e : p ≡ q = same_prelude bytes p q a b in
    let args : p.args ≡ q.args = ap (λ (z : Prelude). z.args) e in
    let names : a.names ≡ b.names = sym (names_at bytes p a) ∙ (ap (λ (z : Prelude). drop z.info_at (take z.lines_at (take z.code_at bytes))) e ∙ names_at bytes q b) in
    record {
      prelude = e;
      indexes = same_indexes a.indexes b.indexes a.names b.names [] [] a.are_names b.are_names (omega (arith, a.count, b.count, args)) (ap (λ (z : List ℕ). z ++ []) names);
      lines = sym (lines_at bytes p a) ∙ (ap (λ (z : Prelude). drop z.lines_at (take z.code_at bytes)) e ∙ lines_at bytes q b);
      instructions = sym (instructions_at bytes p a) ∙ (ap (λ (z : Prelude). drop z.code_at bytes) e ∙ instructions_at bytes q b);
    }

-- a code
-- ======

abbrev code_with : List ℕ → List (List ℕ) → ℕ → ℕ → ℕ → List Item → List ℕ → List Code → Code-F Code
code_with name args defaults n_state n_exc instrs lines children = record {
  name = name;
  args = args;
  defaults = defaults;
  n_state = n_state;
  n_exc = n_exc;
  instrs = instrs;
  lines = lines;
  children = children;
}

pub same_fields : (a b : Code-F Code) → a.name ≡ b.name → a.args ≡ b.args → a.defaults ≡ b.defaults → a.n_state ≡ b.n_state → a.n_exc ≡ b.n_exc → a.instrs ≡ b.instrs → a.lines ≡ b.lines → a.children ≡ b.children → a ≡ b
same_fields a b name args defaults n_state n_exc instrs lines children =
    ap (λ (z : List ℕ). code_with z a.args a.defaults a.n_state a.n_exc a.instrs a.lines a.children) name
    ∙ (ap (λ (z : List (List ℕ)). code_with b.name z a.defaults a.n_state a.n_exc a.instrs a.lines a.children) args
    ∙ (ap (λ (z : ℕ). code_with b.name b.args z a.n_state a.n_exc a.instrs a.lines a.children) defaults
    ∙ (ap (λ (z : ℕ). code_with b.name b.args b.defaults z a.n_exc a.instrs a.lines a.children) n_state
    ∙ (ap (λ (z : ℕ). code_with b.name b.args b.defaults b.n_state z a.instrs a.lines a.children) n_exc
    ∙ (ap (λ (z : List Item). code_with b.name b.args b.defaults b.n_state b.n_exc z a.lines a.children) instrs
    ∙ (ap (λ (z : List ℕ). code_with b.name b.args b.defaults b.n_state b.n_exc b.instrs z a.children) lines
    ∙ ap (code_with b.name b.args b.defaults b.n_state b.n_exc b.instrs b.lines) children))))))

module _ (tables : Tables) (base : ℕ) (m : Module) where
  one_position : (a b : ℕ) → Position a ≡ Position b → a ≡ b
  one_position a b e = cc

  one_item : (x : listings.Item) (y z : Item) → IsMovedItem tables base m x y → IsMovedItem tables base m x z → y ≡ z
  one_item (listed.Plain instr) y z h k = h ∙ sym k
  one_item (listed.Jump op target) y z h k = h.2 ∙ (ap (λ (p : ℕ). items.Jump op p) (one_position h.0 k.0 (sym h.1 ∙ k.1)) ∙ sym k.2)
  one_item (listed.Unwind target byte) y z h k = h.2 ∙ (ap (λ (p : ℕ). items.Unwind p byte) (one_position h.0 k.0 (sym h.1 ∙ k.1)) ∙ sym k.2)

  first_of : (a b : List ℕ) (xs ys : List (List ℕ)) → a ∷ xs ≡ b ∷ ys → a ≡ b
  first_of a b xs ys e = cc

  rest_of : (a b : List ℕ) (xs ys : List (List ℕ)) → a ∷ xs ≡ b ∷ ys → xs ≡ ys
  rest_of a b xs ys e = cc

  pub one_code : (bytes : List ℕ) (a b : Code) → IsMovedCode tables base m bytes a → IsMovedCode tables base m bytes b → a ≡ b
  one_code bytes a b h k =
      let s = same bytes h.prelude k.prelude h.begins k.begins in
      let e : h.prelude ≡ k.prelude = s.prelude in
      let lists = one_listing k.begins.instructions h.items k.items h.offsets k.offsets (subst (λ (z : List ℕ). Lists z h.items h.offsets) s.instructions h.lists) k.lists in
      let texts = h.names ∙ (ap (map (text_at m)) s.indexes ∙ sym k.names) in
      let instrs = one_beside (IsMovedItem tables base m) one_item k.items (out-Code a).instrs (out-Code b).instrs (subst (λ (z : List listings.Item). AllZip (IsMovedItem tables base m) z (out-Code a).instrs) lists.0 h.instrs) k.instrs in
      let fields : out-Code a ≡ out-Code b =
      same_fields (out-Code a) (out-Code b) (first_of _ _ _ _ texts) (rest_of _ _ _ _ texts)
      (h.defaults ∙ (ap (λ (z : Prelude). z.defaults) e ∙ sym k.defaults)) (h.n_state ∙ (ap (λ (z : Prelude). z.n_state) e ∙ sym k.n_state)) (h.n_exc ∙ (ap (λ (z : Prelude). z.n_exc) e ∙ sym k.n_exc))
      instrs (h.lines ∙ (ap₂ (λ (t : List ℕ) (os : List ℕ). map (line_of t) os) s.lines lists.1 ∙ sym k.lines)) (h.alone ∙ sym k.alone) in
      sym (roll-out-Code a) ∙ (ap roll-Code fields ∙ roll-out-Code b)

  pub one_own : (bytes a b : List ℕ) → IsMovedOwn tables base m bytes a → IsMovedOwn tables base m bytes b → a ≡ b
  one_own bytes a b h k = same_own tables k.code a b (subst (λ (c : Code). IsOwn tables c a) (one_code bytes h.code k.code h.moved k.moved) h.is_own) k.is_own

  -- what was written is near and short
  near_own : (bytes own : List ℕ) → IsMovedOwn tables base m bytes own → IsFarOwn tables base m bytes → ⊥
  near_own bytes own h f =
      let same : f.code ≡ h.code = one_code bytes f.code h.code f.moved h.moved in
      let far = subst (λ (c : Code). IsTooFar (labelled tables c) ⊎ IsBig tables c) same f.far in
      elim far [
        | inl jump ↦ never_both (labelled tables h.code) h.is_own.instructions h.is_own.layout jump
        | inr big ↦
            let own_is = same_own tables h.code big.0 own big.1 h.is_own in
            let past = big.2 in
            let short = h.short in
            omega (arith, past, short, ap length own_is)
      ]

  -- and those in it
  -- ===============

  abbrev raw_with : List ℕ → List RawCode → RawCode-F RawCode
  raw_with bytes children = record { bytes = bytes; children = children }

  same_raw : (a b : RawCode) → (out-RawCode a).bytes ≡ (out-RawCode b).bytes → (out-RawCode a).children ≡ (out-RawCode b).children → a ≡ b
  same_raw a b bytes children =
      let same : out-RawCode a ≡ out-RawCode b = fields (out-RawCode a) (out-RawCode b) bytes children in
      sym (roll-out-RawCode a) ∙ (ap roll-RawCode same ∙ roll-out-RawCode b) where
        fields : (x y : RawCode-F RawCode) → x.bytes ≡ y.bytes → x.children ≡ y.children → x ≡ y
        fields x y e f = ap₂ raw_with e f

  pub one_tree : (levels : ℕ) (raw a b : RawCode) → IsMovedTree levels tables base m raw a → IsMovedTree levels tables base m raw b → a ≡ b
  unfolding IsMovedTree
  one_tree zero raw a b h k = absurd h
  one_tree (suc levels) raw a b h k =
      same_raw a b (one_own (out-RawCode raw).bytes (out-RawCode a).bytes (out-RawCode b).bytes h.0 k.0)
      (one_beside (IsMovedTree levels tables base m) (one_tree levels) (out-RawCode raw).children (out-RawCode a).children (out-RawCode b).children h.1 k.1)

  by_child : (levels : ℕ) (path : List ℕ) (roots moved : List RawCode) (n : ℕ) (raw : RawCode) → AllZip (IsMovedTree levels tables base m) roots moved
      → ((child other : RawCode) → IsMovedTree levels tables base m child other → code_at path child ≡ Some raw → ⊥)
      → (o : Option RawCode) → slice_get roots n ≡ o → option_and_then (code_at path) o ≡ Some raw → ⊥
  by_child levels path roots moved n raw zip step None at e = absurd cc
  by_child levels path roots moved n raw zip step (Some child) at e =
      let other = beside_at (IsMovedTree levels tables base m) roots moved n child zip at in
      step child other.0 other.1 e

  near_at : (levels : ℕ) (path : List ℕ) (root moved raw : RawCode) → IsMovedTree levels tables base m root moved → code_at path root ≡ Some raw → IsFarOwn tables base m (out-RawCode raw).bytes → ⊥
  unfolding IsMovedTree
  near_at zero path root moved raw h e far = h
  near_at (suc levels) [] root moved raw h e far =
      let same : root ≡ raw = cc in
      near_own (out-RawCode root).bytes (out-RawCode moved).bytes h.0 (subst (λ (r : RawCode). IsFarOwn tables base m (out-RawCode r).bytes) (sym same) far)
  near_at (suc levels) (n ∷ path) root moved raw h e far =
      by_child levels path (out-RawCode root).children (out-RawCode moved).children n raw h.1 (λ child other tree is. near_at levels path child other raw tree is far) (slice_get (out-RawCode root).children n) refl e

  pub near_tree : (levels : ℕ) (root moved : RawCode) → IsMovedTree levels tables base m root moved → HasFarCode tables base m root → ⊥
  near_tree levels root moved h f = near_at levels f.path root moved f.raw h f.is f.far
