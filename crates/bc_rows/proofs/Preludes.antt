-- The parts of a code's bytes: once, and of a code of a module.
use Rattle.std.proofs.Common.{◌≡◌, ℕ, ◌+◌, ◌<◌, ◌≤◌, List, [], ◌∷◌, ◌++◌, length, take, drop, map, refl, sym, ap, subst, ◌∙◌, arith, Some, zero, suc, true}
use Rattle.std.specs.Prelude.{IsSome, slice_get, is_some, slice_index_or, remove, option_and_then}
use Rattle.std.specs.List.{AllByRecursion}
use Rattle.std.proofs.lemmas.List.{length-map}
use Rattle.std.proofs.lemmas.List.Elements.{recursion_from_All}
use Rattle.bc_machine.specs.bc_ops.declared.listing.Item.{Item}
use Rattle.bc_machine.specs.bc_ops.Listing.{IsListOf}
use Rattle.bc_prelude.specs.declared.prelude.Prelude.{Prelude}
use Rattle.bc_prelude.specs.Prelude.{Begins, HasParts}
use Rattle.bc_prelude.specs.Names.{AreNames}
use Rattle.bc_prelude.proofs.Indexes.{same_indexes}
use Rattle.bc_prelude.proofs.Pieces.{names_at, lines_at, instructions_at}
use Rattle.bc_prelude.proofs.Preludes.{same_prelude}
use Rattle.bc_machine.specs.mpy_tree.declared.raw.Qstr.{Qstr}
use Rattle.bc_machine.specs.mpy_tree.Raw.{Module}
use Rattle.bc_library.specs.Shelf.{Shelf, module_at, entry_at}
use Rattle.bc_rows.specs.Made.{AreIndexes, IsOwnCodeIn}

-- bytes begin with one prelude, one list of indexes and one table, and have one rest
pub record SameParts (bytes : List ℕ) (p q : Prelude) (b : Begins bytes p) (c : Begins bytes q) : Type 0 where
  pub prelude : p ≡ q
  pub indexes : b.indexes ≡ c.indexes
  pub lines : b.lines ≡ c.lines
  pub instructions : b.instructions ≡ c.instructions

pub same_parts : (bytes : List ℕ) (p q : Prelude) (b : Begins bytes p) (c : Begins bytes q) → SameParts bytes p q b c
same_parts bytes p q b c =
    let prelude : p ≡ q = same_prelude bytes p q b c in
    let args : p.args ≡ q.args = ap (λ (z : Prelude). z.args) prelude in
    let count : length b.indexes ≡ length c.indexes = omega (arith, b.count, c.count, args) in
    let names : b.names ≡ c.names =
    sym (names_at bytes p b) ∙ (ap (λ (z : Prelude). drop z.info_at (take z.lines_at (take z.code_at bytes))) prelude ∙ names_at bytes q c) in
    record {
      prelude = prelude;
      indexes = same_indexes b.indexes c.indexes b.names c.names [] [] b.are_names c.are_names count (ap (λ (z : List ℕ). z ++ []) names);
      lines = sym (lines_at bytes p b) ∙ (ap (λ (z : Prelude). drop z.lines_at (take z.code_at bytes)) prelude ∙ lines_at bytes q c);
      instructions = sym (instructions_at bytes p b) ∙ (ap (λ (z : Prelude). drop z.code_at bytes) prelude ∙ instructions_at bytes q c);
    }

there : (qstrs : List Qstr) (n : ℕ) → n < length qstrs → is_some (slice_get qstrs n) ≡ true
there [] n lt = absurd (omega (arith, lt))
there (q ∷ qstrs) zero lt = refl
there (q ∷ qstrs) (suc n) lt = there qstrs n (omega (arith, lt))

pub entry_there : (shelf : Shelf) (i : ℕ) (m : Module) (n : ℕ) → module_at shelf i ≡ Some m → n < length m.qstrs → IsSome (entry_at shelf i n)
entry_there shelf i m n e lt = ap (λ o. is_some (option_and_then (λ (m : Module). slice_get m.qstrs n) o)) e ∙ there m.qstrs n lt

all_there : (shelf : Shelf) (i : ℕ) (m : Module) → module_at shelf i ≡ Some m → (ns : List ℕ) → AllByRecursion (λ n. n < length m.qstrs) ns → AllByRecursion (λ n. IsSome (entry_at shelf i n)) ns
all_there shelf i m e [] h = tt
all_there shelf i m e (n ∷ ns) h = (entry_there shelf i m n e h.0, all_there shelf i m e ns h.1)

-- the parts of a code of a module: its names are indexes of the module's table, and its instructions are a list
module _ (shelf : Shelf) (i : ℕ) (code : List ℕ) (own : IsOwnCodeIn shelf i code) (p : Prelude) (names lines instructions : List ℕ) (h : HasParts code p names lines instructions) where
  same : SameParts code own.2.prelude p own.2.begins h.begins
  same = same_parts code own.2.prelude p own.2.begins h.begins

  pub indexes_of : AreIndexes shelf i (1 + p.args) names h.begins.indexes
  indexes_of =
      let o = own.2 in
      record {
        names = subst (AreNames h.begins.indexes) (sym h.names_are) h.begins.are_names;
        many = h.begins.count;
        known = subst (AllByRecursion (λ n. IsSome (entry_at shelf i n))) same.indexes (all_there shelf i own.0 own.1 o.begins.indexes (recursion_from_All _ o.begins.indexes o.names));
      }

  pub list_of : (items : List Item) × IsListOf instructions items
  list_of = (own.2.items, subst (λ (z : List ℕ). IsListOf z own.2.items) (same.instructions ∙ sym h.instructions_are) own.2.listed)

pub few_args : (code : List ℕ) (p : Prelude) → Begins code p → p.args ≤ 255
few_args code p b = omega (arith, b.is_signature.args, b.is_signature.small.arguments)

pub first_out : (xs : List ℕ) (x : ℕ) → 0 < length xs → x ≡ slice_index_or xs 0 x → x ∷ remove xs 0 ≡ xs
first_out [] x lt e = absurd (omega (arith, lt))
first_out (y ∷ ys) x lt e = ap (λ z. z ∷ ys) e

pub some_first : {A B C : Type 0} (f : A → C) (g : B → C) (xs : List A) (ys : List B) (n : ℕ) → map f xs ≡ map g ys → length ys ≡ 1 + n → 0 < length xs
some_first f g xs ys n e many = let a = ap length e in let b = length-map xs f in let c = length-map ys g in omega (arith, a, b, c, many)
