-- What instructions find on the slots, and the operators that they name.
use Rattle.std.proofs.Common.{◌≡◌, ℕ, suc, ◌+◌, ◌*◌, ◌<◌, true, false, List, [], ◌∷◌, ◌++◌, length, map, take, drop, Some, refl, sym, ap, ◌∙◌, append_assoc, arith}
use Rattle.std.proofs.lemmas.List.{reverse-reverse, length-reverse, take_at, drop_at, map-append}
use Rattle.std.proofs.lemmas.Grind.{reverse_onto}
use Rattle.std.specs.Prelude.{reverse, ◌/◌, ◌%◌}
use Rattle.bc_scheme.specs.mpy_base.Val.{Val}
use Rattle.bc_scheme.specs.py_values.Shown.{PlainHeap}
use Rattle.bc_scheme.specs.py_primitives.Operators.{binary, in_place, unary}
use Rattle.bc_scheme.specs.py_tree.declared.expr.UnaryOp.{UnaryOp}
use Rattle.bc_scheme.specs.py_tree.declared.expr.UnaryOp.TheVariants as unaries
use Rattle.bc_scheme.specs.py_tree.declared.expr.BinaryOp.{BinaryOp}
use Rattle.bc_scheme.specs.py_tree.declared.expr.BinaryOp.TheVariants as binaries
use Rattle.bc_scheme.specs.py_tree.declared.expr.CompareOp.{CompareOp}
use Rattle.bc_scheme.specs.py_tree.declared.expr.CompareOp.TheVariants as compares
use Rattle.bc_scheme.specs.py_meaning.Expressions.{unary_of, binary_of, compare, negated}
use Rattle.bc_scheme.specs.bc_machine.State.{Slot, Value}
use Rattle.bc_scheme.specs.bc_machine.Operations.{operator_at, unary_at, value_in, values, paired, Operands, operands}
use Rattle.bc_scheme.specs.Context.{unary_number, arithmetic, comparing, is_negated}
use Rattle.sim_stmt.specs.Follows.{pushed, laid}

pub pushed_is : (vs : List Val) (slots : List Slot) → pushed vs slots ≡ map Value (reverse vs) ++ slots
pushed_is [] slots = refl
pushed_is (v ∷ vs) slots =
    pushed_is vs (Value v ∷ slots) ∙ sym (append_assoc (map Value (reverse vs)) (Value v ∷ []) slots)
    ∙ ap (λ l. l ++ slots) (sym (map-append Value (reverse vs) (v ∷ [])) ∙ ap (map Value) (sym (reverse_onto vs v [])))

length_values : (vs : List Val) → length (map Value vs) ≡ length vs
length_values [] = refl
length_values (v ∷ vs) = ap suc (length_values vs)

length_pushed : (vs : List Val) → length (map Value (reverse vs)) ≡ length vs
length_pushed vs = length_values (reverse vs) ∙ length-reverse vs

values_in : (vs : List Val) → map value_in (map Value vs) ≡ vs
values_in [] = refl
values_in (v ∷ vs) = ap (λ us. v ∷ us) (values_in vs)

pub values_of : (vs : List Val) (slots : List Slot) (n : ℕ) → length vs ≡ n → values n (pushed vs slots) ≡ vs
values_of vs slots n e =
    ap (λ l. reverse (map value_in (take n l))) (pushed_is vs slots)
    ∙ ap (λ l. reverse (map value_in l)) (take_at (map Value (reverse vs)) slots n (length_pushed vs ∙ e))
    ∙ ap reverse (values_in (reverse vs)) ∙ reverse-reverse vs

pub below_of : (vs : List Val) (slots : List Slot) (n : ℕ) → length vs ≡ n → drop n (pushed vs slots) ≡ slots
below_of vs slots n e = ap (drop n) (pushed_is vs slots) ∙ drop_at (map Value (reverse vs)) slots n (length_pushed vs ∙ e)

pub paired_laid : (keys : List (Val × Val)) → paired (laid keys) ≡ keys
paired_laid [] = refl
paired_laid (key ∷ keys) = ap (λ ks. key ∷ ks) (paired_laid keys)

pub length_laid : (keys : List (Val × Val)) → length (laid keys) ≡ 2 * length keys
length_laid [] = refl
length_laid (key ∷ keys) = let e = length_laid keys in omega arith

-- the two counts in an operand
pub low_count : (a b : ℕ) → a < 256 → (a + 256 * b) % 256 ≡ a
low_count a b lt = omega arith

pub high_count : (a b : ℕ) → a < 256 → (a + 256 * b) / 256 ≡ b
high_count a b lt = omega arith

abbrev operands_made : List Val → List (Val × Val) → List Slot → Operands
operands_made args keys below = record { args = args; keys = keys; below = below }

operands_by : (p k : ℕ) (args : List Val) (keys : List (Val × Val)) (slots : List Slot) → length args ≡ p → length (laid keys) ≡ k
    → operands_made (values p (drop k (pushed (laid keys) (pushed args slots)))) (paired (values k (pushed (laid keys) (pushed args slots)))) (drop p (drop k (pushed (laid keys) (pushed args slots))))
    ≡ operands_made (args) (keys) (slots)
operands_by p k args keys slots ep ek =
    ap (λ l. operands_made (values p l) (paired (values k (pushed (laid keys) (pushed args slots)))) (drop p l)) (below_of (laid keys) (pushed args slots) k ek)
    ∙ ap (λ l. operands_made (values p (pushed args slots)) (paired l) (drop p (pushed args slots))) (values_of (laid keys) (pushed args slots) k ek)
    ∙ ap (λ l. operands_made (l) (paired (laid keys)) (drop p (pushed args slots))) (values_of args slots p ep)
    ∙ ap (λ l. operands_made (args) (l) (drop p (pushed args slots))) (paired_laid keys)
    ∙ ap (λ l. operands_made (args) (keys) (l)) (below_of args slots p ep)

pub operands_are : (a b : ℕ) (args : List Val) (keys : List (Val × Val)) (slots : List Slot) → length args ≡ a → length keys ≡ b → a < 256
    → operands (a + 256 * b) (pushed (laid keys) (pushed args slots)) ≡ operands_made args keys slots
operands_are a b args keys slots ea eb lt =
    operands_by ((a + 256 * b) % 256) (2 * ((a + 256 * b) / 256)) args keys slots (ea ∙ sym (low_count a b lt))
    (length_laid keys ∙ ap (λ n. 2 * n) (eb ∙ sym (high_count a b lt)))

-- ---- operators

pub unary_found : (op : UnaryOp) → unary_at (unary_number op) ≡ Some (λ heap. unary heap (unary_of op))
unary_found unaries.Plus = refl
unary_found unaries.Minus = refl
unary_found unaries.Invert = refl

pub binary_found : (op : BinaryOp) → operator_at (arithmetic op + 13) ≡ Some (λ heap. binary heap (binary_of op))
binary_found binaries.Or = refl
binary_found binaries.Xor = refl
binary_found binaries.And = refl
binary_found binaries.Shl = refl
binary_found binaries.Shr = refl
binary_found binaries.Add = refl
binary_found binaries.Sub = refl
binary_found binaries.Mul = refl
binary_found binaries.FloorDiv = refl
binary_found binaries.Mod = refl
binary_found binaries.Pow = refl

pub in_place_found : (op : BinaryOp) → operator_at (arithmetic op) ≡ Some (λ heap. in_place heap (binary_of op))
in_place_found binaries.Or = refl
in_place_found binaries.Xor = refl
in_place_found binaries.And = refl
in_place_found binaries.Shl = refl
in_place_found binaries.Shr = refl
in_place_found binaries.Add = refl
in_place_found binaries.Sub = refl
in_place_found binaries.Mul = refl
in_place_found binaries.FloorDiv = refl
in_place_found binaries.Mod = refl
in_place_found binaries.Pow = refl

-- a comparison without its `not`
abbrev pub bare : CompareOp → CompareOp
bare compares.NotIn = compares.In
bare compares.IsNot = compares.Is
bare op = op

pub compare_found : (op : CompareOp) → operator_at (comparing op) ≡ Some (compare (bare op))
compare_found compares.Lt = refl
compare_found compares.Gt = refl
compare_found compares.Eq = refl
compare_found compares.Le = refl
compare_found compares.Ge = refl
compare_found compares.Ne = refl
compare_found compares.In = refl
compare_found compares.NotIn = refl
compare_found compares.Is = refl
compare_found compares.IsNot = refl

pub compare_straight : (op : CompareOp) → is_negated op ≡ false → bare op ≡ op
compare_straight compares.Lt e = refl
compare_straight compares.Gt e = refl
compare_straight compares.Eq e = refl
compare_straight compares.Le e = refl
compare_straight compares.Ge e = refl
compare_straight compares.Ne e = refl
compare_straight compares.In e = refl
compare_straight compares.NotIn e = cc e
compare_straight compares.Is e = refl
compare_straight compares.IsNot e = cc e

pub compare_negated : (op : CompareOp) (heap : PlainHeap) (a b : Val) → is_negated op ≡ true → compare op heap a b ≡ negated (compare (bare op) heap a b)
compare_negated compares.Lt heap a b e = cc e
compare_negated compares.Gt heap a b e = cc e
compare_negated compares.Eq heap a b e = cc e
compare_negated compares.Le heap a b e = cc e
compare_negated compares.Ge heap a b e = cc e
compare_negated compares.Ne heap a b e = cc e
compare_negated compares.In heap a b e = cc e
compare_negated compares.NotIn heap a b e = refl
compare_negated compares.Is heap a b e = cc e
compare_negated compares.IsNot heap a b e = refl
