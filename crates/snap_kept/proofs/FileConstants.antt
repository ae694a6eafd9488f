-- What a file's instructions load holds no object and no built-in.
use Rattle.std.proofs.Common.{◌+◌, ◌≡◌, inl, inr, ℕ, zero, suc, List, [], ◌∷◌, ◌++◌, map, Option, Some, None, refl, sym, ap, subst, slice_get, option_map, unwrap_or}
use Rattle.std.specs.Prelude.{ℤ}
use Rattle.bc_machine.specs.bc_ops.declared.instr.Op.{Op}
use Rattle.bc_machine.specs.bc_ops.declared.instr.Op.TheVariants as ops
use Rattle.bc_machine.specs.bc_ops.declared.instr.Instr.TheVariants as instrs
use Rattle.bc_machine.specs.bc_ops.declared.listing.Item as listings
use Rattle.bc_machine.specs.bc_ops.declared.listing.Item.TheVariants as listed
use Rattle.bc_machine.specs.mpy_base.Val.{Val, Vals, Only, Then, Nil, Truth, Int, Str, Fixed, Empty, Built, At}
use Rattle.bc_machine.specs.mpy_tree.declared.module.Constant.{Constant, roll-Constant}
use Rattle.bc_machine.specs.mpy_tree.declared.module.Constant.TheOpen.{Constant-F}
use Rattle.bc_machine.specs.mpy_tree.declared.module.Constant.TheFolds.{fold-roll-Constant, ind-Constant}
use Rattle.bc_machine.specs.mpy_tree.declared.raw.RawCode.{RawCode, out-RawCode}
use Rattle.bc_machine.specs.mpy_tree.Values.{value_of, constant_step, tuple_value, vals_of}
use Rattle.bc_machine.specs.mpy_tree.Raw as raw
use Rattle.bc_machine.specs.mpy_tree.Resolved.{Resolved, plain, named, object, ResolvedLine, Tree, node, Trees, no_more, more, name_at, resolved, ResolvesCode, ResolveCodes}
use Rattle.bc_machine.specs.Library.{Item, Loads, Line, Code, Module, Entry, Holds, Refused, Library, entry_in, module_in, code_in, item_of, line_of, codes_from, codes_of, size_of}
use Rattle.bc_machine.specs.Step.{line_at}
use Rattle.snap_kept.specs.Texts.{IsItem, IsLoaded, IsConstant, AreConstant, HasConstants}
use Rattle.snap_kept.specs.Files.{OfFiles, IsOfFile}

abbrev mutual
  -- no object and no built-in is in it
  IsPure : Val → Type 0
  IsPure Nil = Unit {0}
  IsPure (Truth b) = Unit {0}
  IsPure (Int z) = Unit {0}
  IsPure (Str bytes) = Unit {0}
  IsPure (Fixed items) = ArePure items
  IsPure Empty = Unit {0}
  IsPure (Built b) = ⊥
  IsPure (At n) = ⊥

  ArePure : Vals → Type 0
  ArePure (Only v) = IsPure v
  ArePure (Then v vs) = IsPure v × ArePure vs

abbrev Stays : Item → Type 0
Stays (Loads v) = IsPure v
Stays _ = Unit {0}

-- values of constants
row_stays : {S : Type 0} (f : S → Constant) (h : (s : S) → IsPure (value_of (f s))) (s : S) (ss : List S) → ArePure (vals_of (value_of (f s)) (map value_of (map f ss)))
row_stays f h s [] = h s
row_stays f h s (t ∷ ss) = (h s, row_stays f h t ss)

tuple_stays : {S : Type 0} (f : S → Constant) (h : (s : S) → IsPure (value_of (f s))) (ss : List S) → IsPure (tuple_value (map value_of (map f ss)))
tuple_stays f h [] = tt
tuple_stays f h (s ∷ ss) = row_stays f h s ss

abbrev Told : Constant-F Constant → Type 0
Told x = IsPure (value_of (roll-Constant x))

by_value : (x : Constant-F Constant) (v : Val) → value_of (roll-Constant x) ≡ v → IsPure v → Told x
by_value x v e stays = subst IsPure (sym e) stays

by_layer : {S : Type 0} (f : S → Constant) (h : (s : S) → IsPure (value_of (f s)))
    (m : Constant-F S → Constant-F Constant) → m Constant-F.None ≡ Constant-F.None
    → m Constant-F.False ≡ Constant-F.False → m Constant-F.True ≡ Constant-F.True
    → ((t : List ℕ) → m (Constant-F.Str t) ≡ Constant-F.Str t) → ((z : ℤ) → m (Constant-F.Int z) ≡ Constant-F.Int z)
    → ((ss : List S) → m (Constant-F.Tuple ss) ≡ Constant-F.Tuple (map f ss)) → (y : Constant-F S) → Told (m y)
by_layer f h m a b c d e g Constant-F.None =
    subst Told (sym a) (by_value Constant-F.None _ (fold-roll-Constant Val constant_step Constant-F.None) tt)
by_layer f h m a b c d e g Constant-F.False =
    subst Told (sym b) (by_value Constant-F.False _ (fold-roll-Constant Val constant_step Constant-F.False) tt)
by_layer f h m a b c d e g Constant-F.True =
    subst Told (sym c) (by_value Constant-F.True _ (fold-roll-Constant Val constant_step Constant-F.True) tt)
by_layer f h m a b c d e g (Constant-F.Str t) =
    subst Told (sym (d t)) (by_value (Constant-F.Str t) _ (fold-roll-Constant Val constant_step (Constant-F.Str t))
    tt)
by_layer f h m a b c d e g (Constant-F.Int z) =
    subst Told (sym (e z)) (by_value (Constant-F.Int z) _ (fold-roll-Constant Val constant_step (Constant-F.Int z))
    tt)
by_layer f h m a b c d e g (Constant-F.Tuple ss) =
    subst Told (sym (g ss)) (by_value (Constant-F.Tuple (map f ss)) _
    (fold-roll-Constant Val constant_step (Constant-F.Tuple (map f ss))) (tuple_stays f h ss))

by_layers : {S : Type 0} (f : S → Constant) (h : (s : S) → IsPure (value_of (f s)))
    (m : Constant-F S → Constant-F Constant) → m Constant-F.None ≡ Constant-F.None
    → m Constant-F.False ≡ Constant-F.False → m Constant-F.True ≡ Constant-F.True
    → ((t : List ℕ) → m (Constant-F.Str t) ≡ Constant-F.Str t) → ((z : ℤ) → m (Constant-F.Int z) ≡ Constant-F.Int z)
    → ((ss : List S) → m (Constant-F.Tuple ss) ≡ Constant-F.Tuple (map f ss)) → (x : Constant-F Constant)
    (y : Constant-F S) → m y ≡ x → Told x
by_layers f h m a b c d e g x y k = subst Told k (by_layer f h m a b c d e g y)

constant_stays : (c : Constant) → IsPure (value_of c)
constant_stays =
    ind-Constant (λ c. IsPure (value_of c))
    (by_layers (λ s. s.0) (λ s. s.1) _ refl refl refl (λ t. refl) (λ z. refl) (λ ss. refl))

-- instructions of files
abbrev AllStay : List Resolved → Type 0
AllStay [] = Unit {0}
AllStay (x ∷ xs) = ((size : ℕ) → Stays (item_of size x)) × AllStay xs

named_stays : (size : ℕ) (op : Op) (o : Option (List ℕ)) (n : ℕ)
    → Stays (item_of size (unwrap_or (option_map (named op) o) (plain (instrs.Name op n))))
named_stays size op None n = tt
named_stays size op (Some text) n = tt

object_stays : (size : ℕ) (o : Option Constant) (n : ℕ)
    → Stays (item_of size (unwrap_or (option_map (λ constant. object (value_of constant)) o)
    (plain (instrs.Num ops.LoadConstObj n))))
object_stays size None n = tt
object_stays size (Some c) n = constant_stays c

item_stays : (m : raw.Module) (x : listings.Item) (size : ℕ) → Stays (item_of size (resolved m x))
item_stays m (listed.Plain (instrs.Name op n)) size = named_stays size op (name_at m n) n
item_stays m (listed.Plain (instrs.Num ops.LoadConstObj n)) size = object_stays size (slice_get m.objects n) n
item_stays m (listed.Plain instr) size = tt
item_stays m (listed.Jump op to) size = tt
item_stays m (listed.Unwind to byte) size = tt

items_stay : (m : raw.Module) (items : List listings.Item) → AllStay (map (resolved m) items)
items_stay m [] = tt
items_stay m (x ∷ items) = ((λ size. item_stays m x size), items_stay m items)

-- codes
abbrev LinesStay : List Line → Type 0
LinesStay [] = Unit {0}
LinesStay (l ∷ lines) = Stays l.item × LinesStay lines

abbrev CodesStay : List Code → Type 0
CodesStay [] = Unit {0}
CodesStay (c ∷ codes) = LinesStay c.lines × CodesStay codes

lines_stay : (size : ℕ) (ls : List ResolvedLine) → AllStay (map (λ (l : ResolvedLine). l.item) ls)
    → LinesStay (map (line_of size) ls)
lines_stay size [] p = tt
lines_stay size (l ∷ ls) p = (p.0 size, lines_stay size ls p.1)

codes_both : (xs ys : List Code) → CodesStay xs → CodesStay ys → CodesStay (xs ++ ys)
codes_both [] ys p q = q
codes_both (c ∷ xs) ys p q = (p.0, codes_both xs ys p.1 q)

mutual
  tree_stays : (m : raw.Module) (number : ℕ) (tree : Tree) (code : RawCode) → ResolvesCode m tree code
      → CodesStay (codes_from number tree)
  tree_stays m number (node body trees) code p = (
    lines_stay _ body.lines (subst AllStay (sym p.0.instrs) (items_stay m p.0.items)),
    trees_stay m (suc number)
        trees (out-RawCode code).children p.1,
  )

  trees_stay : (m : raw.Module) (number : ℕ) (trees : Trees) (codes : List RawCode) → ResolveCodes m trees codes
      → CodesStay (codes_of number trees)
  trees_stay m number no_more codes p = tt
  trees_stay m number (more tree trees) codes p =
      codes_both (codes_from number tree) (codes_of (number + size_of tree) trees)
      (tree_stays m number tree p.0 p.3) (trees_stay m (number + size_of tree) trees p.1 p.4)

line_found : (lines : List Line) → LinesStay lines → (position : ℕ) (l : Line) → slice_get lines position ≡ Some l
    → Stays l.item
line_found [] p position l e = absurd (cc e)
line_found (x ∷ lines) p zero l e = subst Stays (ap (λ o. (unwrap_or o x).item) e) p.0
line_found (x ∷ lines) p (suc position) l e = line_found lines p.1 position l e

code_found : (codes : List Code) → CodesStay codes → (number position : ℕ) (l : Line)
    → line_at (slice_get codes number) position ≡ Some l → Stays l.item
code_found [] p number position l e = absurd (cc e)
code_found (c ∷ codes) p zero position l e = line_found c.lines p.0 position l e
code_found (c ∷ codes) p (suc number) position l e = code_found codes p.1 number position l e

entry_found : (o : Option Entry) → ((m : Module) → o ≡ Some (Holds m) → IsOfFile m)
    → (number position : ℕ) (l : Line) → line_at (code_in (module_in o) number) position ≡ Some l → Stays l.item
entry_found None f number position l e = absurd (cc e)
entry_found (Some Refused) f number position l e = absurd (cc e)
entry_found (Some (Holds m)) f number position l e =
    let file : IsOfFile m = f m refl in
    code_found m.codes (subst (λ (z : Module). CodesStay z.codes) (sym file.is)
    (tree_stays file.held 0 file.tree.code file.held.code file.resolves.code)) number position l e

-- what is pure and loaded is a constant
module _ (library : Library) where
  mutual
    pure_constant : (v : Val) → IsLoaded library v → IsPure v → IsConstant library v
    pure_constant Nil l p = tt
    pure_constant (Truth b) l p = tt
    pure_constant (Int z) l p = tt
    pure_constant (Str bytes) l p = inr l
    pure_constant (Fixed items) l p = (l, pure_constants items items l (λ v i. i) p)
    pure_constant Empty l p = tt
    pure_constant (Built b) l p = absurd p
    pure_constant (At n) l p = absurd p

    pure_constants : (vs items : Vals) → IsLoaded library (Fixed items) → ((v : Val) → IsItem v vs → IsItem v items) → ArePure vs → AreConstant library vs
    pure_constants (Only v) items l sub p = pure_constant v (IsLoaded.item v items l (sub v refl)) p
    pure_constants (Then v vs) items l sub p = (pure_constant v (IsLoaded.item v items l (sub v (inl refl))) (p.0), pure_constants vs items l (λ x i. sub x (inr i)) (p.1))

  loads_pure : (item : Item) (v : Val) → item ≡ Loads v → Stays item → IsPure v
  loads_pure item v e p = subst Stays e p

  pub constants_are : OfFiles library → HasConstants library
  constants_are of = record {
    constants = λ name number position l v e q. pure_constant v (IsLoaded.loaded name number position l v e q) (loads_pure l.item v q (entry_found (entry_in library name) (of.files name) number position l e));
  }
