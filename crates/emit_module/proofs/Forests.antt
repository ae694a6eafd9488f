-- Functions side by side, and walks over them one behind another.
use Rattle.std.proofs.Common.{◌≡◌, ◌≤◌, ◌<◌, ℕ, suc, ◌+◌, List, [], ◌∷◌, ◌++◌, length, drop, get_or, refl, sym, ap, ◌∙◌, subst, arith, append_assoc, append-nil}
use Rattle.std.specs.Prelude.{Result, Ok, Err}
use Rattle.std.proofs.lemmas.List.{drop_all}
use Rattle.mpy_base.specs.declared.source.SourceFault.{SourceFault}
use Rattle.mpy_base.specs.declared.refused.Refused.{Refused}
use Rattle.mpy_base.specs.declared.refused.Refused.TheVariants.{Fault, NoMemory}
use Rattle.mpy_writer.specs.mpy_tree.declared.module.Code.{Code}
use Rattle.py_tree.specs.declared.stmt.Branch.{Branch}
use Rattle.tr_source.specs.py_meaning.Tree.{Name, Else, End}
use Rattle.tr_source.specs.py_meaning.Plain.{part}
use Rattle.tr_source.specs.py_meaning.Program.{Source}
use Rattle.emit_stmt.proofs.emit_expr_lemmas.Rows.{drop_item}
use Rattle.emit_module.specs.declared.walk.Children.{Children}
use Rattle.emit_module.specs.Walk as w
use Rattle.emit_module.specs.Walk.{Forest, bare, grow, beside, size, def_lines, Grows, no_code, with_code, AreFine, Breaks, here, inside, behind, IsWalked, Walks, WalksAll, WalksFront}

-- ---- forests

pub beside_bare : (f : Forest) → beside f bare ≡ f
beside_bare bare = refl
beside_bare (grow line f inner others) = ap (grow line f inner) (beside_bare others)

pub beside_assoc : (f g h : Forest) → beside (beside f g) h ≡ beside f (beside g h)
beside_assoc bare g h = refl
beside_assoc (grow line f inner others) g h = ap (grow line f inner) (beside_assoc others g h)

pub size_beside : (f g : Forest) → size (beside f g) ≡ size f + size g
size_beside bare g = omega arith
size_beside (grow line f inner others) g = let e = size_beside others g in omega (arith, e)

pub def_lines_on : (f g : Forest) → def_lines (beside f g) ≡ def_lines f ++ def_lines g
def_lines_on bare g = refl
def_lines_on (grow line f inner others) g = ap (λ z. line ∷ (def_lines inner ++ z)) (def_lines_on others g) ∙ ap (λ z. line ∷ z) (sym (append_assoc (def_lines inner) (def_lines others) (def_lines g)))

-- ---- codes and faults side by side

pub grows_on : {source : Source} {depth n : ℕ} {f g : Forest} {cs ds : List Code} → Grows source depth n f cs → Grows source depth (n + size f) g ds → Grows source depth n (beside f g) (cs ++ ds)
grows_on {source = source} {depth = depth} {n = n} {g = g} {ds = ds} no_code k = let e : n + 0 ≡ n = omega arith in subst (λ z. Grows source depth z g ds) e k
grows_on {source = source} {depth = depth} {n = n} {g = g} {ds = ds} (with_code {inner = inner} {others = others} made is i o) k =
    let e : n + suc (size inner + size others) ≡ suc (n + size inner) + size others = omega arith in
    with_code made is i (grows_on o (subst (λ z. Grows source depth z g ds) e k))

pub fine_of : {source : Source} {depth n : ℕ} {f : Forest} {cs : List Code} → Grows source depth n f cs → AreFine source depth n f
fine_of no_code = tt
fine_of (with_code made is i o) = (made.within, fine_of i, fine_of o)

pub breaks_left : {source : Source} {depth n : ℕ} {f : Forest} {fault : SourceFault} (g : Forest) → Breaks source depth n f fault → Breaks source depth n (beside f g) fault
breaks_left g (here h) = here h
breaks_left g (inside h b) = inside h b
breaks_left g (behind h a b) = behind h a (breaks_left g b)

pub breaks_right : {source : Source} {depth n : ℕ} (f : Forest) {g : Forest} {fault : SourceFault} → AreFine source depth n f → Breaks source depth (n + size f) g fault → Breaks source depth n (beside f g) fault
breaks_right {source = source} {depth = depth} {n = n} bare {g = g} {fault = fault} a b = let e : n + 0 ≡ n = omega arith in subst (λ z. Breaks source depth z g fault) e b
breaks_right {source = source} {depth = depth} {n = n} (grow line f inner others) {g = g} {fault = fault} a b =
    let e : n + suc (size inner + size others) ≡ suc (n + size inner) + size others = omega arith in
    behind a.0 a.1 (breaks_right {n = suc (n + size inner)} others a.2 (subst (λ z. Breaks source depth z g fault) e b))

-- ---- walks

pub walked_none : (source : Source) (a : Children) → IsWalked source bare a a
walked_none source a = record { level = refl; depth = refl; more = []; codes = sym (append-nil a.codes); next = omega arith; lines = sym (append-nil a.lines); grows = no_code }

grows_at : {source : Source} {depth next : ℕ} {g : Forest} {ds : List Code} (d n : ℕ) → depth ≡ d → next ≡ n → Grows source depth next g ds → Grows source d n g ds
grows_at {source = source} {depth = depth} {g = g} {ds = ds} d n e h k = subst (λ z. Grows source z n g ds) e (subst (λ z. Grows source depth z g ds) h k)

pub walked_on : {source : Source} {f g : Forest} {a b c : Children} → IsWalked source f a b → IsWalked source g b c → IsWalked source (beside f g) a c
walked_on {source = source} {f = f} {g = g} {a = a} {b = b} {c = c} x y = record {
  level = y.level ∙ x.level;
  depth = y.depth ∙ x.depth;
  more = x.more ++ y.more;
  codes = y.codes ∙ ap (λ z. z ++ y.more) x.codes ∙ append_assoc a.codes x.more y.more;
  next = omega (arith, x.next, y.next, size_beside f g);
  lines = y.lines ∙ ap (λ z. z ++ def_lines g) x.lines ∙ append_assoc a.lines (def_lines f) (def_lines g) ∙ ap (λ z. a.lines ++ z) (sym (def_lines_on f g));
  grows = grows_on x.grows (grows_at a.depth (a.next + size f) x.depth x.next y.grows);
}

pub walks_then : {A : Type 0} (source : Source) (f g : Forest) (a b c : Children) (r : Result A (Refused SourceFault)) → IsWalked source f a b → Walks source g b c r → Walks source (beside f g) a c r
walks_then source f g a b c (Ok v) x y = walked_on x y
walks_then source f g a b c (Err (Fault fault)) x y =
    breaks_right f (fine_of x.grows) (subst (λ z. Breaks source a.depth z g fault) x.next (subst (λ z. Breaks source z b.next g fault) x.depth y))
walks_then source f g a b c (Err NoMemory) x y = tt

pub walks_left : (A B : Type 0) (source : Source) (f g : Forest) (a b c : Children) (e : Refused SourceFault) → Walks {A = A} source f a b (Err e) → Walks {A = B} source (beside f g) a c (Err e)
walks_left A B source f g a b c (Fault fault) x = breaks_left g x
walks_left A B source f g a b c NoMemory x = tt

pub walks_as : {A : Type 0} (source : Source) (f g : Forest) (a b : Children) (r : Result A (Refused SourceFault)) → Walks source f a b r → g ≡ f → Walks source g a b r
walks_as source f g a b r x e = subst (λ z. Walks source z a b r) (sym e) x

-- ---- two parts

-- the whole is one part and another behind it
pub record Splits (whole first second : ℕ → Forest) : Type 0 where
  pub by : (n : ℕ) → (i j : ℕ) × (whole n ≡ beside (first i) (second j))

-- the whole begins with one part
pub record Begins (whole first : ℕ → Forest) : Type 0 where
  pub by : (n : ℕ) → (i : ℕ) × (g : Forest) × (whole n ≡ beside (first i) g)

pub begins_by : {whole first second : ℕ → Forest} → Splits whole first second → Begins whole first
begins_by {second = second} h = record { by = λ n. let k = h.by n in (k.0, second k.1, k.2) }

pub then_all : {A B : Type 0} {slots : List (List Name)} {whole first second : ℕ → Forest} {a b c : Children} (v : A) (r : Result B (Refused SourceFault))
    → Splits whole first second → WalksAll slots first a b (Ok v) → WalksAll slots second b c r → WalksAll slots whole a c r
then_all {whole = whole} {first = first} {second = second} {a = a} {b = b} {c = c} v r row x y = record {
  by = λ source l s n.
      let k = row.by n in
      let h = x.by source l s k.0 in
      walks_as source (beside (first k.0) (second k.1)) (whole n) a c r (walks_then source (first k.0) (second k.1) a b c r h (y.by source (l ∙ sym h.level) s k.1)) k.2;
}

pub fails_all : {A B : Type 0} {slots : List (List Name)} {whole first : ℕ → Forest} {a b c : Children} (e : Refused SourceFault)
    → Begins whole first → WalksAll {A = A} slots first a b (Err e) → WalksAll {A = B} slots whole a c (Err e)
fails_all {A = A} {B = B} {whole = whole} {first = first} {a = a} {b = b} {c = c} e row x = record {
  by = λ source l s n.
      let k = row.by n in
      walks_as {A = B} source (beside (first k.0) k.1) (whole n) a c (Err e) (walks_left A B source (first k.0) k.1 a b c e (x.by source l s k.0)) k.2;
}

pub all_as : {A : Type 0} {slots : List (List Name)} {f g : ℕ → Forest} {a b : Children} {r : Result A (Refused SourceFault)} → WalksAll slots f a b r → ((n : ℕ) → g n ≡ f n) → WalksAll slots g a b r
all_as {f = f} {g = g} {a = a} {b = b} {r = r} x e = record { by = λ source l s n. walks_as source (f n) (g n) a b r (x.by source l s n) (e n) }

-- ---- lists

-- what is walked of a list, and what stands behind it
pub record IsTaken {X : Type 0} (source : Source) (f : List X → ℕ → Forest) (all rest : List X) (n : ℕ) (a b : Children) : Type 0 where
  pub done : Forest
  pub at : ℕ
  pub is : f all n ≡ beside done (f rest at)
  pub walked : IsWalked source done a b

pub record SoFar {X : Type 0} (slots : List (List Name)) (f : List X → ℕ → Forest) (all rest : List X) (a b : Children) : Type 0 where
  pub by : (source : Source) → source.level ≡ a.level → source.locals ≡ slots → (n : ℕ) → IsTaken source f all rest n a b

-- the first of a list stands in front of the others
pub record IsFirst {X : Type 0} (f : List X → ℕ → Forest) (own : ℕ → Forest) (x : X) (xs : List X) : Type 0 where
  pub by : (n : ℕ) → (i j : ℕ) × (f (x ∷ xs) n ≡ beside (own i) (f xs j))

-- it stands in front of something
pub record IsBegun {X : Type 0} (f : List X → ℕ → Forest) (own : ℕ → Forest) (x : X) (xs : List X) : Type 0 where
  pub by : (n : ℕ) → (i : ℕ) × (g : Forest) × (f (x ∷ xs) n ≡ beside (own i) g)

pub begun_by : {X : Type 0} {f : List X → ℕ → Forest} {own : ℕ → Forest} {x : X} {xs : List X} → IsFirst f own x xs → IsBegun f own x xs
begun_by {f = f} {xs = xs} h = record { by = λ n. let k = h.by n in (k.0, f xs k.1, k.2) }

pub none_taken : {X : Type 0} (slots : List (List Name)) (f : List X → ℕ → Forest) (all : List X) (a : Children) → SoFar slots f all all a a
none_taken slots f all a = record { by = λ source l s n. record { done = bare; at = n; is = refl; walked = walked_none source a } }

pub one_taken : {X A : Type 0} {slots : List (List Name)} {f : List X → ℕ → Forest} {own : ℕ → Forest} {all : List X} {a b c : Children} (xs : List X) (i : ℕ) (x : X) (v : A)
    → SoFar slots f all (drop i xs) a b → i < length xs → x ≡ get_or xs i x → IsFirst f own x (drop (i + 1) xs) → WalksAll slots own b c (Ok v) → SoFar slots f all (drop (i + 1) xs) a c
one_taken {slots = slots} {f = f} {own = own} {all = all} {a = a} {b = b} {c = c} xs i x v so lt is row walks = record {
  by = λ source l s n.
      let t = so.by source l s n in
      let k = row.by t.at in
      let done = t.done in
      record {
        done = beside done (own k.0);
        at = k.1;
        is = t.is ∙ ap (λ z. beside done (f z t.at)) (drop_item xs i x lt is) ∙ ap (beside done) k.2 ∙ sym (beside_assoc done (own k.0) (f (drop (i + 1) xs) k.1));
        walked = walked_on t.walked (walks.by source (l ∙ sym t.walked.level) s k.0);
      };
}

pub one_fails : {X A B : Type 0} {slots : List (List Name)} {f : List X → ℕ → Forest} {own : ℕ → Forest} {all : List X} {a b c d : Children} (xs : List X) (i : ℕ) (x : X) (e : Refused SourceFault)
    → SoFar slots f all (drop i xs) a b → i < length xs → x ≡ get_or xs i x → IsBegun f own x (drop (i + 1) xs) → WalksAll {A = A} slots own b c (Err e) → WalksAll {A = B} slots (f all) a d (Err e)
one_fails {A = A} {B = B} {f = f} {own = own} {all = all} {a = a} {b = b} {c = c} {d = d} xs i x e so lt is row walks = record {
  by = λ source l s n.
      let t = so.by source l s n in
      let k = row.by t.at in
      let done = t.done in
      let first = walks.by source (l ∙ sym t.walked.level) s k.0 in
      let more = walks_left A B source (own k.0) k.1 b c d e first in
      walks_as {A = B} source (beside done (beside (own k.0) k.1)) (f all n) a d (Err e) (walks_then {A = B} source done (beside (own k.0) k.1) a b d (Err e) t.walked more)
      (t.is ∙ ap (λ z. beside done (f z t.at)) (drop_item xs i x lt is) ∙ ap (beside done) k.2);
}

-- the last one, behind which nothing counts
pub one_last : {X A B : Type 0} {slots : List (List Name)} {f : List X → ℕ → Forest} {own : ℕ → Forest} {all : List X} {a b c : Children} (xs : List X) (i : ℕ) (x : X) (v : A) (u : B)
    → SoFar slots f all (drop i xs) a b → i < length xs → x ≡ get_or xs i x → ((n : ℕ) → (k : ℕ) × (f (x ∷ drop (i + 1) xs) n ≡ own k)) → WalksAll slots own b c (Ok v) → WalksAll slots (f all) a c (Ok u)
one_last {f = f} {own = own} {all = all} {a = a} {b = b} {c = c} xs i x v u so lt is row walks = record {
  by = λ source l s n.
      let t = so.by source l s n in
      let k = row t.at in
      let done = t.done in
      walks_as source (beside done (own k.0)) (f all n) a c (Ok u) (walked_on t.walked (walks.by source (l ∙ sym t.walked.level) s k.0)) (t.is ∙ ap (λ z. beside done (f z t.at)) (drop_item xs i x lt is) ∙ ap (beside done) k.1);
}

pub all_taken : {X A : Type 0} {slots : List (List Name)} {f : List X → ℕ → Forest} {all : List X} {a b : Children} (xs : List X) (i : ℕ) (v : A)
    → SoFar slots f all (drop i xs) a b → length xs ≤ i → ((n : ℕ) → f [] n ≡ bare) → WalksAll slots (f all) a b (Ok v)
all_taken {f = f} {all = all} {a = a} {b = b} xs i v so h none = record {
  by = λ source l s n.
      let t = so.by source l s n in
      let done = t.done in
      walks_as source done (f all n) a b (Ok v) t.walked (t.is ∙ ap (λ z. beside done (f z t.at)) (drop_all i xs h) ∙ ap (beside done) (none t.at) ∙ beside_bare done);
}

-- a front, with what stands behind it
pub front_taken : {X A : Type 0} {source : Source} {f : List X → ℕ → Forest} {all : List X} {n : ℕ} {a b : Children} (xs : List X) (i : ℕ) (v : A) (last : ℕ → Forest)
    → IsTaken source f all (drop i xs) n a b → length xs ≤ i → ((m : ℕ) → f [] m ≡ last m) → w.IsFront source a b (Ok v) (f all n) last
front_taken {f = f} xs i v last t h is = record {
  front = t.done;
  at = t.at;
  is = t.is ∙ ap (λ z. beside t.done (f z t.at)) (drop_all i xs h) ∙ ap (beside t.done) (is t.at);
  walks = t.walked;
}

-- ---- what a walk keeps

pub depth_kept : {A : Type 0} {slots : List (List Name)} {f : ℕ → Forest} {a b : Children} (v : A) → WalksAll slots f a b (Ok v) → b.depth ≡ a.depth
depth_kept {slots = slots} {a = a} v h = (h.by (record { file = []; level = a.level; body = End; locals = slots }) refl refl 0).depth

pub depth_so_far : {X : Type 0} {slots : List (List Name)} {f : List X → ℕ → Forest} {all rest : List X} {a b : Children} → SoFar slots f all rest a b → b.depth ≡ a.depth
depth_so_far {slots = slots} {a = a} h = (h.by (record { file = []; level = a.level; body = End; locals = slots }) refl refl 0).walked.depth

pub depth_front : {A : Type 0} {slots : List (List Name)} {bs : List Branch} {a b : Children} (v : A) → WalksFront slots bs a b (Ok v) → b.depth ≡ a.depth
depth_front {slots = slots} {a = a} v h = (h.by (record { file = []; level = a.level; body = End; locals = slots }) refl refl (part (Else End)) 0).walks.depth
