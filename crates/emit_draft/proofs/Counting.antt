-- The functions of each part have the numbers from its first one on, one behind another.
use Rattle.std.proofs.Common.{◌≡◌, ℕ, suc, ◌+◌, Bool, true, false, List, [], ◌∷◌, ◌++◌, length, length-append, refl, sym, ap, ap₂, subst, ◌∙◌, arith}
use Rattle.emit_measures.specs.bc_scheme.py_meaning.Tree as tree
use Rattle.emit_measures.specs.bc_scheme.py_meaning.Tree.{Function, functions, functions_in, functions_of, functions_by}
use Rattle.emit_measures.specs.bc_scheme.py_meaning.Plain as plain
use Rattle.emit_measures.specs.bc_scheme.Translation.{own, own_in, own_of, own_by}
use Rattle.emit_draft.specs.Children.{starts, sizes, sizes_in, sizes_of, sizes_by, AllCount}

-- ---- rows of numbers

abbrev pub all : List ℕ → ℕ
all [] = 0
all (x ∷ xs) = x + all xs

starts_on : (n : ℕ) (xs ys : List ℕ) → starts n (xs ++ ys) ≡ starts n xs ++ starts (n + all xs) ys
starts_on n [] ys = let e : n ≡ n + 0 = omega arith in ap (λ m. starts m ys) e
starts_on n (x ∷ xs) ys =
    let e : n + x + all xs ≡ n + (x + all xs) = omega arith in
    ap (λ zs. n ∷ zs) (starts_on (n + x) xs ys ∙ ap (λ m. starts (n + x) xs ++ starts m ys) e)

all_on : (xs ys : List ℕ) → all (xs ++ ys) ≡ all xs + all ys
all_on [] ys = omega arith
all_on (x ∷ xs) ys = let e = all_on xs ys in omega (arith, e)

count_on : (n : ℕ) (fs gs : List Function) → AllCount n fs → AllCount (n + length fs) gs → AllCount n (fs ++ gs)
count_on n [] gs h k = let e : n + 0 ≡ n = omega arith in subst (λ m. AllCount m gs) e k
count_on n (f ∷ fs) gs h k = let e : n + suc (length fs) ≡ suc n + length fs = omega arith in (h.0, count_on (suc n) fs gs h.1 (subst (λ m. AllCount m gs) e k))

-- ---- a part

pub record Counts (n past : ℕ) (numbers each : List ℕ) (fs : List Function) : Type 0 where
  pub begin : numbers ≡ starts n each
  pub sum : n + all each ≡ past
  pub count : n + length fs ≡ past
  pub inner : AllCount n fs

pub empty : (n past : ℕ) → n ≡ past → Counts n past [] [] []
empty n past e = record { begin = refl; sum = omega arith; count = omega arith; inner = tt }

pub joined : {a b c : ℕ} {xs ys ss ts : List ℕ} {fs gs : List Function} → Counts a b xs ss fs → Counts b c ys ts gs → Counts a c (xs ++ ys) (ss ++ ts) (fs ++ gs)
joined {a = a} {b = b} {c = c} {xs = xs} {ys = ys} {ss = ss} {ts = ts} {fs = fs} {gs = gs} h k = record {
  begin = ap₂ (λ (x y : List ℕ). x ++ y) h.begin (k.begin ∙ ap (λ m. starts m ts) (sym h.sum)) ∙ sym (starts_on a ss ts);
  sum = let e = all_on ss ts in let f = h.sum in let g = k.sum in omega (arith, e, f, g);
  count = let e = length-append fs gs in let f = h.count in let g = k.count in omega (arith, e, f, g);
  inner = count_on a fs gs h.inner (subst (λ m. AllCount m gs) (sym h.count) k.inner);
}

pub moved : {a b c d : ℕ} {xs ss : List ℕ} {fs : List Function} → a ≡ c → b ≡ d → Counts a b xs ss fs → Counts c d xs ss fs
moved {b = b} {c = c} {xs = xs} {ss = ss} {fs = fs} e f h = subst (λ m. Counts c m xs ss fs) f (subst (λ m. Counts m b xs ss fs) e h)

pub recast : {a b : ℕ} {xs ys ss ts : List ℕ} {fs gs : List Function} → xs ≡ ys → ss ≡ ts → fs ≡ gs → Counts a b xs ss fs → Counts a b ys ts gs
recast {a = a} {b = b} {xs = xs} {ys = ys} {ss = ss} {ts = ts} {fs = fs} e f g h =
    subst (λ z. Counts a b ys ts z) g (subst (λ z. Counts a b ys z fs) f (subst (λ z. Counts a b z ss fs) e h))

-- a function in front of those in it
pub defined : (n past : ℕ) (f : Function) → Counts (suc n) past (own f.body) (sizes f.body) (functions f.body) → Counts n past (n ∷ []) (suc (length (functions f.body)) ∷ []) (f ∷ functions f.body)
defined n past f h = record {
  begin = refl;
  sum = let e = h.count in omega (arith, e);
  count = let e = h.count in omega (arith, e);
  inner = (h.begin, h.inner);
}

-- ---- what is said of a part of a tree

abbrev pub BlockIs : (n past : ℕ) → tree.Block → Type 0
BlockIs n past b = Counts n past (own b) (sizes b) (functions b)

abbrev pub StmtIs : (n past : ℕ) → tree.Stmt → Type 0
StmtIs n past s = Counts n past (own_in s) (sizes_in s) (functions_in s)

abbrev pub BranchesAre : (n past : ℕ) → tree.Branches → Type 0
BranchesAre n past b = Counts n past (own_of b) (sizes_of b) (functions_of b)

abbrev pub HandlersAre : (n past : ℕ) → tree.Handlers → Type 0
HandlersAre n past h = Counts n past (own_by h) (sizes_by h) (functions_by h)

abbrev pub BlockCounts : plain.Part tree.Block → Type 0
BlockCounts p = (n : ℕ) → BlockIs n (n + p.defs) (p.make n)

abbrev pub KindCounts : plain.Part tree.Stmt → Type 0
KindCounts p = (n : ℕ) → StmtIs n (n + p.defs) (p.make n)

abbrev pub StmtCounts : plain.Part (tree.Block → tree.Block) → Type 0
StmtCounts p = (n past : ℕ) (rest : tree.Block) → BlockIs (n + p.defs) past rest → BlockIs n past (p.make n rest)

abbrev pub BranchesCount : plain.Part tree.Branches → Type 0
BranchesCount p = (n : ℕ) → BranchesAre n (n + p.defs) (p.make n)

abbrev pub BranchCounts : plain.Part (tree.Branches → tree.Branches) → Type 0
BranchCounts p = (n past : ℕ) (rest : tree.Branches) → BranchesAre (n + p.defs) past rest → BranchesAre n past (p.make n rest)

abbrev pub HandlersCount : plain.Part tree.Handlers → Type 0
HandlersCount p = (n : ℕ) → HandlersAre n (n + p.defs) (p.make n)

-- one with a test stands in front of others, and one without stands alone
pub record ClauseCounts (p : plain.Clause) (tested : Bool) : Type 0 where
  pub before : tested ≡ true → (n past : ℕ) (rest : tree.Handlers) → HandlersAre (n + p.defs) past rest → HandlersAre n past (p.make n rest)
  pub alone : tested ≡ false → (n : ℕ) (rest : tree.Handlers) → HandlersAre n (n + p.defs) (p.make n rest)

-- ---- statements with blocks

module _ (inner rest : plain.Part tree.Block) (x : BlockCounts inner) (y : BlockCounts rest) where
  -- two blocks
  pub two_blocks : (n : ℕ) → Counts n (n + ((0 + inner.defs) + rest.defs)) (own (inner.make (n + 0)) ++ own (rest.make (n + (0 + inner.defs)))) (sizes (inner.make (n + 0)) ++ sizes (rest.make (n + (0 + inner.defs))))
      (functions (inner.make (n + 0)) ++ functions (rest.make (n + (0 + inner.defs))))
  two_blocks n =
      let first : n + 0 ≡ n = omega arith in
      let second : n + 0 + inner.defs ≡ n + (0 + inner.defs) = omega arith in
      let end : n + (0 + inner.defs) + rest.defs ≡ n + ((0 + inner.defs) + rest.defs) = omega arith in
      moved first end (joined (moved refl second (x (n + 0))) (y (n + (0 + inner.defs))))

module _ (body rest : plain.Part tree.Block) (handlers : plain.Part tree.Handlers) (x : BlockCounts body) (y : HandlersCount handlers) (z : BlockCounts rest) where
  three_blocks : (n : ℕ) → let hd = handlers.make (n + (0 + body.defs)) in let r = rest.make (n + (0 + body.defs + handlers.defs)) in
      Counts n (n + ((0 + body.defs + handlers.defs) + rest.defs)) ((own (body.make (n + 0)) ++ own_by hd) ++ own r) ((sizes (body.make (n + 0)) ++ sizes_by hd) ++ sizes r) ((functions (body.make (n + 0)) ++ functions_by hd) ++ functions r)
  three_blocks n =
      let first : n + 0 ≡ n = omega arith in
      let second : n + 0 + body.defs ≡ n + (0 + body.defs) = omega arith in
      let third : n + (0 + body.defs) + handlers.defs ≡ n + (0 + body.defs + handlers.defs) = omega arith in
      let end : n + (0 + body.defs + handlers.defs) + rest.defs ≡ n + ((0 + body.defs + handlers.defs) + rest.defs) = omega arith in
      moved first end (joined (joined (moved refl second (x (n + 0))) (moved refl third (y (n + (0 + body.defs))))) (z (n + (0 + body.defs + handlers.defs))))

  pub tried : (n : ℕ) → StmtIs n (n + ((0 + body.defs + handlers.defs) + rest.defs)) (tree.Try (body.make (n + 0)) (handlers.make (n + (0 + body.defs))) (rest.make (n + (0 + body.defs + handlers.defs))))
  tried n = three_blocks n

  pub tried_last : (last : plain.Part tree.Block) (n : ℕ) → BlockCounts last
      → StmtIs n (n + ((0 + body.defs + handlers.defs + rest.defs) + last.defs))
      (tree.TryFinally (body.make (n + 0)) (handlers.make (n + (0 + body.defs))) (rest.make (n + (0 + body.defs + handlers.defs))) (last.make (n + (0 + body.defs + handlers.defs + rest.defs))))
  tried_last last n v =
      let end : n + (0 + body.defs + handlers.defs + rest.defs) + last.defs ≡ n + ((0 + body.defs + handlers.defs + rest.defs) + last.defs) = omega arith in
      joined (three_blocks n) (moved refl end (v (n + (0 + body.defs + handlers.defs + rest.defs))))
