-- Functions whose texts pass no limit nest no deeper than codes do.
use Rattle.std.proofs.Common.{ℕ, suc, ◌+◌, ◌≤◌, List, [], ◌∷◌, ◌++◌, arith}
use Rattle.emit_module.specs.py_meaning.Tree.{Stmt, Do, Assign, AugName, AugAttr, AugIndex, Delete, Pass, Break, Continue, ReturnNone, Return, Reraise, Raise, Assert, AssertWith, Import, From, If, While, For, Try, Finally, TryFinally, Def, Block, End, Next, Branches, Else, Case, Handlers, NoHandler, Any, On, OnAs}
use Rattle.emit_module.specs.tr_source.Nested.{nested, nested_by, nested_of, nested_from}
use Rattle.emit_module.specs.First.{Site, sites, sites_in, sites_of, sites_by}

-- fewer functions stand around each than codes nest
abbrev pub Shallow : List Site → Type 0
Shallow [] = Unit {0}
Shallow (site ∷ sites) = (site.depth ≤ 31) × Shallow sites

left : (xs ys : List Site) → Shallow (xs ++ ys) → Shallow xs
left [] ys h = tt
left (x ∷ xs) ys h = (h.0, left xs ys h.1)

right : (xs ys : List Site) → Shallow (xs ++ ys) → Shallow ys
right [] ys h = h
right (x ∷ xs) ys h = right xs ys h.1

mutual
  pub block_nested : (depth : ℕ) (b : Block) → depth ≤ 31 → Shallow (sites depth b) → depth + nested b ≤ 31
  block_nested depth End d h = omega (arith, d)
  block_nested depth (Next line s b) d h =
      let x = stmt_nested depth line s d (left (sites_in depth line s) (sites depth b) h) in
      let y = block_nested depth b d (right (sites_in depth line s) (sites depth b) h) in
      omega (arith, x, y)

  stmt_nested : (depth line : ℕ) (s : Stmt) → depth ≤ 31 → Shallow (sites_in depth line s) → depth + nested_by s ≤ 31
  stmt_nested depth line (Do e) d h = omega (arith, d)
  stmt_nested depth line (Assign ts e) d h = omega (arith, d)
  stmt_nested depth line (AugName name op e) d h = omega (arith, d)
  stmt_nested depth line (AugAttr a name op e) d h = omega (arith, d)
  stmt_nested depth line (AugIndex a b op e) d h = omega (arith, d)
  stmt_nested depth line (Delete ts) d h = omega (arith, d)
  stmt_nested depth line Pass d h = omega (arith, d)
  stmt_nested depth line Break d h = omega (arith, d)
  stmt_nested depth line Continue d h = omega (arith, d)
  stmt_nested depth line ReturnNone d h = omega (arith, d)
  stmt_nested depth line (Return e) d h = omega (arith, d)
  stmt_nested depth line Reraise d h = omega (arith, d)
  stmt_nested depth line (Raise e) d h = omega (arith, d)
  stmt_nested depth line (Assert e) d h = omega (arith, d)
  stmt_nested depth line (AssertWith e x) d h = omega (arith, d)
  stmt_nested depth line (Import names) d h = omega (arith, d)
  stmt_nested depth line (From path names) d h = omega (arith, d)
  stmt_nested depth line (If branches) d h = branches_nested depth branches d h
  stmt_nested depth line (While e body rest) d h =
      let x = block_nested depth body d (left (sites depth body) (sites depth rest) h) in
      let y = block_nested depth rest d (right (sites depth body) (sites depth rest) h) in
      omega (arith, x, y)
  stmt_nested depth line (For t e body rest) d h =
      let x = block_nested depth body d (left (sites depth body) (sites depth rest) h) in
      let y = block_nested depth rest d (right (sites depth body) (sites depth rest) h) in
      omega (arith, x, y)
  stmt_nested depth line (Try body handlers rest) d h =
      let front = left (sites depth body ++ sites_by depth handlers) (sites depth rest) h in
      let x = block_nested depth body d (left (sites depth body) (sites_by depth handlers) front) in
      let y = handlers_nested depth handlers d (right (sites depth body) (sites_by depth handlers) front) in
      let z = block_nested depth rest d (right (sites depth body ++ sites_by depth handlers) (sites depth rest) h) in
      omega (arith, x, y, z)
  stmt_nested depth line (Finally body last) d h =
      let x = block_nested depth body d (left (sites depth body) (sites depth last) h) in
      let y = block_nested depth last d (right (sites depth body) (sites depth last) h) in
      omega (arith, x, y)
  stmt_nested depth line (TryFinally body handlers rest last) d h =
      let tried = sites depth body ++ sites_by depth handlers in
      let further = left (tried ++ sites depth rest) (sites depth last) h in
      let front = left tried (sites depth rest) further in
      let x = block_nested depth body d (left (sites depth body) (sites_by depth handlers) front) in
      let y = handlers_nested depth handlers d (right (sites depth body) (sites_by depth handlers) front) in
      let z = block_nested depth rest d (right tried (sites depth rest) further) in
      let w = block_nested depth last d (right (tried ++ sites depth rest) (sites depth last) h) in
      omega (arith, x, y, z, w)
  stmt_nested depth line (Def number name params defaults body) d h =
      let x = block_nested (suc depth) body h.0 h.1 in
      omega (arith, x)

  branches_nested : (depth : ℕ) (bs : Branches) → depth ≤ 31 → Shallow (sites_of depth bs) → depth + nested_of bs ≤ 31
  branches_nested depth (Else b) d h = block_nested depth b d h
  branches_nested depth (Case line e b bs) d h =
      let x = block_nested depth b d (left (sites depth b) (sites_of depth bs) h) in
      let y = branches_nested depth bs d (right (sites depth b) (sites_of depth bs) h) in
      omega (arith, x, y)

  handlers_nested : (depth : ℕ) (hs : Handlers) → depth ≤ 31 → Shallow (sites_by depth hs) → depth + nested_from hs ≤ 31
  handlers_nested depth NoHandler d h = omega (arith, d)
  handlers_nested depth (Any line b) d h = block_nested depth b d h
  handlers_nested depth (On line e b hs) d h =
      let x = block_nested depth b d (left (sites depth b) (sites_by depth hs) h) in
      let y = handlers_nested depth hs d (right (sites depth b) (sites_by depth hs) h) in
      omega (arith, x, y)
  handlers_nested depth (OnAs line e name b hs) d h =
      let x = block_nested depth b d (left (sites depth b) (sites_by depth hs) h) in
      let y = handlers_nested depth hs d (right (sites depth b) (sites_by depth hs) h) in
      omega (arith, x, y)
