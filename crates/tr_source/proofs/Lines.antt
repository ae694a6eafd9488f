-- Lines that never fall, and spelled parts with others behind them.
use Rattle.std.proofs.Common.{◌≡◌, ℕ, ◌≤◌, Bool, true, false, ◌&&◌, List, [], ◌∷◌, ◌++◌, refl, arith}
use Rattle.std.specs.Prelude.{nat_le}
use Rattle.std.proofs.lemmas.Bool.{leb-true}
use Rattle.py_meaning.specs.py_tree.Formed.{never_fall}
use Rattle.emit_measures.specs.bc_scheme.py_meaning.Tree as tree
use Rattle.tr_source.proofs.SpelledSteps.{and_left, and_right}
use Rattle.tr_source.specs.Spelled.{BlockSpelled, StmtSpelled, BranchesSpelled, HandlersSpelled}

-- the last line, or this one where there is none
abbrev pub end_of : ℕ → List ℕ → ℕ
end_of line [] = line
end_of line (next ∷ lines) = end_of next lines

-- they never fall, and none is above the last one
pub record Climb (first last : ℕ) (lines : List ℕ) : Type 0 where
  pub rise : never_fall first lines ≡ true
  pub below : end_of first lines ≤ last

pub climbs : (first : ℕ) (lines : List ℕ) → never_fall first lines ≡ true → Climb first (end_of first lines) lines
climbs first lines e = record { rise = e; below = let n = end_of first lines in omega arith }

pub end_above : (first : ℕ) (lines : List ℕ) → never_fall first lines ≡ true → first ≤ end_of first lines
end_above first [] e = omega arith
end_above first (line ∷ lines) e =
    let here = leb-true first line (and_left (nat_le first line) _ e) in
    let behind = end_above line lines (and_right (nat_le first line) _ e) in
    omega (arith, here, behind)

pub climbs_up : {first last : ℕ} {lines : List ℕ} → Climb first last lines → first ≤ last
climbs_up {first = first} {lines = lines} c = let a = end_above first lines c.rise in let b = c.below in omega (arith, a, b)

-- two rows of lines
pub record Parted (first last : ℕ) (xs ys : List ℕ) : Type 0 where
  pub front : Climb first (end_of first xs) xs
  pub behind : Climb (end_of first xs) last ys

pub parted : (first last : ℕ) (xs ys : List ℕ) → Climb first last (xs ++ ys) → Parted first last xs ys
parted first last [] ys c = record { front = record { rise = refl; below = omega arith }; behind = c }
parted first last (x ∷ xs) ys c =
    let here = and_left (nat_le first x) _ c.rise in
    let more = parted x last xs ys (record { rise = and_right (nat_le first x) _ c.rise; below = c.below }) in
    record { front = record { rise = both (nat_le first x) (never_fall x xs) here more.front.rise; below = more.front.below }; behind = more.behind }
  where
    both : (a b : Bool) → a ≡ true → b ≡ true → (a && b) ≡ true
    both true b e f = f
    both false b e f = e

-- the first of them
pub record Topped (first last line : ℕ) (lines : List ℕ) : Type 0 where
  pub here : first ≤ line
  pub behind : Climb line last lines

pub topped : (first last line : ℕ) (lines : List ℕ) → Climb first last (line ∷ lines) → Topped first last line lines
topped first last line lines c =
    record { here = leb-true first line (and_left (nat_le first line) _ c.rise); behind = record { rise = and_right (nat_le first line) _ c.rise; below = c.below } }

-- ---- from an earlier line, to a later one

both_up : (a b c : ℕ) → a ≤ b → b ≤ c → a ≤ c
both_up a b c h k = omega (arith, h, k)

mutual
  pub block_up : (first last : ℕ) (b : tree.Block) → BlockSpelled first last b → first ≤ last
  block_up first last tree.End h = h
  block_up first last (tree.Next line s b) h =
      let here = h.0 in
      let own = stmt_up line h.1.0 s h.1.1 in
      let behind = block_up h.1.0 last b h.1.2 in
      omega (arith, here, own, behind)

  pub stmt_up : (line last : ℕ) (s : tree.Stmt) → StmtSpelled line last s → line ≤ last
  stmt_up line last (tree.Do e) h = h.1
  stmt_up line last (tree.Assign ts e) h = h.2
  stmt_up line last (tree.AugName name op e) h = h.2
  stmt_up line last (tree.AugAttr a name op e) h = h.3
  stmt_up line last (tree.AugIndex a b op e) h = h.3
  stmt_up line last (tree.Delete ts) h = h.1
  stmt_up line last tree.Pass h = h
  stmt_up line last tree.Break h = h
  stmt_up line last tree.Continue h = h
  stmt_up line last tree.ReturnNone h = h
  stmt_up line last (tree.Return e) h = h.1
  stmt_up line last tree.Reraise h = h
  stmt_up line last (tree.Raise e) h = h.1
  stmt_up line last (tree.Assert e) h = h.1
  stmt_up line last (tree.AssertWith e message) h = h.2
  stmt_up line last (tree.Import aliases) h = h.1
  stmt_up line last (tree.From path aliases) h = h.2
  stmt_up line last (tree.If branches) h = branches_up line last branches h
  stmt_up line last (tree.While e body rest) h = both_up line h.1.0 last (block_up line h.1.0 body h.1.1) (block_up h.1.0 last rest h.1.2)
  stmt_up line last (tree.For t e body rest) h = both_up line h.2.0 last (block_up line h.2.0 body h.2.1) (block_up h.2.0 last rest h.2.2)
  stmt_up line last (tree.Try body handlers rest) h =
      let a = block_up line h.0 body h.2 in
      let b = handlers_up h.0 h.1 handlers h.3 in
      let c = block_up h.1 last rest h.4 in
      omega (arith, a, b, c)
  stmt_up line last (tree.Finally body end) h = both_up line h.0 last (block_up line h.0 body h.1) (block_up h.0 last end h.2)
  stmt_up line last (tree.TryFinally body handlers rest end) h =
      let a = block_up line h.0 body h.3 in
      let b = handlers_up h.0 h.1 handlers h.4 in
      let c = both_up h.1 h.2 last (block_up h.1 h.2 rest h.5) (block_up h.2 last end h.6) in
      omega (arith, a, b, c)
  stmt_up line last (tree.Def number name params defaults body) h = block_up line last body h.4

  pub branches_up : (first last : ℕ) (bs : tree.Branches) → BranchesSpelled first last bs → first ≤ last
  branches_up first last (tree.Else b) h = block_up first last b h
  branches_up first last (tree.Case line e b bs) h =
      let here = h.0 in
      let own = block_up line h.2.0 b h.2.1 in
      let behind = branches_up h.2.0 last bs h.2.2 in
      omega (arith, here, own, behind)

  pub handlers_up : (first last : ℕ) (hs : tree.Handlers) → HandlersSpelled first last hs → first ≤ last
  handlers_up first last tree.NoHandler h = h
  handlers_up first last (tree.Any line b) h = let here = h.0 in let own = block_up line last b h.1 in omega (arith, here, own)
  handlers_up first last (tree.On line e b hs) h =
      let here = h.0 in
      let own = block_up line h.2.0 b h.2.1 in
      let behind = handlers_up h.2.0 last hs h.2.2 in
      omega (arith, here, own, behind)
  handlers_up first last (tree.OnAs line e name b hs) h =
      let here = h.0 in
      let own = block_up line h.3.0 b h.3.1 in
      let behind = handlers_up h.3.0 last hs h.3.2 in
      omega (arith, here, own, behind)

-- from an earlier line
pub block_from : (first other last : ℕ) (b : tree.Block) → other ≤ first → BlockSpelled first last b → BlockSpelled other last b
block_from first other last tree.End le h = omega (arith, le, h)
block_from first other last (tree.Next line s b) le h = (let here = h.0 in omega (arith, le, here), h.1)

-- to a later last line
pub climb_on : {first last : ℕ} {lines : List ℕ} (other : ℕ) → last ≤ other → Climb first last lines → Climb first other lines
climb_on other le c = record { rise = c.rise; below = let b = c.below in omega (arith, le, b) }
