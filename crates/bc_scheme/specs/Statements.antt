-- The patterns of targets and statements.
use Rattle.std.specs.Prelude.{◌≡◌, ℕ, suc, ◌+◌, List, [], ◌∷◌, length, Bool, true, false, Some, pos, slice_get, codes, nat_lt}
use Rattle.bc_machine.specs.bc_ops.declared.instr.Op.TheVariants as ops
use Rattle.bc_machine.specs.bc_ops.declared.instr.Instr.TheVariants as instrs
use Rattle.py_meaning.specs.py_tree.declared.expr.BinaryOp.{BinaryOp}
use Rattle.py_meaning.specs.py_tree.declared.stmt.Alias.{Alias}
use Rattle.bc_machine.specs.py_effects.Modules.{parts_of}
use Rattle.bc_machine.specs.Library.{Name, Plain, Names, Jumps, Unwinds}
use Rattle.py_meaning.specs.Tree.{Expr, Exprs, NoExpr, More, count, Target, ToName, ToAttr, ToIndex, ToEach, Targets, Only, Then}
use Rattle.py_meaning.specs.Tree.{target_count, Stmt, Do, Assign, AugName, AugAttr, AugIndex, Delete, Pass, Break, Continue}
use Rattle.py_meaning.specs.Tree.{ReturnNone, Return, Reraise, Raise, Assert, AssertWith, Import, From, If, While, For, Try}
use Rattle.py_meaning.specs.Tree.{Finally, TryFinally, Def, Block, End, Next, Branches, Else, Case, Handlers, NoHandler, Any, On}
use Rattle.py_meaning.specs.Tree.{OnAs}
use Rattle.py_meaning.specs.Statements.{bound_name, from_name, read_parts}
use Rattle.bc_scheme.specs.Context.{Context, IsChild, Has, Behind, plain, number, loads, stores, deletes, in_place, matching}
use Rattle.bc_scheme.specs.Expressions.{StandsE, StandsEs}

-- ---- targets

mutual
  -- a store of the topmost value
  pub data StandsT (c : Context) (line : ℕ) : (p : ℕ) → Target → (q : ℕ) → Type 0 where
    to_name : {p : ℕ} {n : Name} → Has c line p (stores c n) → StandsT c line p (ToName n) (suc p)
    to_attr : {p m : ℕ} {e : Expr} {n : Name} → StandsE c line p e m → Has c line m (Names ops.StoreAttr n) → StandsT c line p (ToAttr e n) (suc m)
    to_index : {p m n : ℕ} {a b : Expr} → StandsE c line p a m → StandsE c line m b n → Has c line n (plain ops.StoreSubscr)
        → StandsT c line p (ToIndex a b) (suc n)
    to_each : {p q : ℕ} {ts : Targets} → Has c line p (number ops.UnpackSequence (target_count ts)) → StandsTs c line (suc p) ts q
        → StandsT c line p (ToEach ts) q

  -- stores of the topmost values, one for each
  pub data StandsTs (c : Context) (line : ℕ) : (p : ℕ) → Targets → (q : ℕ) → Type 0 where
    one_store : {p q : ℕ} {t : Target} → StandsT c line p t q → StandsTs c line p (Only t) q
    next_store : {p m q : ℕ} {t : Target} {ts : Targets} → StandsT c line p t m → StandsTs c line m ts q → StandsTs c line p (Then t ts) q

-- stores of one value into each, which is doubled in front of all but the last
pub data StandsA (c : Context) (line : ℕ) : (p : ℕ) → Targets → (q : ℕ) → Type 0 where
  one_assign : {p q : ℕ} {t : Target} → StandsT c line p t q → StandsA c line p (Only t) q
  next_assign : {p m q : ℕ} {t : Target} {ts : Targets} → Has c line p (plain ops.DupTop) → StandsT c line (suc p) t m
      → StandsA c line m ts q → StandsA c line p (Then t ts) q

-- a deletion
pub data StandsG (c : Context) (line : ℕ) : (p : ℕ) → Target → (q : ℕ) → Type 0 where
  gone_name : {p : ℕ} {n : Name} → Has c line p (deletes c n) → StandsG c line p (ToName n) (suc p)
  gone_index : {p m n : ℕ} {a b : Expr} → StandsE c line p a m → StandsE c line m b n → Has c line n (plain ops.LoadNull)
      → Has c line (suc n) (plain ops.RotThree)
      → Has c line (suc (suc n)) (plain ops.StoreSubscr) → StandsG c line p (ToIndex a b) (suc (suc (suc n)))

-- deletions one behind the other
pub data StandsGs (c : Context) (line : ℕ) : (p : ℕ) → Targets → (q : ℕ) → Type 0 where
  one_gone : {p q : ℕ} {t : Target} → StandsG c line p t q → StandsGs c line p (Only t) q
  next_gone : {p m q : ℕ} {t : Target} {ts : Targets} → StandsG c line p t m → StandsGs c line m ts q → StandsGs c line p (Then t ts) q

-- ---- imports

-- attributes that are read one behind the other
pub data StandsR (c : Context) (line : ℕ) : (p : ℕ) → List Name → (q : ℕ) → Type 0 where
  no_part : {p : ℕ} → StandsR c line p [] p
  part : {p q : ℕ} {n : Name} {ns : List Name} → Has c line p (Names ops.LoadAttr n) → StandsR c line (suc p) ns q → StandsR c line p (n ∷ ns) q

-- imports of modules one behind the other, each with a store
pub data StandsM (c : Context) (line : ℕ) : (p : ℕ) → List Alias → (q : ℕ) → Type 0 where
  no_import : {p : ℕ} → StandsM c line p [] p
  imported : {p m q : ℕ} {a : Alias} {aliases : List Alias} → Has c line p (Plain (instrs.Int (pos 0))) → Has c line (suc p) (plain ops.LoadConstNone)
      → Has c line (suc (suc p)) (Names ops.ImportName a.name) → StandsR c line (suc (suc (suc p))) (read_parts (parts_of a.name) a.bound) m
      → Has c line m (stores c (bound_name a.name a.bound)) → StandsM c line (suc m) aliases q → StandsM c line p (a ∷ aliases) q

-- names as texts, and names that are taken from a module
pub data StandsN (c : Context) (line : ℕ) : (p : ℕ) → List Alias → (q : ℕ) → Type 0 where
  no_text : {p : ℕ} → StandsN c line p [] p
  text : {p q : ℕ} {a : Alias} {aliases : List Alias} → Has c line p (Names ops.LoadConstString a.name) → StandsN c line (suc p) aliases q
      → StandsN c line p (a ∷ aliases) q

-- names that are taken from the module on top, each with a store
pub data StandsF (c : Context) (line : ℕ) : (p : ℕ) → List Alias → (q : ℕ) → Type 0 where
  no_name : {p : ℕ} → StandsF c line p [] p
  taken : {p q : ℕ} {a : Alias} {aliases : List Alias} → Has c line p (Names ops.ImportFrom a.name) → Has c line (suc p) (stores c (from_name a.name a.bound))
      → StandsF c line (suc (suc p)) aliases q → StandsF c line p (a ∷ aliases) q

-- ---- jumps out of loops

-- the loop around: where its break and its continue go, the entries that were set up in it and are held, and whether it has an
-- iterator
pub record Around : Type 0 where
  pub brk : ℕ
  pub cont : ℕ
  pub count : ℕ
  pub iterator : Bool

-- the loop around with an entry more
abbrev pub deeper : Around → Around
deeper a = record a { count = suc a.count }

-- the bit of the byte that says that a jump takes an iterator
abbrev pub top_bit : Bool → ℕ
top_bit true = 128
top_bit false = 0

-- a jump to `target` out of `count` entries, which drops the loop's iterator or not: an unwinding where there are entries
pub data StandsJ (c : Context) (line target : ℕ) : (count : ℕ) → (iterator : Bool) → (p q : ℕ) → Type 0 where
  jumped : {p : ℕ} → Has c line p (Jumps ops.Jump target) → StandsJ c line target 0 false p (suc p)
  popped : {p : ℕ} → Has c line p (plain ops.PopTop) → Has c line (suc p) (plain ops.PopTop) → Has c line (suc (suc p)) (plain ops.PopTop)
      → Has c line (suc (suc (suc p))) (plain ops.PopTop) → Has c line (suc (suc (suc (suc p)))) (Jumps ops.Jump target)
      → StandsJ c line target 0 true p (suc (suc (suc (suc (suc p)))))
  -- the low seven bits of the byte have the count
  unwound : {p n : ℕ} {it : Bool} → nat_lt (suc n) 128 ≡ true → Has c line p (Unwinds target (suc n + top_bit it)) → StandsJ c line target (suc n) it p (suc p)

-- nothing is left behind the last branch
abbrev pub is_over : Branches → Bool
is_over (Else End) = true
is_over _ = false

-- ---- defaults and functions

-- what stands in front of a store of a function: its making, behind the tuple of its defaults if it has some
pub data StandsDef (c : Context) (line number_of : ℕ) : (p : ℕ) → Exprs → (q : ℕ) → Type 0 where
  bare : {p i : ℕ} → slice_get c.children i ≡ Some number_of → Has c line p (number ops.MakeFunction i) → StandsDef c line number_of p NoExpr (suc p)
  with_defaults : {p m i : ℕ} {e : Expr} {es : Exprs} → slice_get c.children i ≡ Some number_of → StandsEs c line p (More e es) m
      → Has c line m (number ops.BuildTuple (count (More e es))) → Has c line (suc m) (plain ops.LoadNull)
      → Has c line (suc (suc m)) (number ops.MakeFunctionDefargs i)
      → StandsDef c line number_of p (More e es) (suc (suc (suc m)))

-- ---- statements

mutual
  -- a statement
  pub data StandsS (c : Context) : Around → (line p : ℕ) → Stmt → (q : ℕ) → Type 0 where
    «do» : {a : Around} {line p m : ℕ} {e : Expr} → StandsE c line p e m → Has c line m (plain ops.PopTop) → StandsS c a line p (Do e) (suc m)
    assign : {a : Around} {line p m q : ℕ} {ts : Targets} {e : Expr} → StandsE c line p e m → StandsA c line m ts q → StandsS c a line p (Assign ts e) q
    aug_name : {a : Around} {line p m : ℕ} {n : Name} {op : BinaryOp} {e : Expr} → Has c line p (loads c n) → StandsE c line (suc p) e m
        → Has c line m (in_place op)
        → Has c line (suc m) (stores c n) → StandsS c a line p (AugName n op e) (suc (suc m))
    aug_attr : {a : Around} {line p m n : ℕ} {o : Expr} {x : Name} {op : BinaryOp} {e : Expr} → StandsE c line p o m → Has c line m (plain ops.DupTop)
        → Has c line (suc m) (Names ops.LoadAttr x) → StandsE c line (suc (suc m)) e n → Has c line n (in_place op) → Has c line (suc n) (plain ops.RotTwo)
        → Has c line (suc (suc n)) (Names ops.StoreAttr x) → StandsS c a line p (AugAttr o x op e) (suc (suc (suc n)))
    aug_index : {a : Around} {line p k m n : ℕ} {o i : Expr} {op : BinaryOp} {e : Expr} → StandsE c line p o k → StandsE c line k i m
        → Has c line m (plain ops.DupTopTwo)
        → Has c line (suc m) (plain ops.LoadSubscr) → StandsE c line (suc (suc m)) e n → Has c line n (in_place op) → Has c line (suc n) (plain ops.RotThree)
        → Has c line (suc (suc n)) (plain ops.StoreSubscr) → StandsS c a line p (AugIndex o i op e) (suc (suc (suc n)))
    delete : {a : Around} {line p q : ℕ} {ts : Targets} → StandsGs c line p ts q → StandsS c a line p (Delete ts) q
    pass : {a : Around} {line p : ℕ} → StandsS c a line p Pass p
    «break» : {a : Around} {line p q : ℕ} → StandsJ c line a.brk a.count a.iterator p q → StandsS c a line p Break q
    «continue» : {a : Around} {line p q : ℕ} → StandsJ c line a.cont a.count false p q → StandsS c a line p Continue q
    return_none : {a : Around} {line p : ℕ} → Has c line p (plain ops.LoadConstNone) → Has c line (suc p) (plain ops.ReturnValue)
        → StandsS c a line p ReturnNone (suc (suc p))
    «return» : {a : Around} {line p m : ℕ} {e : Expr} → StandsE c line p e m → Has c line m (plain ops.ReturnValue) → StandsS c a line p (Return e) (suc m)
    reraise : {a : Around} {line p : ℕ} → Has c line p (plain ops.RaiseLast) → StandsS c a line p Reraise (suc p)
    raise : {a : Around} {line p m : ℕ} {e : Expr} → StandsE c line p e m → Has c line m (plain ops.RaiseObj) → StandsS c a line p (Raise e) (suc m)
    -- from level 1 on an assertion has no code
    no_assert : {a : Around} {line p n : ℕ} {e : Expr} → c.level ≡ suc n → StandsS c a line p (Assert e) p
    no_assert_with : {a : Around} {line p n : ℕ} {e m : Expr} → c.level ≡ suc n → StandsS c a line p (AssertWith e m) p
    assert : {a : Around} {line p m : ℕ} {e : Expr} → c.level ≡ 0 → StandsE c line p e m → Has c line m (Jumps ops.PopJumpIfTrue (suc (suc (suc m))))
        → Has c line (suc m) (Names ops.LoadGlobal (codes "AssertionError")) → Has c line (suc (suc m)) (plain ops.RaiseObj)
        → StandsS c a line p (Assert e) (suc (suc (suc m)))
    assert_with : {a : Around} {line p m n : ℕ} {e x : Expr} → c.level ≡ 0 → StandsE c line p e m → Has c line m (Jumps ops.PopJumpIfTrue (suc (suc n)))
        → Has c line (suc m) (Names ops.LoadGlobal (codes "AssertionError")) → StandsE c line (suc (suc m)) x n → Has c line n (number ops.CallFunction 1)
        → Has c line (suc n) (plain ops.RaiseObj) → StandsS c a line p (AssertWith e x) (suc (suc n))
    «import» : {a : Around} {line p q : ℕ} {aliases : List Alias} → StandsM c line p aliases q → StandsS c a line p (Import aliases) q
    from : {a : Around} {line p m n : ℕ} {x : Name} {aliases : List Alias} → Has c line p (Plain (instrs.Int (pos 0))) → StandsN c line (suc p) aliases m
        → Has c line m (number ops.BuildTuple (length aliases)) → Has c line (suc m) (Names ops.ImportName x)
        → StandsF c line (suc (suc m)) aliases n → Has c line n (plain ops.PopTop)
        → StandsS c a line p (From x aliases) (suc n)
    «if» : {a : Around} {line p q : ℕ} {bs : Branches} → StandsI c a q p bs q → StandsS c a line p (If bs) q
    «while» : {a : Around} {line p m j q : ℕ} {e : Expr} {b rest : Block} → StandsE c line p e m → Has c line m (Jumps ops.PopJumpIfFalse (suc j))
        → StandsB c (record { brk = q; cont = p; count = 0; iterator = false }) (suc m) b j → Behind c j (Jumps ops.Jump p) → StandsB c a (suc j) rest q
        → StandsS c a line p (While e b rest) q
    «for» : {a : Around} {line p m n j q : ℕ} {t : Target} {e : Expr} {b rest : Block} → StandsE c line p e m → Has c line m (plain ops.GetIterStack)
        → Has c line (suc m) (Jumps ops.ForIter (suc j)) → StandsT c line (suc (suc m)) t n
        → StandsB c (record { brk = q; cont = suc m; count = 0; iterator = true }) n b j → Behind c j (Jumps ops.Jump (suc m)) → StandsB c a (suc j) rest q
        → StandsS c a line p (For t e b rest) q
    «try» : {a : Around} {line p q : ℕ} {b rest : Block} {hs : Handlers} → StandsX c a line p b hs rest q → StandsS c a line p (Try b hs rest) q
    finally : {a : Around} {line p j k : ℕ} {b last : Block} → Has c line p (Jumps ops.SetupFinally (suc j)) → StandsB c (deeper a) (suc p) b j
        → Behind c j (plain ops.LoadConstNone) → StandsB c (deeper a) (suc j) last k → Behind c k (plain ops.EndFinally)
        → StandsS c a line p (Finally b last) (suc k)
    try_finally : {a : Around} {line p j k : ℕ} {b rest last : Block} {hs : Handlers} → Has c line p (Jumps ops.SetupFinally (suc j))
        → StandsX c (deeper a) line (suc p) b hs rest j
        → Behind c j (plain ops.LoadConstNone) → StandsB c (deeper a) (suc j) last k → Behind c k (plain ops.EndFinally)
        → StandsS c a line p (TryFinally b hs rest last) (suc k)
    def : {a : Around} {line p m n : ℕ} {x : Name} {ps : List Name} {ds : Exprs} {b : Block} → IsChild c (c.base + n) x (count ds)
        → StandsDef c line (c.base + n) p ds m → Has c line m (stores c x)
        → StandsS c a line p (Def n x ps ds b) (suc m)

  -- the statements of a block
  pub data StandsB (c : Context) : Around → (p : ℕ) → Block → (q : ℕ) → Type 0 where
    no_stmt : {a : Around} {p : ℕ} → StandsB c a p End p
    stmt : {a : Around} {p m q line : ℕ} {s : Stmt} {b : Block} → StandsS c a line p s m → StandsB c a m b q → StandsB c a p (Next line s b) q

  -- branches, behind which the run goes on at the end. The last one has no jump
  pub data StandsI (c : Context) : Around → (end p : ℕ) → Branches → (q : ℕ) → Type 0 where
    «else» : {a : Around} {end p q : ℕ} {b : Block} → StandsB c a p b q → StandsI c a end p (Else b) q
    last_branch : {a : Around} {end p m q own : ℕ} {e : Expr} {b : Block} → StandsE c own p e m → Has c own m (Jumps ops.PopJumpIfFalse q)
        → StandsB c a (suc m) b q
        → StandsI c a end p (Case own e b (Else End)) q
    branch : {a : Around} {end p m j q own : ℕ} {e : Expr} {b : Block} {bs : Branches} → is_over bs ≡ false → StandsE c own p e m
        → Has c own m (Jumps ops.PopJumpIfFalse (suc j))
        → StandsB c a (suc m) b j → Behind c j (Jumps ops.Jump end) → StandsI c a end (suc j) bs q → StandsI c a end p (Case own e b bs) q

  -- a try with clauses
  pub data StandsX (c : Context) : Around → (line p : ℕ) → Block → Handlers → Block → (q : ℕ) → Type 0 where
    «except» : {a : Around} {line p j k q : ℕ} {b rest : Block} {hs : Handlers} → Has c line p (Jumps ops.SetupExcept (suc j))
        → StandsB c (deeper a) (suc p) b j
        → Behind c j (Jumps ops.PopExceptJump (suc k)) → StandsH c (deeper a) q (suc j) hs k → Behind c k (plain ops.EndFinally) → StandsB c a (suc k) rest q
        → StandsX c a line p b hs rest q

  -- clauses, behind which the run goes on at the end
  pub data StandsH (c : Context) : Around → (end p : ℕ) → Handlers → (q : ℕ) → Type 0 where
    no_clause : {a : Around} {end p : ℕ} → StandsH c a end p NoHandler p
    any : {a : Around} {end p m own : ℕ} {b : Block} → Has c own p (plain ops.PopTop) → StandsB c a (suc p) b m
        → Behind c m (Jumps ops.PopExceptJump end) → StandsH c a end p (Any own b) (suc m)
    on : {a : Around} {end p m j q own : ℕ} {e : Expr} {b : Block} {hs : Handlers} → Has c own p (plain ops.DupTop)
        → StandsE c own (suc p) e m → Has c own m matching
        → Has c own (suc m) (Jumps ops.PopJumpIfFalse (suc j)) → Has c own (suc (suc m)) (plain ops.PopTop) → StandsB c a (suc (suc (suc m))) b j
        → Behind c j (Jumps ops.PopExceptJump end) → StandsH c a end (suc j) hs q → StandsH c a end p (On own e b hs) q
    on_as : {a : Around} {end p m j q own : ℕ} {e : Expr} {x : Name} {b : Block} {hs : Handlers} → Has c own p (plain ops.DupTop)
        → StandsE c own (suc p) e m → Has c own m matching
        → Has c own (suc m) (Jumps ops.PopJumpIfFalse (suc (suc (suc (suc (suc (suc j))))))) → Has c own (suc (suc m)) (stores c x)
        → Has c own (suc (suc (suc m))) (Jumps ops.SetupFinally (suc j)) → StandsB c (deeper a) (suc (suc (suc (suc m)))) b j
        → Behind c j (plain ops.LoadConstNone) → Behind c (suc j) (plain ops.LoadConstNone) → Behind c (suc (suc j)) (stores c x)
        → Behind c (suc (suc (suc j))) (deletes c x)
        → Behind c (suc (suc (suc (suc j)))) (plain ops.EndFinally) → Behind c (suc (suc (suc (suc (suc j))))) (Jumps ops.PopExceptJump end)
        → StandsH c a end (suc (suc (suc (suc (suc (suc j)))))) hs q → StandsH c a end p (OnAs own e x b hs) q
