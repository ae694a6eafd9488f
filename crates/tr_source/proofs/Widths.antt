-- One bound for the arguments of calls and the pairs of dict displays.
use Rattle.std.proofs.Common.{ℕ, zero, suc, ◌+◌, ◌≤◌, max, arith, zero-le}
use Rattle.emit_measures.specs.bc_scheme.py_meaning.Tree.{Expr, Constant, Named, Unary, Not, Binary, And, Or, Compare, Cond, TupleOf, ListOf, DictOf, Attr, Index, Call, Method, Exprs, NoExpr, More, Links, Last, Link, Pairs, NoPair, Pair, Keys, NoKey, Key, count, pair_count, key_count, Target, ToName, ToAttr, ToIndex, ToEach, Targets, Only, Then, Stmt, Do, Assign, AugName, AugAttr, AugIndex, Delete, Pass, Break, Continue, ReturnNone, Return, Reraise, Raise, Assert, AssertWith, Import, From, If, While, For, Try, Finally, TryFinally, Def, Block, End, Next, Branches, Else, Case, Handlers, NoHandler, Any, On, OnAs}
use Rattle.emit_measures.specs.bc_scheme.Heights.{at_level}
use Rattle.tr_source.specs.Greatest.{greatest, greatest_of, greatest_links, greatest_pairs, greatest_keys, greatest_store, greatest_stores, greatest_stmt, greatest_block, greatest_branches, greatest_handlers}
use Rattle.tr_source.specs.Widest.{widest, widest_of, widest_links, widest_pairs, widest_keys, widest_store, widest_stores, widest_stmt, widest_block, widest_branches, widest_handlers}

abbrev arguments : Exprs → Keys → ℕ
arguments args keys = max (count args) (key_count keys)

abbrev no_pairs : Pairs → ℕ
no_pairs pairs = 0

abbrev no_arguments : Exprs → Keys → ℕ
no_arguments args keys = 0

mutual
  pub expr_wide : (e : Expr) → greatest arguments no_pairs e ≤ 255 → greatest no_arguments pair_count e ≤ 4096 → widest e ≤ 255
  expr_wide (Constant v) a p = zero-le
  expr_wide (Named name) a p = zero-le
  expr_wide (Unary op e) a p = expr_wide e a p
  expr_wide (Not e) a p = expr_wide e a p
  expr_wide (Binary op a1 b1) a p = let x0 = expr_wide a1 (omega (arith, a)) (omega (arith, p)) in let x1 = expr_wide b1 (omega (arith, a)) (omega (arith, p)) in omega (arith, x0, x1)
  expr_wide (And e es) a p = let x0 = expr_wide e (omega (arith, a)) (omega (arith, p)) in let x1 = exprs_wide es (omega (arith, a)) (omega (arith, p)) in omega (arith, x0, x1)
  expr_wide (Or e es) a p = let x0 = expr_wide e (omega (arith, a)) (omega (arith, p)) in let x1 = exprs_wide es (omega (arith, a)) (omega (arith, p)) in omega (arith, x0, x1)
  expr_wide (Compare e links) a p = let x0 = expr_wide e (omega (arith, a)) (omega (arith, p)) in let x1 = links_wide links (omega (arith, a)) (omega (arith, p)) in omega (arith, x0, x1)
  expr_wide (Cond test a1 b1) a p = let x0 = expr_wide test (omega (arith, a)) (omega (arith, p)) in let x1 = expr_wide a1 (omega (arith, a)) (omega (arith, p)) in let x2 = expr_wide b1 (omega (arith, a)) (omega (arith, p)) in omega (arith, x0, x1, x2)
  expr_wide (TupleOf es) a p = exprs_wide es a p
  expr_wide (ListOf es) a p = exprs_wide es a p
  expr_wide (DictOf pairs) a p = let x1 = pairs_wide pairs (omega (arith, a)) (omega (arith, p)) in omega (arith, x1, p)
  expr_wide (Attr e name) a p = expr_wide e a p
  expr_wide (Index a1 b1) a p = let x0 = expr_wide a1 (omega (arith, a)) (omega (arith, p)) in let x1 = expr_wide b1 (omega (arith, a)) (omega (arith, p)) in omega (arith, x0, x1)
  expr_wide (Call f args keys) a p = let x1 = expr_wide f (omega (arith, a)) (omega (arith, p)) in let x2 = exprs_wide args (omega (arith, a)) (omega (arith, p)) in let x3 = keys_wide keys (omega (arith, a)) (omega (arith, p)) in omega (arith, x1, x2, x3, a)
  expr_wide (Method e name args keys) a p = let x1 = expr_wide e (omega (arith, a)) (omega (arith, p)) in let x2 = exprs_wide args (omega (arith, a)) (omega (arith, p)) in let x3 = keys_wide keys (omega (arith, a)) (omega (arith, p)) in omega (arith, x1, x2, x3, a)

  pub exprs_wide : (es : Exprs) → greatest_of arguments no_pairs es ≤ 255 → greatest_of no_arguments pair_count es ≤ 4096 → widest_of es ≤ 255
  exprs_wide NoExpr a p = zero-le
  exprs_wide (More e es) a p = let x0 = expr_wide e (omega (arith, a)) (omega (arith, p)) in let x1 = exprs_wide es (omega (arith, a)) (omega (arith, p)) in omega (arith, x0, x1)

  pub links_wide : (links : Links) → greatest_links arguments no_pairs links ≤ 255 → greatest_links no_arguments pair_count links ≤ 4096 → widest_links links ≤ 255
  links_wide (Last op e) a p = expr_wide e a p
  links_wide (Link op e links) a p = let x0 = expr_wide e (omega (arith, a)) (omega (arith, p)) in let x1 = links_wide links (omega (arith, a)) (omega (arith, p)) in omega (arith, x0, x1)

  pub pairs_wide : (pairs : Pairs) → greatest_pairs arguments no_pairs pairs ≤ 255 → greatest_pairs no_arguments pair_count pairs ≤ 4096 → widest_pairs pairs ≤ 255
  pairs_wide NoPair a p = zero-le
  pairs_wide (Pair key value pairs) a p = let x0 = expr_wide value (omega (arith, a)) (omega (arith, p)) in let x1 = expr_wide key (omega (arith, a)) (omega (arith, p)) in let x2 = pairs_wide pairs (omega (arith, a)) (omega (arith, p)) in omega (arith, x0, x1, x2)

  pub keys_wide : (keys : Keys) → greatest_keys arguments no_pairs keys ≤ 255 → greatest_keys no_arguments pair_count keys ≤ 4096 → widest_keys keys ≤ 255
  keys_wide NoKey a p = zero-le
  keys_wide (Key name e keys) a p = let x0 = expr_wide e (omega (arith, a)) (omega (arith, p)) in let x1 = keys_wide keys (omega (arith, a)) (omega (arith, p)) in omega (arith, x0, x1)

mutual
  pub store_wide : (t : Target) → greatest_store arguments no_pairs t ≤ 255 → greatest_store no_arguments pair_count t ≤ 4096 → widest_store t ≤ 255
  store_wide (ToName name) a p = zero-le
  store_wide (ToAttr e name) a p = expr_wide e a p
  store_wide (ToIndex a1 b1) a p = let x0 = expr_wide a1 (omega (arith, a)) (omega (arith, p)) in let x1 = expr_wide b1 (omega (arith, a)) (omega (arith, p)) in omega (arith, x0, x1)
  store_wide (ToEach ts) a p = stores_wide ts a p

  pub stores_wide : (ts : Targets) → greatest_stores arguments no_pairs ts ≤ 255 → greatest_stores no_arguments pair_count ts ≤ 4096 → widest_stores ts ≤ 255
  stores_wide (Only t) a p = store_wide t a p
  stores_wide (Then t ts) a p = let x0 = store_wide t (omega (arith, a)) (omega (arith, p)) in let x1 = stores_wide ts (omega (arith, a)) (omega (arith, p)) in omega (arith, x0, x1)

both_wide : (e message : Expr) → max (greatest arguments no_pairs e) (greatest arguments no_pairs message) ≤ 255 → max (greatest no_arguments pair_count e) (greatest no_arguments pair_count message) ≤ 4096 → max (widest e) (widest message) ≤ 255
both_wide e message a p = let x = expr_wide e (omega (arith, a)) (omega (arith, p)) in let y = expr_wide message (omega (arith, a)) (omega (arith, p)) in omega (arith, x, y)

at_wide : (level : ℕ) {a p w : ℕ} → (a ≤ 255 → p ≤ 4096 → w ≤ 255) → at_level level a ≤ 255 → at_level level p ≤ 4096 → at_level level w ≤ 255
at_wide zero h a p = h a p
at_wide (suc level) h a p = zero-le

module _ (level : ℕ) where
  mutual
    pub stmt_wide : (s : Stmt) → greatest_stmt arguments no_pairs level s ≤ 255 → greatest_stmt no_arguments pair_count level s ≤ 4096 → widest_stmt level s ≤ 255
    stmt_wide (Do e) a p = expr_wide e a p
    stmt_wide (Assign ts e) a p = let x0 = expr_wide e (omega (arith, a)) (omega (arith, p)) in let x1 = stores_wide ts (omega (arith, a)) (omega (arith, p)) in omega (arith, x0, x1)
    stmt_wide (AugName name op e) a p = expr_wide e a p
    stmt_wide (AugAttr a1 name op e) a p = let x0 = expr_wide a1 (omega (arith, a)) (omega (arith, p)) in let x1 = expr_wide e (omega (arith, a)) (omega (arith, p)) in omega (arith, x0, x1)
    stmt_wide (AugIndex a1 b1 op e) a p = let x0 = expr_wide a1 (omega (arith, a)) (omega (arith, p)) in let x1 = expr_wide b1 (omega (arith, a)) (omega (arith, p)) in let x2 = expr_wide e (omega (arith, a)) (omega (arith, p)) in omega (arith, x0, x1, x2)
    stmt_wide (Delete ts) a p = stores_wide ts a p
    stmt_wide Pass a p = zero-le
    stmt_wide Break a p = zero-le
    stmt_wide Continue a p = zero-le
    stmt_wide ReturnNone a p = zero-le
    stmt_wide (Return e) a p = expr_wide e a p
    stmt_wide Reraise a p = zero-le
    stmt_wide (Raise e) a p = expr_wide e a p
    stmt_wide (Assert e) a p = at_wide level (expr_wide e) a p
    stmt_wide (AssertWith e message) a p = at_wide level (both_wide e message) a p
    stmt_wide (Import names) a p = zero-le
    stmt_wide (From path names) a p = zero-le
    stmt_wide (If branches) a p = branches_wide branches a p
    stmt_wide (While e body rest) a p = let x0 = expr_wide e (omega (arith, a)) (omega (arith, p)) in let x1 = block_wide body (omega (arith, a)) (omega (arith, p)) in let x2 = block_wide rest (omega (arith, a)) (omega (arith, p)) in omega (arith, x0, x1, x2)
    stmt_wide (For t e body rest) a p = let x0 = store_wide t (omega (arith, a)) (omega (arith, p)) in let x1 = expr_wide e (omega (arith, a)) (omega (arith, p)) in let x2 = block_wide body (omega (arith, a)) (omega (arith, p)) in let x3 = block_wide rest (omega (arith, a)) (omega (arith, p)) in omega (arith, x0, x1, x2, x3)
    stmt_wide (Try body handlers rest) a p = let x0 = block_wide body (omega (arith, a)) (omega (arith, p)) in let x1 = handlers_wide handlers (omega (arith, a)) (omega (arith, p)) in let x2 = block_wide rest (omega (arith, a)) (omega (arith, p)) in omega (arith, x0, x1, x2)
    stmt_wide (Finally body last) a p = let x0 = block_wide body (omega (arith, a)) (omega (arith, p)) in let x1 = block_wide last (omega (arith, a)) (omega (arith, p)) in omega (arith, x0, x1)
    stmt_wide (TryFinally body handlers rest last) a p = let x0 = block_wide body (omega (arith, a)) (omega (arith, p)) in let x1 = handlers_wide handlers (omega (arith, a)) (omega (arith, p)) in let x2 = block_wide rest (omega (arith, a)) (omega (arith, p)) in let x3 = block_wide last (omega (arith, a)) (omega (arith, p)) in omega (arith, x0, x1, x2, x3)
    stmt_wide (Def number name params defaults body) a p = exprs_wide defaults a p

    pub block_wide : (b : Block) → greatest_block arguments no_pairs level b ≤ 255 → greatest_block no_arguments pair_count level b ≤ 4096 → widest_block level b ≤ 255
    block_wide End a p = zero-le
    block_wide (Next line s b) a p = let x0 = stmt_wide s (omega (arith, a)) (omega (arith, p)) in let x1 = block_wide b (omega (arith, a)) (omega (arith, p)) in omega (arith, x0, x1)

    pub branches_wide : (branches : Branches) → greatest_branches arguments no_pairs level branches ≤ 255 → greatest_branches no_arguments pair_count level branches ≤ 4096 → widest_branches level branches ≤ 255
    branches_wide (Else b) a p = block_wide b a p
    branches_wide (Case line e b branches) a p = let x0 = expr_wide e (omega (arith, a)) (omega (arith, p)) in let x1 = block_wide b (omega (arith, a)) (omega (arith, p)) in let x2 = branches_wide branches (omega (arith, a)) (omega (arith, p)) in omega (arith, x0, x1, x2)

    pub handlers_wide : (handlers : Handlers) → greatest_handlers arguments no_pairs level handlers ≤ 255 → greatest_handlers no_arguments pair_count level handlers ≤ 4096 → widest_handlers level handlers ≤ 255
    handlers_wide NoHandler a p = zero-le
    handlers_wide (Any line b) a p = block_wide b a p
    handlers_wide (On line e b handlers) a p = let x0 = expr_wide e (omega (arith, a)) (omega (arith, p)) in let x1 = block_wide b (omega (arith, a)) (omega (arith, p)) in let x2 = handlers_wide handlers (omega (arith, a)) (omega (arith, p)) in omega (arith, x0, x1, x2)
    handlers_wide (OnAs line e name b handlers) a p = let x0 = expr_wide e (omega (arith, a)) (omega (arith, p)) in let x1 = block_wide b (omega (arith, a)) (omega (arith, p)) in let x2 = handlers_wide handlers (omega (arith, a)) (omega (arith, p)) in omega (arith, x0, x1, x2)
