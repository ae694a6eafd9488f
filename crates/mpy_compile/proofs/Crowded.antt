-- A text that isn't crowded keeps the limits of its calls and displays.
use Rattle.std.proofs.Common.{◌≡◌, ℕ, zero, suc, ◌≤◌, Bool, true, false, ◌||◌, refl, arith, zero-le}
use Rattle.std.specs.Prelude.{max, nat_lt}
use Rattle.std.proofs.lemmas.Bool.{ltb-false}
use Rattle.emit_module.specs.py_meaning.Tree.{Expr, Constant, Named, Unary, Not, Binary, And, Or, Compare, Cond, TupleOf, ListOf, DictOf, Attr, Index, Call, Method, Exprs, NoExpr, More, Links, Last, Link, Pairs, NoPair, Pair, Keys, NoKey, Key, count, pair_count, key_count, Target, ToName, ToAttr, ToIndex, ToEach, Targets, Only, Then, target_count, Stmt, Do, Assign, AugName, AugAttr, AugIndex, Delete, Pass, Break, Continue, ReturnNone, Return, Reraise, Raise, Assert, AssertWith, Import, From, If, While, For, Try, Finally, TryFinally, Def, Block, End, Next, Branches, Else, Case, Handlers, NoHandler, Any, On, OnAs}
use Rattle.emit_module.specs.bc_scheme.Heights as heights
use Rattle.emit_module.specs.tr_source.Greatest.{greatest, greatest_of, greatest_links, greatest_pairs, greatest_keys, greatest_store, greatest_stores, greatest_stmt, greatest_block, greatest_branches, greatest_handlers}
use Rattle.emit_module.specs.emit_draft.Draft.{passes_items, passes_members}
use Rattle.emit_module.specs.emit_expr.Crowded.{crowded, crowded_all, crowded_links, crowded_pairs, crowded_keys}
use Rattle.emit_module.specs.emit_stmt.SimpleCrowded.{crowded_target, crowded_targets, crowded_gone, crowded_gones, crowded_defaults, passes_entries, at_level}
use Rattle.emit_module.specs.emit_stmt.Crowded.{crowded_block, crowded_stmt, crowded_branches, crowded_handlers}

pub or_left : (a b : Bool) → (a || b) ≡ false → a ≡ false
or_left true b e = e
or_left false b e = refl

pub or_right : (a b : Bool) → (a || b) ≡ false → b ≡ false
or_right true b e = cc
or_right false b e = e

abbrev arguments : Exprs → Keys → ℕ
arguments args keys = max (count args) (key_count keys)

abbrev no_pairs : Pairs → ℕ
no_pairs pairs = 0

abbrev no_arguments : Exprs → Keys → ℕ
no_arguments args keys = 0

-- the arguments of each call in it, and the pairs of each display, are few
abbrev Few : (calls pairs : ℕ) → Type 0
Few calls pairs = (calls ≤ 255) × (pairs ≤ 4096)

none : Few 0 0
none = (zero-le, zero-le)

two : (a b c d : ℕ) → Few a b → Few c d → Few (max a c) (max b d)
two a b c d h k = let x = h.0 in let y = k.0 in let z = h.1 in let w = k.1 in (omega (arith, x, y), omega (arith, z, w))

members : (args keys : ℕ) → passes_members args keys ≡ false → max args keys ≤ 255
members args keys e =
    let a = ltb-false 255 args (or_left (nat_lt 255 args) (nat_lt 255 keys) e) in
    let b = ltb-false 255 keys (or_right (nat_lt 255 args) (nat_lt 255 keys) e) in
    omega (arith, a, b)

a_call : (args keys a b c d e f : ℕ) → passes_members args keys ≡ false → Few a b → Few c d → Few e f → Few (max (max args keys) (max a (max c e))) (max 0 (max b (max d f)))
a_call args keys a b c d e f p x y z =
    let most = members args keys p in
    let inner = two a b (max c e) (max d f) x (two c d e f y z) in
    two (max args keys) 0 (max a (max c e)) (max b (max d f)) (most, zero-le) inner

a_dict : (pairs a b : ℕ) → passes_items pairs ≡ false → Few a b → Few (max 0 a) (max pairs b)
a_dict pairs a b p x = two 0 pairs a b (zero-le, ltb-false 4096 pairs p) x

abbrev G : Expr → ℕ
G = greatest arguments no_pairs

abbrev H : Expr → ℕ
H = greatest no_arguments pair_count

mutual
  pub expr_few : (e : Expr) → crowded e ≡ false → Few (G e) (H e)
  expr_few (Constant v) c = none
  expr_few (Named name) c = none
  expr_few (Unary op e) c = expr_few e c
  expr_few (Not e) c = expr_few e c
  expr_few (Binary op a b) c = two (G a) (H a) (G b) (H b) (expr_few a (or_left (crowded a) (crowded b) c)) (expr_few b (or_right (crowded a) (crowded b) c))
  expr_few (And e es) c = two (G e) (H e) (greatest_of arguments no_pairs es) (greatest_of no_arguments pair_count es) (expr_few e (or_left (crowded e) (crowded_all es) c)) (exprs_few es (or_right (crowded e) (crowded_all es) c))
  expr_few (Or e es) c = two (G e) (H e) (greatest_of arguments no_pairs es) (greatest_of no_arguments pair_count es) (expr_few e (or_left (crowded e) (crowded_all es) c)) (exprs_few es (or_right (crowded e) (crowded_all es) c))
  expr_few (Compare e links) c = two (G e) (H e) (greatest_links arguments no_pairs links) (greatest_links no_arguments pair_count links) (expr_few e (or_left (crowded e) (crowded_links links) c)) (links_few links (or_right (crowded e) (crowded_links links) c))
  expr_few (Cond test a b) c =
      let front = or_left (crowded test || crowded a) (crowded b) c in
      two (G test) (H test) (max (G a) (G b)) (max (H a) (H b)) (expr_few test (or_left (crowded test) (crowded a) front))
      (two (G a) (H a) (G b) (H b) (expr_few a (or_right (crowded test) (crowded a) front)) (expr_few b (or_right (crowded test || crowded a) (crowded b) c)))
  expr_few (TupleOf es) c = exprs_few es (or_left (crowded_all es) (passes_items (count es)) c)
  expr_few (ListOf es) c = exprs_few es (or_left (crowded_all es) (passes_items (count es)) c)
  expr_few (DictOf pairs) c =
      a_dict (pair_count pairs) (greatest_pairs arguments no_pairs pairs) (greatest_pairs no_arguments pair_count pairs) (or_left (passes_items (pair_count pairs)) (crowded_pairs pairs) c)
      (pairs_few pairs (or_right (passes_items (pair_count pairs)) (crowded_pairs pairs) c))
  expr_few (Attr e name) c = expr_few e c
  expr_few (Index a b) c = two (G a) (H a) (G b) (H b) (expr_few a (or_left (crowded a) (crowded b) c)) (expr_few b (or_right (crowded a) (crowded b) c))
  expr_few (Call f args keys) c =
      let all = (crowded f || crowded_all args) || crowded_keys keys in
      let parts = or_left all (passes_members (count args) (key_count keys)) c in
      let front = or_left (crowded f || crowded_all args) (crowded_keys keys) parts in
      a_call (count args) (key_count keys) (G f) (H f) (greatest_of arguments no_pairs args) (greatest_of no_arguments pair_count args) (greatest_keys arguments no_pairs keys) (greatest_keys no_arguments pair_count keys)
      (or_right all (passes_members (count args) (key_count keys)) c) (expr_few f (or_left (crowded f) (crowded_all args) front)) (exprs_few args (or_right (crowded f) (crowded_all args) front))
      (keys_few keys (or_right (crowded f || crowded_all args) (crowded_keys keys) parts))
  expr_few (Method f name args keys) c =
      let all = (crowded f || crowded_all args) || crowded_keys keys in
      let parts = or_left all (passes_members (count args) (key_count keys)) c in
      let front = or_left (crowded f || crowded_all args) (crowded_keys keys) parts in
      a_call (count args) (key_count keys) (G f) (H f) (greatest_of arguments no_pairs args) (greatest_of no_arguments pair_count args) (greatest_keys arguments no_pairs keys) (greatest_keys no_arguments pair_count keys)
      (or_right all (passes_members (count args) (key_count keys)) c) (expr_few f (or_left (crowded f) (crowded_all args) front)) (exprs_few args (or_right (crowded f) (crowded_all args) front))
      (keys_few keys (or_right (crowded f || crowded_all args) (crowded_keys keys) parts))

  pub exprs_few : (es : Exprs) → crowded_all es ≡ false → Few (greatest_of arguments no_pairs es) (greatest_of no_arguments pair_count es)
  exprs_few NoExpr c = none
  exprs_few (More e es) c = two (G e) (H e) (greatest_of arguments no_pairs es) (greatest_of no_arguments pair_count es) (expr_few e (or_left (crowded e) (crowded_all es) c)) (exprs_few es (or_right (crowded e) (crowded_all es) c))

  pub links_few : (links : Links) → crowded_links links ≡ false → Few (greatest_links arguments no_pairs links) (greatest_links no_arguments pair_count links)
  links_few (Last op e) c = expr_few e c
  links_few (Link op e links) c = two (G e) (H e) (greatest_links arguments no_pairs links) (greatest_links no_arguments pair_count links) (expr_few e (or_left (crowded e) (crowded_links links) c)) (links_few links (or_right (crowded e) (crowded_links links) c))

  pub pairs_few : (pairs : Pairs) → crowded_pairs pairs ≡ false → Few (greatest_pairs arguments no_pairs pairs) (greatest_pairs no_arguments pair_count pairs)
  pairs_few NoPair c = none
  pairs_few (Pair key value pairs) c =
      let front = or_left (crowded value || crowded key) (crowded_pairs pairs) c in
      two (max (G value) (G key)) (max (H value) (H key)) (greatest_pairs arguments no_pairs pairs) (greatest_pairs no_arguments pair_count pairs)
      (two (G value) (H value) (G key) (H key) (expr_few value (or_left (crowded value) (crowded key) front)) (expr_few key (or_right (crowded value) (crowded key) front)))
      (pairs_few pairs (or_right (crowded value || crowded key) (crowded_pairs pairs) c))

  pub keys_few : (keys : Keys) → crowded_keys keys ≡ false → Few (greatest_keys arguments no_pairs keys) (greatest_keys no_arguments pair_count keys)
  keys_few NoKey c = none
  keys_few (Key name e keys) c = two (G e) (H e) (greatest_keys arguments no_pairs keys) (greatest_keys no_arguments pair_count keys) (expr_few e (or_left (crowded e) (crowded_keys keys) c)) (keys_few keys (or_right (crowded e) (crowded_keys keys) c))

abbrev GT : Target → ℕ
GT = greatest_store arguments no_pairs

abbrev HT : Target → ℕ
HT = greatest_store no_arguments pair_count

abbrev GTs : Targets → ℕ
GTs = greatest_stores arguments no_pairs

abbrev HTs : Targets → ℕ
HTs = greatest_stores no_arguments pair_count

mutual
  pub store_few : (t : Target) → crowded_target t ≡ false → Few (GT t) (HT t)
  store_few (ToName name) c = none
  store_few (ToAttr e name) c = expr_few e c
  store_few (ToIndex a b) c = two (G a) (H a) (G b) (H b) (expr_few a (or_left (crowded a) (crowded b) c)) (expr_few b (or_right (crowded a) (crowded b) c))
  store_few (ToEach ts) c = stores_few ts (or_right (passes_items (target_count ts)) (crowded_targets ts) c)

  pub stores_few : (ts : Targets) → crowded_targets ts ≡ false → Few (GTs ts) (HTs ts)
  stores_few (Only t) c = store_few t c
  stores_few (Then t ts) c = two (GT t) (HT t) (GTs ts) (HTs ts) (store_few t (or_left (crowded_target t) (crowded_targets ts) c)) (stores_few ts (or_right (crowded_target t) (crowded_targets ts) c))

gone_few : (t : Target) → crowded_gone t ≡ false → Few (GT t) (HT t)
gone_few (ToName name) c = none
gone_few (ToAttr e name) c = cc
gone_few (ToIndex a b) c = two (G a) (H a) (G b) (H b) (expr_few a (or_left (crowded a) (crowded b) c)) (expr_few b (or_right (crowded a) (crowded b) c))
gone_few (ToEach ts) c = cc

gones_few : (ts : Targets) → crowded_gones ts ≡ false → Few (GTs ts) (HTs ts)
gones_few (Only t) c = gone_few t c
gones_few (Then t ts) c = two (GT t) (HT t) (GTs ts) (HTs ts) (gone_few t (or_left (crowded_gone t) (crowded_gones ts) c)) (gones_few ts (or_right (crowded_gone t) (crowded_gones ts) c))

defaults_few : (es : Exprs) → crowded_defaults es ≡ false → Few (greatest_of arguments no_pairs es) (greatest_of no_arguments pair_count es)
defaults_few NoExpr c = none
defaults_few (More e es) c = exprs_few (More e es) (or_left (crowded_all (More e es)) (passes_items (count (More e es))) c)

at_few : (level a b : ℕ) (crowds : Bool) → (crowds ≡ false → Few a b) → at_level level crowds ≡ false → Few (heights.at_level level a) (heights.at_level level b)
at_few zero a b crowds h c = h c
at_few (suc level) a b crowds h c = none

both_few : (e x : Expr) → (crowded e || crowded x) ≡ false → Few (max (G e) (G x)) (max (H e) (H x))
both_few e x c = two (G e) (H e) (G x) (H x) (expr_few e (or_left (crowded e) (crowded x) c)) (expr_few x (or_right (crowded e) (crowded x) c))

module _ (level : ℕ) where
  abbrev GB : Block → ℕ
  GB = greatest_block arguments no_pairs level

  abbrev HB : Block → ℕ
  HB = greatest_block no_arguments pair_count level

  abbrev GH : Handlers → ℕ
  GH = greatest_handlers arguments no_pairs level

  abbrev HH : Handlers → ℕ
  HH = greatest_handlers no_arguments pair_count level

  mutual
    stmt_few : (n : ℕ) (s : Stmt) → crowded_stmt level n s ≡ false → Few (greatest_stmt arguments no_pairs level s) (greatest_stmt no_arguments pair_count level s)
    stmt_few n (Do e) c = expr_few e c
    stmt_few n (Assign ts e) c = two (G e) (H e) (GTs ts) (HTs ts) (expr_few e (or_left (crowded e) (crowded_targets ts) c)) (stores_few ts (or_right (crowded e) (crowded_targets ts) c))
    stmt_few n (AugName name op e) c = expr_few e c
    stmt_few n (AugAttr a name op e) c = both_few a e c
    stmt_few n (AugIndex a b op e) c =
        two (max (G a) (G b)) (max (H a) (H b)) (G e) (H e) (both_few a b (or_left (crowded a || crowded b) (crowded e) c)) (expr_few e (or_right (crowded a || crowded b) (crowded e) c))
    stmt_few n (Delete ts) c = gones_few ts c
    stmt_few n Pass c = none
    stmt_few n Break c = none
    stmt_few n Continue c = none
    stmt_few n ReturnNone c = none
    stmt_few n (Return e) c = expr_few e c
    stmt_few n Reraise c = none
    stmt_few n (Raise e) c = expr_few e c
    stmt_few n (Assert e) c = at_few level (G e) (H e) (crowded e) (expr_few e) c
    stmt_few n (AssertWith e x) c = at_few level (max (G e) (G x)) (max (H e) (H x)) (crowded e || crowded x) (both_few e x) c
    stmt_few n (Import names) c = none
    stmt_few n (From path names) c = none
    stmt_few n (If branches) c = branches_few n branches c
    stmt_few n (While e body rest) c =
        let front = or_left (crowded e || crowded_block level 0 body) (crowded_block level n rest) c in
        two (G e) (H e) (max (GB body) (GB rest)) (max (HB body) (HB rest)) (expr_few e (or_left (crowded e) (crowded_block level 0 body) front))
        (two (GB body) (HB body) (GB rest) (HB rest) (block_few 0 body (or_right (crowded e) (crowded_block level 0 body) front)) (block_few n rest (or_right (crowded e || crowded_block level 0 body) (crowded_block level n rest) c)))
    stmt_few n (For t e body rest) c =
        let first = crowded e || crowded_target t in
        let front = or_left (first || crowded_block level 0 body) (crowded_block level n rest) c in
        let head = or_left first (crowded_block level 0 body) front in
        two (max (GT t) (G e)) (max (HT t) (H e)) (max (GB body) (GB rest)) (max (HB body) (HB rest))
        (two (GT t) (HT t) (G e) (H e) (store_few t (or_right (crowded e) (crowded_target t) head)) (expr_few e (or_left (crowded e) (crowded_target t) head)))
        (two (GB body) (HB body) (GB rest) (HB rest) (block_few 0 body (or_right first (crowded_block level 0 body) front)) (block_few n rest (or_right (first || crowded_block level 0 body) (crowded_block level n rest) c)))
    stmt_few n (Try body handlers rest) c =
        let m = suc n in
        let first = passes_entries m || crowded_block level m body in
        let front = or_left (first || crowded_handlers level m handlers) (crowded_block level n rest) c in
        let head = or_left first (crowded_handlers level m handlers) front in
        two (GB body) (HB body) (max (GH handlers) (GB rest)) (max (HH handlers) (HB rest)) (block_few m body (or_right (passes_entries m) (crowded_block level m body) head))
        (two (GH handlers) (HH handlers) (GB rest) (HB rest) (handlers_few m handlers (or_right first (crowded_handlers level m handlers) front)) (block_few n rest (or_right (first || crowded_handlers level m handlers) (crowded_block level n rest) c)))
    stmt_few n (Finally body last) c =
        let m = suc n in
        let first = passes_entries m || crowded_block level m body in
        two (GB body) (HB body) (GB last) (HB last) (block_few m body (or_right (passes_entries m) (crowded_block level m body) (or_left first (crowded_block level m last) c)))
        (block_few m last (or_right first (crowded_block level m last) c))
    stmt_few n (TryFinally body handlers rest last) c =
        let m = suc n in
        let k = suc m in
        let first = passes_entries k || crowded_block level k body in
        let tried = (first || crowded_handlers level k handlers) || crowded_block level m rest in
        let front = or_right (passes_entries m) tried (or_left (passes_entries m || tried) (crowded_block level m last) c) in
        let head = or_left (first || crowded_handlers level k handlers) (crowded_block level m rest) front in
        two (max (GB body) (max (GH handlers) (GB rest))) (max (HB body) (max (HH handlers) (HB rest))) (GB last) (HB last)
        (two (GB body) (HB body) (max (GH handlers) (GB rest)) (max (HH handlers) (HB rest)) (block_few k body (or_right (passes_entries k) (crowded_block level k body) (or_left first (crowded_handlers level k handlers) head)))
        (two (GH handlers) (HH handlers) (GB rest) (HB rest) (handlers_few k handlers (or_right first (crowded_handlers level k handlers) head)) (block_few m rest (or_right (first || crowded_handlers level k handlers) (crowded_block level m rest) front))))
        (block_few m last (or_right (passes_entries m || tried) (crowded_block level m last) c))
    stmt_few n (Def number name params defaults body) c = defaults_few defaults c

    pub block_few : (n : ℕ) (b : Block) → crowded_block level n b ≡ false → Few (GB b) (HB b)
    block_few n End c = none
    block_few n (Next line s b) c =
        two (greatest_stmt arguments no_pairs level s) (greatest_stmt no_arguments pair_count level s) (GB b) (HB b) (stmt_few n s (or_left (crowded_stmt level n s) (crowded_block level n b) c))
        (block_few n b (or_right (crowded_stmt level n s) (crowded_block level n b) c))

    branches_few : (n : ℕ) (bs : Branches) → crowded_branches level n bs ≡ false → Few (greatest_branches arguments no_pairs level bs) (greatest_branches no_arguments pair_count level bs)
    branches_few n (Else b) c = block_few n b c
    branches_few n (Case line e b bs) c =
        let front = or_left (crowded e || crowded_block level n b) (crowded_branches level n bs) c in
        let behind = branches_few n bs (or_right (crowded e || crowded_block level n b) (crowded_branches level n bs) c) in
        let more = greatest_branches arguments no_pairs level bs in
        let others = greatest_branches no_arguments pair_count level bs in
        two (G e) (H e) (max (GB b) more) (max (HB b) others) (expr_few e (or_left (crowded e) (crowded_block level n b) front))
        (two (GB b) (HB b) more others (block_few n b (or_right (crowded e) (crowded_block level n b) front)) behind)

    handlers_few : (n : ℕ) (hs : Handlers) → crowded_handlers level n hs ≡ false → Few (GH hs) (HH hs)
    handlers_few n NoHandler c = none
    handlers_few n (Any line b) c = block_few n b c
    handlers_few n (On line e b hs) c =
        let front = or_left (crowded e || crowded_block level n b) (crowded_handlers level n hs) c in
        two (G e) (H e) (max (GB b) (GH hs)) (max (HB b) (HH hs)) (expr_few e (or_left (crowded e) (crowded_block level n b) front))
        (two (GB b) (HB b) (GH hs) (HH hs) (block_few n b (or_right (crowded e) (crowded_block level n b) front)) (handlers_few n hs (or_right (crowded e || crowded_block level n b) (crowded_handlers level n hs) c)))
    handlers_few n (OnAs line e name b hs) c =
        let inner = passes_entries (suc n) || crowded_block level (suc n) b in
        let front = or_left (crowded e || inner) (crowded_handlers level n hs) c in
        two (G e) (H e) (max (GB b) (GH hs)) (max (HB b) (HH hs)) (expr_few e (or_left (crowded e) inner front))
        (two (GB b) (HB b) (GH hs) (HH hs) (block_few (suc n) b (or_right (passes_entries (suc n)) (crowded_block level (suc n) b) (or_right (crowded e) inner front))) (handlers_few n hs (or_right (crowded e || inner) (crowded_handlers level n hs) c)))
