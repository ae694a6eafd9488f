-- The code of statements may be written.
use Rattle.std.proofs.Common.{◌≡◌, ℕ, zero, suc, ◌+◌, ◌<◌, ◌≤◌, Bool, false, length, Some, refl, arith, slice_get}
use Rattle.emit_module.specs.bc_machine.bc_ops.declared.instr.Op.{Op}
use Rattle.emit_module.specs.bc_machine.bc_ops.declared.instr.Op.TheVariants as ops
use Rattle.emit_module.specs.bc_labels.Labels.{HasOffset}
use Rattle.emit_module.specs.bc_machine.bc_ops.Table.{code_of, form_of, name_form, number_form, jump_form, plain_form, short_form}
use Rattle.emit_module.specs.py_meaning.Tree.{Name, Expr, Exprs, Target, Stmt, Block, Branches, Handlers, count}
use Rattle.emit_module.specs.py_meaning.Tree as tree
use Rattle.emit_module.specs.bc_machine.Library.{Item, Jumps, Line}
use Rattle.emit_module.specs.bc_scheme.Context.{Context, Has, Behind}
use Rattle.emit_module.specs.bc_scheme.Heights.{at_level}
use Rattle.emit_module.specs.bc_scheme.Statements.{StandsJ, jumped, popped, unwound, Around, deeper, StandsDef, bare, with_defaults, StandsS, «do», assign, aug_name, aug_attr, aug_index, delete, pass, «break», «continue», return_none, «return», reraise, raise, no_assert, no_assert_with, assert, assert_with, «import», from, «if», «while», «for», «try», finally, try_finally, def, StandsB, no_stmt, stmt, StandsI, «else», last_branch, branch, StandsX, «except», StandsH, no_clause, any, on, on_as}
use Rattle.emit_module.specs.tr_source.Greatest.{greatest_stmt, greatest_block, greatest_branches, greatest_handlers}
use Rattle.emit_module.specs.tr_source.Spelled.{AreSpelled, BlockSpelled, StmtSpelled, BranchesSpelled, HandlersSpelled}
use Rattle.emit_module.proofs.tr_source_lemmas.Lines.{block_up}
use Rattle.mpy_compile.proofs.Wells.{Kept, IsPut, loads_well, stores_well, deletes_well, in_place_well, tuple_well, function_well, defaulted_well, call_well, assertion_ascii}
use Rattle.mpy_compile.proofs.Regions.{Region, empty, joined, wider, has_ahead, behind, behind_ahead}
use Rattle.mpy_compile.proofs.Exprs.{put, e_own, es_own, most, most_of, arguments, no_pairs}
use Rattle.mpy_compile.proofs.Targets.{t_own, a_own, gs_own, m_own, n_own, f_own}

module _ (c : Context) (size n_state children : ℕ) (state : n_state ≤ 4096) (few : children ≤ 65535) (kept : (p : ℕ) (l : Line) → slice_get c.lines p ≡ Some l → Kept size n_state children l.item) where
  abbrev R : (p q first last : ℕ) → Type 0
  R p q first last = Region c size n_state children kept p q first last

  and_then : {p m q first next last : ℕ} → R p m first next → R m q next last → R p q first last
  and_then s t = joined c size n_state children kept s t

  -- of one line
  up : {p q line : ℕ} (last : ℕ) → line ≤ last → R p q line line → R p q line last
  up {line = line} last le s = wider c size n_state children kept line last (let n = line in omega arith) le s

  later : {p q line last : ℕ} (first : ℕ) → first ≤ line → R p q line last → R p q first last
  later {last = last} first le s = wider c size n_state children kept first last le (let n = last in omega arith) s

  one : (line p : ℕ) (item : Item) → (Kept size n_state children item → IsPut item) → Has c line p item → R p (suc p) line line
  one line p item w h = put c size n_state children state few kept line p item w h

  -- behind a part: in the last line of it
  after : (line p : ℕ) (item : Item) → (Kept size n_state children item → IsPut item) → Behind c p item → R p (suc p) line line
  after line p item w h = behind c size n_state children kept p line item w h

  -- jumps forward
  forth : (line p : ℕ) (op : Op) (target : ℕ) → HasOffset (form_of (code_of op)) op → p < target → Has c line p (Jumps op target) → R p (suc p) line line
  forth line p op target jumps forward h = has_ahead c size n_state children kept p line op target jumps forward h

  after_forth : (line p : ℕ) (op : Op) (target : ℕ) → HasOffset (form_of (code_of op)) op → p < target → Behind c p (Jumps op target) → R p (suc p) line line
  after_forth line p op target jumps forward h = behind_ahead c size n_state children kept p line op target jumps forward h

  j_own : (line target n : ℕ) (it : Bool) (p q : ℕ) → StandsJ c line target n it p q → R p q line line
  unfolding form_of name_form number_form jump_form plain_form short_form
  j_own line target n it p q (jumped h) = one line p _ (λ k. (refl, refl)) h
  j_own line target n it p q (popped h1 h2 h3 h4 h5) =
      and_then (and_then (and_then (and_then (one line p _ (λ k. (tt, refl)) h1) (one line (suc p) _ (λ k. (tt, refl)) h2)) (one line (suc (suc p)) _ (λ k. (tt, refl)) h3)) (one line (suc (suc (suc p))) _ (λ k. (tt, refl)) h4))
      (one line (suc (suc (suc (suc p)))) _ (λ k. (refl, refl)) h5)
  j_own line target n it p q (unwound e h) = one line p _ (λ k. tt) h

  d_own : (line number p q : ℕ) (es : Exprs) → AreSpelled es → most_of es ≤ 255 → StandsDef c line number p es q → R p q line line
  unfolding form_of name_form number_form jump_form plain_form short_form
  d_own line number p q es s g (bare {i = i} e h) = one line p _ (function_well size n_state children state few i) h
  d_own line number p q es s g (with_defaults {m = m} {i = i} {e = x} {es = others} e u h1 h2 h3) =
      and_then (and_then (and_then (es_own c size n_state children state few kept line p m (tree.More x others) s g u) (one line m _ (tuple_well size n_state children state few (count (tree.More x others))) h1)) (one line (suc m) _ (λ k. (tt, refl)) h2))
      (one line (suc (suc m)) _ (defaulted_well size n_state children state few i) h3)

  abbrev GS : Stmt → ℕ
  GS = greatest_stmt arguments no_pairs c.level

  abbrev GB : Block → ℕ
  GB = greatest_block arguments no_pairs c.level

  abbrev GI : Branches → ℕ
  GI = greatest_branches arguments no_pairs c.level

  abbrev GH : Handlers → ℕ
  GH = greatest_handlers arguments no_pairs c.level

  at_zero : (level n : ℕ) → level ≡ 0 → at_level level n ≤ 255 → n ≤ 255
  at_zero zero n e h = h
  at_zero (suc level) n e h = cc

  mutual
    unfolding form_of name_form number_form jump_form plain_form short_form

    s_own : (a : Around) (line last p q : ℕ) (s : Stmt) → StmtSpelled line last s → GS s ≤ 255 → StandsS c a line p s q → R p q line last
    s_own a line last p q s k g («do» {m = m} {e = e} u h) = up last k.1 (and_then (e_own c size n_state children state few kept line p m e k.0 g u) (one line m _ (λ z. (tt, refl)) h))
    s_own a line last p q s k g (assign {m = m} {ts = ts} {e = e} u v) =
        up last k.2 (and_then (e_own c size n_state children state few kept line p m e k.1 (omega (arith, g)) u) (a_own c size n_state children state few kept line m q ts k.0 (omega (arith, g)) v))
    s_own a line last p q s k g (aug_name {m = m} {n = n} {op = op} {e = e} h1 u h2 h3) =
        up last k.2 (and_then (and_then (and_then (one line p _ (loads_well size n_state children state few c n k.0) h1) (e_own c size n_state children state few kept line (suc p) m e k.1 g u)) (one line m _ (λ z. in_place_well size n_state children state few op) h2))
        (one line (suc m) _ (stores_well size n_state children state few c n k.0) h3))
    s_own a line last p q s k g (aug_attr {m = m} {n = n} {o = o} {op = op} {e = e} u h1 h2 v h3 h4 h5) =
        up last k.3 (and_then (and_then (and_then (and_then (and_then (and_then (e_own c size n_state children state few kept line p m o k.0 (omega (arith, g)) u) (one line m _ (λ z. (tt, refl)) h1)) (one line (suc m) _ (λ z. (refl, k.1)) h2))
        (e_own c size n_state children state few kept line (suc (suc m)) n e k.2 (omega (arith, g)) v)) (one line n _ (λ z. in_place_well size n_state children state few op) h3)) (one line (suc n) _ (λ z. (tt, refl)) h4)) (one line (suc (suc n)) _ (λ z. (refl, k.1)) h5))
    s_own a line last p q s k g (aug_index {k = i} {m = m} {n = n} {o = o} {i = x} {op = op} {e = e} u v h1 h2 w h3 h4 h5) =
        up last k.3 (and_then (and_then (and_then (and_then (and_then (and_then (and_then (e_own c size n_state children state few kept line p i o k.0 (omega (arith, g)) u) (e_own c size n_state children state few kept line i m x k.1 (omega (arith, g)) v))
        (one line m _ (λ z. (tt, refl)) h1)) (one line (suc m) _ (λ z. (tt, refl)) h2)) (e_own c size n_state children state few kept line (suc (suc m)) n e k.2 (omega (arith, g)) w)) (one line n _ (λ z. in_place_well size n_state children state few op) h3))
        (one line (suc n) _ (λ z. (tt, refl)) h4)) (one line (suc (suc n)) _ (λ z. (tt, refl)) h5))
    s_own a line last p q s k g (delete {ts = ts} u) = up last k.1 (gs_own c size n_state children state few kept line p q ts k.0 g u)
    s_own a line last p q s k g pass = empty c size n_state children kept p line last k
    s_own a line last p q s k g («break» u) = up last k (j_own line a.brk a.count a.iterator p q u)
    s_own a line last p q s k g («continue» u) = up last k (j_own line a.cont a.count false p q u)
    s_own a line last p q s k g (return_none h1 h2) = up last k (and_then (one line p _ (λ z. (tt, refl)) h1) (one line (suc p) _ (λ z. (tt, refl)) h2))
    s_own a line last p q s k g («return» {m = m} {e = e} u h) = up last k.1 (and_then (e_own c size n_state children state few kept line p m e k.0 g u) (one line m _ (λ z. (tt, refl)) h))
    s_own a line last p q s k g (reraise h) = up last k (one line p _ (λ z. (tt, refl)) h)
    s_own a line last p q s k g (raise {m = m} {e = e} u h) = up last k.1 (and_then (e_own c size n_state children state few kept line p m e k.0 g u) (one line m _ (λ z. (tt, refl)) h))
    s_own a line last p q s k g (no_assert l) = empty c size n_state children kept p line last k.1
    s_own a line last p q s k g (no_assert_with l) = empty c size n_state children kept p line last k.2
    s_own a line last p q s k g (assert {m = m} {e = e} l u h1 h2 h3) =
        up last k.1 (and_then (and_then (and_then (e_own c size n_state children state few kept line p m e k.0 (at_zero c.level (most e) l g) u) (one line m _ (λ z. (refl, refl)) h1)) (one line (suc m) _ (λ z. (refl, assertion_ascii)) h2)) (one line (suc (suc m)) _ (λ z. (tt, refl)) h3))
    s_own a line last p q s k g (assert_with {m = m} {n = n} {e = e} {x = x} l u h1 h2 v h3 h4) =
        let both = at_zero c.level _ l g in
        up last k.2 (and_then (and_then (and_then (and_then (and_then (e_own c size n_state children state few kept line p m e k.0 (omega (arith, both)) u) (one line m _ (λ z. (refl, refl)) h1)) (one line (suc m) _ (λ z. (refl, assertion_ascii)) h2))
        (e_own c size n_state children state few kept line (suc (suc m)) n x k.1 (omega (arith, both)) v)) (one line n _ (λ z. call_well size n_state children state few 1 0 (omega arith) (omega arith)) h3)) (one line (suc n) _ (λ z. (tt, refl)) h4))
    s_own a line last p q s k g («import» {aliases = aliases} u) = up last k.1 (m_own c size n_state children state few kept line p q aliases k.0 u)
    s_own a line last p q s k g (from {m = m} {n = n} {aliases = aliases} h1 u h2 h3 v h4) =
        up last k.2 (and_then (and_then (and_then (and_then (and_then (one line p _ (λ z. (tt, omega arith)) h1) (n_own c size n_state children state few kept line (suc p) m aliases k.1 u)) (one line m _ (tuple_well size n_state children state few (length aliases)) h2))
        (one line (suc m) _ (λ z. (refl, k.0)) h3)) (f_own c size n_state children state few kept line (suc (suc m)) n aliases k.1 v)) (one line n _ (λ z. (tt, refl)) h4))
    s_own a line last p q s k g («if» {bs = bs} u) = i_own a q line last p q bs k g u
    s_own a line last p q s k g («while» {m = m} {j = j} {e = e} {b = b} {rest = rest} u h1 v h2 w) =
        let next = k.1.0 in
        and_then (and_then (and_then (and_then (e_own c size n_state children state few kept line p m e k.0 (omega (arith, g)) u) (one line m _ (λ z. (refl, refl)) h1)) (b_own _ line next (suc m) j b k.1.1 (omega (arith, g)) v)) (after next j _ (λ z. (refl, refl)) h2))
        (b_own a next last (suc j) q rest k.1.2 (omega (arith, g)) w)
    s_own a line last p q s k g («for» {m = m} {n = n} {j = j} {t = t} {e = e} {b = b} {rest = rest} u h1 h2 v w h3 x) =
        let next = k.2.0 in
        let store = t_own c size n_state children state few kept line (suc (suc m)) n t k.0 (omega (arith, g)) v in
        let body = b_own _ line next n j b k.2.1 (omega (arith, g)) w in
        let up_to = store.rises in
        let further = body.rises in
        and_then (and_then (and_then (and_then (and_then (and_then (e_own c size n_state children state few kept line p m e k.1 (omega (arith, g)) u) (one line m _ (λ z. (tt, refl)) h1)) (forth line (suc m) ops.ForIter (suc j) refl (omega (arith, up_to, further)) h2)) store) body) (after next j _ (λ z. (refl, refl)) h3)) (b_own a next last (suc j) q rest k.2.2 (omega (arith, g)) x)
    s_own a line last p q s k g («try» {b = b} {rest = rest} {hs = hs} u) = x_own a line k.0 k.1 last p q b hs rest k.2 k.3 k.4 (omega (arith, g)) (omega (arith, g)) (omega (arith, g)) u
    s_own a line last p q s k g (finally {j = j} {k = i} {b = b} {last = end} h1 u h2 v h3) =
        let next = k.0 in
        let body = b_own (deeper a) line next (suc p) j b k.1 (omega (arith, g)) u in
        let up_to = body.rises in
        and_then (and_then (and_then (and_then (forth line p ops.SetupFinally (suc j) refl (omega (arith, up_to)) h1) body) (after next j _ (λ z. (tt, refl)) h2)) (b_own (deeper a) next last (suc j) i end k.2 (omega (arith, g)) v)) (after last i _ (λ z. (tt, refl)) h3)
    s_own a line last p q s k g (try_finally {j = j} {k = i} {b = b} {rest = rest} {last = end} {hs = hs} h1 u h2 v h3) =
        let further = k.2 in
        let body = x_own (deeper a) line k.0 k.1 further (suc p) j b hs rest k.3 k.4 k.5 (omega (arith, g)) (omega (arith, g)) (omega (arith, g)) u in
        let up_to = body.rises in
        and_then (and_then (and_then (and_then (forth line p ops.SetupFinally (suc j) refl (omega (arith, up_to)) h1) body) (after further j _ (λ z. (tt, refl)) h2))
        (b_own (deeper a) further last (suc j) i end k.6 (omega (arith, g)) v)) (after last i _ (λ z. (tt, refl)) h3)
    s_own a line last p q s k g (def {m = m} {n = n} {x = x} {ds = ds} {b = b} child u h) =
        up last (block_up line last b k.4) (and_then (d_own line (c.base + n) p m ds k.3 g u) (one line m _ (stores_well size n_state children state few c x k.0) h))

    pub b_own : (a : Around) (first last p q : ℕ) (b : Block) → BlockSpelled first last b → GB b ≤ 255 → StandsB c a p b q → R p q first last
    b_own a first last p q b k g no_stmt = empty c size n_state children kept p first last k
    b_own a first last p q b k g (stmt {m = m} {line = line} {s = s} {b = others} u v) =
        later first k.0 (and_then (s_own a line k.1.0 p m s k.1.1 (omega (arith, g)) u) (b_own a k.1.0 last m q others k.1.2 (omega (arith, g)) v))

    i_own : (a : Around) (end first last p q : ℕ) (bs : Branches) → BranchesSpelled first last bs → GI bs ≤ 255 → StandsI c a end p bs q → R p q first last
    i_own a end first last p q bs k g («else» {b = b} u) = b_own a first last p q b k g u
    i_own a end first last p q bs k g (last_branch {m = m} {own = own} {e = e} {b = b} u h v) =
        let next = k.2.0 in
        let rest : next ≤ last = k.2.2 in
        later first k.0 (and_then (and_then (e_own c size n_state children state few kept own p m e k.1 (omega (arith, g)) u) (one own m _ (λ z. (refl, refl)) h))
        (wider c size n_state children kept own last (let n = own in omega arith) rest (b_own a own next (suc m) q b k.2.1 (omega (arith, g)) v)))
    i_own a end first last p q bs k g (branch {m = m} {j = j} {own = own} {e = e} {b = b} {bs = others} over u h1 v h2 w) =
        let next = k.2.0 in
        later first k.0 (and_then (and_then (and_then (and_then (e_own c size n_state children state few kept own p m e k.1 (omega (arith, g)) u) (one own m _ (λ z. (refl, refl)) h1)) (b_own a own next (suc m) j b k.2.1 (omega (arith, g)) v)) (after next j _ (λ z. (refl, refl)) h2))
        (i_own a end next last (suc j) q others k.2.2 (omega (arith, g)) w))

    x_own : (a : Around) (line next behind last p q : ℕ) (b : Block) (hs : Handlers) (rest : Block) → BlockSpelled line next b → HandlersSpelled next behind hs → BlockSpelled behind last rest → GB b ≤ 255 → GH hs ≤ 255 → GB rest ≤ 255
        → StandsX c a line p b hs rest q → R p q line last
    x_own a line next behind last p q b hs rest x y z g1 g2 g3 («except» {j = j} {k = k} h1 u h2 v h3 w) =
        let body = b_own (deeper a) line next (suc p) j b x g1 u in
        let others = b_own a behind last (suc k) q rest z g3 w in
        let beyond = others.rises in
        let clauses = h_own (deeper a) q next behind (suc j) k hs y g2 (omega (arith, beyond)) v in
        let up_to = body.rises in
        let further = clauses.rises in
        and_then (and_then (and_then (and_then (and_then (forth line p ops.SetupExcept (suc j) refl (omega (arith, up_to)) h1) body) (after_forth next j ops.PopExceptJump (suc k) refl (omega (arith, further)) h2)) clauses)
        (after behind k _ (λ e. (tt, refl)) h3)) others

    h_own : (a : Around) (end first last p q : ℕ) (hs : Handlers) → HandlersSpelled first last hs → GH hs ≤ 255 → q ≤ end → StandsH c a end p hs q → R p q first last
    h_own a end first last p q hs k g le no_clause = empty c size n_state children kept p first last k
    h_own a end first last p q hs k g le (any {m = m} {own = own} {b = b} h1 u h2) =
        later first k.0 (and_then (and_then (one own p _ (λ z. (tt, refl)) h1) (b_own a own last (suc p) m b k.1 g u)) (after_forth last m ops.PopExceptJump end refl (omega (arith, le)) h2))
    h_own a end first last p q hs k g le (on {m = m} {j = j} {own = own} {e = e} {b = b} {hs = others} h1 u h2 h3 h4 v h5 w) =
        let next = k.2.0 in
        let rest = h_own a end next last (suc j) q others k.2.2 (omega (arith, g)) le w in
        let further = rest.rises in
        later first k.0 (and_then (and_then (and_then (and_then (and_then (and_then (and_then (one own p _ (λ z. (tt, refl)) h1) (e_own c size n_state children state few kept own (suc p) m e k.1 (omega (arith, g)) u)) (one own m _ (λ z. (tt, (omega arith, refl))) h2))
        (one own (suc m) _ (λ z. (refl, refl)) h3)) (one own (suc (suc m)) _ (λ z. (tt, refl)) h4)) (b_own a own next (suc (suc (suc m))) j b k.2.1 (omega (arith, g)) v)) (after_forth next j ops.PopExceptJump end refl (omega (arith, further, le)) h5)) rest)
    h_own a end first last p q hs k g le (on_as {m = m} {j = j} {own = own} {e = e} {x = x} {b = b} {hs = others} h1 u h2 h3 h4 h5 v h6 h7 h8 h9 h10 h11 w) =
        let next = k.3.0 in
        let body = b_own (deeper a) own next (suc (suc (suc (suc m)))) j b k.3.1 (omega (arith, g)) v in
        let rest = h_own a end next last (suc (suc (suc (suc (suc (suc j)))))) q others k.3.2 (omega (arith, g)) le w in
        let up_to = body.rises in
        let further = rest.rises in
        later first k.0 (and_then (and_then (and_then (and_then (and_then (and_then (and_then (and_then (and_then (and_then (and_then (and_then (and_then (one own p _ (λ z. (tt, refl)) h1) (e_own c size n_state children state few kept own (suc p) m e k.1 (omega (arith, g)) u))
        (one own m _ (λ z. (tt, (omega arith, refl))) h2)) (one own (suc m) _ (λ z. (refl, refl)) h3)) (one own (suc (suc m)) _ (stores_well size n_state children state few c x k.2) h4)) (forth own (suc (suc (suc m))) ops.SetupFinally (suc j) refl (omega (arith, up_to)) h5))
        body) (after next j _ (λ z. (tt, refl)) h6)) (after next (suc j) _ (λ z. (tt, refl)) h7)) (after next (suc (suc j)) _ (stores_well size n_state children state few c x k.2) h8))
        (after next (suc (suc (suc j))) _ (deletes_well size n_state children state few c x k.2) h9)) (after next (suc (suc (suc (suc j)))) _ (λ z. (tt, refl)) h10)) (after_forth next (suc (suc (suc (suc (suc j))))) ops.PopExceptJump end refl (omega (arith, further, le)) h11))
        rest)
