-- Where the entries of each position are ordered and raises lead to rows, the edges to the finally handlers that run do, too: each such
-- handler is where a raise leads from the handler above it.
use Rattle.std.proofs.Common.{◌≡◌, ℕ, zero, suc, ◌+◌, ◌-◌, ◌<◌, ◌≤◌, Bool, true, false, not, ◌&&◌, ◌||◌, List, [], ◌∷◌, length, drop, map, Some, refl, sym, ap, subst, ◌∙◌, arith, if◌then◌else◌}
use Rattle.std.specs.Prelude.{nat_le, nat_lt, nat_eq}
use Rattle.std.proofs.lemmas.Bool.{and_parts, false≢true}
use Rattle.std.proofs.lemmas.Bool.Decides.{nat_tests}
use Rattle.std.proofs.lemmas.List.{drop-drop, length-drop, map-append}
use Rattle.bc_flow.specs.bc_shapes.declared.kinds.Kind.{Kind}
use Rattle.bc_flow.specs.bc_shapes.declared.kinds.Kind.TheVariants as kinds
use Rattle.bc_flow.specs.bc_shapes.declared.shape.Entry.{Entry}
use Rattle.bc_flow.specs.bc_shapes.Shape.{At, Belows, Under, same}
use Rattle.bc_flow.specs.bc_shapes.Shape as shapes
use Rattle.bc_flow.proofs.bc_shapes_lemmas.Joins.{belows_drop, belows_trans, belows-length}
use Rattle.bc_flow.specs.Action.{Action}
use Rattle.bc_flow.specs.Code.{Code}
use Rattle.bc_flow.specs.Edges.{Edge, edge_of, mark, one_run, pushed, raise_ways, run_ways, slots_of, way_in}
use Rattle.bc_flow.specs.Verified.{Assigned, Each, Leads, also}
use Rattle.bc_certificates.specs.Rows.{Rows, carried, row}
use Rattle.bc_certificates.specs.Checking.{Lead, Lies, into, last_handler, ordered, raise_edges, stands_on}
use Rattle.bc_certificates.proofs.Carrying.{row_carried}
use Rattle.bc_certificates.proofs.Checks.{lead_append, lead_none}

into_is : (i : Action) (x : At) (e : Entry) (es : List Entry) → edge_of i x (way_in e es) ≡ into x.slots e es
unfolding slots_of into
into_is i x e es = refl

-- how many entries aren't active
waiting : List Entry → ℕ
waiting [] = 0
waiting (e ∷ es) = if e.active then waiting es else suc (waiting es)

-- an earlier position lies in front of the same handlers
still : (a : Bool) (p q h : ℕ) → p ≤ q → (a || nat_lt q h) ≡ true → (a || nat_lt p h) ≡ true
still true p q h le t = refl
still false p q h le t = grind (arith, nat_tests)

three : (a b c : Bool) → a ≡ true → b ≡ true → c ≡ true → ((a && b) && c) ≡ true
three true true true p q r = refl
three true true false p q r = r
three true false c p q r = absurd (false≢true q)
three false b c p q r = absurd (false≢true p)

by_last : (a : Bool) (p q h n : ℕ) (es : List Entry) → (ordered n q es ≡ true → ordered n p es ≡ true) → ordered n (if a then q else h) es ≡ true → ordered n (if a then p else h) es ≡ true
by_last true p q h n es f o = f o
by_last false p q h n es f o = o

earlier : (n p q : ℕ) (es : List Entry) → p ≤ q → ordered n q es ≡ true → ordered n p es ≡ true
earlier n p q [] le o = refl
earlier n p q (e ∷ es) le o =
    let parts = and_parts (stands_on n q e) (ordered e.height (last_handler q e) es) o in
    let own = and_parts (nat_le e.height n) (e.active || nat_lt q e.handler) parts.0 in
    three (nat_le e.height n) (e.active || nat_lt p e.handler) (ordered e.height (last_handler p e) es) own.0 (still e.active p q e.handler le own.1)
    (by_last e.active p q e.handler e.height es (λ r. earlier e.height p q es le r) parts.1)

-- so the entries below one are ordered from the position on
lower : (a : Bool) (p h n : ℕ) (es : List Entry) → ordered n (if a then p else h) es ≡ true → (a || nat_lt p h) ≡ true → ordered n p es ≡ true
lower true p h n es o t = o
lower false p h n es o t = earlier n p h es (grind (arith, nat_tests)) o

active_is : (a : Bool) (p h : ℕ) → (a || nat_lt p h) ≡ true → (a || nat_eq h p) ≡ a
active_is true p h t = refl
active_is false p h t = grind (arith, nat_tests)

kept : (p : ℕ) (e : Entry) → (e.active || nat_lt p e.handler) ≡ true → mark p e ≡ e
kept p e t = ap (λ (a : Bool). let f : Entry = record e { active = a } in f) (active_is e.active p e.handler t)

-- a position in front of the handlers marks none of their entries
marks_none : (n p : ℕ) (es : List Entry) → ordered n p es ≡ true → map (mark p) es ≡ es
marks_none n p [] o = refl
marks_none n p (e ∷ es) o =
    let parts = and_parts (stands_on n p e) (ordered e.height (last_handler p e) es) o in
    let own = and_parts (nat_le e.height n) (e.active || nat_lt p e.handler) parts.0 in
    ap (λ z. z ∷ map (mark p) es) (kept p e own.1) ∙ ap (λ z. e ∷ z) (marks_none e.height p es (lower e.active p e.handler e.height es parts.1 own.1))

-- what lies below a handler's slots, cut to a lesser height
cut_below : (ks ys : List Kind) (k : Kind) (n m : ℕ) → n ≤ length ks → m ≤ n → Belows (k ∷ drop (length ks - n) ks) ys → Belows (drop (length ks - m) ks) (drop (length ys - m) ys)
cut_below ks ys k n m a b h =
    let long = belows-length _ _ h in
    let size : length (drop (length ks - n) ks) ≡ length ks - (length ks - n) = length-drop (length ks - n) ks in
    let j : length ys - m ≡ suc (n - m) = omega (arith, long, size) in
    let here : drop (suc (n - m)) (k ∷ drop (length ks - n) ks) ≡ drop (length ks - m) ks =
    drop-drop (n - m) (length ks - n) ks ∙ ap (λ z. drop z ks) (let q : (length ks - n) + (n - m) ≡ length ks - m = omega arith in q) in
    subst (λ z. Belows z (drop (length ys - m) ys)) here
    (subst (λ z. Belows (drop (suc (n - m)) (k ∷ drop (length ks - n) ks)) (drop z ys)) (sym j) (belows_drop (suc (n - m)) _ ys h))

pushed_below : (last : Bool) (ks ls : List Kind) → Belows ks ls → Belows (pushed last ks) (pushed last ls)
pushed_below true ks ls h = shapes.also same h
pushed_below false ks ls h = shapes.also same h

-- a row that lies above what one list of slots brings lies above what lower slots bring
lead_lower : (rows : Rows) (ks ys : List Kind) (e : Entry) (es : List Entry) → Belows (drop (length ks - e.height) ks) (drop (length ys - e.height) ys) → Lead rows (into ys e es ∷ []) → Lead rows (into ks e es ∷ [])
unfolding into
lead_lower rows ks ys e es h l = record { marked = l.marked; each = by l.each }
  where
    by : Each (row rows) (into ys e es ∷ []) → Each (row rows) (into ks e es ∷ [])
    by (also m rest) = also (record {
      at = m.at;
      is = m.is;
      under = record {
        slots = belows_trans _ _ _ (pushed_below e.is_finally _ _ h) m.under.slots;
        entries = m.under.entries;
      };
    }) rest

-- so do all entries of a list that stands no higher
lies_lower : (rows : Rows) (ks ys : List Kind) (k : Kind) (n m p : ℕ) (es : List Entry) → n ≤ length ks → m ≤ n → Belows (k ∷ drop (length ks - n) ks) ys → ordered m p es ≡ true → Lies rows ys es → Lies rows ks es
lies_lower rows ks ys k n m p [] a b h o l = tt
lies_lower rows ks ys k n m p (e ∷ es) a b h o l =
    let parts = and_parts (stands_on m p e) (ordered e.height (last_handler p e) es) o in
    let own = and_parts (nat_le e.height m) (e.active || nat_lt p e.handler) parts.0 in
    let le : e.height ≤ m = grind (arith, nat_tests, own.0) in
    let lt : e.height ≤ n = omega (arith, le, b) in (
      λ q. lead_lower rows ks ys e es (cut_below ks ys k n e.height a lt h) (l.0 q),
      lies_lower rows ks ys k n e.height (last_handler p e) es a lt h parts.1 l.1,
    )

-- where raises lead, and the entries are ordered
pub record Raises (rows : Rows) (p : ℕ) (x : At) : Type 0 where
  pub action : Action
  pub order : ordered (length x.slots) p x.entries ≡ true
  pub lead : Lead rows (raise_edges action x)

waiting_active : (e : Entry) (es : List Entry) → e.active ≡ true → waiting (e ∷ es) ≡ waiting es
unfolding waiting
waiting_active e es t = ap (λ b. if b then waiting es else suc (waiting es)) t

waiting_more : (e : Entry) (es : List Entry) → e.active ≡ false → waiting (e ∷ es) ≡ suc (waiting es)
unfolding waiting
waiting_more e es t = ap (λ b. if b then waiting es else suc (waiting es)) t

raises_lower : (e : Entry) (es : List Entry) → e.active ≡ true → raise_ways (e ∷ es) ≡ raise_ways es
raises_lower e es t = ap (λ b. if b then raise_ways es else (way_in e es ∷ [])) t

raises_here : (e : Entry) (es : List Entry) → e.active ≡ false → raise_ways (e ∷ es) ≡ way_in e es ∷ []
raises_here e es t = ap (λ b. if b then raise_ways es else (way_in e es ∷ [])) t

first_of : Bool → Kind
first_of true = kinds.Cause
first_of false = kinds.Either

pushed_first : (last : Bool) (ks : List Kind) → pushed last ks ≡ first_of last ∷ ks
unfolding first_of
pushed_first true ks = refl
pushed_first false ks = refl

-- the entries of a list lead, by whether its topmost one is active
by_active : (rows : Rows) (ks : List Kind) (e : Entry) (es : List Entry) (a : Bool) → e.active ≡ a → (e.active ≡ true → Lies rows ks es) → (e.active ≡ false → Lead rows (into ks e es ∷ []) × Lies rows ks es) → Lies rows ks (e ∷ es)
by_active rows ks e es true t f g = (λ q. absurd (false≢true (sym q ∙ t)), f t)
by_active rows ks e es false t f g = (λ q. (g t).0, (g t).1)

-- the row that an edge leads to
leads_one : (a : Assigned) (e : Edge) → Each a (e ∷ []) → Leads a e
leads_one a e (also l rest) = l

-- the entries below one that isn't active lead, where those of its handler's row do
below_one : (rows : Rows) (ks : List Kind) (n p : ℕ) (e : Entry) (es : List Entry) → n ≤ length ks → ordered n p (e ∷ es) ≡ true → e.active ≡ false → Lead rows (into ks e es ∷ []) → ((y : At) → row rows e.handler ≡ Some y → y.entries ≡ mark e.handler (record e { active = true }) ∷ es → Lies rows y.slots y.entries) → Lies rows ks es
unfolding into
below_one rows ks n p e es le o t l f =
    let parts = and_parts (stands_on n p e) (ordered e.height (last_handler p e) es) o in
    let own = and_parts (nat_le e.height n) (e.active || nat_lt p e.handler) parts.0 in
    let high : e.height ≤ n = grind (arith, nat_tests, own.0) in
    let behind : ordered e.height e.handler es ≡ true = ap (λ a. ordered e.height (if a then p else e.handler) es) (sym t) ∙ parts.1 in
    let m = leads_one (row rows) (into ks e es) l.each in
    let y = m.at in
    let top : Entry = mark e.handler (record e { active = true }) in
    let entries : y.entries ≡ top ∷ es = sym m.under.entries ∙ ap (λ z. top ∷ z) (marks_none e.height e.handler es behind) in
    let there : Lies rows y.slots (top ∷ es) = subst (Lies rows y.slots) entries (f y m.is entries) in
    lies_lower rows ks y.slots (first_of e.is_finally) e.height e.height e.handler es (omega (arith, high, le)) (omega arith)
    (subst (λ z. Belows z y.slots) (pushed_first e.is_finally (drop (length ks - e.height) ks)) m.under.slots) behind there.1

-- all entries lead of the rows where these edges end
abbrev pub LieBehind : Rows → List Edge → Type 0
LieBehind rows [] = Unit {0}
LieBehind rows (e ∷ es) = ((y : At) → row rows e.to ≡ Some y → Lies rows y.slots y.entries) × LieBehind rows es

-- so all entries of a position lead, where a raise leads to a row of which all do
pub lies_on : (rows : Rows) (i : Action) (x : At) (n p : ℕ) (es : List Entry) → n ≤ length x.slots → ordered n p es ≡ true → Lead rows (map (edge_of i x) (raise_ways es)) → LieBehind rows (map (edge_of i x) (raise_ways es)) → Lies rows x.slots es
lies_on rows i x n p [] le o l b = tt
lies_on rows i x n p (e ∷ es) le o l b =
    let parts = and_parts (stands_on n p e) (ordered e.height (last_handler p e) es) o in
    let own = and_parts (nat_le e.height n) (e.active || nat_lt p e.handler) parts.0 in
    let high : e.height ≤ n = grind (arith, nat_tests, own.0) in
    by_active rows x.slots e es e.active refl
    (λ t. lies_on rows i x e.height (last_handler p e) es (omega (arith, high, le)) parts.1 (subst (λ ws. Lead rows (map (edge_of i x) ws)) (raises_lower e es t) l)
    (subst (λ ws. LieBehind rows (map (edge_of i x) ws)) (raises_lower e es t) b))
    (λ t. let here : Lead rows (into x.slots e es ∷ []) = subst (λ z. Lead rows (z ∷ [])) (into_is i x e es) (subst (λ ws. Lead rows (map (edge_of i x) ws)) (raises_here e es t) l) in
    let next = subst (λ ws. LieBehind rows (map (edge_of i x) ws)) (raises_here e es t) b in
    (here, below_one rows x.slots n p e es le o t here (λ y r q. next.0 y r)))

module _ (rows : Rows) where
  one_leads : (i : Action) (x : At) (e : Entry) (es : List Entry) (last active : Bool) → e.active ≡ active → (e.active ≡ false → Lead rows (into x.slots e es ∷ [])) → Lead rows (map (edge_of i x) (if last && not active then (way_in e es ∷ []) else []))
  one_leads i x e es true true t f = lead_none rows
  one_leads i x e es true false t f = subst (λ z. Lead rows (z ∷ [])) (sym (into_is i x e es)) (f t)
  one_leads i x e es false active t f = lead_none rows

  -- so do the finally handlers that run
  pub runs : (i : Action) (x : At) (k : ℕ) (es : List Entry) → Lies rows x.slots es → Lead rows (map (edge_of i x) (run_ways k es))
  runs i x zero es l = lead_none rows
  runs i x (suc k) [] l = lead_none rows
  runs i x (suc k) (e ∷ es) l =
      subst (Lead rows) (sym (map-append (edge_of i x) (one_run e es) (run_ways k es)))
      (lead_append rows (map (edge_of i x) (one_run e es)) (map (edge_of i x) (run_ways k es)) (one_leads i x e es e.is_finally e.active refl l.0) (runs i x k es l.1))

module _ (code : Code) (rows : Rows) (each : (p : ℕ) (x : At) → carried code rows p ≡ Some x → Raises rows p x) where
  -- the entries below the topmost one that isn't active lead, since they do from its handler
  below_top : (b : ℕ) → ((q : ℕ) (y : At) → carried code rows q ≡ Some y → waiting y.entries < b → Lies rows y.slots y.entries) → (ks : List Kind) (n p : ℕ) (e : Entry) (es : List Entry) → waiting (e ∷ es) ≤ b → n ≤ length ks → ordered n p (e ∷ es) ≡ true → e.active ≡ false → Lead rows (into ks e es ∷ []) → Lies rows ks es
  unfolding waiting
  below_top b ih ks n p e es few le o t l =
      let more = waiting_more e es t in
      below_one rows ks n p e es le o t l (λ y r entries. let count : waiting y.entries ≡ waiting es = ap waiting entries in ih e.handler y (row_carried code rows e.handler y r) (omega (arith, count, more, few)))

  from_raise : (b : ℕ) → ((q : ℕ) (y : At) → carried code rows q ≡ Some y → waiting y.entries < b → Lies rows y.slots y.entries) → (i : Action) (x : At) (n p : ℕ) (es : List Entry) → waiting es ≤ b → n ≤ length x.slots → ordered n p es ≡ true → Lead rows (map (edge_of i x) (raise_ways es)) → Lies rows x.slots es
  from_raise b ih i x n p [] few le o l = tt
  from_raise b ih i x n p (e ∷ es) few le o l =
      let parts = and_parts (stands_on n p e) (ordered e.height (last_handler p e) es) o in
      let own = and_parts (nat_le e.height n) (e.active || nat_lt p e.handler) parts.0 in
      let high : e.height ≤ n = grind (arith, nat_tests, own.0) in
      by_active rows x.slots e es e.active refl
      (λ t. let fewer = waiting_active e es t in
      from_raise b ih i x e.height (last_handler p e) es (omega (arith, fewer, few)) (omega (arith, high, le)) parts.1 (subst (λ ws. Lead rows (map (edge_of i x) ws)) (raises_lower e es t) l))
      (λ t. let here : Lead rows (into x.slots e es ∷ []) = subst (λ z. Lead rows (z ∷ [])) (into_is i x e es) (subst (λ ws. Lead rows (map (edge_of i x) ws)) (raises_here e es t) l) in
      (here, below_top b ih x.slots n p e es few le o t here))

  chain : (b p : ℕ) (x : At) → carried code rows p ≡ Some x → waiting x.entries ≤ b → Lies rows x.slots x.entries
  chain zero p x is few =
      let r = each p x is in
      from_raise 0 (λ q y e lt. absurd (omega (arith, lt))) r.action x (length x.slots) p x.entries few (omega arith) r.order r.lead
  chain (suc b) p x is few =
      let r = each p x is in
      from_raise (suc b) (λ q y e lt. chain b q y e (omega (arith, lt))) r.action x (length x.slots) p x.entries few (omega arith) r.order r.lead

  -- the finally handlers that run at a position lead to rows
  pub runs_lead : (i : Action) (p : ℕ) (x : At) (k : ℕ) → carried code rows p ≡ Some x → Lead rows (map (edge_of i x) (run_ways k x.entries))
  runs_lead i p x k is = runs rows i x k x.entries (chain (waiting x.entries) p x is (omega arith))
