-- In the least assignment of a code heights of entries fall, and each slot of a cause lies on the height of an entry. So each jump that is
-- kept in a slot leads to an instruction.
use Rattle.std.proofs.Common.{◌≡◌, ℕ, zero, suc, ◌+◌, ◌-◌, ◌<◌, ◌≤◌, Bool, true, false, not, ◌&&◌, ◌||◌, List, [], ◌∷◌, ◌++◌, length, map, drop, replicate, get_or, Option, Some, None, refl, sym, ap, ap₂, ◌∙◌, subst, arith, if◌then◌else◌, length-drop, length-append}
use Rattle.std.specs.Prelude.{min, nat_le, nat_lt, nat_eq, slice_get}
use Rattle.std.proofs.lemmas.List.{length-map, drop-drop}
use Rattle.std.proofs.lemmas.Bool.{and_parts, and_from, or_right, false≢true, true≢false, leb-true, le-leb, eqb-true, eq-eqb, eqb-false, leb-false}
use Rattle.bc_flow.specs.bc_shapes.declared.kinds.Kind.{Kind}
use Rattle.bc_flow.specs.bc_shapes.declared.kinds.Kind.TheVariants as kinds
use Rattle.bc_flow.specs.bc_shapes.declared.kinds.Want.{Want}
use Rattle.bc_flow.specs.bc_shapes.declared.kinds.Want.TheVariants as wants
use Rattle.bc_flow.specs.bc_shapes.declared.kinds.Give.{Give}
use Rattle.bc_flow.specs.bc_shapes.declared.kinds.Give.TheVariants.{New, Again}
use Rattle.bc_flow.specs.bc_shapes.declared.shape.Entry.{Entry}
use Rattle.bc_flow.specs.bc_shapes.Shape.{At, Below, same, value, cause, Belows, none, also, Under, stands, fits, give_of, after, takes as values_on}
use Rattle.bc_flow.proofs.bc_shapes_lemmas.Joins.{belows-length}
use Rattle.bc_ops.specs.declared.instr.Op.{Op}
use Rattle.bc_ops.specs.declared.instr.Op.TheVariants as ops
use Rattle.bc_ops.specs.declared.instr.Instr.{Instr}
use Rattle.bc_ops.specs.declared.instr.Instr.TheVariants as instrs
use Rattle.bc_ops.specs.declared.listing.Item.{Item}
use Rattle.bc_ops.specs.declared.listing.Item.TheVariants as items
use Rattle.bc_flow.specs.Code.{Code}
use Rattle.bc_flow.specs.Action.{Action, Straight, Branch, Jump, Setup, PopExcept, EndFinally, Unwind, Return, Raise, op_action, jump_action, instr_action, action}
use Rattle.bc_flow.specs.declared.edges.Change.{Change}
use Rattle.bc_flow.specs.declared.edges.Change.TheVariants.{Keep, Push, DropExcept, DropActive, Leave}
use Rattle.bc_flow.specs.Edges.{How, Next, There, Run, Way, Edge, takes, gives, gives_there, falls, target, change, runs, rest_of, floor, behind, floor_of, lowest, left, leaves, deep, base, finds, pushed, slots_of, mark, arrive, way_in, next_way, jump_way, raise_ways, one_run, run_ways, ways, edge_of, edges, iterator_if}
use Rattle.bc_flow.specs.Verified.{Assigned, Leads, Each, none as no_more, also as more, Fine, Holds, IsLeastOf, begin}
use Rattle.bc_flow.specs.Machine as machine
use Rattle.bc_flow.specs.Machine.{Stack, KeptJump, remark, cut, is_run}
use Rattle.bc_flow.proofs.Going.{is_fine, all_fine, gives_fine}
use Rattle.bc_flow.proofs.Mono.{fine_under}
use Rattle.bc_flow.proofs.Runs.{Runs, fits_floor}
use Rattle.bc_flow.proofs.Sound.{Fit, jump, Stands, empty, more as lies, stands-length, Fits, fits_mark, cut_cut, cut-length, Keeps, Reach, CanUnwind, Sound}

-- tests
-- =====

abbrev pub is_cause : Kind → Bool
is_cause kinds.Cause = true
is_cause _ = false

-- an entry has this height
abbrev pub has : List Entry → ℕ → Bool
has [] n = false
has (e ∷ es) n = nat_eq e.height n || has es n

-- each cause lies on the height of an entry
abbrev pub caused : List Kind → List Entry → Bool
caused [] es = true
caused (k ∷ ks) es = (not (is_cause k) || has es (length ks)) && caused ks es

abbrev fall : List Entry → ℕ → Bool
fall [] n = true
fall (e ∷ es) n = nat_le e.height n && fall es e.height

fall_fits : (es : List Entry) (n : ℕ) → fall es n ≡ true → Fits es n
fall_fits [] n h = tt
fall_fits (e ∷ es) n h = let p = and_parts _ _ h in (leb-true _ _ p.0, fall_fits es e.height p.1)

fits_fall : (es : List Entry) (n : ℕ) → Fits es n → fall es n ≡ true
fits_fall [] n h = refl
fits_fall (e ∷ es) n h = and_from _ _ (le-leb _ _ h.0) (fits_fall es e.height h.1)

fits_more : (es : List Entry) (n m : ℕ) → Fits es n → n ≤ m → Fits es m
fits_more [] n m f le = tt
fits_more (e ∷ es) n m f le = (omega (arith, f.0, le), f.1)

-- slots without the causes that lie on no entry's height
-- ======================================================

abbrev kept_kind : Bool → Kind → Kind
kept_kind true k = k
kept_kind false kinds.Cause = kinds.Either
kept_kind false k = k

abbrev kept : List Kind → List Entry → List Kind
kept [] es = []
kept (k ∷ ks) es = kept_kind (has es (length ks)) k ∷ kept ks es

kind_below : (b : Bool) (k : Kind) → Below (kept_kind b k) k
kind_below true k = same
kind_below false kinds.Cause = cause
kind_below false kinds.Value = same
kind_below false kinds.Either = same
kind_below false kinds.Iter1 = same
kind_below false kinds.Iter2 = same
kind_below false kinds.Iter3 = same
kind_below false kinds.Iter4 = same
kind_below false kinds.Null = same
kind_below false kinds.Method = same

kept_below : (ks : List Kind) (es : List Entry) → Belows (kept ks es) ks
kept_below [] es = none
kept_below (k ∷ ks) es = also (kind_below (has es (length ks)) k) (kept_below ks es)

kept_long : (ks : List Kind) (es : List Entry) → length (kept ks es) ≡ length ks
kept_long ks es = belows-length (kept ks es) ks (kept_below ks es)

kind_caused : (b : Bool) (k : Kind) → (not (is_cause (kept_kind b k)) || b) ≡ true
kind_caused true k = or_right (not (is_cause k)) true refl
kind_caused false kinds.Cause = refl
kind_caused false kinds.Value = refl
kind_caused false kinds.Either = refl
kind_caused false kinds.Iter1 = refl
kind_caused false kinds.Iter2 = refl
kind_caused false kinds.Iter3 = refl
kind_caused false kinds.Iter4 = refl
kind_caused false kinds.Null = refl
kind_caused false kinds.Method = refl

kept_caused : (ks : List Kind) (es : List Entry) → caused (kept ks es) es ≡ true
kept_caused [] es = refl
kept_caused (k ∷ ks) es =
    and_from _ _ (subst (λ n. (not (is_cause (kept_kind (has es (length ks)) k)) || has es n) ≡ true) (sym (kept_long ks es)) (kind_caused (has es (length ks)) k)) (kept_caused ks es)

below_kept : (b : Bool) (k l : Kind) → (not (is_cause k) || b) ≡ true → Below k l → Below k (kept_kind b l)
below_kept true k l h u = u
below_kept false k l h cause = same
below_kept false k l h value = value
below_kept false kinds.Cause l h same = absurd (false≢true h)
below_kept false kinds.Value l h same = same
below_kept false kinds.Either l h same = same
below_kept false kinds.Iter1 l h same = same
below_kept false kinds.Iter2 l h same = same
below_kept false kinds.Iter3 l h same = same
below_kept false kinds.Iter4 l h same = same
below_kept false kinds.Null l h same = same
below_kept false kinds.Method l h same = same

-- what lies below slots lies below them without such causes, where it has none
belows_kept : (us zs : List Kind) (es : List Entry) → caused us es ≡ true → Belows us zs → Belows us (kept zs es)
belows_kept us zs es h none = none
belows_kept us zs es h (also {k = k} {l = l} {ks = us2} {ls = zs2} a b) =
    let p = and_parts _ _ h in
    also (below_kept (has es (length zs2)) k l (subst (λ n. (not (is_cause k) || has es n) ≡ true) (belows-length us2 zs2 b) p.0) a) (belows_kept us2 zs2 es p.1 b)

kind_is : (b : Bool) (k : Kind) → Below k (kept_kind b k) → (not (is_cause k) || b) ≡ true
kind_is true k h = or_right (not (is_cause k)) true refl
kind_is false kinds.Cause h = elim h [ ]
kind_is false kinds.Value h = refl
kind_is false kinds.Either h = refl
kind_is false kinds.Iter1 h = refl
kind_is false kinds.Iter2 h = refl
kind_is false kinds.Iter3 h = refl
kind_is false kinds.Iter4 h = refl
kind_is false kinds.Null h = refl
kind_is false kinds.Method h = refl

head_below : (k l : Kind) (ks ls : List Kind) → Belows (k ∷ ks) (l ∷ ls) → Below k l
head_below k l ks ls (also a b) = a

tail_below : (k l : Kind) (ks ls : List Kind) → Belows (k ∷ ks) (l ∷ ls) → Belows ks ls
tail_below k l ks ls (also a b) = b

caused_is : (ks : List Kind) (es : List Entry) → Belows ks (kept ks es) → caused ks es ≡ true
caused_is [] es h = refl
caused_is (k ∷ ks) es h =
    and_from _ _ (kind_is (has es (length ks)) k (head_below k (kept_kind (has es (length ks)) k) ks (kept ks es) h)) (caused_is ks es (tail_below k (kept_kind (has es (length ks)) k) ks (kept ks es) h))

-- causes and entries
-- ==================

caused_drop : (n : ℕ) (ks : List Kind) (es : List Entry) → caused ks es ≡ true → caused (drop n ks) es ≡ true
caused_drop zero ks es h = h
caused_drop (suc n) [] es h = refl
caused_drop (suc n) (k ∷ ks) es h = caused_drop n ks es (and_parts _ _ h).1

or_first : (a b : Bool) → (a || b) ≡ true → a ≡ false → b ≡ true
or_first true b h e = absurd (true≢false e)
or_first false b h e = h

or_map : (a b c : Bool) → (b ≡ true → c ≡ true) → (a || b) ≡ true → (a || c) ≡ true
or_map true b c f h = refl
or_map false b c f h = f h

-- an entry whose height is above the slots holds none of them
caused_rest : (ks : List Kind) (e : Entry) (es : List Entry) → length ks ≤ e.height → caused ks (e ∷ es) ≡ true → caused ks es ≡ true
caused_rest [] e es le h = refl
caused_rest (k ∷ ks) e es le h =
    let p = and_parts _ _ h in
    and_from _ _ (or_map (not (is_cause k)) (nat_eq e.height (length ks) || has es (length ks)) (has es (length ks)) (λ t. or_first (nat_eq e.height (length ks)) (has es (length ks)) t (differs (nat_eq e.height (length ks)) refl)) p.0)
    (caused_rest ks e es (omega (arith, le)) p.1)
  where
    differs : (b : Bool) → nat_eq e.height (length ks) ≡ b → nat_eq e.height (length ks) ≡ false
    differs false q = q
    differs true q = let s = eqb-true e.height (length ks) q in absurd (omega (arith, s, le))

caused_more : (ks : List Kind) (e : Entry) (es : List Entry) → caused ks es ≡ true → caused ks (e ∷ es) ≡ true
caused_more [] e es h = refl
caused_more (k ∷ ks) e es h =
    let p = and_parts _ _ h in
    and_from _ _ (or_map (not (is_cause k)) (has es (length ks)) (nat_eq e.height (length ks) || has es (length ks)) (λ t. or_right (nat_eq e.height (length ks)) (has es (length ks)) t) p.0) (caused_more ks e es p.1)

has_mark : (q : ℕ) (es : List Entry) (n : ℕ) → has (map (mark q) es) n ≡ has es n
has_mark q [] n = refl
has_mark q (e ∷ es) n = ap (λ b. nat_eq e.height n || b) (has_mark q es n)

caused_mark : (q : ℕ) (ks : List Kind) (es : List Entry) → caused ks es ≡ true → caused ks (map (mark q) es) ≡ true
caused_mark q [] es h = refl
caused_mark q (k ∷ ks) es h =
    let p = and_parts _ _ h in and_from _ _ (subst (λ b. (not (is_cause k) || b) ≡ true) (sym (has_mark q es (length ks))) p.0) (caused_mark q ks es p.1)

lowest_le : (k : ℕ) (es : List Entry) (n : ℕ) → lowest k es n ≤ n
lowest_le zero es n = omega arith
lowest_le (suc k) [] n = omega arith
lowest_le (suc k) (e ∷ es) n = let a = lowest_le k es (min e.height n) in omega (arith, a)

caused_left : (ks : List Kind) (k : ℕ) (es : List Entry) (m : ℕ) → length ks ≤ lowest k es m → caused ks es ≡ true → caused ks (drop k es) ≡ true
caused_left ks zero es m le h = h
caused_left ks (suc k) [] m le h = h
caused_left ks (suc k) (e ∷ es) m le h =
    let a = lowest_le k es (min e.height m) in
    caused_left ks k es (min e.height m) le (caused_rest ks e es (omega (arith, a, le)) h)

-- no cause is given
-- =================

abbrev news : List Give → Bool
news [] = true
news (New k ∷ gs) = not (is_cause k) && news gs
news (Again n ∷ gs) = news gs

abbrev pub news_fine : Action → Bool
news_fine (Straight ws gs) = news gs
news_fine (Branch ws gs there to) = news gs && news there
news_fine _ = true

wanted_kind : (w : Want) (k : Kind) (ws : List Want) → is_fine (w ∷ ws) (Again 0) ≡ true → stands w k ≡ true → is_cause k ≡ false
wanted_kind wants.Cause kinds.Cause ws f e = absurd (false≢true f)
wanted_kind _ kinds.Cause ws f e = absurd (false≢true e)
wanted_kind w kinds.Value ws f e = refl
wanted_kind w kinds.Either ws f e = refl
wanted_kind w kinds.Iter1 ws f e = refl
wanted_kind w kinds.Iter2 ws f e = refl
wanted_kind w kinds.Iter3 ws f e = refl
wanted_kind w kinds.Iter4 ws f e = refl
wanted_kind w kinds.Null ws f e = refl
wanted_kind w kinds.Method ws f e = refl

again_kind : (ws : List Want) (n : ℕ) (ks : List Kind) → is_fine ws (Again n) ≡ true → fits ws ks ≡ true → is_cause (get_or ks n kinds.Either) ≡ false
again_kind [] n ks f e = absurd (false≢true f)
again_kind (w ∷ ws) n [] f e = absurd (false≢true e)
again_kind (w ∷ ws) zero (k ∷ ks) f e = wanted_kind w k ws f (and_parts _ _ e).0
again_kind (w ∷ ws) (suc n) (k ∷ ks) f e = again_kind ws n ks f (and_parts _ _ e).1

-- slots on others
caused_on : (ws : List Want) (ks : List Kind) (gs : List Give) (below : List Kind) (es : List Entry) → all_fine ws gs ≡ true → news gs ≡ true → fits ws ks ≡ true → caused below es ≡ true
    → caused (map (give_of ks) gs ++ below) es ≡ true
caused_on ws ks [] below es f n e h = h
caused_on ws ks (New k ∷ gs) below es f n e h =
    let p = and_parts _ _ n in
    and_from _ _ (left_is (not (is_cause k)) (has es (length (map (give_of ks) gs ++ below))) p.0) (caused_on ws ks gs below es (and_parts (is_fine ws (New k)) (all_fine ws gs) f).1 p.1 e h)
  where
    left_is : (a b : Bool) → a ≡ true → (a || b) ≡ true
    left_is true b t = refl
    left_is false b t = absurd (false≢true t)
caused_on ws ks (Again m ∷ gs) below es f n e h =
    let p = and_parts (is_fine ws (Again m)) (all_fine ws gs) f in
    and_from _ _ (free (is_cause (get_or ks m kinds.Either)) (has es (length (map (give_of ks) gs ++ below))) (again_kind ws m ks p.0 e)) (caused_on ws ks gs below es p.1 n e h)
  where
    free : (a b : Bool) → a ≡ false → (not a || b) ≡ true
    free false b t = refl
    free true b t = absurd (true≢false t)

-- one instruction
-- ===============

-- heights fall, and causes lie on them
abbrev pub Right : List Kind → List Entry → Type 0
Right ks es = Fits es (length ks) × (caused ks es ≡ true)

right_mark : (q : ℕ) (ks : List Kind) (es : List Entry) → Right ks es → Right ks (map (mark q) es)
right_mark q ks es r = (fits_mark q (length ks) es r.0, caused_mark q ks es r.1)

fits_drop : (k : ℕ) (es : List Entry) (n m : ℕ) → Fits es n → floor (drop k es) ≤ m → Fits (drop k es) m
fits_drop zero es n m f le = fits_floor es n m f le
fits_drop (suc k) [] n m f le = tt
fits_drop (suc k) (e ∷ es) n m f le = fits_drop k es e.height m f.1 le

-- the slots that an instruction leaves, and the entries behind it
module _ (c : Change) (es : List Entry) (n : ℕ) (ks : List Kind) where
  abbrev IsPush : Change → Type 0
  IsPush (Push h last) = n ≡ length ks
  IsPush _ = Unit {0}

  abbrev IsLow : Change → Type 0
  IsLow (Leave k) = length ks ≤ lowest k es n
  IsLow _ = Unit {0}

right_behind : (c : Change) (es : List Entry) (n : ℕ) (ks : List Kind) → Fits es n → caused ks es ≡ true → IsPush c es n ks c → IsLow c es n ks c → floor_of c es ≤ length ks → leaves c es (length ks) ≡ true
    → Right ks (behind c n es)
right_behind Keep es n ks f h push low fl lv = (fits_floor es n (length ks) f fl, h)
right_behind (Push hd last) es n ks f h push low fl lv =
    ((omega (arith, push), f), caused_more ks (record { handler = hd; is_finally = last; active = false; height = n }) es h)
right_behind DropExcept [] n ks f h push low fl lv = (tt, h)
right_behind DropExcept (e ∷ es) n ks f h push low fl lv =
    let q = eqb-true (length ks) e.height lv in (fits_more es e.height (length ks) f.1 (omega (arith, q)), caused_rest ks e es (omega (arith, q)) h)
right_behind DropActive [] n ks f h push low fl lv = (tt, h)
right_behind DropActive (e ∷ es) n ks f h push low fl lv =
    let q = eqb-true (length ks) e.height lv in (fits_more es e.height (length ks) f.1 (omega (arith, q)), caused_rest ks e es (omega (arith, q)) h)
right_behind (Leave k) es n ks f h push low fl lv = (fits_drop k es n (length ks) f fl, caused_left ks k es n low h)

-- on slots that aren't causes
right_on : (ws : List Want) (ks : List Kind) (gs : List Give) (below : List Kind) (es : List Entry) → all_fine ws gs ≡ true → news gs ≡ true → fits ws ks ≡ true → Right below es → Right (map (give_of ks) gs ++ below) es
right_on ws ks gs below es f n e r =
    let l = length-append (map (give_of ks) gs) below in
    (fits_more es (length below) (length (map (give_of ks) gs ++ below)) r.0 (omega (arith, l)), caused_on ws ks gs below es f n e r.1)

caused_active : (ks : List Kind) (e : Entry) (es : List Entry) → caused ks (e ∷ es) ≡ true → caused ks (record e { active = true } ∷ es) ≡ true
caused_active [] e es h = refl
caused_active (k ∷ ks) e es h = let p = and_parts _ _ h in and_from _ _ p.0 (caused_active ks e es p.1)

-- a handler's slots
right_run : (ks : List Kind) (e : Entry) (es : List Entry) → Fits (e ∷ es) (length ks) → caused (cut e.height ks) (e ∷ es) ≡ true → (last : Bool) → Right (pushed last (cut e.height ks)) (record e { active = true } ∷ es)
right_run ks e es f h true =
    let long : length (cut e.height ks) ≡ e.height = cut-length e.height ks f.0 in
    ((omega (arith, long), f.1), and_from _ _ (left_is (nat_eq e.height (length (cut e.height ks))) (has es (length (cut e.height ks))) (eq-eqb _ _ (sym long))) (caused_active (cut e.height ks) e es h))
  where
    left_is : (a b : Bool) → a ≡ true → (a || b) ≡ true
    left_is true b t = refl
    left_is false b t = absurd (false≢true t)
right_run ks e es f h false = let long : length (cut e.height ks) ≡ e.height = cut-length e.height ks f.0 in ((omega (arith, long), f.1), caused_active (cut e.height ks) e es h)

module _ (code : Code) (i : Action) (p : ℕ) (x : At) (fit : Fits x.entries (length x.slots)) (right : caused x.slots x.entries ≡ true) (found : finds i x ≡ true) (fine : gives_fine i ≡ true) (new : news_fine i ≡ true) where
  abbrev IsRight : Way → Type 0
  IsRight w = Right (slots_of i x w.how) w.entries

  abbrev AreRight : List Way → Type 0
  AreRight [] = Unit {0}
  AreRight (w ∷ ws) = IsRight w × AreRight ws

  right_append : (ws vs : List Way) → AreRight ws → AreRight vs → AreRight (ws ++ vs)
  right_append [] vs h k = k
  right_append (w ∷ ws) vs h k = (h.0, right_append ws vs h.1 k)

  -- what is left of the slots
  abbrev kept_slots : List Kind
  kept_slots = drop (length (takes i)) (base i x)

  left_caused : caused kept_slots x.entries ≡ true
  unfolding base
  left_caused = caused_drop (length (takes i)) (base i x) x.entries (caused_drop (length x.slots - left (change i) x.entries (length x.slots)) x.slots x.entries right)

  left_long : length kept_slots ≡ length (base i x) - length (takes i)
  left_long = length-drop (length (takes i)) (base i x)

  is_push : IsPush (change i) x.entries (length x.slots) kept_slots (change i)
  unfolding change takes base
  is_push = by i left_long
    where
      by : (j : Action) → length (drop (length (takes j)) (base j x)) ≡ length (base j x) - length (takes j) → IsPush (change j) x.entries (length x.slots) (drop (length (takes j)) (base j x)) (change j)
      by (Setup to last) l = let q = length-drop (length x.slots - length x.slots) x.slots in omega (arith, l, q)
      by (Straight ws gs) l = tt
      by (Branch ws gs there to) l = tt
      by (Jump to) l = tt
      by (PopExcept to) l = tt
      by EndFinally l = tt
      by (Unwind to count it) l = tt
      by Return l = tt
      by (Raise count) l = tt

  is_low : IsLow (change i) x.entries (length x.slots) kept_slots (change i)
  unfolding change takes base
  is_low = by i left_long
    where
      by : (j : Action) → length (drop (length (takes j)) (base j x)) ≡ length (base j x) - length (takes j) → IsLow (change j) x.entries (length x.slots) (drop (length (takes j)) (base j x)) (change j)
      by (Unwind to count it) l =
          let q = length-drop (length x.slots - lowest count x.entries (length x.slots)) x.slots in
          let low = lowest_le count x.entries (length x.slots) in
          omega (arith, l, q, low)
      by (Setup to last) l = tt
      by (Straight ws gs) l = tt
      by (Branch ws gs there to) l = tt
      by (Jump to) l = tt
      by (PopExcept to) l = tt
      by EndFinally l = tt
      by Return l = tt
      by (Raise count) l = tt

  deep_is : deep (change i) x.entries (length (takes i)) (length (base i x)) ≡ true
  unfolding finds
  deep_is = (and_parts _ _ found).1

  asked : fits (takes i) (base i x) ≡ true
  unfolding finds
  asked = (and_parts _ _ found).0

  right_left : Right kept_slots (behind (change i) (length x.slots) x.entries)
  right_left =
      let a = and_parts _ _ deep_is in
      let b = and_parts _ _ a.0 in
      let low = leb-true _ _ b.1 in
      let long = left_long in
      right_behind (change i) x.entries (length x.slots) kept_slots fit left_caused is_push is_low (subst (λ z. floor_of (change i) x.entries ≤ z) (sym long) low) (subst (λ z. leaves (change i) x.entries z ≡ true) (sym long) a.1)

  next_right : Right (slots_of i x Next) (behind (change i) (length x.slots) x.entries)
  unfolding slots_of gives takes
  next_right = by i fine new asked right_left
    where
      by : (j : Action) → gives_fine j ≡ true → news_fine j ≡ true → fits (takes j) (base j x) ≡ true → Right (drop (length (takes j)) (base j x)) (behind (change j) (length x.slots) x.entries)
          → Right (map (give_of (base j x)) (gives j) ++ drop (length (takes j)) (base j x)) (behind (change j) (length x.slots) x.entries)
      by (Straight ws gs) f n a r = right_on ws (base (Straight ws gs) x) gs _ _ f n a r
      by (Branch ws gs there to) f n a r = right_on ws (base (Branch ws gs there to) x) gs _ _ (and_parts _ _ f).0 (and_parts _ _ n).0 a r
      by (Jump to) f n a r = r
      by (Setup to last) f n a r = r
      by (PopExcept to) f n a r = r
      by EndFinally f n a r = r
      by (Unwind to count it) f n a r = r
      by Return f n a r = r
      by (Raise count) f n a r = r

  there_right : Right (slots_of i x There) (behind (change i) (length x.slots) x.entries)
  unfolding slots_of gives_there takes
  there_right = by i fine new asked right_left
    where
      by : (j : Action) → gives_fine j ≡ true → news_fine j ≡ true → fits (takes j) (base j x) ≡ true → Right (drop (length (takes j)) (base j x)) (behind (change j) (length x.slots) x.entries)
          → Right (map (give_of (base j x)) (gives_there j) ++ drop (length (takes j)) (base j x)) (behind (change j) (length x.slots) x.entries)
      by (Straight ws gs) f n a r = r
      by (Branch ws gs there to) f n a r = right_on ws (base (Branch ws gs there to) x) there _ _ (and_parts _ _ f).1 (and_parts _ _ n).1 a r
      by (Jump to) f n a r = r
      by (Setup to last) f n a r = r
      by (PopExcept to) f n a r = r
      by EndFinally f n a r = r
      by (Unwind to count it) f n a r = r
      by Return f n a r = r
      by (Raise count) f n a r = r

  next_ways : (b : Bool) → AreRight (next_way b p (behind (change i) (length x.slots) x.entries))
  next_ways true = (right_mark (suc p) (slots_of i x Next) _ next_right, tt)
  next_ways false = tt

  jump_ways : (o : Option ℕ) → AreRight (jump_way o (behind (change i) (length x.slots) x.entries))
  jump_ways (Some t) = (right_mark t (slots_of i x There) _ there_right, tt)
  jump_ways None = tt

  -- into a handler
  enters : (e : Entry) (es : List Entry) → Fits (e ∷ es) (length x.slots) → caused (cut e.height x.slots) (e ∷ es) ≡ true → IsRight (way_in e es)
  unfolding slots_of
  enters e es f h = right_mark e.handler (pushed e.is_finally (cut e.height x.slots)) (record e { active = true } ∷ es) (right_run x.slots e es f h e.is_finally)

  -- from entries to those below the first
  down : (e : Entry) (es : List Entry) (m : ℕ) → Fits (e ∷ es) m → m ≤ length x.slots → caused (cut m x.slots) (e ∷ es) ≡ true → caused (cut e.height x.slots) (e ∷ es) ≡ true
  down e es m f le h = subst (λ z. caused z (e ∷ es) ≡ true) (cut_cut e.height m x.slots f.0) (caused_drop (length (cut m x.slots) - e.height) (cut m x.slots) (e ∷ es) h)

  below : (e : Entry) (es : List Entry) (m : ℕ) → Fits (e ∷ es) m → m ≤ length x.slots → caused (cut m x.slots) (e ∷ es) ≡ true → caused (cut e.height x.slots) es ≡ true
  below e es m f le h =
      let l = cut-length e.height x.slots (omega (arith, f.0, le)) in caused_rest (cut e.height x.slots) e es (omega (arith, l)) (down e es m f le h)

  raise_if : (b : Bool) (e : Entry) (es : List Entry) → AreRight (raise_ways es) → IsRight (way_in e es) → AreRight (if b then raise_ways es else (way_in e es ∷ []))
  raise_if true e es h k = h
  raise_if false e es h k = (k, tt)

  raises_right : (es : List Entry) (m : ℕ) → Fits es m → m ≤ length x.slots → caused (cut m x.slots) es ≡ true → AreRight (raise_ways es)
  raises_right [] m f le h = tt
  raises_right (e ∷ es) m f le h =
      raise_if e.active e es (raises_right es e.height f.1 (omega (arith, f.0, le)) (below e es m f le h)) (enters e es (fits_more (e ∷ es) m (length x.slots) f le) (down e es m f le h))

  run_if : (b : Bool) (e : Entry) (es : List Entry) → IsRight (way_in e es) → AreRight (if b then (way_in e es ∷ []) else [])
  run_if true e es k = (k, tt)
  run_if false e es k = tt

  runs_right : (n : ℕ) (es : List Entry) (m : ℕ) → Fits es m → m ≤ length x.slots → caused (cut m x.slots) es ≡ true → AreRight (run_ways n es)
  runs_right zero es m f le h = tt
  runs_right (suc n) [] m f le h = tt
  runs_right (suc n) (e ∷ es) m f le h =
      right_append (one_run e es) (run_ways n es) (run_if _ e es (enters e es (fits_more (e ∷ es) m (length x.slots) f le) (down e es m f le h)))
      (runs_right n es e.height f.1 (omega (arith, f.0, le)) (below e es m f le h))

  whole_cut : caused (cut (length x.slots) x.slots) x.entries ≡ true
  whole_cut = caused_drop (length x.slots - length x.slots) x.slots x.entries right

  all_right : AreRight (ways code i p (length x.slots) x.entries)
  unfolding ways
  all_right =
      let es = behind (change i) (length x.slots) x.entries in
      let nx = next_way (falls i && nat_lt (suc p) (length code.actions)) p es in
      let jm = jump_way (target i) es in
      right_append (nx ++ jm ++ raise_ways x.entries) (run_ways (runs i (length x.entries)) x.entries)
      (right_append (nx ++ jm) (raise_ways x.entries) (right_append nx jm (next_ways _) (jump_ways (target i))) (raises_right x.entries (length x.slots) fit (omega arith) whole_cut))
      (runs_right (runs i (length x.entries)) x.entries (length x.slots) fit (omega arith) whole_cut)

-- the least assignment
-- ====================

abbrev kept_at : At → At
kept_at x = record { slots = kept x.slots x.entries; entries = x.entries }

abbrev kept_if : Bool → At → Option At
kept_if true x = Some x
kept_if false x = None

abbrev kept_of : Option At → Option At
kept_of None = None
kept_of (Some x) = kept_if (fall x.entries (length x.slots)) (kept_at x)

some_is : {A : Type 0} (x y : A) → Some x ≡ Some y → x ≡ y
some_is x y e = cc

if_parts : (b : Bool) (y x : At) → kept_if b y ≡ Some x → (b ≡ true) × (y ≡ x)
if_parts true y x e = (refl, some_is y x e)
if_parts false y x e = absurd cc

-- what instructions do that give no cause
abbrev pub GiveNoCause : Code → Type 0
GiveNoCause code = (p : ℕ) (i : Action) → slice_get code.actions p ≡ Some i → (gives_fine i ≡ true) × (news_fine i ≡ true)

module _ (code : Code) (a : Assigned) (h : Holds code a) (fines : GiveNoCause code) where
  abbrev others : Assigned
  others p = kept_of (a p)

  there_is : (p : ℕ) (z : At) → a p ≡ Some z → fall z.entries (length z.slots) ≡ true → others p ≡ Some (kept_at z)
  there_is p z e f = ap kept_of e ∙ ap (λ c. kept_if c (kept_at z)) f

  leads_too : (e : Edge) → Leads a e → Right e.at.slots e.at.entries → Leads others e
  leads_too e l r =
      let long = belows-length e.at.slots l.at.slots l.under.slots in
      let fit : Fits l.at.entries (length l.at.slots) = subst (λ es. Fits es (length l.at.slots)) l.under.entries (subst (λ n. Fits e.at.entries n) long r.0) in
      record {
        at = kept_at l.at;
        is = there_is e.to l.at l.is (fits_fall l.at.entries (length l.at.slots) fit);
        under = record { slots = belows_kept e.at.slots l.at.slots l.at.entries (subst (λ es. caused e.at.slots es ≡ true) l.under.entries r.1) l.under.slots; entries = l.under.entries };
      }

  each_too : (i : Action) (p : ℕ) (x : At) (fit : Fits x.entries (length x.slots)) (right : caused x.slots x.entries ≡ true) (found : finds i x ≡ true) (fine : gives_fine i ≡ true) (new : news_fine i ≡ true)
      → (ws : List Way) → AreRight code i p x fit right found fine new ws → Each a (map (edge_of i x) ws) → Each others (map (edge_of i x) ws)
  each_too i p x fit right found fine new [] r no_more = no_more
  each_too i p x fit right found fine new (w ∷ ws) r (more l ls) = more (leads_too (edge_of i x w) l r.0) (each_too i p x fit right found fine new ws r.1 ls)

  fine_too : (p : ℕ) (x : At) → a p ≡ Some x → fall x.entries (length x.slots) ≡ true → Fine code others p (kept_at x)
  fine_too p x e f =
      let u : Under (kept_at x) x = record { slots = kept_below x.slots x.entries; entries = refl } in
      let g = fine_under code a p (kept_at x) x u (h.closed p x e) in
      let fit : Fits x.entries (length (kept x.slots x.entries)) = subst (λ n. Fits x.entries n) (sym (kept_long x.slots x.entries)) (fall_fits x.entries (length x.slots) f) in
      let right = kept_caused x.slots x.entries in
      let k = fines p g.action g.is in
      record {
        action = g.action;
        is = g.is;
        handlers = g.handlers;
        height = g.height;
        state = g.state;
        falls = g.falls;
        along =
            each_too g.action p (kept_at x) fit right g.height k.0 k.1 (ways code g.action p (length (kept x.slots x.entries)) x.entries)
            (all_right code g.action p (kept_at x) fit right g.height k.0 k.1) g.along;
      }

  holds_too : Holds code others
  holds_too = record { start = leads_too (record { to = 0; at = begin }) h.start (tt, refl); closed = closed }
    where
      closed : (p : ℕ) (y : At) → others p ≡ Some y → Fine code others p y
      closed p y e = by (a p) refl e
        where
          by : (o : Option At) → a p ≡ o → kept_of o ≡ Some y → Fine code others p y
          by None f g = absurd cc
          by (Some x) f g = let q = if_parts (fall x.entries (length x.slots)) (kept_at x) y g in subst (λ z. Fine code others p z) q.1 (fine_too p x f q.0)

  -- heights of entries fall in the least assignment, and each cause lies on one
  pub least_right : IsLeastOf code a → (p : ℕ) (x : At) → a p ≡ Some x → Right x.slots x.entries
  least_right least p x e =
      let l = (least others holds_too).each p x e in
      let q = if_parts (fall x.entries (length x.slots)) (kept_at x) l.at (sym (ap kept_of e) ∙ l.is) in
      (fall_fits x.entries (length x.slots) q.0, caused_is x.slots x.entries (subst (λ (z : At). Belows x.slots z.slots) (sym q.1) l.under.slots))

-- kept jumps
-- ==========

unwind_there : (a : Assigned) (S : Keeps) (t : ℕ) (it : Bool) (d : ℕ) (es : List Entry) (st : Stack) → CanUnwind a S t it d es st → (x : At) × (a t ≡ Some x)
unwind_there a S t it zero es st h = (h.1.at, h.1.is)
unwind_there a S t it (suc d) [] st h = absurd h
unwind_there a S t it (suc d) (e ∷ es) st h = unwind_there a S t it d es (cut e.height st) h.1

cut_split : (n : ℕ) (above : Stack) (s : machine.Slot) (rest : Stack) → length rest < n → (upper : Stack) × (cut n (above ++ s ∷ rest) ≡ upper ++ s ∷ rest)
cut_split n [] s rest lt = ([], ap (λ k. drop k (s ∷ rest)) (let z : length (s ∷ rest) - n ≡ 0 = omega (arith, lt) in z))
cut_split n (b ∷ above) s rest lt = by (nat_le n (length (above ++ s ∷ rest))) refl (cut_split n above s rest lt)
  where
    by : (c : Bool) → nat_le n (length (above ++ s ∷ rest)) ≡ c → (upper : Stack) × (cut n (above ++ s ∷ rest) ≡ upper ++ s ∷ rest) → (upper : Stack) × (cut n (b ∷ (above ++ s ∷ rest)) ≡ upper ++ s ∷ rest)
    by true e ih =
        let le = leb-true _ _ e in
        (ih.0, ap (λ k. drop k (b ∷ (above ++ s ∷ rest))) (let z : suc (length (above ++ s ∷ rest)) - n ≡ suc (length (above ++ s ∷ rest) - n) = omega (arith, le) in z) ∙ ih.1)
    by false e ih =
        let gt = leb-false _ _ e in
        (b ∷ above, ap (λ k. drop k (b ∷ (above ++ s ∷ rest))) (let z : suc (length (above ++ s ∷ rest)) - n ≡ 0 = omega (arith, gt) in z))

has_low : (es : List Entry) (m n : ℕ) → Fits es m → has es n ≡ true → n ≤ m
has_low [] m n f h = absurd (false≢true h)
has_low (e ∷ es) m n f h = by (nat_eq e.height n) refl h (λ g. has_low es e.height n f.1 g)
  where
    by : (b : Bool) → nat_eq e.height n ≡ b → (b || has es n) ≡ true → (has es n ≡ true → n ≤ e.height) → n ≤ m
    by true q g low = let s = eqb-true e.height n q in let l = f.0 in omega (arith, s, l)
    by false q g low = let l = low g in let k = f.0 in omega (arith, l, k)

-- a jump that is kept on the height of an entry leads to where the assignment has something
jump_in : (a : Assigned) (n : ℕ) (es : List Entry) (st : Stack) → Sound a n es st → Fits es (length st) → (above : Stack) (t d : ℕ) (it : Bool) (rest : Stack)
    → st ≡ above ++ KeptJump t d it ∷ rest → has es (length rest) ≡ true → (x : At) × (a t ≡ Some x)
jump_in a zero [] st h f above t d it rest e g = absurd (false≢true g)
jump_in a zero (x ∷ es) st h f above t d it rest e g = absurd h
jump_in a (suc n) [] st h f above t d it rest e g = absurd (false≢true g)
jump_in a (suc n) (x ∷ es) st h f above t d it rest e g = by (nat_eq x.height (length rest)) refl g (λ upper same k. jump_in a n es (cut x.height st) h.1 (subst (λ z. Fits es z) (sym (cut-length x.height st f.0)) f.1) upper t d it rest same k)
  where
    by : (b : Bool) → nat_eq x.height (length rest) ≡ b → (b || has es (length rest)) ≡ true
        → ((upper : Stack) → cut x.height st ≡ upper ++ KeptJump t d it ∷ rest → has es (length rest) ≡ true → (y : At) × (a t ≡ Some y)) → (y : At) × (a t ≡ Some y)
    by true q k below = unwind_there a (Sound a n) t it d es rest (h.0 above (KeptJump t d it) rest e (sym (eqb-true x.height (length rest) q)))
    by false q k below =
        let low = has_low es x.height (length rest) f.1 k in
        let ne = eqb-false x.height (length rest) q in
        let split = cut_split x.height above (KeptJump t d it) rest (omega (arith, low, ne)) in
        below split.0 (ap (λ z. cut x.height z) e ∙ split.1) k

fit_cause : (t d : ℕ) (it : Bool) (k : Kind) → Fit (KeptJump t d it) k → k ≡ kinds.Cause
fit_cause t d it k jump = refl

-- it lies on a cause
on_cause : (st : Stack) (ks : List Kind) (es : List Entry) → Stands st ks → caused ks es ≡ true → (above : Stack) (t d : ℕ) (it : Bool) (rest : Stack)
    → st ≡ above ++ KeptJump t d it ∷ rest → has es (length rest) ≡ true
on_cause st ks es empty c [] t d it rest e = absurd cc
on_cause st ks es empty c (b ∷ above) t d it rest e = absurd cc
on_cause st ks es (lies {s = s} {k = k} {st = su} {ks = ls} f q) c [] t d it rest e =
    let head : s ≡ KeptJump t d it = cc in
    let tail : su ≡ rest = cc in
    let is = fit_cause t d it k (subst (λ z. Fit z k) head f) in
    let long : length ls ≡ length rest = sym (stands-length su ls q) ∙ ap (λ z. length z) tail in
    subst (λ n. has es n ≡ true) long (or_first (not (is_cause k)) (has es (length ls)) (and_parts _ _ c).0 (ap (λ z. not (is_cause z)) is))
on_cause st ks es (lies {s = s} {k = k} {st = su} {ks = ls} f q) c (b ∷ above) t d it rest e =
    let tail : su ≡ above ++ KeptJump t d it ∷ rest = cc in on_cause su ls es q (and_parts _ _ c).1 above t d it rest tail

-- a jump that is kept in a state of the least assignment leads to where that has something
pub jump_leads : (code : Code) (a : Assigned) → Holds code a → GiveNoCause code → IsLeastOf code a → (p : ℕ) (st : Stack) (es : List Entry) → Runs a p st es
    → (above : Stack) (t d : ℕ) (it : Bool) (rest : Stack) → st ≡ above ++ KeptJump t d it ∷ rest → (x : At) × (a t ≡ Some x)
jump_leads code a h fines least p st es r above t d it rest e =
    let right = least_right code a h fines least p r.at r.is in
    let held = on_cause st r.at.slots r.at.entries r.slots right.1 above t d it rest e in
    jump_in a r.bound es st r.sound r.fits above t d it rest e (subst (λ z. has z (length rest) ≡ true) r.entries held)

-- instructions of a list give no cause
-- ====================================

new_fine : (ws : List Want) (n : ℕ) → all_fine ws (replicate n (New kinds.Value) ++ []) ≡ true
new_fine ws zero = refl
new_fine ws (suc n) = new_fine ws n

new_news : (n : ℕ) → news (replicate n (New kinds.Value) ++ []) ≡ true
new_news zero = refl
new_news (suc n) = new_news n

abbrev IsFine : Action → Type 0
IsFine i = (gives_fine i ≡ true) × (news_fine i ≡ true)

op_fine : (op : Op) (n : ℕ) → IsFine (op_action op n)
unfolding op_action
op_fine ops.UnpackSequence n = (new_fine (values_on 1 []) n, new_news n)
op_fine _ n = (refl, refl)

jump_fine : (op : Op) (to : ℕ) → IsFine (jump_action op to)
unfolding jump_action
jump_fine ops.Jump to = (refl, refl)
jump_fine ops.PopJumpIfTrue to = (refl, refl)
jump_fine ops.PopJumpIfFalse to = (refl, refl)
jump_fine ops.JumpIfTrueOrPop to = (refl, refl)
jump_fine ops.JumpIfFalseOrPop to = (refl, refl)
jump_fine ops.SetupExcept to = (refl, refl)
jump_fine ops.SetupFinally to = (refl, refl)
jump_fine ops.PopExceptJump to = (refl, refl)
jump_fine ops.ForIter to = (refl, refl)
jump_fine _ to = (refl, refl)

instr_fine : (instr : Instr) → IsFine (instr_action instr)
unfolding instr_action
instr_fine (instrs.Plain op) = op_fine op 0
instr_fine (instrs.Name op n) = op_fine op n
instr_fine (instrs.Num op n) = op_fine op n
instr_fine (instrs.Int z) = (refl, refl)
instr_fine (instrs.Jump op offset wide) = (refl, refl)
instr_fine (instrs.Unwind offset wide byte) = (refl, refl)
instr_fine (instrs.Unary op) = (refl, refl)
instr_fine (instrs.Binary op) = (refl, refl)

item_fine : (size : ℕ) (item : Item) → IsFine (action size item)
unfolding action
item_fine size (items.Plain instr) = instr_fine instr
item_fine size (items.Jump op to) = jump_fine op _
item_fine size (items.Unwind to byte) = (refl, refl)

pub items_fine : (size : ℕ) (xs : List Item) (p : ℕ) (i : Action) → slice_get (map (action size) xs) p ≡ Some i → IsFine i
items_fine size [] p i e = absurd cc
items_fine size (x ∷ xs) zero i e = subst IsFine (some_is (action size x) i e) (item_fine size x)
items_fine size (x ∷ xs) (suc p) i e = items_fine size xs p i e
