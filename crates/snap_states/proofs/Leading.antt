-- Jumps through entries, one after another.
use Rattle.std.proofs.Common.{◌≡◌, ℕ, zero, suc, ◌+◌, ◌-◌, ◌<◌, ◌≤◌, Bool, true, false, not, ◌&&◌, List, [], ◌∷◌, length, map, get_or, drop, Some, None, refl, sym, ap, ◌∙◌, arith}
use Rattle.std.specs.Prelude.{nat_lt, ◌||◌, slice_get}
use Rattle.std.proofs.lemmas.List.{drop_all, drop_more, length-map}
use Rattle.bc_shapes.specs.declared.shape.Entry.{Entry}
use Rattle.bc_shapes.specs.Shape.{same_entry, same_entries}
use Rattle.bc_shapes.proofs.Loops.{drop_uncons}
use Rattle.bc_shapes.proofs.Order.{entries_differ}
use Rattle.std.proofs.lemmas.Bool.{ltb-true, lt-ltb, true≢false}
use Rattle.bc_flow.specs.declared.walk.State.{State}
use Rattle.bc_flow.specs.Machine.{Stack, KeptJump, cut, remark}
use Rattle.bc_flow.specs.Verified.{Assigned, at, seen}
use Rattle.bc_flow.specs.Views.{cell_of, table_of}
use Rattle.snap_states.specs.declared.slot.Slot.{Slot as RustSlot}
use Rattle.snap_states.proofs.Fitting.{lowest_some}
use Rattle.snap_states.specs.Stacks.{slot_as, stack_as, is_shape, arrives, passes, leaves_first, leads_on, top_leads_on, jump_leads_on, jumps_lead_on}

pub at_none : (states : List State) (p : ℕ) → slice_get states p ≡ None → None ≡ at (table_of states) p
at_none [] p e = refl
at_none (s ∷ states) zero e = absurd cc
at_none (s ∷ states) (suc p) e = at_none states p e

pub at_some : (states : List State) (p : ℕ) (s : State) → slice_get states p ≡ Some s → seen (cell_of s) ≡ at (table_of states) p
at_some [] p s e = absurd cc
at_some (t ∷ states) zero s e = let is : s ≡ t = cc in ap (λ z. seen (cell_of z)) is
at_some (t ∷ states) (suc p) s e = at_some states p s e

passed : (last active b : Bool) → last ≡ false → (not (last && not active) || b) ≡ true
passed true active b e = absurd (true≢false e)
passed false active b e = refl

passed_active : (last active b : Bool) → active ≡ true → (not (last && not active) || b) ≡ true
passed_active true true b e = refl
passed_active true false b e = absurd (true≢false (sym e))
passed_active false active b e = refl

passed_run : (last active b : Bool) → last ≡ true → active ≡ false → (not (last && not active) || b) ≡ b
passed_run true true b e f = absurd (true≢false f)
passed_run true false b e f = refl
passed_run false active b e f = absurd (true≢false (sym e))

pub passes_except : (a : Assigned) (t : ℕ) (it : Bool) (d : ℕ) (e : Entry) (es : List Entry) (st : Stack) → e.is_finally ≡ false → passes a t it d e es st ≡ true
passes_except a t it d e es st h = passed e.is_finally e.active (is_shape a e.handler (KeptJump t d it ∷ cut e.height st) (e ∷ es)) h

pub passes_active : (a : Assigned) (t : ℕ) (it : Bool) (d : ℕ) (e : Entry) (es : List Entry) (st : Stack) → e.active ≡ true → passes a t it d e es st ≡ true
passes_active a t it d e es st h = passed_active e.is_finally e.active (is_shape a e.handler (KeptJump t d it ∷ cut e.height st) (e ∷ es)) h

pub passes_run : (a : Assigned) (t : ℕ) (it : Bool) (d : ℕ) (e : Entry) (es : List Entry) (st : Stack) → e.is_finally ≡ true → e.active ≡ false → passes a t it d e es st ≡ is_shape a e.handler (KeptJump t d it ∷ cut e.height st) (e ∷ es)
passes_run a t it d e es st h k = passed_run e.is_finally e.active (is_shape a e.handler (KeptJump t d it ∷ cut e.height st) (e ∷ es)) h k

not_lower : (h n : ℕ) (b : Bool) → n ≤ h → (not (nat_lt h n) || b) ≡ true
not_lower h n b le = go (nat_lt h n) refl
  where
    go : (x : Bool) → x ≡ nat_lt h n → (not x || b) ≡ true
    go true e = let lt = ltb-true h n (sym e) in absurd (omega (arith, lt, le))
    go false e = refl

lower : (h n : ℕ) (b : Bool) → h < n → (not (nat_lt h n) || b) ≡ b
lower h n b lt = ap (λ z. not z || b) (lt-ltb h n lt)

pub high_leads : (a : Assigned) (es : List Entry) (h : ℕ) (xs : List RustSlot) → length xs ≤ h → jump_leads_on a es h (stack_as xs) ≡ true
high_leads a es h xs le = not_lower h (length (stack_as xs)) (top_leads_on a es (cut (suc h) (stack_as xs))) (let e = length-map xs slot_as in omega (arith, e, le))

pub at_height : (a : Assigned) (es : List Entry) (h : ℕ) (xs : List RustSlot) → h < length xs → jump_leads_on a es h (stack_as xs) ≡ top_leads_on a es (stack_as (drop (length xs - 1 - h) xs))
at_height a es h xs lt =
    lower h (length (stack_as xs)) (top_leads_on a es (cut (suc h) (stack_as xs))) (let e = length-map xs slot_as in omega (arith, e, lt))
    ∙ ap (top_leads_on a es) (sym (lowest_some xs (suc h)) ∙ ap (λ n. stack_as (drop n xs)) (let e : length xs - suc h ≡ length xs - 1 - h = omega arith in e))

pub marked_step : (ds es : List Entry) (p i : ℕ) (d e : Entry) → i < length ds → i < length es → d ≡ get_or ds i d → e ≡ get_or es i e → same_entries (drop i ds) (map (remark p) (drop i es)) ≡ (same_entry d (remark p e) && same_entries (drop (i + 1) ds) (map (remark p) (drop (i + 1) es)))
marked_step ds es p i d e a b f g = ap (λ z. same_entries z (map (remark p) (drop i es))) (drop_uncons ds i d a f) ∙ ap (λ z. same_entries (d ∷ drop (i + 1) ds) (map (remark p) z)) (drop_uncons es i e b g)

pub marked_end : (ds es : List Entry) (p i : ℕ) → length ds ≤ i → length es ≤ i → same_entries (drop i ds) (map (remark p) (drop i es)) ≡ true
marked_end ds es p i a b = ap (λ z. same_entries z (map (remark p) (drop i es))) (drop_all i ds a) ∙ ap (λ z. same_entries [] (map (remark p) z)) (drop_all i es b)

pub marked_differ : (ds es : List Entry) (p : ℕ) → (length ds ≡ length es → ⊥) → false ≡ same_entries ds (map (remark p) es)
marked_differ ds es p f = entries_differ ds (map (remark p) es) (λ e. f (e ∙ length-map es (remark p)))

-- a jump with `n` entries to leave from the i-th on
pub leads_step : (a : Assigned) (t : ℕ) (it : Bool) (n i : ℕ) (es : List Entry) (st : Stack) (d : Entry) → i < n → i < length es → leads_on a t it (n - i) (drop i es) st ≡ (leaves_first a t it (n - i - 1) (drop i es) st && leads_on a t it (n - (i + 1)) (drop (i + 1) es) (cut (get_or es i d).height st))
leads_step a t it n i es st d lt le =
    let one : n - i ≡ suc (n - (i + 1)) = omega arith in
    let other : n - i - 1 ≡ n - (i + 1) = omega arith in
    let first = drop_more es i d le in
    let e : Entry = get_or es i d in
    ap (λ m. leads_on a t it m (drop i es) st) one
    ∙ ap (λ z. leads_on a t it (suc (n - (i + 1))) z st) first
    ∙ ap (λ m. passes a t it m e (drop (i + 1) es) st && leads_on a t it (n - (i + 1)) (drop (i + 1) es) (cut e.height st)) (sym other)
    ∙ ap (λ z. leaves_first a t it (n - i - 1) z st && leads_on a t it (n - (i + 1)) (drop (i + 1) es) (cut e.height st)) (sym first)

pub leads_none : (a : Assigned) (t : ℕ) (it : Bool) (n : ℕ) (es : List Entry) (st : Stack) → length es < n → leads_on a t it n es st ≡ false
leads_none a t it zero es st lt = absurd (omega (arith, lt))
leads_none a t it (suc n) [] st lt = refl
leads_none a t it (suc n) (e ∷ es) st lt = and_false (passes a t it n e es st) (leads_on a t it n es (cut e.height st)) (leads_none a t it n es (cut e.height st) (omega (arith, lt)))
  where
    and_false : (x y : Bool) → y ≡ false → (x && y) ≡ false
    and_false true y h = h
    and_false false y h = refl

pub leads_end : (a : Assigned) (t : ℕ) (it : Bool) (n i : ℕ) (es : List Entry) (st : Stack) → n ≤ i → leads_on a t it (n - i) es st ≡ arrives a t it es st
leads_end a t it n i es st le = ap (λ m. leads_on a t it m es st) (let e : n - i ≡ zero = omega arith in e)

pub jumps_step : (a : Assigned) (es : List Entry) (st : Stack) (i : ℕ) (e : Entry) → i < length es → e ≡ get_or es i e → jumps_lead_on a (drop i es) st ≡ (jump_leads_on a (drop (i + 1) es) e.height st && jumps_lead_on a (drop (i + 1) es) (cut e.height st))
jumps_step a es st i e lt is = ap (λ z. jumps_lead_on a z st) (drop_uncons es i e lt is)

pub jumps_end : (a : Assigned) (es : List Entry) (st : Stack) (i : ℕ) → length es ≤ i → jumps_lead_on a (drop i es) st ≡ true
jumps_end a es st i le = ap (λ z. jumps_lead_on a z st) (drop_all i es le)
