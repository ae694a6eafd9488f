-- Where an expression or a statement runs, what a step there is, and laws of the machine's moves.
use Rattle.std.proofs.Common.{◌≡◌, ℕ, zero, suc, ◌-◌, ◌≤◌, ◌<◌, Bool, true, false, List, [], ◌∷◌, ◌++◌, length, map, drop, Some, refl, sym, ap, ◌∙◌, arith}
use Rattle.std.proofs.lemmas.Bool.{le-leb, lt-leb}
use Rattle.std.proofs.lemmas.List.{length-append}
use Rattle.std.specs.Prelude.{slice_get, nat_eq, if◌then◌else◌}
use Rattle.bc_scheme.specs.mpy_base.Val.{Val, At, PlainWorld}
use Rattle.bc_scheme.specs.py_effects.Effect.{Place}
use Rattle.bc_scheme.specs.py_effects.Names.{Locals}
use Rattle.bc_scheme.specs.py_meaning.Frames.{place_at}
use Rattle.bc_scheme.specs.bc_machine.Library.{Item, Library}
use Rattle.bc_scheme.specs.bc_machine.State.{Slot, Value, KeptReturn, Entry, Frame, State, Running, go, remark, cut, abandoned, throw_in, throw_out, throw, is_run, leave, unwind}
use Rattle.bc_scheme.specs.bc_machine.Step.{item_step, step}
use Rattle.bc_scheme.proofs.bc_machine_lemmas.Fetch.{fetch}
use Rattle.bc_scheme.specs.Context.{Has, Behind, line_before}
use Rattle.sim_stmt.specs.Sites.{Site, at, Sited, Quiet, Fits}

-- ---- sites

-- the same site with other entries
abbrev pub holding : Site → List Entry → Site
holding k es = record k { frame = record k.frame { entries = es } }

pub sited_with : (library : Library) (k : Site) (es : List Entry) → Sited library k → Sited library (holding k es)
sited_with library k es s = record {
  of_module = s.of_module;
  of_code = s.of_code;
  lines = s.lines;
  file = s.file;
  name = s.name;
  level = s.level;
  locals = s.locals;
  names = s.names;
  module_name = s.module_name;
  depth = s.depth;
  shift = s.shift;
  children = s.children;
  base = s.base;
  codes = s.codes;
  rooms = s.rooms;
}

-- a step is that of the item which stands at the position, with the meaning's place
pub stepped : (library : Library) (k : Site) (paid line p : ℕ) (item : Item) (env : Locals) (slots : List Slot) (w : PlainWorld) → Sited library k → Has k.context line p item
    → step library (Running paid (at k.frame p env slots) k.waiting w) ≡ item_step library (place_at k.meant line) paid (at k.frame p env slots) k.waiting w item
stepped library k paid line p item env slots w s h =
    fetch library paid (at k.frame p env slots) k.waiting w k.holder k.code (record { item = item; line = if nat_eq k.context.level 3 then 1 else line })
    (record { of_module = s.of_module; of_code = s.of_code; of_line = ap (λ lines. slice_get lines p) s.lines ∙ h })
    ∙ ap (λ a. item_step library (record { file = a; line = if nat_eq k.context.level 3 then 1 else line; name = k.code.name }) paid (at k.frame p env slots) k.waiting w item) s.file
    ∙ ap (λ a. item_step library (record { file = k.meant.file; line = if nat_eq a 3 then 1 else line; name = k.code.name }) paid (at k.frame p env slots) k.waiting w item) s.level
    ∙ ap (λ a. item_step library (record { file = k.meant.file; line = if nat_eq k.meant.level 3 then 1 else line; name = a }) paid (at k.frame p env slots) k.waiting w item) s.name

-- the place of an item that has the line of the one before it
abbrev pub place_behind : Site → ℕ → Place
place_behind k p = record { file = k.holder.file; line = line_before k.context.lines p; name = k.code.name }

pub stepped_behind : (library : Library) (k : Site) (p : ℕ) (item : Item) (env : Locals) (slots : List Slot) (w : PlainWorld) → Sited library k → Behind k.context p item
    → step library (Running 0 (at k.frame p env slots) k.waiting w) ≡ item_step library (place_behind k p) 0 (at k.frame p env slots) k.waiting w item
stepped_behind library k p item env slots w s h =
    fetch library 0 (at k.frame p env slots) k.waiting w k.holder k.code (record { item = item; line = line_before k.context.lines p })
    (record { of_module = s.of_module; of_code = s.of_code; of_line = ap (λ lines. slice_get lines p) s.lines ∙ h })

-- ---- entries

pub fits_more : (es : List Entry) (m n : ℕ) → m ≤ n → Fits es m → Fits es n
fits_more [] m n le f = tt
fits_more (e ∷ es) m n le f = (omega (arith, f.0), fits_more es m n le f.1)

-- ---- slots

pub cut_all : (slots : List Slot) → cut (length slots) slots ≡ slots
cut_all slots = let e : length slots - length slots ≡ 0 = omega arith in ap (λ n. drop n slots) e

pub cut_pop : (h : ℕ) (s : Slot) (slots : List Slot) → h ≤ length slots → cut h (s ∷ slots) ≡ cut h slots
cut_pop h s slots le = let e : suc (length slots) - h ≡ suc (length slots - h) = omega arith in ap (λ n. drop n (s ∷ slots)) e

pub cut_over : (h : ℕ) (over slots : List Slot) → h ≤ length slots → cut h (over ++ slots) ≡ cut h slots
cut_over h [] slots le = refl
cut_over h (s ∷ over) slots le = cut_pop h s (over ++ slots) (omega (arith, length-append over slots)) ∙ cut_over h over slots le

-- ---- raises, returns and jumps look at the slots up to the entries' heights, and not at the position

pub if_same : (b : Bool) (x x1 y y1 : State) → x ≡ x1 → y ≡ y1 → (if b then x else y) ≡ (if b then x1 else y1)
if_same true x x1 y y1 e f = e
if_same false x x1 y y1 e f = f

thrown_in : (x p q : ℕ) (env : Locals) (over slots : List Slot) (es : List Entry) (f : Frame) (frames : List Frame) (w : PlainWorld) (out : State) → Fits es (length slots)
    → throw_in x es (at f p env (over ++ slots)) frames w out ≡ throw_in x es (at f q env slots) frames w out
thrown_in x p q env over slots [] f frames w out fits = refl
thrown_in x p q env over slots (e ∷ es) f frames w out fits =
    if_same e.active _ _ _ _ (thrown_in x p q env over slots es f frames w out fits.1)
    (ap (λ st. go e.handler (Value (At x) ∷ st) (record e { kept = Some x } ∷ es) (at f 0 env []) frames w) (cut_over e.height over slots fits.0))

pub thrown : (x p q : ℕ) (env : Locals) (over slots : List Slot) (f : Frame) (frames : List Frame) (w : PlainWorld) → Fits f.entries (length slots)
    → throw x (at f p env (over ++ slots)) frames w ≡ throw x (at f q env slots) frames w
thrown x p q env over slots f frames w fits = thrown_in x p q env over slots f.entries f frames w (throw_out x frames (abandoned f.role w)) fits

pub left_in : (v : Val) (p q : ℕ) (env : Locals) (over slots : List Slot) (es : List Entry) (f : Frame) (frames : List Frame) (w : PlainWorld) → Fits es (length slots)
    → leave v es (at f p env (over ++ slots)) frames w ≡ leave v es (at f q env slots) frames w
left_in v p q env over slots [] f frames w fits = refl
left_in v p q env over slots (e ∷ es) f frames w fits =
    if_same (is_run e) _ _ _ _
    (ap (λ st. go e.handler (KeptReturn v ∷ st) (e ∷ es) (at f 0 env []) frames w) (cut_over e.height over slots fits.0))
    (left_in v p q env over slots es f frames w fits.1)

pub unwound_at : (target : ℕ) (it : Bool) (count : ℕ) (es : List Entry) (slots : List Slot) (p q : ℕ) (env : Locals) (s1 s2 : List Slot) (f : Frame) (frames : List Frame) (w : PlainWorld)
    → unwind target it count es slots (at f p env s1) frames w ≡ unwind target it count es slots (at f q env s2) frames w
unwound_at target it zero es slots p q env s1 s2 f frames w = refl
unwound_at target it (suc count) [] slots p q env s1 s2 f frames w = refl
unwound_at target it (suc count) (e ∷ es) slots p q env s1 s2 f frames w =
    if_same (is_run e) _ _ _ _ refl (unwound_at target it count es (cut e.height slots) p q env s1 s2 f frames w)

-- ---- marks

-- an entry that waits, up to its handler
pub quiet_waiting : (e : Entry) (es : List Entry) (lo hi : ℕ) → e.active ≡ false → hi < e.handler → Quiet es lo hi → Quiet (e ∷ es) lo hi
quiet_waiting e es lo hi a lt quiet p l h =
    let b : p < e.handler = omega arith in
    ap (λ m. record e { active = m } ∷ map (remark p) es) (lt-leb e.handler p b ∙ sym a) ∙ ap (λ r. e ∷ r) (quiet p l h)

-- an active one, from its handler on
pub quiet_active : (e : Entry) (es : List Entry) (lo hi : ℕ) → e.active ≡ true → e.handler ≤ lo → Quiet es lo hi → Quiet (e ∷ es) lo hi
quiet_active e es lo hi a le quiet p l h =
    ap (λ m. record e { active = m } ∷ map (remark p) es) (le-leb e.handler p (omega arith) ∙ sym a) ∙ ap (λ r. e ∷ r) (quiet p l h)

pub quiet_in : (es : List Entry) (lo hi lo1 hi1 : ℕ) → lo ≤ lo1 → hi1 ≤ hi → Quiet es lo hi → Quiet es lo1 hi1
quiet_in es lo hi lo1 hi1 a b quiet p l h = quiet p (omega arith) (omega arith)

-- on at a position within those
pub went : (k : Site) (p q : ℕ) (env : Locals) (slots0 slots : List Slot) (w : PlainWorld) → map (remark q) k.frame.entries ≡ k.frame.entries
    → go q slots k.frame.entries (at k.frame p env slots0) k.waiting w ≡ Running 0 (at k.frame q env slots) k.waiting w
went k p q env slots0 slots w e = ap (λ es. Running 0 (record (at k.frame q env slots) { entries = es }) k.waiting w) e
