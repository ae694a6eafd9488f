-- Where the machine stands when the meaning is done, and the binds of the meaning.
use Rattle.std.proofs.Common.{◌≡◌, ℕ, zero, suc, ◌+◌, ◌≤◌, Bool, true, false, List, ◌∷◌, ◌++◌, length, map, refl, ap, ◌∙◌, arith}
use Rattle.std.proofs.lemmas.Bool.{lt-ltb, le-ltb}
use Rattle.std.specs.Prelude.{nat_lt, if◌then◌else◌}
use Rattle.bc_scheme.specs.mpy_base.Val.{Val, PlainWorld}
use Rattle.bc_scheme.specs.py_effects.Effect.{Effect, Place, Given, Gives, Throws, Fills, Fails, Thrown, Filled, given}
use Rattle.bc_scheme.specs.py_effects.Names.{Locals}
use Rattle.bc_scheme.specs.py_meaning.Outcomes.{Out, EVal, EExc, EOpen, EFull, e_turn, e_turns, e_then, e_given, e_fails, e_does, e_choose}
use Rattle.bc_scheme.specs.py_meaning.Frames.{place_at}
use Rattle.bc_scheme.specs.py_meaning.Bounds.{left_e}
use Rattle.bc_scheme.specs.bc_machine.Library.{Item, Library}
use Rattle.bc_scheme.specs.bc_machine.State.{Slot, Value, Frame, State, Running, go, remark, throw, fail, on_given}
use Rattle.bc_scheme.specs.bc_machine.Step.{item_step, paying, step}
use Rattle.bc_scheme.specs.Context.{Has}
use Rattle.sim_stmt.specs.Sites.{Site, at, Sited, Fits}
use Rattle.sim_stmt.specs.Lands.{Lands, valued}
use Rattle.sim_stmt.proofs.Goes.{g_then, GoesIn, g_here, g_open, g_wide, g_turn, g_pay, g_step, g_visit, g_map, g_bind}
use Rattle.sim_stmt.proofs.Base.{stepped, thrown, went}

-- what counts only where there is a value
abbrev pub if_value : {A : Type 0} → ℕ → Out A → ℕ
if_value n (EVal a t w) = n
if_value n (EExc x t w) = 0
if_value n (EOpen w) = 0
if_value n (EFull e t w) = 0

-- a raise from slots above these goes where it goes from these
abbrev pub Falls : Site → Locals → (slots0 slots : List Slot) → Type 0
Falls k env slots0 slots = (x p : ℕ) (w : PlainWorld) → throw x (at k.frame p env slots0) k.waiting w ≡ throw x (at k.frame 0 env slots) k.waiting w

pub falls_here : (k : Site) (env : Locals) (slots : List Slot) → Fits k.frame.entries (length slots) → Falls k env slots slots
falls_here k env slots fits x p w = thrown x p 0 env Rattle.std.specs.Prelude.[] slots k.frame k.waiting w fits

pub falls_over : (k : Site) (env : Locals) (over slots : List Slot) → Fits k.frame.entries (length slots) → Falls k env (over ++ slots) slots
falls_over k env over slots fits x p w = thrown x p 0 env over slots k.frame k.waiting w fits

module _ (library : Library) (K : ℕ) where
  -- where there is a value, `spare` steps are spare, and `owed` turns are owed
  abbrev pub GoesO : {A : Type 0} → (spare owed : ℕ) → (A → PlainWorld → State) → Site → Locals → List Slot → State → (t x size : ℕ) → Out A → Type 0
  GoesO spare owed v k env slots s t x size r = GoesIn library K (Lands v k env slots r) s t (left_e r) (if_value spare r) (if_value owed r) x size

  pub o_wide : {A : Type 0} (spare spare1 owed owed1 : ℕ) (v : A → PlainWorld → State) (k : Site) (env : Locals) (slots : List Slot) (s : State) (t x x1 size size1 : ℕ) (r : Out A)
      → x + spare1 ≤ x1 + spare → x ≤ x1 → size + owed1 ≤ size1 + owed → size ≤ size1 → GoesO spare owed v k env slots s t x size r → GoesO spare1 owed1 v k env slots s t x1 size1 r
  o_wide spare spare1 owed owed1 v k env slots s t x x1 size size1 (EVal a t1 w) xs xw ss sw g = g_wide library K _ s t t1 spare spare1 owed owed1 x x1 size size1 xs ss g
  o_wide spare spare1 owed owed1 v k env slots s t x x1 size size1 (EExc y t1 w) xs xw ss sw g = g_wide library K _ s t t1 0 0 0 0 x x1 size size1 (omega arith) (omega arith) g
  o_wide spare spare1 owed owed1 v k env slots s t x x1 size size1 (EOpen w) xs xw ss sw g = g_wide library K _ s t 0 0 0 0 0 x x1 size size1 (omega arith) (omega arith) g
  o_wide spare spare1 owed owed1 v k env slots s t x x1 size size1 (EFull e t1 w) xs xw ss sw g = g_wide library K _ s t t1 0 0 0 0 x x1 size size1 (omega arith) (omega arith) g

  -- the value lands elsewhere by an equation
  pub o_map : {A : Type 0} (spare owed : ℕ) (v v1 : A → PlainWorld → State) (k : Site) (env : Locals) (slots : List Slot) (s : State) (t x size : ℕ) (r : Out A)
      → ((a : A) (w : PlainWorld) → v a w ≡ v1 a w) → GoesO spare owed v k env slots s t x size r → GoesO spare owed v1 k env slots s t x size r
  o_map spare owed v v1 k env slots s t x size (EVal a t1 w) e g = g_map library K _ _ s t t1 spare owed x size (λ u l. l ∙ e a w) g
  o_map spare owed v v1 k env slots s t x size (EExc y t1 w) e g = g
  o_map spare owed v v1 k env slots s t x size (EOpen w) e g = g
  o_map spare owed v v1 k env slots s t x size (EFull f t1 w) e g = g

  -- a part, over slots from which a raise goes where it goes from the whole's
  pub o_bind : {A B : Type 0} (spare1 spare owed1 owed : ℕ) (v1 : A → PlainWorld → State) (v : B → PlainWorld → State) (k : Site) (env : Locals) (slots1 slots : List Slot) (s : State)
      (t x1 x2 x size1 size2 size : ℕ) (r : Out A) (next : A → ℕ → PlainWorld → Out B) → Falls k env slots1 slots → x1 + x2 ≤ x + spare1 → x1 ≤ x → size1 + size2 ≤ size + owed1 → size1 ≤ size
      → GoesO spare1 owed1 v1 k env slots1 s t x1 size1 r
      → ((a : A) (t1 : ℕ) (w1 : PlainWorld) → t1 ≤ t → GoesO spare owed v k env slots (v1 a w1) t1 x2 size2 (next a t1 w1)) → GoesO spare owed v k env slots s t x size (e_then r next)
  o_bind spare1 spare owed1 owed v1 v k env slots1 slots s t x1 x2 x size1 size2 size (EVal a t1 w) next same xs xw ss sw g h =
      g_then library K _ s (v1 a w) t t1 (left_e (next a t1 w)) spare1 (if_value spare (next a t1 w)) owed1 (if_value owed (next a t1 w)) x1 x2 x size1 size2 size xs ss g (λ le. h a t1 w le)
  o_bind spare1 spare owed1 owed v1 v k env slots1 slots s t x1 x2 x size1 size2 size (EExc y t1 w) next same xs xw ss sw g h =
      g_wide library K _ s t t1 0 0 0 0 x1 x size1 size (omega arith) (omega arith) (g_map library K _ _ s t t1 0 0 x1 size1 (λ u l. l ∙ same y 0 w) g)
  o_bind spare1 spare owed1 owed v1 v k env slots1 slots s t x1 x2 x size1 size2 size (EOpen w) next same xs xw ss sw g h = g_wide library K _ s t 0 0 0 0 0 x1 x size1 size (omega arith) (omega arith) g
  o_bind spare1 spare owed1 owed v1 v k env slots1 slots s t x1 x2 x size1 size2 size (EFull e t1 w) next same xs xw ss sw g h = g_wide library K _ s t t1 0 0 0 0 x1 x size1 size (omega arith) (omega arith) g

  -- a turn, unless none is left
  pub o_turned : {A : Type 0} (owed : ℕ) (v : A → PlainWorld → State) (k : Site) (env : Locals) (slots : List Slot) (p : ℕ) (f : Frame) (t size : ℕ) (w : PlainWorld) (next : ℕ → Out A)
      → ((t1 : ℕ) → suc t1 ≤ t → GoesO 0 owed v k env slots (Running p f k.waiting w) t1 8 size (next t1)) → GoesO 8 owed v k env slots (Running p f k.waiting w) t 0 (suc size) (e_turn t w next)
  o_turned owed v k env slots p f zero size w next h = g_open library K _ _ (suc size) 0 (omega arith) refl
  o_turned owed v k env slots p f (suc t) size w next h =
      g_turn library K _ _ t (left_e (next t)) (if_value 8 (next t)) (if_value owed (next t)) 0 size
      (o_wide 0 8 owed owed v k env slots _ t 8 16 size size (next t) (omega arith) (omega arith) (omega arith) (omega arith) (h t (omega arith)))

  pub o_choose : {A : Type 0} (spare owed : ℕ) (v : A → PlainWorld → State) (k : Site) (env : Locals) (slots : List Slot) (s1 s2 : State) (t x size : ℕ) (w : PlainWorld) (b : Bool) (so otherwise : ℕ → PlainWorld → Out A)
      → GoesO spare owed v k env slots s1 t x size (so t w) → GoesO spare owed v k env slots s2 t x size (otherwise t w)
      → GoesO spare owed v k env slots (if b then s1 else s2) t x size (e_choose b so otherwise t w)
  o_choose spare owed v k env slots s1 s2 t x size w true so otherwise g h = g
  o_choose spare owed v k env slots s1 s2 t x size w false so otherwise g h = h

  -- ---- effects

  pub o_given : {A : Type 0} (v : A → PlainWorld → State) (k : Site) (env : Locals) (slots0 slots : List Slot) (p t : ℕ) (g : Given A) → Falls k env slots0 slots
      → GoesO 0 0 v k env slots (on_given g (at k.frame p env slots0) k.waiting v) t 0 0 (e_given g t)
  o_given v k env slots0 slots p t (Gives a w) same = g_here library K _ _ t refl
  o_given v k env slots0 slots p t (Throws x w) same = g_here library K _ _ t (same x p w)
  o_given v k env slots0 slots p t (Fills e w) same = g_here library K _ _ t refl

  pub o_fails : {A : Type 0} (v : A → PlainWorld → State) (k : Site) (env : Locals) (slots0 slots : List Slot) (p t : ℕ) (f : Fails) → Falls k env slots0 slots
      → GoesO 0 0 v k env slots (fail f (at k.frame p env slots0) k.waiting) t 0 0 (e_fails f t)
  o_fails v k env slots0 slots p t (Thrown x w) same = g_here library K _ _ t (same x p w)
  o_fails v k env slots0 slots p t (Filled e w) same = g_here library K _ _ t refl

  -- what an instruction does that has an effect, however much of its visits is paid
  abbrev pub Does : {A : Type 0} → Site → (p : ℕ) → Locals → (slots0 : List Slot) → PlainWorld → Place → Item → Effect A → (A → PlainWorld → State) → Type 0
  Does k p env slots0 w place item effect v =
      (paid : ℕ) → item_step library place paid (at k.frame p env slots0) k.waiting w item
      ≡ paying library place paid (at k.frame p env slots0) k.waiting w (nat_lt paid effect.visits) effect v

  -- visits are turns on one side and steps on the other, and the last step owes for what comes behind it
  pub o_pays : {A : Type 0} (v : A → PlainWorld → State) (k : Site) (line p : ℕ) (item : Item) (env : Locals) (slots0 slots : List Slot) (w : PlainWorld) (effect : Effect A)
      → 1 ≤ K → Sited library k → Has k.context line p item → Does k p env slots0 w (place_at k.meant line) item effect v → Falls k env slots0 slots
      → (n paid t : ℕ) → paid + n ≡ effect.visits
      → GoesO 0 K v k env slots (Running paid (at k.frame p env slots0) k.waiting w) t 1 0 (e_turns n t w (e_given (given (place_at k.meant line) effect)))
  o_pays v k line p item env slots0 slots w effect some s h does same zero paid t e =
      let lt : nat_lt paid effect.visits ≡ false = le-ltb paid effect.visits (omega arith) in
      let g = given (place_at k.meant line) effect in
      let now = stepped library k paid line p item env slots0 w s h ∙ does paid ∙ ap (λ b. paying library (place_at k.meant line) paid (at k.frame p env slots0) k.waiting w b effect v) lt in
      g_pay library K _ _ (on_given g (at k.frame p env slots0) k.waiting v) t (left_e (e_given g t)) (if_value 0 (e_given g t)) (if_value K (e_given g t)) 0 0 K (omega arith) now
      (o_wide 0 0 0 K v k env slots _ t 0 0 0 (0 + K) (e_given g t) (omega arith) (omega arith) (omega arith) (omega arith) (o_given v k env slots0 slots p t g same))
  o_pays v k line p item env slots0 slots w effect some s h does same (suc n) paid zero e = g_wide library K _ _ 0 0 0 0 0 0 0 1 0 0 (omega arith) (omega arith) (g_open library K _ _ 0 0 (omega arith) refl)
  o_pays v k line p item env slots0 slots w effect some s h does same (suc n) paid (suc t) e =
      let lt : nat_lt paid effect.visits ≡ true = lt-ltb paid effect.visits (omega arith) in
      let now = stepped library k paid line p item env slots0 w s h ∙ does paid ∙ ap (λ b. paying library (place_at k.meant line) paid (at k.frame p env slots0) k.waiting w b effect v) lt in
      let r = e_turns n t w (e_given (given (place_at k.meant line) effect)) in
      g_visit library K _ _ (Running (suc paid) (at k.frame p env slots0) k.waiting w) t (left_e r) (if_value 0 r) (if_value K r) 1 0 some now
      (o_pays v k line p item env slots0 slots w effect some s h does same n (suc paid) t (omega arith))

  pub o_does : {A : Type 0} (v : A → PlainWorld → State) (k : Site) (line p : ℕ) (item : Item) (env : Locals) (slots0 slots : List Slot) (t : ℕ) (w : PlainWorld) (effect : Effect A)
      → 1 ≤ K → Sited library k → Has k.context line p item → Does k p env slots0 w (place_at k.meant line) item effect v → Falls k env slots0 slots
      → GoesO 0 K v k env slots (Running 0 (at k.frame p env slots0) k.waiting w) t 1 0 (e_does (place_at k.meant line) effect t w)
  o_does v k line p item env slots0 slots t w effect some s h does same = o_pays v k line p item env slots0 slots w effect some s h does same effect.visits 0 t (omega arith)

  -- an effect behind which the slots are these, at the next position
  pub o_gives : {A : Type 0} (st : A → List Slot) (k : Site) (line p : ℕ) (item : Item) (env : Locals) (slots0 slots : List Slot) (t : ℕ) (w : PlainWorld) (effect : Effect A)
      → 1 ≤ K → Sited library k → Has k.context line p item → map (remark (suc p)) k.frame.entries ≡ k.frame.entries → Falls k env slots0 slots
      → Does k p env slots0 w (place_at k.meant line) item effect (λ a w1. go (suc p) (st a) k.frame.entries (at k.frame p env slots0) k.waiting w1)
      → GoesO 0 K (λ a w1. Running 0 (at k.frame (suc p) env (st a)) k.waiting w1) k env slots (Running 0 (at k.frame p env slots0) k.waiting w) t 1 0 (e_does (place_at k.meant line) effect t w)
  o_gives st k line p item env slots0 slots t w effect some s h quiet same does =
      o_map 0 K _ (λ a w1. Running 0 (at k.frame (suc p) env (st a)) k.waiting w1) k env slots _ t 1 0 _ (λ a w1. went k p (suc p) env slots0 (st a) w1 quiet)
      (o_does (λ a w1. go (suc p) (st a) k.frame.entries (at k.frame p env slots0) k.waiting w1) k line p item env slots0 slots t w effect some s h does same)

  -- its value on these slots, and nothing owed
  pub o_prim : (k : Site) (line p : ℕ) (item : Item) (env : Locals) (slots0 slots : List Slot) (t : ℕ) (w : PlainWorld) (effect : Effect Val)
      → 1 ≤ K → Sited library k → Has k.context line p item → map (remark (suc p)) k.frame.entries ≡ k.frame.entries → Falls k env slots0 slots
      → Does k p env slots0 w (place_at k.meant line) item effect (λ u w1. go (suc p) (Value u ∷ slots) k.frame.entries (at k.frame p env slots0) k.waiting w1)
      → GoesO 0 0 (valued k (suc p) env slots) k env slots (Running 0 (at k.frame p env slots0) k.waiting w) t 1 0 (e_does (place_at k.meant line) effect t w)
  o_prim k line p item env slots0 slots t w effect some s h quiet same does =
      o_wide 0 0 K 0 (valued k (suc p) env slots) k env slots _ t 1 1 0 0 _ (omega arith) (omega arith) (omega arith) (omega arith) (o_gives (λ u. Value u ∷ slots) k line p item env slots0 slots t w effect some s h quiet same does)

  -- a step more where there is a value
  pub o_post : {A : Type 0} (spare spare1 owed : ℕ) (v v1 : A → PlainWorld → State) (k : Site) (env : Locals) (slots : List Slot) (s : State) (t x x1 size : ℕ) (r : Out A)
      → suc x + spare1 ≤ x1 + spare → x ≤ x1 → ((a : A) (w : PlainWorld) → step library (v a w) ≡ v1 a w) → GoesO spare owed v k env slots s t x size r → GoesO spare1 owed v1 k env slots s t x1 size r
  o_post spare spare1 owed v v1 k env slots s t x x1 size (EVal a t1 w) xs xw e g =
      g_bind library K _ s (v a w) t t1 t1 spare spare1 owed owed x (suc (spare1)) x1 size owed size (omega arith) (omega arith) g
      (g_step library K _ _ (v1 a w) t1 t1 spare1 owed spare1 owed (e a w) (g_wide library K _ _ t1 t1 0 spare1 0 owed 0 spare1 0 owed (omega arith) (omega arith) (g_here library K _ _ t1 refl)))
  o_post spare spare1 owed v v1 k env slots s t x x1 size (EExc y t1 w) xs xw e g = g_wide library K _ s t t1 0 0 0 0 x x1 size size (omega arith) (omega arith) g
  o_post spare spare1 owed v v1 k env slots s t x x1 size (EOpen w) xs xw e g = g_wide library K _ s t 0 0 0 0 0 x x1 size size (omega arith) (omega arith) g
  o_post spare spare1 owed v v1 k env slots s t x x1 size (EFull f t1 w) xs xw e g = g_wide library K _ s t t1 0 0 0 0 x x1 size size (omega arith) (omega arith) g

  -- an instruction that goes on at a position
  pub o_goes : (L : State → Type 0) (k : Site) (line p q : ℕ) (item : Item) (env : Locals) (slots0 slots : List Slot) (t left1 spare owed x size : ℕ) (w : PlainWorld)
      → Sited library k → Has k.context line p item → map (remark q) k.frame.entries ≡ k.frame.entries
      → item_step library (place_at k.meant line) 0 (at k.frame p env slots0) k.waiting w item ≡ go q slots k.frame.entries (at k.frame p env slots0) k.waiting w
      → GoesIn library K L (Running 0 (at k.frame q env slots) k.waiting w) t left1 spare owed x size
      → GoesIn library K L (Running 0 (at k.frame p env slots0) k.waiting w) t left1 spare owed (suc x) size
  o_goes L k line p q item env slots0 slots t left1 spare owed x size w s h quiet e g =
      g_step library K L _ _ t left1 spare owed x size (stepped library k 0 line p item env slots0 w s h ∙ e ∙ went k p q env slots0 slots w quiet) g
