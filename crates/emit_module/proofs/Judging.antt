-- The first fault of a source, and that there is one at most.
use Rattle.std.proofs.Common.{◌≡◌, ℕ, suc, ◌+◌, false, List, [], ◌++◌, length, map, Some, None, refl, sym, ap, ap₂, ◌∙◌, subst, arith, inl, inr}
use Rattle.std.specs.Prelude.{Result, Ok, Err, IfOk, IfErr, ◌⊎◌}
use Rattle.mpy_base.specs.declared.source.SourceFault.{SourceFault}
use Rattle.mpy_base.specs.declared.refused.Refused.{Refused}
use Rattle.mpy_base.specs.declared.refused.Refused.TheVariants.{Fault, NoMemory}
use Rattle.tr_source.specs.py_meaning.Tree.{Block}
use Rattle.tr_source.specs.py_meaning.Plain.{Part}
use Rattle.tr_source.specs.py_meaning.Program.{Source, Text}
use Rattle.emit_measures.specs.bc_scheme.Translation.{own}
use Rattle.emit_measures.specs.Lengths.{text_length}
use Rattle.emit_measures.specs.Wide.{wide_length}
use Rattle.emit_stmt.specs.emit_draft.declared.draft.Draft.{Draft}
use Rattle.emit_stmt.specs.emit_draft.declared.scope.Scope.{Scope}
use Rattle.emit_stmt.specs.emit_draft.Draft.{Labels}
use Rattle.emit_stmt.specs.emit_draft.Emits.{line_at}
use Rattle.emit_measures.specs.declared.faults.Measures.{Measures}
use Rattle.emit_measures.specs.Limits.{saturated}
use Rattle.emit_measures.specs.Faults.{fault_of}
use Rattle.emit_stmt.specs.emit_draft.Children.{starts, sizes, AllCount}
use Rattle.emit_stmt.specs.Text.{EmitsText}
use Rattle.emit_module.specs.Counted.{HasLength, on_draft, on_tree, AreCounted, IsFine, IsBroken}
use Rattle.emit_module.specs.First.{Site, AreCounts, IsWithin, HasFault, AllWithin, no_text, one_within, FirstFault, later, AreWithin, IsFirstFault}
use Rattle.emit_module.specs.First as first
use Rattle.emit_module.specs.Walk.{Forest, bare, grow, size, AreFine, Breaks, here, inside, behind}
use Rattle.emit_module.proofs.Plants.{flat, sites_at, texts_at, length_flat}
use Rattle.emit_module.proofs.Trees.{count_left, count_right}

-- ---- one text

abbrev pub LengthLaw : Type 0
LengthLaw = (draft : Draft) (level : ℕ) (scope : Scope) (text : Part Block) (n first : ℕ) → EmitsText draft level scope text → draft.crowded ≡ false
    → own (text.make n) ≡ starts first (sizes (text.make n)) → (labels : Labels) → wide_length (map (line_at labels) draft.lines) ≡ text_length scope.locals level (text.make n)

length_is : LengthLaw → (text : Text) (first m : ℕ) → own text.body ≡ starts first (sizes text.body) → HasLength text m → m ≡ saturated (text_length text.locals text.level text.body)
length_is law text first m counted (on_tree e) = e
length_is law text first m counted (on_draft d) =
    let part_counted : own (d.part.make d.first) ≡ starts first (sizes (d.part.make d.first)) = subst (λ (z : Block). own z ≡ starts first (sizes z)) d.body counted in
    let e = law d.draft text.level d.scope d.part d.first first d.emitted d.roomy part_counted [] in
    d.is [] ∙ ap (λ z. saturated z) (e ∙ ap (λ z. text_length z text.level (d.part.make d.first)) d.locals ∙ ap (λ z. text_length text.locals text.level z) (sym d.body))

counts_are : LengthLaw → {site : Site} {text : Text} {m : Measures} (first : ℕ) → own text.body ≡ starts first (sizes text.body) → AreCounted site text m → AreCounts site text m
counts_are law {text = text} {m = m} first counted a = record { numbers = a.numbers; length = length_is law text first m.length counted a.length; depth = a.depth; crowded = a.crowded }

pub within_is : LengthLaw → {site : Site} {text : Text} (first : ℕ) → own text.body ≡ starts first (sizes text.body) → IsFine site text → IsWithin site text
within_is law first counted h = record { counts = h.counts; are_counts = counts_are law first counted h.are_counts; none = h.none }

pub fault_is : LengthLaw → {site : Site} {text : Text} {fault : SourceFault} (first : ℕ) → own text.body ≡ starts first (sizes text.body) → IsBroken site text fault → HasFault site text fault
fault_is law first counted h = record { counts = h.counts; are_counts = counts_are law first counted h.are_counts; code = h.code; line = h.line; word = h.word }

-- ---- all texts

within_on : {xs ys : List Site} {ts us : List Text} → AllWithin xs ts → AllWithin ys us → AllWithin (xs ++ ys) (ts ++ us)
within_on no_text k = k
within_on (one_within h a) k = one_within h (within_on a k)

first_left : {xs : List Site} {ts : List Text} {fault : SourceFault} (ys : List Site) (us : List Text) → FirstFault xs ts fault → FirstFault (xs ++ ys) (ts ++ us) fault
first_left ys us (first.here h) = first.here h
first_left ys us (later h a) = later h (first_left ys us a)

first_right : {xs ys : List Site} {ts us : List Text} {fault : SourceFault} → AllWithin xs ts → FirstFault ys us fault → FirstFault (xs ++ ys) (ts ++ us) fault
first_right no_text k = k
first_right (one_within h a) k = later h (first_right a k)

inner_counts : (n : ℕ) (inner others : Forest) → AllCount (suc (suc n)) (flat inner ++ flat others) → AllCount (suc (suc n)) (flat inner)
inner_counts n inner others h = count_left (suc (suc n)) (flat inner) (flat others) h

other_counts : (n : ℕ) (inner others : Forest) → AllCount (suc (suc n)) (flat inner ++ flat others) → AllCount (suc (suc (n + size inner))) (flat others)
other_counts n inner others h =
    let len = length_flat inner in
    let number : suc (suc n) + length (flat inner) ≡ suc (suc (n + size inner)) = omega (arith, len) in
    subst (λ z. AllCount z (flat others)) number (count_right (suc (suc n)) (flat inner) (flat others) h)

pub all_within : LengthLaw → (source : Source) (depth n : ℕ) (f : Forest) → AllCount (suc n) (flat f) → AreFine source depth n f → AllWithin (sites_at depth f) (texts_at source n f)
all_within law source depth n bare c h = no_text
all_within law source depth n (grow line f inner others) c h =
    one_within (within_is law (suc (suc n)) c.0 h.0)
    (within_on (all_within law source (suc depth) (suc n) inner (inner_counts n inner others c.1) h.1) (all_within law source depth (suc (n + size inner)) others (other_counts n inner others c.1) h.2))

pub first_fault : LengthLaw → {source : Source} {depth n : ℕ} {f : Forest} {fault : SourceFault} → AllCount (suc n) (flat f) → Breaks source depth n f fault → FirstFault (sites_at depth f) (texts_at source n f) fault
first_fault law {n = n} c (here h) = first.here (fault_is law (suc (suc n)) c.0 h)
first_fault law {source = source} {depth = depth} {n = n} c (inside {inner = inner} {others = others} h b) =
    later (within_is law (suc (suc n)) c.0 h)
    (first_left (sites_at depth others) (texts_at source (suc (n + size inner)) others) (first_fault law (inner_counts n inner others c.1) b))
first_fault law {source = source} {depth = depth} {n = n} c (behind {inner = inner} {others = others} h a b) =
    later (within_is law (suc (suc n)) c.0 h)
    (first_right (all_within law source (suc depth) (suc n) inner (inner_counts n inner others c.1) a) (first_fault law (other_counts n inner others c.1) b))

-- ---- one fault at most

fault_same : (m k : Measures) → m.length ≡ k.length → m.locals ≡ k.locals → m.params ≡ k.params → m.height ≡ k.height → m.entries ≡ k.entries → m.depth ≡ k.depth → m.crowded ≡ k.crowded → fault_of m ≡ fault_of k
fault_same m k length locals params height entries depth crowded = cc

counts_same : {site : Site} {text : Text} (m k : Measures) → AreCounts site text m → AreCounts site text k → fault_of m ≡ fault_of k
counts_same m k a b =
    fault_same m k (a.length ∙ sym b.length) (a.numbers.locals ∙ sym b.numbers.locals) (a.numbers.params ∙ sym b.numbers.params) (a.numbers.height ∙ sym b.numbers.height)
    (a.numbers.entries ∙ sym b.numbers.entries) (a.depth ∙ sym b.depth) (a.crowded ∙ sym b.crowded)

not_both : {P : Type 0} {site : Site} {text : Text} {fault : SourceFault} → IsWithin site text → HasFault site text fault → P
not_both {fault = fault} w h = let e : None ≡ Some fault.code = sym w.none ∙ counts_same w.counts h.counts w.are_counts h.are_counts ∙ h.code in cc

one_fault : {site : Site} {text : Text} (f g : SourceFault) → HasFault site text f → HasFault site text g → f ≡ g
one_fault f g x y =
    let e : Some f.code ≡ Some g.code = sym x.code ∙ counts_same x.counts y.counts x.are_counts y.are_counts ∙ y.code in
    let code : f.code ≡ g.code = cc in
    ap₂ (λ a b. record { code = a; line = b; word = f.word }) code (x.line ∙ sym y.line) ∙ ap (λ a. record { code = g.code; line = g.line; word = a }) (x.word ∙ sym y.word)

pub none_first : {P : Type 0} {sites : List Site} {texts : List Text} {fault : SourceFault} → AllWithin sites texts → FirstFault sites texts fault → P
none_first no_text k = elim k [ ]
none_first (one_within h a) (first.here k) = not_both h k
none_first (one_within h a) (later k b) = none_first a b

pub one_first : {sites : List Site} {texts : List Text} (f g : SourceFault) → FirstFault sites texts f → FirstFault sites texts g → f ≡ g
one_first f g (first.here h) (first.here k) = one_fault f g h k
one_first f g (first.here h) (later k b) = not_both k h
one_first f g (later h a) (first.here k) = not_both h k
one_first f g (later h a) (later k b) = one_first f g a b

pub no_fault : {A : Type 0} (source : Source) (r : Result A (Refused SourceFault)) → ((fault : SourceFault) → r ≡ Err (Fault fault) → IsFirstFault source fault) → AreWithin source → IfErr r (λ refusal. refusal ≡ NoMemory)
no_fault source (Ok whole) faults within = tt
no_fault source (Err (Fault fault)) faults within = none_first within (faults fault refl)
no_fault source (Err NoMemory) faults within = refl

pub that_fault : {A : Type 0} (source : Source) (r : Result A (Refused SourceFault)) → IfOk r (λ whole. AreWithin source) → ((fault : SourceFault) → r ≡ Err (Fault fault) → IsFirstFault source fault)
    → (fault : SourceFault) → IsFirstFault source fault → (r ≡ Err (Fault fault)) ⊎ (r ≡ Err NoMemory)
that_fault source (Ok whole) within faults fault is = none_first within is
that_fault source (Err (Fault f)) within faults fault is = inl (ap (λ z. Err (Fault z)) (one_first f fault (faults f refl) is))
that_fault source (Err NoMemory) within faults fault is = inr refl
