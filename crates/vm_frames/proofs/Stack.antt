-- The calls of a stack whose frames change.
use Rattle.std.proofs.Common.{◌≡◌, ℕ, zero, suc, ◌+◌, ◌-◌, ◌<◌, ◌≤◌, List, [], ◌∷◌, length, get_or, drop, reverse, Some, refl, sym, ap, ◌∙◌, subst, arith}
use Rattle.std.proofs.Math.ListN.{set}
use Rattle.std.specs.Prelude.{slice_get}
use Rattle.std.proofs.lemmas.List.{get_or-set_same, get_or-set_other, get_or_default, get_or-reverse, length-reverse}
use Rattle.std.proofs.lemmas.Option.{slice_get-get_or}
use Rattle.arrayvec.specs.ArrayVec.{ArrayVec}
use Rattle.vm_frames.specs.Calls.{Call, Calls, OfRunning, change_first, on_running}
use Rattle.vm_frames.specs.Held.{Held, with_call}
use Rattle.vm_frames.specs.Stacked.{no_call, no_frame, calls_in, calls_of, IsFrames}
use Rattle.vm_frames.specs.declared.frames.Frames.TheInside.{Inside}

pub length_calls : (top : Held) (xs : List Held) (d : ℕ) → length (calls_in top xs d) ≡ d
length_calls top xs zero = refl
length_calls top xs (suc d) = ap suc (length_calls (get_or xs d no_frame) xs d)

pub depth_is : (f : Inside) (old : Calls) → calls_of f ≡ old → length old.calls ≡ f.depth
depth_is f old e = ap (λ (z : Calls). length z.calls) (sym e) ∙ length_calls f.top f.frames.items f.depth

pub some_call : (P : Call → Type 0) (cs : List Call) → OfRunning P cs → 0 < length cs
some_call P [] h = absurd h
some_call P (c ∷ cs) h = omega arith

-- the depth, where a call runs
pub one_deep : (f : Inside) (old : Calls) → calls_of f ≡ old → 0 < length old.calls → f.depth ≡ suc (f.depth - 1)
one_deep f old e some =
    let deep = depth_is f old e in
    omega (arith, some, deep)

-- frames below the one that changes stay
below : (top : Held) (xs : List Held) (i d : ℕ) (f : Held) → d ≤ i → calls_in top (set xs i f) d ≡ calls_in top xs d
below top xs i zero f h = refl
below top xs i (suc d) f h =
    let n : d ≡ i → ⊥ = λ e. omega (arith, h, e) in
    let l : d ≤ i = omega (arith, h) in
    ap (λ (z : Held). top.call ∷ calls_in z (set xs i f) d) (get_or-set_other xs i d f no_frame n) ∙ ap (λ (z : List Call). top.call ∷ z) (below (get_or xs d no_frame) xs i d f l)

one_more : (xs : List Held) (d : ℕ) (top new : Held) → d < length xs → calls_in new (set xs d top) (suc d) ≡ new.call ∷ calls_in top xs d
one_more xs d top new h =
    ap (λ (z : Held). new.call ∷ calls_in z (set xs d top) d) (get_or-set_same xs d top no_frame h)
    ∙ ap (λ (z : List Call). new.call ∷ z) (below top xs d d top (omega arith))

-- the running frame waits, and another one runs
pub begun : (f : Inside) (old : Calls) (new waits : Held) (fs : ArrayVec Held) (c : Call) → calls_of f ≡ old → f.depth < length f.frames.items
    → fs.items ≡ set f.frames.items f.depth waits → waits ≡ f.top → new.call ≡ c
    → calls_of (record f { top = new; frames = fs; depth = f.depth + 1 }) ≡ record old { calls = c ∷ old.calls }
begun f old new waits fs c e h stored w n =
    let all : Calls = calls_of f in
    let F : List Call → Calls = λ z. record all { calls = z } in
    let xs = f.frames.items in
    let k : f.depth + 1 ≡ suc f.depth = omega arith in
    ap F (ap (calls_in new fs.items) k ∙ (ap (λ (zs : List Held). calls_in new zs (suc f.depth)) stored
    ∙ (one_more xs f.depth waits new h ∙ (ap (λ (z : Held). new.call ∷ calls_in z xs f.depth) w ∙ ap (λ (z : Call). z ∷ calls_in f.top xs f.depth) n))))
    ∙ ap (λ (z : Calls). record z { calls = c ∷ z.calls }) e

-- the frame that waits innermost runs
pub ended : (f : Inside) (old : Calls) (x y spare : Held) (fs : ArrayVec Held) → IsFrames f → calls_of f ≡ old → 0 < length old.calls
    → fs.items ≡ set f.frames.items (f.depth - 1) spare → y ≡ get_or f.frames.items (f.depth - 1) y → x ≡ y
    → calls_of (record f { top = x; frames = fs; depth = f.depth - 1 }) ≡ record old { calls = drop 1 old.calls }
ended f old x y spare fs inv e some stored at same =
    let all : Calls = calls_of f in
    let F : List Call → Calls = λ z. record all { calls = z } in
    let xs = f.frames.items in
    let k = one_deep f old e some in
    let deep = inv.deep in
    let many = inv.all in
    let h : f.depth - 1 < length xs = omega (arith, k, deep, many) in
    let is : x ≡ get_or xs (f.depth - 1) no_frame = same ∙ (at ∙ get_or_default xs (f.depth - 1) y no_frame h) in
    ap F (ap (λ (zs : List Held). calls_in x zs (f.depth - 1)) stored ∙ (below x xs (f.depth - 1) (f.depth - 1) spare (omega arith)
    ∙ (ap (λ (z : Held). calls_in z xs (f.depth - 1)) is ∙ ap (λ (n : ℕ). drop 1 (calls_in f.top xs n)) (sym k))))
    ∙ ap (λ (z : Calls). record z { calls = drop 1 z.calls }) e

-- the running frame has changed
pub changed : (f : Inside) (old : Calls) (new : Held) (change : Call → Call) → calls_of f ≡ old → 0 < length old.calls → new ≡ with_call f.top (change f.top.call)
    → calls_of (record f { top = new }) ≡ on_running change old
changed f old new change e some n =
    let all : Calls = calls_of f in
    let F : List Call → Calls = λ z. record all { calls = z } in
    let xs = f.frames.items in
    let k = one_deep f old e some in
    ap F (ap (calls_in new xs) k
    ∙ (ap (λ (z : Held). z.call ∷ calls_in (get_or xs (f.depth - 1) no_frame) xs (f.depth - 1)) n ∙ ap (λ (m : ℕ). change_first change (calls_in f.top xs m)) (sym k)))
    ∙ ap (on_running change) e

-- what holds of the running frame's call holds of the running call
pub at_running : (P : Call → Type 0) (f : Inside) (old : Calls) → calls_of f ≡ old → 0 < length old.calls → P f.top.call → OfRunning P old.calls
at_running P f old e some p =
    let xs = f.frames.items in
    let k = one_deep f old e some in
    let here : OfRunning P (calls_in f.top xs (suc (f.depth - 1))) = p in
    subst (λ (z : Calls). OfRunning P z.calls) e (subst (λ (m : ℕ). OfRunning P (calls_in f.top xs m)) (sym k) here)

-- the calls, the outermost first, are those of the frames from place 1 on, and the running one
at_calls : (top : Held) (xs : List Held) (d j : ℕ) → suc j < d → get_or (calls_in top xs d) (suc j) no_call ≡ (get_or xs (d - 1 - j) no_frame).call
at_calls top xs zero j lt = absurd (omega (arith, lt))
at_calls top xs (suc zero) j lt = absurd (omega (arith, lt))
at_calls top xs (suc (suc d)) zero lt = let e : suc d ≡ suc (suc d) - 1 - 0 = omega arith in ap (λ (n : ℕ). (get_or xs n no_frame).call) e
at_calls top xs (suc (suc d)) (suc j) lt =
    let e : suc d - 1 - j ≡ suc (suc d) - 1 - suc j = omega arith in
    at_calls (get_or xs (suc d) no_frame) xs (suc d) j (omega (arith, lt)) ∙ ap (λ (n : ℕ). (get_or xs n no_frame).call) e

at_first : (top : Held) (xs : List Held) (d : ℕ) → 0 < d → get_or (calls_in top xs d) 0 no_call ≡ top.call
at_first top xs zero h = absurd (omega (arith, h))
at_first top xs (suc d) h = refl

pub waits_at : (f : Inside) (old : Calls) (i : ℕ) (x : Held) → IsFrames f → calls_of f ≡ old → i + 1 < f.depth → x ≡ get_or f.frames.items (i + 1) x → slice_get (reverse old.calls) i ≡ Some x.call
waits_at f old i x inv e lt is =
    let xs = f.frames.items in
    let cs = calls_in f.top xs f.depth in
    let len = length_calls f.top xs f.depth in
    let turned = length-reverse cs in
    let deep = inv.deep in
    let many = inv.all in
    let within : i < length (reverse cs) = omega (arith, lt, len, turned) in
    let inside : i < length cs = omega (arith, lt, len) in
    let place : length cs - 1 - i ≡ suc (f.depth - 2 - i) = omega (arith, lt, len) in
    let here : suc (f.depth - 2 - i) < f.depth = omega (arith, lt) in
    let back : f.depth - 1 - (f.depth - 2 - i) ≡ i + 1 = omega (arith, lt) in
    let there : i + 1 < length xs = omega (arith, lt, deep, many) in
    ap (λ (z : Calls). slice_get (reverse z.calls) i) (sym e)
    ∙ (slice_get-get_or (reverse cs) i no_call within
    ∙ ap (λ (c : Call). Some c) (get_or-reverse cs i no_call inside ∙ (ap (λ (n : ℕ). get_or cs n no_call) place
    ∙ (at_calls f.top xs f.depth (f.depth - 2 - i) here
    ∙ (ap (λ (n : ℕ). (get_or xs n no_frame).call) back ∙ ap (λ (z : Held). z.call) (sym (is ∙ get_or_default xs (i + 1) x no_frame there)))))))

pub runs_at : (f : Inside) (old : Calls) (i : ℕ) → calls_of f ≡ old → i < length old.calls → f.depth ≤ i + 1 → slice_get (reverse old.calls) i ≡ Some f.top.call
runs_at f old i e lt le =
    let xs = f.frames.items in
    let cs = calls_in f.top xs f.depth in
    let len = length_calls f.top xs f.depth in
    let turned = length-reverse cs in
    let deep = depth_is f old e in
    let within : i < length (reverse cs) = omega (arith, lt, deep, len, turned) in
    let inside : i < length cs = omega (arith, lt, deep, len) in
    let place : length cs - 1 - i ≡ 0 = omega (arith, le, len) in
    let some : 0 < f.depth = omega (arith, lt, deep) in
    ap (λ (z : Calls). slice_get (reverse z.calls) i) (sym e)
    ∙ (slice_get-get_or (reverse cs) i no_call within
    ∙ ap (λ (c : Call). Some c) (get_or-reverse cs i no_call inside ∙ (ap (λ (n : ℕ). get_or cs n no_call) place ∙ at_first f.top xs f.depth some)))
