-- Bytes that are gathered.
use Rattle.std.proofs.Common.{◌≡◌, ℕ, ◌+◌, ◌≤◌, List, [], ◌++◌, length, take, drop, Option, Some, Result, Ok, Err, OnOk, OnErr, IsErr, is_ok, true, false, refl, sym, ap, subst, ◌∙◌, append_assoc, arith, length-take-le, take-add, take-take, take_at, drop_at, take_all, length-drop}
use Rattle.std.proofs.lemmas.List.{append-nil}
use Rattle.std.proofs.lemmas.Simd.{put_chunk_whole}
use Rattle.std.proofs.lemmas.Slice.{take-put_mid}
use borrow.Rule.Slice.PartMut.{put_mid, mid_of}
use lib.Lanes.{chunk, put_chunk}
use Rattle.std.specs.Io.KnownBytes.{Appends}
use Rattle.mpy_io.specs.Told.{AppendsFront}
use Rattle.mpy_io.specs.declared.fault.Failed.{Failed}
use Rattle.mpy_dump.specs.Puts.{Puts}
use Rattle.mpy_dump.specs.Pen.{Gathers}
use Rattle.mpy_dump.proofs.Putting.{Partway, begin, step, stop, done, last, rest_is}

-- an array is written at a place, and a front of it counts
pub added : (at len n : ℕ) (bytes piece : List ℕ) → n ≡ 32 → at + 32 ≤ length bytes → length piece ≡ 32 → len ≤ 32 → take (at + len) (put_mid at n bytes (put_chunk 0 (mid_of at n bytes) (chunk 0 32 piece))) ≡ take at bytes ++ take len piece
added at len n bytes piece e fits long few =
    let mid : length (mid_of at 32 bytes) ≡ 32 = length-take-le 32 (drop at bytes) (omega (arith, fits, length-drop at bytes)) in
    let whole : chunk 0 32 piece ≡ piece = take_all 32 piece (omega (arith, long)) in
    let written : put_chunk 0 (mid_of at 32 bytes) (chunk 0 32 piece) ≡ piece = put_chunk_whole (mid_of at 32 bytes) (chunk 0 32 piece) (omega (arith, mid, ap length whole, long)) ∙ whole in
    let front = length-take-le at bytes (omega (arith, fits)) in
    ap (λ k. take (at + len) (put_mid at k bytes (put_chunk 0 (mid_of at k bytes) (chunk 0 32 piece)))) e
    ∙ (ap (λ (z : List ℕ). take (at + len) (put_mid at 32 bytes z)) written
    ∙ (sym (take-take (at + len) (at + 32) (put_mid at 32 bytes piece) (omega (arith, few)))
    ∙ (ap (take (at + len)) (take-put_mid at 32 bytes piece (at + 32) (omega (arith, long)) (omega (arith, fits)))
    ∙ (take-add at len (take at bytes ++ piece)
    ∙ (λ k. take_at (take at bytes) piece at front k ++ take len (drop_at (take at bytes) piece at front k))))))

-- a text was gathered, and nothing put
pub gathers_held : {S : Type 0} (told : S → Option (List ℕ)) (count : S → ℕ) (s : S) {held text left : List ℕ} {u : Unit {0}} → left ≡ held ++ text → Gathers told count s s held text left (Ok u)
gathers_held told count s {held} {text} e = record {
  front = [];
  rest = held ++ text;
  parts = refl;
  puts = done _ (begin told count s []);
  kept = e;
}

-- what a pen holds behind a put that answers Ok, and behind one that doesn't
pub held_all : (held now text : List ℕ) (r : Result (Unit {0}) Failed) → is_ok r ≡ true → OnOk r (Appends (Some held) (Some now) text) → now ≡ held ++ text
held_all held now text (Ok u) e a = a
held_all held now text (Err f) e a = absurd cc

pub record Front (held now : List ℕ) : Type 0 where
  pub front : List ℕ
  pub is : now ≡ held ++ front

pub held_front : (held now text : List ℕ) (r : Result (Unit {0}) Failed) → is_ok r ≡ false → OnErr r (AppendsFront (Some held) (Some now) text) → Front held now
held_front held now text (Ok u) e a = absurd cc
held_front held now text (Err f) e a = record { front = a.front; is = a.added }

pub cut_back : {held now cut : List ℕ} (mark : ℕ) → Front held now → mark ≡ length held → cut ≡ take mark now → cut ≡ held
cut_back {held} {now} {cut} mark f m e = e ∙ (ap (take mark) f.is ∙ take_at held f.front mark (sym m))

pub on_ok : {A : Type 0} (r : Result (Unit {0}) Failed) → A → OnOk r A
on_ok (Ok u) a = a
on_ok (Err f) a = tt

pub on_err : (A : Type 0) (r : Result (Unit {0}) Failed) → IsErr r → OnOk r A
on_err A (Ok u) e = absurd cc
on_err A (Err f) e = tt

-- more is gathered behind what was
pub gathers_more : {S : Type 0} {told : S → Option (List ℕ)} {count : S → ℕ} {old new : S} {held text left : List ℕ} {u : Unit {0}} (more : List ℕ) {later : List ℕ} → Gathers told count old new held text left (Ok u) → later ≡ left ++ more → Gathers told count old new held (text ++ more) later (Ok u)
gathers_more {S} {told} {count} {old} {new} {held} {text} {left} more {later} q e = record {
  front = q.front;
  rest = q.rest ++ more;
  parts = sym (append_assoc held text more) ∙ (ap (λ (z : List ℕ). z ++ more) q.parts ∙ append_assoc q.front q.rest more);
  puts = q.puts;
  kept = e ∙ ap (λ (z : List ℕ). z ++ more) q.kept;
}

-- one after the other
pub gathers_then : {S : Type 0} {told : S → Option (List ℕ)} {count : S → ℕ} {old now new : S} {held text left more later : List ℕ} {u : Unit {0}} (r : Result (Unit {0}) Failed) → Gathers told count old now held text left (Ok u) → Gathers told count now new left more later r → Gathers told count old new held (text ++ more) later r
gathers_then {S} {told} {count} {old} {now} {new} {held} {text} {left} {more} {later} r p q = record {
  front = p.front ++ q.front;
  rest = q.rest;
  parts = sym (append_assoc held text more) ∙ (ap (λ (z : List ℕ). z ++ more) p.parts
      ∙ (append_assoc p.front p.rest more ∙ (ap (λ (z : List ℕ). p.front ++ (z ++ more)) (sym p.kept)
      ∙ (ap (λ (z : List ℕ). p.front ++ z) q.parts ∙ sym (append_assoc p.front q.front q.rest)))));
  puts = last r (step q.front (begin told count old (p.front ++ q.front)) p.puts) q.puts;
  kept = q.kept;
}

-- what is held goes out, and then the text
pub gathers_all : {S : Type 0} {told : S → Option (List ℕ)} {count : S → ℕ} {old now new : S} {held text left : List ℕ} {u : Unit {0}} (r : Result (Unit {0}) Failed) → Puts told count old now held (Ok u) → Puts told count now new text r → left ≡ [] → Gathers told count old new held text left r
gathers_all {S} {told} {count} {old} {now} {new} {held} {text} {left} (Ok u) p q e = record {
  front = held ++ text;
  rest = [];
  parts = sym (append-nil (held ++ text));
  puts = last (Ok u) (step text (begin told count old (held ++ text)) p) q;
  kept = e;
}
gathers_all {S} {told} {count} {old} {now} {new} {held} {text} {left} (Err f) p q e = record {
  front = held ++ text;
  rest = [];
  parts = sym (append-nil (held ++ text));
  puts = last (Err f) (step text (begin told count old (held ++ text)) p) q;
  kept = tt;
}

-- what is held could not go out
pub gathers_stop : {S : Type 0} {told : S → Option (List ℕ)} {count : S → ℕ} {old new : S} {held left : List ℕ} (text : List ℕ) (r : Result (Unit {0}) Failed) {f : Failed} → IsErr r → Puts told count old new held (Err f) → Gathers told count old new held text left r
gathers_stop text (Ok u) e q = absurd cc
gathers_stop {S} {told} {count} {old} {new} {held} {left} text (Err g) {f} e q = record {
  front = held;
  rest = text;
  parts = refl;
  puts = record { ok = tt; err = q.err; cause = q.cause };
  kept = tt;
}

-- and what was gathered before it could not
pub gathers_stopped : {S : Type 0} {told : S → Option (List ℕ)} {count : S → ℕ} {old new : S} {held text left later : List ℕ} (more : List ℕ) (r : Result (Unit {0}) Failed) {f : Failed} → IsErr r → Gathers told count old new held text left (Err f) → Gathers told count old new held (text ++ more) later r
gathers_stopped more (Ok u) e q = absurd cc
gathers_stopped {S} {told} {count} {old} {new} {held} {text} {left} {later} more (Err g) {f} e q = record {
  front = q.front;
  rest = q.rest ++ more;
  parts = sym (append_assoc held text more) ∙ (ap (λ (z : List ℕ). z ++ more) q.parts ∙ append_assoc q.front q.rest more);
  puts = record { ok = tt; err = q.puts.err; cause = q.puts.cause };
  kept = tt;
}

pub gathers_is : {S : Type 0} {told : S → Option (List ℕ)} {count : S → ℕ} {old new : S} {held text other left : List ℕ} {r : Result (Unit {0}) Failed} → text ≡ other → Gathers told count old new held text left r → Gathers told count old new held other left r
gathers_is {S} {told} {count} {old} {new} {held} {text} {other} {left} {r} e q = subst (λ (z : List ℕ). Gathers told count old new held z left r) e q

-- a text of which a front is gathered in place of put: what is held and the rest are still to be put
pub step_gathered : {S : Type 0} {told : S → Option (List ℕ)} {count : S → ℕ} {old now new : S} {whole held text left : List ℕ} {u : Unit {0}} (rest : List ℕ) → Partway told count old now whole (held ++ (text ++ rest)) → Gathers told count now new held text left (Ok u) → Partway told count old new whole (left ++ rest)
step_gathered {S} {told} {count} {old} {now} {new} {whole} {held} {text} {left} rest p q =
    let parts : held ++ (text ++ rest) ≡ q.front ++ (q.rest ++ rest) =
    sym (append_assoc held text rest) ∙ (ap (λ (z : List ℕ). z ++ rest) q.parts ∙ append_assoc q.front q.rest rest) in
    rest_is (ap (λ (z : List ℕ). z ++ rest) (sym q.kept)) (step (q.rest ++ rest) (rest_is parts p) q.puts)

pub stop_gathered : {S : Type 0} {told : S → Option (List ℕ)} {count : S → ℕ} {old now new : S} {whole held text left : List ℕ} (rest : List ℕ) (r : Result (Unit {0}) Failed) {f : Failed} → IsErr r → Partway told count old now whole (held ++ (text ++ rest)) → Gathers told count now new held text left (Err f) → Puts told count old new whole r
stop_gathered {S} {told} {count} {old} {now} {new} {whole} {held} {text} {left} rest r e p q =
    let parts : held ++ (text ++ rest) ≡ q.front ++ (q.rest ++ rest) =
    sym (append_assoc held text rest) ∙ (ap (λ (z : List ℕ). z ++ rest) q.parts ∙ append_assoc q.front q.rest rest) in
    stop (q.rest ++ rest) r e (rest_is parts p) q.puts
