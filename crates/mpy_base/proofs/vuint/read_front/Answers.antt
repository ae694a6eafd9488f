use Rattle.std.proofs.Common.{◌≡◌, ◌+◌, ◌*◌, take, drop, length, All, refl, subst, arith}
use Rattle.std.proofs.lemmas.List.{take_all}
use Rattle.mpy_base.specs.Vuint.{HasMore}
use Rattle.mpy_base.proofs.Groups.{groups_at, length_taken, rejoins, only_one, too_big_at, five_more, not_past, not_inside, not_both}
use Rattle.mpy_base.proofs.vuint.read_front.Goals as goal

pub returns-then-i-eq-MAX_BYTES-clause-only : goal.returns-then-i-eq-MAX_BYTES-clause-only
returns-then-i-eq-MAX_BYTES-clause-only c text rest n s e =
    absurd (not_past c.args.bytes.now text rest n s e (five_more c.args.bytes.now c.loop-i.i c.loop-i.invariant.few (omega arith) (omega arith) c.loop-i.invariant.more))

pub returns-then-value-lt-LIMIT-clause-found : goal.returns-then-value-lt-LIMIT-clause-found
returns-then-value-lt-LIMIT-clause-found c =
    let bytes = c.args.bytes.now in
    let i = c.loop-i.i in
    let g = groups_at bytes i (128 * c.loop-i.value + c.from.result) (omega arith) (omega arith) c.loop-i.invariant.more (omega arith) (omega arith) in
    (take (i + 1) bytes, drop (i + 1) bytes, record { groups = g; small = omega arith }, rejoins bytes (i + 1), length_taken bytes i (omega arith))

pub returns-then-value-lt-LIMIT-clause-only : goal.returns-then-value-lt-LIMIT-clause-only
returns-then-value-lt-LIMIT-clause-only c text rest n s e =
    let bytes = c.args.bytes.now in
    let i = c.loop-i.i in
    let g = groups_at bytes i (128 * c.loop-i.value + c.from.result) (omega arith) (omega arith) c.loop-i.invariant.more (omega arith) (omega arith) in
    let same = only_one bytes text rest (128 * c.loop-i.value + c.from.result) n i (omega arith) g s.groups e in
    let number : 128 * c.loop-i.value + c.from.result ≡ n = same.0 in
    let place : i + 1 ≡ length text = same.1 in
    cc

pub returns-then-value-lt-LIMIT-clause-too_big : goal.returns-then-value-lt-LIMIT-clause-too_big
returns-then-value-lt-LIMIT-clause-too_big c =
    let bytes = c.args.bytes.now in
    let i = c.loop-i.i in
    let g = groups_at bytes i (128 * c.loop-i.value + c.from.result) (omega arith) (omega arith) c.loop-i.invariant.more (omega arith) (omega arith) in
    (λ h. cc, λ past. absurd (not_past bytes (take (i + 1) bytes) (drop (i + 1) bytes) (128 * c.loop-i.value + c.from.result) (record { groups = g; small = omega arith }) (rejoins bytes (i + 1)) past))

pub returns-else-value-lt-LIMIT-clause-only : goal.returns-else-value-lt-LIMIT-clause-only
returns-else-value-lt-LIMIT-clause-only c text rest n s e =
    let bytes = c.args.bytes.now in
    let i = c.loop-i.i in
    let g = groups_at bytes i (128 * c.loop-i.value + c.from.result) (omega arith) (omega arith) c.loop-i.invariant.more (omega arith) (omega arith) in
    absurd (not_past bytes text rest n s e (too_big_at bytes i (128 * c.loop-i.value + c.from.result) g (omega arith)))

pub returns-else-value-lt-LIMIT-clause-too_big : goal.returns-else-value-lt-LIMIT-clause-too_big
returns-else-value-lt-LIMIT-clause-too_big c =
    let bytes = c.args.bytes.now in
    let i = c.loop-i.i in
    let g = groups_at bytes i (128 * c.loop-i.value + c.from.result) (omega arith) (omega arith) c.loop-i.invariant.more (omega arith) (omega arith) in
    (λ _. too_big_at bytes i (128 * c.loop-i.value + c.from.result) g (omega arith), λ _. refl)

pub returns-then-bytes-lt-MAX_BYTES-clause-only : goal.returns-then-bytes-lt-MAX_BYTES-clause-only
returns-then-bytes-lt-MAX_BYTES-clause-only c text rest n s e =
    let bytes = c.args.bytes.now in
    let more = subst (All HasMore) (take_all c.loop-i.i bytes (omega arith)) c.loop-i.invariant.more in
    absurd (not_inside bytes text rest n s.groups e (record { more = more; short = omega arith }))

pub returns-then-bytes-lt-MAX_BYTES-clause-too_big : goal.returns-then-bytes-lt-MAX_BYTES-clause-too_big
returns-then-bytes-lt-MAX_BYTES-clause-too_big c =
    let bytes = c.args.bytes.now in
    let more = subst (All HasMore) (take_all c.loop-i.i bytes (omega arith)) c.loop-i.invariant.more in
    (λ h. cc, λ past. absurd (not_both bytes (record { more = more; short = omega arith }) past))

pub returns-else-bytes-lt-MAX_BYTES-clause-only : goal.returns-else-bytes-lt-MAX_BYTES-clause-only
returns-else-bytes-lt-MAX_BYTES-clause-only c text rest n s e =
    absurd (not_past c.args.bytes.now text rest n s e (five_more c.args.bytes.now c.loop-i.i c.loop-i.invariant.few (omega arith) (omega arith) c.loop-i.invariant.more))
