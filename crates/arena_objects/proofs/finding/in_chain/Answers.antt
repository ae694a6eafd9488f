use Rattle.std.proofs.Common.{ℕ, suc, ◌-◌, ◌≡◌, length, true, false, refl, subst, arith}
use Rattle.py_values.specs.mpy_base.World.{pairs_at}
use Rattle.arena_heap.specs.Links.{IsLast, buckets_at}
use Rattle.arena_objects.specs.Found.{FirstFrom, HasKeyIn}
use Rattle.arena_objects.specs.PlainKeys.{plain}
use Rattle.arena_objects.proofs.Following.{first_start, first_found, first_passed}
use Rattle.arena_objects.proofs.finding.in_chain.Goals as goal

pub loop-end-init : goal.loop-end-init
loop-end-init g c =
    let h = c.args.arena.now in
    let d = c.args.d.cell in (
      c.requires.within,
      λ bucket last. (
        last.there,
        first_start (HasKeyIn (g.C.Constants.text_of c.args.consts.now) h d (plain c.args.sought) bucket) (buckets_at h d) bucket (length (pairs_at h d)) (λ k is. is.1) c.args.last last,
      ),
    )

pub dict_before-requires-clause-within : goal.dict_before-requires-clause-within
dict_before-requires-clause-within g c = omega (arith, c.loop-end.invariant.0)

pub has_key-requires-clause-within : goal.has_key-requires-clause-within
has_key-requires-clause-within g c = omega (arith, c.loop-end.invariant.0)

pub loop-end-preserved-then-has_key : goal.loop-end-preserved-then-has_key
loop-end-preserved-then-has_key g c =
    let h = c.args.arena.now in
    let d = c.args.d.cell in
    let len = length (pairs_at h d) in
    let was = c.loop-end.invariant in
    let at : ℕ = c.loop-end.end - 1 in
    let next : ℕ = c.in_ok-front.front in
    let before : IsLast (buckets_at h d) (buckets_at h d at) at next = c.in_ok-front.ensures in
    let behind : c.loop-end.end ≡ suc at = omega arith in
    let within = before.within in (
      omega (arith, was.0),
      λ bucket first_last.
          let Holds : ℕ → Type 0 = HasKeyIn (g.C.Constants.text_of c.args.consts.now) h d (plain c.args.sought) bucket in
          let both = was.1 bucket first_last in
          let same = both.0 at behind in
          let last : IsLast (buckets_at h d) bucket at next = subst (λ b. IsLast (buckets_at h d) b at next) same before in
          let first : FirstFrom Holds len (suc at) c.loop-end.found = subst (λ from. FirstFrom Holds len from c.loop-end.found) behind both.1 in (
            last.there,
            first_found Holds (buckets_at h d) bucket len (λ k is. is.1) at next last (omega (arith, was.0)) (c.if-has_key.ensures.0 refl, same),
          ),
    )

pub loop-end-preserved : goal.loop-end-preserved
loop-end-preserved g c =
    let h = c.args.arena.now in
    let d = c.args.d.cell in
    let len = length (pairs_at h d) in
    let was = c.loop-end.invariant in
    let at : ℕ = c.loop-end.end - 1 in
    let next : ℕ = c.in_ok-front.front in
    let before : IsLast (buckets_at h d) (buckets_at h d at) at next = c.in_ok-front.ensures in
    let behind : c.loop-end.end ≡ suc at = omega arith in
    let within = before.within in (
      omega (arith, was.0),
      λ bucket first_last.
          let Holds : ℕ → Type 0 = HasKeyIn (g.C.Constants.text_of c.args.consts.now) h d (plain c.args.sought) bucket in
          let both = was.1 bucket first_last in
          let same = both.0 at behind in
          let last : IsLast (buckets_at h d) bucket at next = subst (λ b. IsLast (buckets_at h d) b at next) same before in
          let first : FirstFrom Holds len (suc at) c.loop-end.found = subst (λ from. FirstFrom Holds len from c.loop-end.found) behind both.1 in (
            last.there,
            first_passed Holds (buckets_at h d) bucket len (λ k is. is.1) at next c.loop-end.found last (λ is. let never : false ≡ true = c.if-has_key.ensures.1 is.0 in cc) first,
          ),
    )

pub loop-end-smaller : goal.loop-end-smaller
loop-end-smaller g c = let within = c.in_ok-front.ensures.within in omega arith

pub returns : goal.returns
returns g c =
    let h = c.args.arena.now in
    let d = c.args.d.cell in
    let none : c.loop-end.end ≡ 0 = omega arith in
    λ bucket last.
    subst (λ from. FirstFrom (HasKeyIn (g.C.Constants.text_of c.args.consts.now) h d (plain c.args.sought) bucket) (length (pairs_at h d)) from c.loop-end.found) none (c.loop-end.invariant.1 bucket last).1
