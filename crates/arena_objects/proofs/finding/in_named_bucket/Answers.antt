use Rattle.std.proofs.Common.{ℕ, length, Option, None, sym, subst}
use Rattle.std.specs.Prelude.{IfSome}
use Rattle.py_values.specs.mpy_base.World.{pairs_at}
use Rattle.arena_objects.specs.Found.{FirstFrom, HasKeyNamed}
use Rattle.arena_objects.specs.PlainKeys.{plain}
use Rattle.arena_objects.proofs.finding.in_named_bucket.Goals as goal

pub returns-in-Some : goal.returns-in-Some
returns-in-Some g c =
    let h = c.args.arena.now in
    let d = c.args.d.cell in
    subst (λ (number : Option ℕ). IfSome c.in_bucket.result (FirstFrom (HasKeyNamed (g.C.Constants.text_of c.args.consts.now) h d (plain c.args.sought) number) (length (pairs_at h d)) 0))
    (sym c.in-Some.is) c.in_bucket.ensures

pub returns-in-None : goal.returns-in-None
returns-in-None g c =
    let h = c.args.arena.now in
    let d = c.args.d.cell in
    let none : Option ℕ = None in
    subst (λ (number : Option ℕ). FirstFrom (HasKeyNamed (g.C.Constants.text_of c.args.consts.now) h d (plain c.args.sought) number) (length (pairs_at h d)) 0 none)
    (sym c.in-None.is) (λ k lo hi is. is)
