-- A code by the levels that may stand there.
use Rattle.std.proofs.Common.{◌≡◌, ℕ, suc, Bool, true, false, List, [], Result, Ok, Err, refl, sym, subst}
use Rattle.mpy_base.specs.declared.refused.Refused.{Refused}
use Rattle.mpy_tree.specs.declared.raw.RawCode.{RawCode}
use Rattle.mpy_reader.specs.declared.fault.FileFault.{FileFault}
use Rattle.mpy_reader.specs.declared.fault.FileFault.TheVariants.{TooBig}
use Rattle.mpy_reader.specs.Reading.{Field, Bind, count, many, children, code, element, Gives}

abbrev pub known : RawCode → List ℕ → Result (RawCode × List ℕ) (Refused FileFault)
known found rest = Ok (found, rest)

pub no_level : (levels texts : ℕ) (bytes : List ℕ) → levels ≡ 0 → code levels texts bytes (Err TooBig)
unfolding code
no_level levels texts bytes none = subst (λ z. code z texts bytes (Err TooBig)) (sym none) refl

pub one_level : {X : Type 0} (levels below texts : ℕ) (bytes : List ℕ) (view : X → RawCode × List ℕ) (r : Result X (Refused FileFault)) → levels ≡ suc below → Gives view r (element (code below texts) texts bytes) → Gives view r (code levels texts bytes)
unfolding code
one_level levels below texts bytes view r some h = subst (λ z. Gives view r (code z texts bytes)) (sym some) h

pub some_children : {X : Type 0} (inner : List ℕ → Field RawCode) (has_some : Bool) (bytes : List ℕ) (view : X → List RawCode × List ℕ) (r : Result X (Refused FileFault)) → has_some ≡ true → Gives view r (Bind (count bytes) (λ n. many n.0 inner n.1)) → Gives view r (children inner has_some bytes)
unfolding children
some_children inner has_some bytes view r e h = subst (λ z. Gives view r (children inner z bytes)) (sym e) h

pub no_children : (inner : List ℕ → Field RawCode) (has_some : Bool) (bytes : List ℕ) → has_some ≡ false → children inner has_some bytes (Ok ([], bytes))
unfolding children
no_children inner has_some bytes e = subst (λ z. children inner z bytes (Ok ([], bytes))) (sym e) refl
