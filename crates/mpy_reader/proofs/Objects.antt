-- An object by its tag.
use Rattle.std.proofs.Common.{◌≡◌, ℕ, zero, suc, List, Result, Ok, Err, refl, sym, subst}
use Rattle.std.proofs.lemmas.Bool.{ne_eqb}
use Rattle.mpy_base.specs.declared.refused.Refused.{Refused}
use Rattle.mpy_base.specs.declared.refused.Refused.TheVariants as refusals
use Rattle.mpy_tree.specs.declared.module.Constant.{Constant}
use Rattle.mpy_reader.specs.declared.fault.FileFault.{FileFault}
use Rattle.mpy_reader.specs.declared.fault.FileFault.TheVariants.{TooBig, BadObject}
use Rattle.mpy_reader.specs.Reading.{Field, Bind, goes_on, refuse, Gives, byte, tuple, object_by, object}
use Rattle.mpy_reader.proofs.Steps.{onward}

-- a tuple where that number of levels may stand
abbrev pub tuple_in : ℕ → List ℕ → Field Constant
tuple_in zero = λ _. refuse TooBig
tuple_in (suc levels) = tuple (object levels)

pub tag_and_rest : {X : Type 0} (levels : ℕ) (bytes : List ℕ) (view : X → Constant × List ℕ) (r : Result X (Refused FileFault)) → Gives view r (Bind (byte bytes) (λ tag. object_by (tuple_in levels) tag.0 tag.1)) → Gives view r (object levels bytes)
unfolding object
tag_and_rest zero bytes view r h = h
tag_and_rest (suc levels) bytes view r h = h

-- what is read behind a tag
pub tagged : {X : Type 0} (levels : ℕ) (bytes : List ℕ) (view : X → Constant × List ℕ) (r : Result X (Refused FileFault)) (tag k : ℕ) (rest : List ℕ) → byte bytes (Ok (tag, rest)) → tag ≡ k → Gives view r (object_by (tuple_in levels) k rest) → Gives view r (object levels bytes)
tagged levels bytes view r tag k rest h e behind =
    tag_and_rest levels bytes view r (onward (byte bytes) (λ t. object_by (tuple_in levels) t.0 t.1) view r (tag, rest) h
    (subst (λ z. Gives view r (object_by (tuple_in levels) z rest)) (sym e) behind))

abbrev known : Constant → List ℕ → Result (Constant × List ℕ) (Refused FileFault)
known object rest = Ok (object, rest)

-- a tag that says it all
pub tagged_whole : (levels : ℕ) (bytes : List ℕ) (tag k : ℕ) (rest : List ℕ) (constant : Constant) → byte bytes (Ok (tag, rest)) → tag ≡ k → object_by (tuple_in levels) k rest (Ok (constant, rest)) → object levels bytes (Ok (constant, rest))
tagged_whole levels bytes tag k rest constant h e behind = tagged levels bytes (λ x. x) (known constant rest) tag k rest h e behind

pub no_level : (levels : ℕ) (bytes rest : List ℕ) (tag : ℕ) → levels ≡ 0 → byte bytes (Ok (tag, rest)) → tag ≡ 10 → object levels bytes (Err TooBig)
unfolding object object_by
no_level levels bytes rest tag none h e =
    subst (λ z. object z bytes (Err TooBig)) (sym none) (goes_on (10, rest) (subst (λ z. byte bytes (Ok (z, rest))) e h) refl)

pub one_level : {X : Type 0} (levels below : ℕ) (bytes : List ℕ) (view : X → Constant × List ℕ) (r : Result X (Refused FileFault)) (tag : ℕ) (rest : List ℕ) → levels ≡ suc below → byte bytes (Ok (tag, rest)) → tag ≡ 10 → Gives view r (tuple (object below) rest) → Gives view r (object levels bytes)
unfolding object_by
one_level levels below bytes view r tag rest some h e behind =
    subst (λ z. Gives view r (object z bytes)) (sym some) (tagged (suc below) bytes view r tag 10 rest h e behind)

pub other_tag : (levels : ℕ) (bytes rest : List ℕ) (tag : ℕ) → byte bytes (Ok (tag, rest)) → (tag ≡ 1 → ⊥) → (tag ≡ 2 → ⊥) → (tag ≡ 3 → ⊥) → (tag ≡ 5 → ⊥) → (tag ≡ 7 → ⊥) → (tag ≡ 10 → ⊥) → object levels bytes (Err (BadObject tag))
unfolding object_by
other_tag levels bytes rest tag h a b c d e f =
    let none : object_by (tuple_in levels) tag rest (Err (BadObject tag)) = rw (ne_eqb tag 1 a, ne_eqb tag 2 b, ne_eqb tag 3 c, ne_eqb tag 5 d, ne_eqb tag 7 e, ne_eqb tag 10 f) refl in
    let fault : Result (Constant × List ℕ) (Refused FileFault) = Err (refusals.Fault (BadObject tag)) in
    tag_and_rest levels bytes (λ (x : Constant × List ℕ). x) fault (goes_on (tag, rest) h none)
