-- What the code's readers ensure, from the laws of the reading functions.
use Rattle.std.proofs.Common.{◌≡◌, ℕ, ◌≤◌, List, Result, Ok, Err, sym, ap, ◌∙◌}
use Rattle.mpy_base.specs.declared.refused.Refused.{Refused}
use Rattle.mpy_base.specs.declared.refused.Refused.TheVariants as refused
use Rattle.py_tokens.specs.declared.token.Token.{Token}
use Rattle.py_expressions.specs.declared.cursor.Cursor.{Cursor}
use Rattle.py_expressions.specs.declared.cursor.Syntax.{Syntax}
use Rattle.py_expressions.specs.Input.{Input, input_of, Parser, Reads}
use Rattle.py_expressions.specs.Follow.{rank}
use Rattle.py_expressions.specs.Laws.{input, Sound, Complete, Fails, IsFound, IsRead, NamesFront}
use Rattle.py_expressions.proofs.Steps.{done, done_is, no_err}

pub found : {C A : Type 0} (text : C → List Token → List Token) (tree : C → A) (p : Parser A) → Sound text tree p → (old : Cursor) (r : Result A (Refused Syntax)) (new : Cursor) → Reads (p (input_of old)) r new → IsFound text tree old r new
found text tree p sound old (Ok x) new e = sound (input_of old) x (input_of new) e
found text tree p sound old (Err f) new e = tt

pub is_read : {A : Type 0} (p : Parser A) (x : A) (rest : List Token) (old : Cursor) (r : Result A (Refused Syntax)) (new : Cursor) → p (input_of old) ≡ done x (input rest old.front) → Reads (p (input_of old)) r new → IsRead x rest r new
is_read p x rest old (Ok y) new h e = let d = done_is y x (input_of new) (input rest old.front) (sym e ∙ h) in (d.0, ap (λ (q : Input). q.ahead) d.1)
is_read p x rest old (Err (refused.Fault f)) new h e = no_err f.left x (input rest old.front) (sym e ∙ h)
is_read p x rest old (Err refused.NoMemory) new h e = tt

pub only : {C A : Type 0} (text : C → List Token → List Token) (tree : C → A) (least : ℕ) (p : Parser A) → Complete text tree least p → (old : Cursor) (r : Result A (Refused Syntax)) (new : Cursor) → Reads (p (input_of old)) r new
    → (c : C) (rest : List Token) → least ≤ rank rest → old.ahead.now ≡ text c rest → IsRead (tree c) rest r new
only text tree least p complete old r new e c rest h is = is_read p (tree c) rest old r new (ap (λ q. p (input q old.front)) is ∙ complete c rest old.front h) e

pub names_front : {A : Type 0} (p : Parser A) → Fails p → (old : Cursor) (r : Result A (Refused Syntax)) (new : Cursor) → Reads (p (input_of old)) r new → NamesFront old r
names_front p fails old (Ok x) new e = tt
names_front p fails old (Err (refused.Fault f)) new e = fails (input_of old) f.left e
names_front p fails old (Err refused.NoMemory) new e = tt

-- one reading at most, in front of what ends it
pub one_reading : {C A : Type 0} (text : C → List Token → List Token) (tree : C → A) (least : ℕ) (p : Parser A) → Complete text tree least p → (c d : C) (rest more : List Token) → least ≤ rank rest → least ≤ rank more → text c rest ≡ text d more → (tree c ≡ tree d) × (rest ≡ more)
one_reading text tree least p complete c d rest more h k e =
    let q = done_is (tree c) (tree d) (input rest 0) (input more 0) (sym (complete c rest 0 h) ∙ ap (λ ts. p (input ts 0)) e ∙ complete d more 0 k) in
    (q.0, ap (λ (i : Input). i.ahead) q.1)
