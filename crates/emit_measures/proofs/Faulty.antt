-- A text with too many locals has a fault.
use Rattle.std.proofs.Common.{◌≡◌, ◌<◌, ◌≤◌, ℕ, ◌+◌, Bool, true, false, length, map, Some, refl, sym, ap, ◌∙◌, arith}
use Rattle.std.specs.Prelude.{max, ◌||◌, nat_lt, nat_le, if◌then◌else◌, None, List}
use Rattle.std.proofs.lemmas.Bool.{lt-ltb, le-ltb}
use Rattle.mpy_base.specs.declared.source.SourceCode.TheVariants.{TooLong, StateTooBig}
use Rattle.py_tree.specs.declared.stmt.Stmt.{Stmt}
use Rattle.bc_scheme.specs.py_meaning.Tree.{Name}
use Rattle.bc_scheme.specs.py_meaning.Plain.{plain_stmt, block}
use Rattle.bc_scheme.specs.py_meaning.Program.{Text}
use Rattle.emit_measures.specs.declared.faults.Measures.{Measures}
use Rattle.emit_measures.specs.Limits.{saturated}
use Rattle.emit_measures.specs.Faults.{is_big_state, fault_of, IsMeasured}
use Rattle.emit_measures.specs.Lengths.{text_length}
use Rattle.emit_measures.specs.TextLengths.{HasTextLength}

or_true : (a b : Bool) → b ≡ true → (a || b) ≡ true
or_true true b e = refl
or_true false b e = e

big : (m : Measures) → 4096 < m.locals → is_big_state m ≡ true
big m h =
    or_true (m.crowded || nat_le 32 m.depth) ((nat_lt 255 m.params || nat_lt 100 m.entries) || nat_lt 4096 (m.locals + max 1 m.height))
    (or_true (nat_lt 255 m.params || nat_lt 100 m.entries) (nat_lt 4096 (m.locals + max 1 m.height)) (lt-ltb 4096 (m.locals + max 1 m.height) (omega (arith, h))))

length_is : (locals : List Name) (level : ℕ) (stmts : List Stmt) (told : ℕ) → ((n : ℕ) → told ≡ saturated (text_length locals level ((block (map plain_stmt stmts)).make n)))
    → (text : Text) (n : ℕ) → text.level ≡ level → text.locals ≡ locals → text.body ≡ (block (map plain_stmt stmts)).make n → (m : Measures) → HasTextLength text m → m.length ≡ told
length_is locals level stmts told t text n l s b m h =
    h ∙ ap (λ z. saturated (text_length z text.level text.body)) s ∙ ap (λ z. saturated (text_length locals z text.body)) l ∙ ap (λ z. saturated (text_length locals level z)) b ∙ sym (t n)

pub too_long : (locals : List Name) (level : ℕ) (stmts : List Stmt) (told : ℕ) → ((n : ℕ) → told ≡ saturated (text_length locals level ((block (map plain_stmt stmts)).make n))) → 16000 < told
    → (text : Text) (n : ℕ) → text.level ≡ level → text.locals ≡ locals → text.body ≡ (block (map plain_stmt stmts)).make n → (m : Measures) → IsMeasured text m → HasTextLength text m → fault_of m ≡ Some TooLong
too_long locals level stmts told t g text n l s b m is h =
    let e = length_is locals level stmts told t text n l s b m h in
    ap (λ (z : Bool). if z then Some TooLong else (if is_big_state m then Some StateTooBig else None)) (lt-ltb 16000 m.length (omega (arith, e, g)))

pub too_big : (locals : List Name) (level : ℕ) (stmts : List Stmt) (told : ℕ) → ((n : ℕ) → told ≡ saturated (text_length locals level ((block (map plain_stmt stmts)).make n))) → told ≤ 16000 → 4096 < length locals
    → (text : Text) (n : ℕ) → text.level ≡ level → text.locals ≡ locals → text.body ≡ (block (map plain_stmt stmts)).make n → (m : Measures) → IsMeasured text m → HasTextLength text m → fault_of m ≡ Some StateTooBig
too_big locals level stmts told t g many text n l s b m is h =
    let e = length_is locals level stmts told t text n l s b m h in
    let count : m.locals ≡ length locals = is.locals ∙ ap length s in
    ap (λ (z : Bool). if z then Some TooLong else (if is_big_state m then Some StateTooBig else None)) (le-ltb 16000 m.length (omega (arith, e, g)))
    ∙ ap (λ (z : Bool). if z then Some StateTooBig else None) (big m (omega (arith, count, many)))
