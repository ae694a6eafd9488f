-- What a code's own bytes say, once.
use Rattle.std.proofs.Common.{◌≡◌, ◌≤◌, ℕ, List, length, drop, refl, sym, ap, subst, ◌∙◌, arith, length-drop}
use Rattle.mpy_tree.specs.bc_ops.declared.listing.Item.{Item}
use Rattle.mpy_tree.specs.bc_ops.Listing.{Lists, starts}
use Rattle.mpy_tree.proofs.bc_ops_lemmas.Lists.{one_listing}
use Rattle.mpy_tree.specs.bc_prelude.declared.prelude.Prelude.{Prelude}
use Rattle.mpy_tree.specs.bc_prelude.Prelude.{Begins}
use Rattle.mpy_tree.proofs.bc_prelude_lemmas.Pieces.{instructions_at}
use Rattle.mpy_tree.proofs.bc_prelude_lemmas.Preludes.{same_prelude}
use Rattle.mpy_tree.specs.File.{IsOwnCode}
use Rattle.bc_verify.specs.Body.{Body, Says}

pub instructions_short : (bytes : List ℕ) (prelude : Prelude) (b : Begins bytes prelude) → length b.instructions ≤ length bytes
instructions_short bytes prelude b = let is = ap length (instructions_at bytes prelude b) in omega (arith, sym is, length-drop prelude.code_at bytes)

pub same_instructions : (bytes : List ℕ) (p q : Prelude) (b : Begins bytes p) (c : Begins bytes q) → p ≡ q → b.instructions ≡ c.instructions
same_instructions bytes p q b c e = sym (instructions_at bytes p b) ∙ (ap (λ (z : Prelude). drop z.code_at bytes) e ∙ instructions_at bytes q c)

abbrev make_body : List Item → ℕ → ℕ → ℕ → Body
make_body items n_state n_exc arguments = record { items = items; n_state = n_state; n_exc = n_exc; arguments = arguments }

-- the bytes of a file's code
pub own_says : {texts : ℕ} (bytes : List ℕ) → IsOwnCode texts bytes → (body : Body) × (offsets : List ℕ) × Says bytes body offsets
own_says bytes own = (
  make_body own.items own.prelude.n_state own.prelude.n_exc own.prelude.args,
  starts 0 own.listed.pieces,
  record {
    prelude = own.prelude;
    begins = own.begins;
    lists = record { is_list = own.listed; offsets_are = refl };
    n_state = refl;
    n_exc = refl;
    arguments = refl;
  },
)

pub one_body : (bytes : List ℕ) (a b : Body) (m n : List ℕ) → Says bytes a m → Says bytes b n → (a ≡ b) × (m ≡ n)
one_body bytes a b m n s t =
    let same : s.prelude ≡ t.prelude = same_prelude bytes s.prelude t.prelude s.begins t.begins in
    let rest = same_instructions bytes s.prelude t.prelude s.begins t.begins same in
    let lists = one_listing t.begins.instructions a.items b.items m n (subst (λ z. Lists z a.items m) rest s.lists) t.lists in
    let items : a.items ≡ b.items = lists.0 in
    let states : a.n_state ≡ b.n_state = s.n_state ∙ (ap (λ (z : Prelude). z.n_state) same ∙ sym t.n_state) in
    let handlers : a.n_exc ≡ b.n_exc = s.n_exc ∙ (ap (λ (z : Prelude). z.n_exc) same ∙ sym t.n_exc) in
    let arguments : a.arguments ≡ b.arguments = s.arguments ∙ (ap (λ (z : Prelude). z.args) same ∙ sym t.arguments) in
    let bodies : make_body a.items a.n_state a.n_exc a.arguments ≡ make_body b.items b.n_state b.n_exc b.arguments = cc in
    (bodies, lists.1)
