use Rattle.std.proofs.Common.{◌≡◌, ◌<◌, ◌≤◌, ℕ, List, [], length, map, get_or, Bor, sym, ap, ◌∙◌, arith, rules}
use Rattle.std.proofs.lemmas.List.{get_or-map, get_or_past, length-map}
use Rattle.mpy_dump.proofs.operations.sign_at.Goals as goal

abbrev bytes_of : Bor (List ℕ) → List ℕ
bytes_of sign = sign.now

there : (signs : List (Bor (List ℕ))) (at : ℕ) (sign : Bor (List ℕ)) → at < length signs → sign ≡ get_or signs at sign → sign.now ≡ get_or (map bytes_of signs) at []
there signs at sign within read = ap bytes_of read ∙ sym (get_or-map bytes_of signs at sign [] within)

past : (signs : List (Bor (List ℕ))) (at : ℕ) → length signs ≤ at → [] ≡ get_or (map bytes_of signs) at []
past signs at far = sym (get_or_past (map bytes_of signs) at [] (omega (arith, length-map signs bytes_of)))

pub returns-in-Some : goal.returns-in-Some
returns-in-Some c =
    let within : c.args.n < length c.args.signs.now = search rules in
    let read : c.in-Some.sign.now ≡ get_or c.args.signs.now c.args.n c.in-Some.sign.now = search rules in
    there c.args.signs.now c.args.n c.in-Some.sign.now within read

pub returns-in-None : goal.returns-in-None
returns-in-None c = past c.args.signs.now c.args.n (search rules)
