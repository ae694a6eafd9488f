-- What is written for a path.
use Rattle.std.proofs.Common.{◌≡◌, ℕ, List, [], ◌∷◌, ◌++◌, codes, decimal, Bor, ap, ◌∙◌, rules}
use Rattle.std.specs.List.{flat_map}
use Rattle.std.proofs.lemmas.List.{append-nil}
use Rattle.std.proofs.lemmas.Grind.{flat_map-append}
use Rattle.mpy_dump.specs.declared.path.Path.{Path, the_lemmas}
use Rattle.mpy_dump.specs.declared.path.Path.TheVariants.{Outermost, Child}
use Rattle.mpy_dump.specs.Codes.{places, path_text}

pub places_Child : (above : Bor Path) (place : ℕ) → places (Child above place) ≡ places above.now ++ place ∷ []
places_Child above place = search (rules, the_lemmas)

pub places_Outermost : places Outermost ≡ []
places_Outermost = search (rules, the_lemmas)

pub path_more : (path : List ℕ) (place : ℕ) → path_text (path ++ place ∷ []) ≡ path_text path ++ (codes "." ++ decimal place)
path_more path place =
    let dotted : ℕ → List ℕ = λ n. codes "." ++ decimal n in
    ap (λ z. codes "0" ++ z) (flat_map-append dotted path (place ∷ []) ∙ ap (λ z. flat_map dotted path ++ z) (append-nil (dotted place)))
