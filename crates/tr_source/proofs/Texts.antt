-- ASCII texts, from their tests.
use Rattle.std.proofs.Common.{◌≡◌, ℕ, ◌<◌, ◌^◌, ℤ, pos, negsuc, true, List, [], ◌∷◌, Option, Some, None}
use Rattle.std.specs.List.{list_all}
use Rattle.std.proofs.lemmas.Bool.{ltb-true}
use Rattle.std.proofs.lemmas.List.Elements.{All-nil, All-cons}
use Rattle.py_meaning.specs.py_tree.declared.stmt.Alias.{Alias}
use Rattle.py_meaning.specs.py_tree.Formed.{is_ascii, is_number, option_ascii, alias_formed}
use Rattle.tr_source.proofs.SpelledSteps.{and_left, and_right}
use Rattle.tr_source.specs.Spelled.{IsAscii, IsNumber, IsAsciiOption, AliasesSpelled}

pub ascii : (text : List ℕ) → is_ascii text ≡ true → IsAscii text
ascii [] e = All-nil (λ byte. byte < 128)
ascii (x ∷ xs) e = All-cons (λ byte. byte < 128) x xs (ltb-true x 128 (and_left _ _ e)) (ascii xs (and_right _ _ e))

pub number : (n : ℤ) → is_number n ≡ true → IsNumber n
number (pos n) e = ltb-true n (2 ^ 30) e
number (negsuc n) e = cc

pub option_is : (name : Option (List ℕ)) → option_ascii name ≡ true → IsAsciiOption name
option_is None e = tt
option_is (Some name) e = ascii name e

pub aliases : (names : List Alias) → list_all alias_formed names ≡ true → AliasesSpelled names
aliases [] e = tt
aliases (alias ∷ names) e =
    let own = and_left (alias_formed alias) _ e in
    ((ascii alias.name (and_left _ _ own), option_is alias.bound (and_right (is_ascii alias.name) _ own)), aliases names (and_right (alias_formed alias) _ e))
