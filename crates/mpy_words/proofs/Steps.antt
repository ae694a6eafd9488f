-- One more option, and a word that is none in place of a named one.
use Rattle.std.proofs.Common.{◌≡◌, ℕ, List, ◌∷◌, true, false, Option, Some, None, Err, if◌then◌else◌, refl, ◌∙◌}
use Rattle.mpy_words.specs.declared.order.Command.{Command}
use Rattle.mpy_words.specs.declared.order.Named.{Named}
use Rattle.mpy_words.specs.declared.order.Setting.{Setting}
use Rattle.mpy_words.specs.declared.given.Given.{Given}
use Rattle.mpy_words.specs.declared.order.WordFault.TheVariants.{MissingValue, Unknown}
use Rattle.mpy_words.specs.Command.{setting_of}
use Rattle.mpy_words.specs.Given.{is_given, with_option}
use Rattle.mpy_words.specs.Words.{Outcome, begins_with_dash, place, known, once, valued, names_none, settings, named}

known_is : (count : ℕ) (words : List (List ℕ)) (o : Option Setting) (s : Setting) (go : Setting → Outcome) → Some s ≡ o → known count words o go ≡ go s
known_is count words o s go e = rw (← e) refl

once_is : (given : Given) (s : Setting) (more : Outcome) → is_given given s ≡ false → once given s more ≡ more
once_is given s more e = rw e refl

valued_is : (count : ℕ) (words : List (List ℕ)) (o : Option Given) (more : Given) (go : Given → Outcome) → Some more ≡ o → valued count words o go ≡ go more
valued_is count words o more go e = rw (← e) refl

named_is : (s : Setting) (value : List ℕ) (more : Outcome) → names_none s value ≡ false → (if names_none s value then Err (MissingValue s) else more) ≡ more
named_is s value more e = rw e refl

pub one_option : (count : ℕ) (c : Command) (given more : Given) (word value : List ℕ) (words : List (List ℕ)) (s : Setting)
    → is_given given s ≡ false → names_none s value ≡ false → Some s ≡ setting_of c word → Some more ≡ with_option given s (place count (value ∷ words)) value
    → settings count c given (word ∷ value ∷ words) ≡ settings count c more words
unfolding settings
one_option count c given more word value words s none file set is =
    let go = λ (more : Given). settings count c more words in
    let with = λ (s : Setting). valued count (value ∷ words) (with_option given s (place count (value ∷ words)) value) go in
    let read = λ (s : Setting). if names_none s value then Err (MissingValue s) else with s in
    known_is count (word ∷ value ∷ words) (setting_of c word) s (λ s. once given s (read s)) set
    ∙ (once_is given s (read s) none
    ∙ (named_is s value (with s) file
    ∙ valued_is count (value ∷ words) (with_option given s (place count (value ∷ words)) value) more go is))

pub unknown_name : (count : ℕ) (c : Command) (given : Given) (wanted : Named) (more : List Named) (word : List ℕ) (words : List (List ℕ))
    → begins_with_dash word ≡ true → None ≡ setting_of c word → named count c given (wanted ∷ more) (word ∷ words) ≡ Err (Unknown (place count (word ∷ words)))
unfolding named
unknown_name count c given wanted more word words dash none = rw dash (rw (← none) refl)
