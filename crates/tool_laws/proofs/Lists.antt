-- Lists beside others, and the first of a list that isn't.
use Rattle.std.proofs.Common.{◌≡◌, List, [], ◌∷◌, ◌++◌, sym, subst}
use Rattle.std.specs.List.{AllZip}

pub front_is : {A : Type 0} (x y : A) (xs ys : List A) → x ∷ xs ≡ y ∷ ys → x ≡ y
front_is x y xs ys e = cc

pub behind_is : {A : Type 0} (x y : A) (xs ys : List A) → x ∷ xs ≡ y ∷ ys → xs ≡ ys
behind_is x y xs ys e = cc

-- where some have another one beside them, and some are bad, which those never are
module _ {A B : Type 0} (Beside : A → B → Type 0) (IsBad : A → Type 0) (never : (x : A) (y : B) → Beside x y → IsBad x → ⊥) where
  pub none_bad : (xs front behind : List A) (bad : A) (ys : List B) → xs ≡ front ++ bad ∷ behind → AllZip Beside xs ys → IsBad bad → ⊥
  none_bad [] [] behind bad ys e all is = absurd cc
  none_bad [] (x ∷ front) behind bad ys e all is = absurd cc
  none_bad (z ∷ xs) front behind bad [] e all is = absurd all
  none_bad (z ∷ xs) [] behind bad (y ∷ ys) e all is = never z y all.0 (subst IsBad (sym (front_is z bad xs behind e)) is)
  none_bad (z ∷ xs) (x ∷ front) behind bad (y ∷ ys) e all is = none_bad xs front behind bad ys (behind_is z x xs (front ++ bad ∷ behind) e) all.1 is

  pub first_bad : (front other : List A) (bad worse : A) (behind rest : List A) (ys zs : List B) → front ++ bad ∷ behind ≡ other ++ worse ∷ rest
      → AllZip Beside front ys → AllZip Beside other zs → IsBad bad → IsBad worse → bad ≡ worse
  first_bad [] [] bad worse behind rest ys zs e all every is too = front_is bad worse behind rest e
  first_bad [] (x ∷ other) bad worse behind rest ys [] e all every is too = absurd every
  first_bad [] (x ∷ other) bad worse behind rest ys (z ∷ zs) e all every is too =
      absurd (never x z every.0 (subst IsBad (front_is bad x behind (other ++ worse ∷ rest) e) is))
  first_bad (x ∷ front) [] bad worse behind rest [] zs e all every is too = absurd all
  first_bad (x ∷ front) [] bad worse behind rest (y ∷ ys) zs e all every is too =
      absurd (never x y all.0 (subst IsBad (sym (front_is x worse (front ++ bad ∷ behind) rest e)) too))
  first_bad (x ∷ front) (w ∷ other) bad worse behind rest [] zs e all every is too = absurd all
  first_bad (x ∷ front) (w ∷ other) bad worse behind rest (y ∷ ys) [] e all every is too = absurd every
  first_bad (x ∷ front) (w ∷ other) bad worse behind rest (y ∷ ys) (z ∷ zs) e all every is too =
      first_bad front other bad worse behind rest ys zs (behind_is x w (front ++ bad ∷ behind) (other ++ worse ∷ rest) e) all.1 every.1 is too
