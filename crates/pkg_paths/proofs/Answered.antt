-- The file that the second read names.
use Rattle.std.proofs.Common.{◌≡◌, ◌<◌, ℕ, zero, suc, List, [], ◌∷◌, Option, Some, None, Result, Ok, Err, Contains, slice_index_or, sym, ◌∙◌, arith}
use Rattle.mpy_base.specs.declared.refused.Refused.{Refused}
use Rattle.mpy_base.specs.declared.refused.Refused.TheVariants.{Fault, NoMemory}
use Rattle.pkg_paths.specs.declared.search.FindFault.{FindFault}
use Rattle.pkg_paths.specs.declared.search.FindFault.TheVariants.{Failed, TooLong}
use Rattle.pkg_paths.specs.declared.search.Found.{Found}
use Rattle.pkg_paths.specs.Finds.{NamesOneOf}

only_one : (text name : List ℕ) (k : ℕ) → k < 1 → slice_index_or (text ∷ []) k name ≡ name → text ≡ name
only_one text name zero l e = e
only_one text name (suc k) l e = absurd (omega (arith, l))

second_of : (first second text name : List ℕ) → text ≡ second → Contains (text ∷ []) name → Contains (first ∷ second ∷ []) name
second_of first second text name is h = let few : 1 < 2 = omega arith in (1, few, sym is ∙ only_one text name h.0 h.1 h.2)

pub names_second : (first second text : List ℕ) (result : Result (Option Found) (Refused FindFault)) → text ≡ second → NamesOneOf (text ∷ []) result → NamesOneOf (first ∷ second ∷ []) result
names_second first second text (Ok (Some found)) is h = second_of first second text found.name is h
names_second first second text (Ok None) is h = h
names_second first second text (Err (Fault (TooLong name))) is h = second_of first second text name is h
names_second first second text (Err (Fault (Failed name))) is h = second_of first second text name is h
names_second first second text (Err NoMemory) is h = h
