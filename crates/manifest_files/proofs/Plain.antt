-- The entries that are added are plain.
use Rattle.std.proofs.Common.{◌≡◌, ◌<◌, ◌≤◌, ◌&&◌, ℕ, Bool, true, false, true≢false, List, [], ◌∷◌, ◌++◌, length, map, nat_lt, nat_le, Ok, Err, IsUtf8, refl, sym, subst, arith, if◌then◌else◌}
use Rattle.std.specs.Prelude.{All}
use Rattle.std.specs.List.{list_all}
use Rattle.std.proofs.lemmas.Bool.{ltb-true}
use Rattle.std.proofs.lemmas.Bool.Decides.{nat_tests}
use Rattle.std.proofs.lemmas.List.Elements.{All-nil, All-cons, All-push}
use Rattle.std.proofs.lemmas.Str.{IsUtf8-append}
use Rattle.mpy_base.specs.declared.limits.TheConstants.{MAX_MODULES}
use Rattle.manifest_lines.specs.declared.entry.Entry.{Entry}
use Rattle.manifest_files.specs.declared.fault.ManifestFault.TheVariants.{Twice, TooMany}
use Rattle.manifest_files.specs.Entries.{is_ascii, is_plain, placed, said_entry, has_module, and_then, entries_after}
use Rattle.manifest_files.specs.Plain.{IsPlain}
use Rattle.manifest_files.proofs.Names.{ascii_utf8}

both : (a b : Bool) → (a && b) ≡ true → (a ≡ true) × (b ≡ true)
both true b e = (refl, e)
both false b e = absurd (true≢false (sym e))

bytes_ascii : (text : List ℕ) → is_ascii text ≡ true → All (λ byte. byte < 128) text
bytes_ascii [] e = All-nil (λ byte. byte < 128)
bytes_ascii (byte ∷ text) e =
    let h = both (nat_lt byte 128) (is_ascii text) e in
    All-cons (λ byte. byte < 128) byte text (ltb-true byte 128 h.0) (bytes_ascii text h.1)

few : (n : ℕ) → nat_le n 3 ≡ true → n ≤ 3
few n e = grind (arith, nat_tests)

plain_one : (folder : List ℕ) (entry : Entry) → IsUtf8 folder → is_plain entry ≡ true → IsPlain (placed folder entry)
plain_one folder entry u e =
    let h = both (is_ascii entry.«module») (is_ascii entry.path && (is_ascii entry.source && nat_le entry.opt 3)) e in
    let k = both (is_ascii entry.path) (is_ascii entry.source && nat_le entry.opt 3) h.1 in
    let l = both (is_ascii entry.source) (nat_le entry.opt 3) k.1 in
    record {
      name = bytes_ascii entry.«module» h.0;
      path = IsUtf8-append folder entry.path u (ascii_utf8 entry.path k.0);
      source = bytes_ascii entry.source l.0;
      level = few entry.opt l.1;
    }

pub plain_after : (folder : List ℕ) → IsUtf8 folder → (others before after : List Entry) → list_all is_plain others ≡ true → All IsPlain before
    → entries_after before (map (said_entry folder) others) ≡ Ok after → All IsPlain after
plain_after folder u [] before after e h is = let same : before ≡ after = cc in subst (All IsPlain) same h
plain_after folder u (other ∷ others) before after e h is =
    let k = both (is_plain other) (list_all is_plain others) e in
    by (has_module before other.«module») (nat_lt (length before) MAX_MODULES) is
    (plain_after folder u others (before ++ placed folder other ∷ []) after k.1 (All-push IsPlain before (placed folder other) h (plain_one folder other u k.0)))
  where
    by : (b c : Bool)
        → and_then (if b then Err (Twice other.«module») else (if c then Ok (before ++ placed folder other ∷ []) else Err TooMany)) (λ more. entries_after more (map (said_entry folder) others)) ≡ Ok after
        → (entries_after (before ++ placed folder other ∷ []) (map (said_entry folder) others) ≡ Ok after → All IsPlain after) → All IsPlain after
    by true c f more = absurd cc
    by false true f more = more f
    by false false f more = absurd cc
