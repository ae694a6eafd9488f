-- The command that compares a file with a source.
use Rattle.std.proofs.Common.{◌≡◌, ◌⊎◌, inl, inr, ℕ, List, ◌∷◌, Option, Some, None, refl, sym, ap, subst, ◌∙◌}
use Rattle.mpy_base.specs.declared.source.SourceFault.{SourceFault}
use Rattle.mpy_io.specs.Files.{FileOf}
use Rattle.mpy_tree.specs.Raw.{Module}
use Rattle.mpy_tree.specs.File.{IsFile}
use Rattle.mpy_tree.specs.Resolved.{ResolvedModule, Resolves, Reads}
use Rattle.mpy_reader.specs.declared.fault.FileFault.{FileFault}
use Rattle.mpy_reader.specs.Reading.{FirstFault}
use Rattle.command_files.specs.mpy_compile.Compiled.{CompilesTo, IsFault}
use Rattle.command_files.specs.mpy_compile.Checked.{Compares}
use Rattle.mpy_endings.specs.declared.ending.Difference.{Difference}
use Rattle.mpy_endings.specs.declared.ending.Ending.{Ending}
use Rattle.mpy_endings.specs.declared.ending.Ending.TheVariants.{Done, Unaccepted, Unread, Unverified, Unmerged, Unopened, Unfrozen, Unboarded, Different, Stopped, ReadFault, WriteFault, Unwritten, NoMemory, Absent}
use Rattle.mpy_endings.specs.Ending.{IsSettled}
use Rattle.trans_parts.specs.Comparing.{FitsTree, FirstIn}
use Rattle.meant_commands.specs.file_commands.CheckAs.{ChecksAs, HoldsDifferent, HoldsTranslation, HoldsUnaccepted, IsThere}
use Rattle.tool_laws.specs.Laws.{FileLaws, SourceLaws}
use Rattle.tool_laws.specs.Once.{EndOnce, IsDone}
use Rattle.tool_laws.proofs.Comparing.{fits_not, one_first}
use Rattle.tool_laws.proofs.Opened.{none_there, same_content}

same_difference : (d e : Difference) → d.path ≡ e.path → d.what ≡ e.what → d.at ≡ e.at → d ≡ e
same_difference d e p w a = λ i. record { path = p i; what = w i; at = a i }

module _ (laws : FileLaws) (own : SourceLaws) where
  one_read : (bytes : List ℕ) (a b : ResolvedModule) → Reads bytes a → Reads bytes b → a ≡ b
  one_read bytes a b h k = own.one_tree k.0 a b (subst (λ (m : Module). Resolves m a) (laws.one_module bytes h.0 k.0 h.1 k.1) h.2) k.2

  -- the file holds a module beside that of the source
  module _ (level : ℕ) (files : FileOf) (source file : List ℕ) where
    record Beside (want have : ResolvedModule) : Type 0 where
      text : List ℕ
      has_source : files source ≡ Some text
      bytes : List ℕ
      has_file : files file ≡ Some bytes
      compares : Compares level text bytes want have

    -- or the source isn't accepted under the name that the file stores
    record Faulty (fault : SourceFault) : Type 0 where
      text : List ℕ
      has_source : files source ≡ Some text
      bytes : List ℕ
      has_file : files file ≡ Some bytes
      read : ResolvedModule
      reads : Reads bytes read
      first : IsFault level text read.source fault

    same_have : (w v a b : ResolvedModule) → Beside w a → Beside v b → a ≡ b
    same_have w v a b x y =
        one_read y.bytes a b (subst (λ (z : List ℕ). Reads z a) (same_content (files file) x.bytes y.bytes x.has_file y.has_file) x.compares.is_have) y.compares.is_have

    same_want : (w v a b : ResolvedModule) → Beside w a → Beside v b → w ≡ v
    same_want w v a b x y =
        let text = same_content (files source) x.text y.text x.has_source y.has_source in
        let here = subst (λ (z : List ℕ). CompilesTo level z a.source x.compares.own) text x.compares.compiles in
        let there = subst (λ (m : ResolvedModule). CompilesTo level y.text m.source x.compares.own) (same_have w v a b x y) here in
        let bytes = own.one_file level y.text b.source x.compares.own y.compares.own there y.compares.compiles in
        one_read y.compares.own w v (subst (λ (z : List ℕ). Reads z w) bytes x.compares.is_want) y.compares.is_want

    never_faulty : (w a : ResolvedModule) (fault : SourceFault) → Beside w a → Faulty fault → ⊥
    never_faulty w a fault x y =
        let text = same_content (files source) x.text y.text x.has_source y.has_source in
        let read = one_read y.bytes a y.read
        (subst (λ (z : List ℕ). Reads z a) (same_content (files file) x.bytes y.bytes x.has_file y.has_file) x.compares.is_have) y.reads in
        let here = subst (λ (z : List ℕ). CompilesTo level z a.source x.compares.own) text x.compares.compiles in
        let there = subst (λ (m : ResolvedModule). CompilesTo level y.text m.source x.compares.own) read here in
        own.not_both level y.text y.read.source x.compares.own fault there y.first

    one_faulty : (f g : SourceFault) → Faulty f → Faulty g → f ≡ g
    one_faulty f g x y =
        let text = same_content (files source) x.text y.text x.has_source y.has_source in
        let read = one_read y.bytes x.read y.read
        (subst (λ (z : List ℕ). Reads z x.read) (same_content (files file) x.bytes y.bytes x.has_file y.has_file) x.reads) y.reads in
        let here = subst (λ (z : List ℕ). IsFault level z x.read.source f) text x.first in
        let there = subst (λ (m : ResolvedModule). IsFault level y.text m.source f) read here in
        own.one_fault level y.text y.read.source f g there y.first

    -- how a check ends whose files are both read
    abbrev Judged : Ending → Type 0
    Judged ending =
        ((ending ≡ Done) × (count : ℕ) × HoldsTranslation level (Some files) source file count)
        ⊎ (((fault : SourceFault) × (ending ≡ Unaccepted fault) × HoldsUnaccepted level (Some files) source file fault)
        ⊎ ((difference : Difference) × (ending ≡ Different difference) × HoldsDifferent level (Some files) source file difference))

    fits_of : (count : ℕ) (h : HoldsTranslation level (Some files) source file count) → Beside h.is.want h.is.have
    fits_of count h = record { text = h.text; has_source = h.has_source; bytes = h.bytes; has_file = h.has_file; compares = h.is.compares }

    differs_of : (difference : Difference) (h : HoldsDifferent level (Some files) source file difference) → Beside h.is.want h.is.have
    differs_of difference h = record { text = h.text; has_source = h.has_source; bytes = h.bytes; has_file = h.has_file; compares = h.is.compares }

    faulty_of : (fault : SourceFault) → HoldsUnaccepted level (Some files) source file fault → Faulty fault
    faulty_of fault h = record {
      text = h.faulty.source;
      has_source = h.faulty.holds;
      bytes = h.bytes;
      has_file = h.has_file;
      read = h.read;
      reads = h.reads;
      first = h.faulty.is;
    }

    never_different : (count : ℕ) (difference : Difference) → HoldsTranslation level (Some files) source file count
        → HoldsDifferent level (Some files) source file difference → ⊥
    never_different count difference h k =
        let x = fits_of count h in
        let y = differs_of difference k in
        let want = same_want h.is.want k.is.want h.is.have k.is.have x y in
        let have = same_have h.is.want k.is.want h.is.have k.is.have x y in
        let fits = subst (λ (m : ResolvedModule). FitsTree m.code k.is.have.code) want (subst (λ (m : ResolvedModule). FitsTree h.is.want.code m.code) have h.is.fits) in
        fits_not k.is.want.code k.is.have.code k.is.inner difference.what difference.at fits k.is.first

    one_difference : (d e : Difference) → HoldsDifferent level (Some files) source file d → HoldsDifferent level (Some files) source file e → d ≡ e
    one_difference d e h k =
        let x = differs_of d h in
        let y = differs_of e k in
        let want = same_want h.is.want k.is.want h.is.have k.is.have x y in
        let have = same_have h.is.want k.is.want h.is.have k.is.have x y in
        let first = subst (λ (m : ResolvedModule). FirstIn m.code k.is.have.code h.is.inner d.what d.at) want
        (subst (λ (m : ResolvedModule). FirstIn h.is.want.code m.code h.is.inner d.what d.at) have h.is.first) in
        let one = one_first k.is.want.code k.is.have.code h.is.inner k.is.inner d.what e.what d.at e.at first k.is.first in
        same_difference d e (h.is.path_is ∙ (ap (λ (inner : List ℕ). 0 ∷ inner) one.0 ∙ sym k.is.path_is)) one.1 one.2

    both_judged : (one other : Ending) → Judged one → Judged other → one ≡ other
    both_judged one other (inl x) (inl y) = x.0 ∙ sym y.0
    both_judged one other (inl x) (inr (inl y)) = absurd (never_faulty x.2.is.want x.2.is.have y.0 (fits_of x.1 x.2) (faulty_of y.0 y.2))
    both_judged one other (inl x) (inr (inr y)) = absurd (never_different x.1 y.0 x.2 y.2)
    both_judged one other (inr (inl x)) (inl y) = absurd (never_faulty y.2.is.want y.2.is.have x.0 (fits_of y.1 y.2) (faulty_of x.0 x.2))
    both_judged one other (inr (inl x)) (inr (inl y)) = x.1 ∙ (ap Unaccepted (one_faulty x.0 y.0 (faulty_of x.0 x.2) (faulty_of y.0 y.2)) ∙ sym y.1)
    both_judged one other (inr (inl x)) (inr (inr y)) = absurd (never_faulty y.2.is.want y.2.is.have x.0 (differs_of y.0 y.2) (faulty_of x.0 x.2))
    both_judged one other (inr (inr x)) (inl y) = absurd (never_different y.1 x.0 y.2 x.2)
    both_judged one other (inr (inr x)) (inr (inl y)) = absurd (never_faulty x.2.is.want x.2.is.have y.0 (differs_of x.0 x.2) (faulty_of y.0 y.2))
    both_judged one other (inr (inr x)) (inr (inr y)) = x.1 ∙ (ap Different (one_difference x.0 y.0 x.2 y.2) ∙ sym y.1)

    -- the file isn't read, though the source is there
    record Unreads (ending : Ending) : Type 0 where
      fault : FileFault
      is : ending ≡ Unread fault
      text : List ℕ
      has_source : files source ≡ Some text
      bytes : List ℕ
      has_file : files file ≡ Some bytes
      first : FirstFault bytes fault

    -- one of them isn't there
    abbrev Lacks : Ending → Type 0
    Lacks ending = (ending ≡ Absent) × ((files source ≡ None) ⊎ (files file ≡ None))

    abbrev ComparedSo : Ending → Type 0
    ComparedSo ending = Judged ending ⊎ (Unreads ending ⊎ Lacks ending)

    -- both are there where the check is judged
    judged_files : (ending : Ending) → Judged ending → (text : List ℕ) × (bytes : List ℕ) × (read : ResolvedModule) × (files source ≡ Some text) × (files file ≡ Some bytes) × Reads bytes read
    judged_files ending (inl x) = (x.2.text, x.2.bytes, x.2.is.have, x.2.has_source, x.2.has_file, x.2.is.compares.is_have)
    judged_files ending (inr (inl x)) = (x.2.faulty.source, x.2.bytes, x.2.read, x.2.faulty.holds, x.2.has_file, x.2.reads)
    judged_files ending (inr (inr x)) = (x.2.text, x.2.bytes, x.2.is.have, x.2.has_source, x.2.has_file, x.2.is.compares.is_have)

    never_unreads : (one other : Ending) → Judged one → Unreads other → ⊥
    never_unreads one other x y =
        let there = judged_files one x in
        let bytes = same_content (files file) there.1 y.bytes there.4 y.has_file in
        laws.not_both y.bytes there.5.0 y.fault (subst (λ (z : List ℕ). IsFile z there.5.0) bytes there.5.1) y.first

    never_lacks : (text bytes : List ℕ) (ending : Ending) → files source ≡ Some text → files file ≡ Some bytes → Lacks ending → ⊥
    never_lacks text bytes ending s f (e, inl none) = none_there (files source) text none s
    never_lacks text bytes ending s f (e, inr none) = none_there (files file) bytes none f

    judged_lacks : (one other : Ending) → Judged one → Lacks other → ⊥
    judged_lacks one other x y = let there = judged_files one x in never_lacks there.0 there.1 other there.3 there.4 y

    both_compared : (one other : Ending) → ComparedSo one → ComparedSo other → one ≡ other
    both_compared one other (inl x) (inl y) = both_judged one other x y
    both_compared one other (inl x) (inr (inl y)) = absurd (never_unreads one other x y)
    both_compared one other (inl x) (inr (inr y)) = absurd (judged_lacks one other x y)
    both_compared one other (inr (inl x)) (inl y) = absurd (never_unreads other one y x)
    both_compared one other (inr (inl x)) (inr (inl y)) =
        let bytes = same_content (files file) x.bytes y.bytes x.has_file y.has_file in
        let first = subst (λ (z : List ℕ). FirstFault z x.fault) bytes x.first in
        x.is ∙ (ap Unread (laws.one_fault y.bytes x.fault y.fault first y.first) ∙ sym y.is)
    both_compared one other (inr (inl x)) (inr (inr y)) = absurd (never_lacks x.text x.bytes other x.has_source x.has_file y)
    both_compared one other (inr (inr x)) (inl y) = absurd (judged_lacks other one y x)
    both_compared one other (inr (inr x)) (inr (inl y)) = absurd (never_lacks y.text y.bytes one y.has_source y.has_file x)
    both_compared one other (inr (inr x)) (inr (inr y)) = x.0 ∙ sym y.0

    compared_so : (before behind : Option (List ℕ)) (place : ℕ) (ending : Ending) → IsSettled ending → ChecksAs level (Some files) source file before behind place ending → ComparedSo ending
    compared_so before behind place Done s p = inl (inl (refl, p.0, p.1))
    compared_so before behind place (Unaccepted fault) s p = inl (inr (inl (fault, refl, p.1)))
    compared_so before behind place (Unread fault) s p = inr (inl (record {
      fault = fault;
      is = refl;
      text = p.1.0;
      has_source = p.1.1;
      bytes = p.2.0;
      has_file = p.2.1;
      first = p.2.2;
    }))
    compared_so before behind place (Unverified fault) s p = absurd p
    compared_so before behind place (Unmerged fault) s p = absurd p
    compared_so before behind place (Unopened fault) s p = absurd p
    compared_so before behind place (Unfrozen fault) s p = absurd p
    compared_so before behind place (Unboarded fault) s p = absurd p
    compared_so before behind place (Different difference) s p = inl (inr (inr (difference, refl, p.1)))
    compared_so before behind place (Stopped stop) s p = absurd p
    compared_so before behind place ReadFault s p = absurd s
    compared_so before behind place WriteFault s p = absurd s
    compared_so before behind place Unwritten s p = absurd p
    compared_so before behind place NoMemory s p = absurd s
    compared_so before behind place Absent s p = inr (inr (refl, lacking p.0))
      where
        lacking : ((place ≡ 1) × (files source ≡ None) ⊎ (place ≡ 2) × IsThere (Some files) source × (files file ≡ None)) → (files source ≡ None) ⊎ (files file ≡ None)
        lacking (inl x) = inl x.1
        lacking (inr x) = inr x.2

    pub one_check_as : (before behind printed after : Option (List ℕ)) (place another : ℕ)
        → EndOnce (ChecksAs level (Some files) source file before behind place) (ChecksAs level (Some files) source file printed after another)
    one_check_as before behind printed after place another = λ one other s t p q.
        both_compared one other (compared_so before behind place one s p) (compared_so printed after another other t q)

    pub check_as_done : (count : ℕ) (before behind : Option (List ℕ)) (place : ℕ) → HoldsTranslation level (Some files) source file count
        → IsDone (ChecksAs level (Some files) source file before behind place)
    check_as_done count before behind place h = λ ending s p.
        both_compared ending Done (compared_so before behind place ending s p) (inl (inl (refl, count, h)))
