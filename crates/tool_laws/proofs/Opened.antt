-- What the file of a name comes to, in a folder that tells its files.
use Rattle.std.proofs.Common.{◌≡◌, ◌⊎◌, inl, inr, ℕ, List, Option, Some, None, refl, sym, ap, subst, ◌∙◌}
use Rattle.mpy_io.specs.Files.{FileOf}
use Rattle.mpy_tree.specs.Raw.{Module}
use Rattle.mpy_tree.specs.File.{IsFile}
use Rattle.mpy_reader.specs.declared.fault.FileFault.{FileFault}
use Rattle.mpy_reader.specs.Reading.{FirstFault}
use Rattle.bc_verify.specs.declared.fault.VerifyFault.{VerifyFault}
use Rattle.bc_verify.specs.Verified.{IsFirstFault}
use Rattle.mpy_endings.specs.declared.ending.Ending.{Ending}
use Rattle.mpy_endings.specs.declared.ending.Ending.TheVariants.{Done, Unaccepted, Unread, Unverified, Unmerged, Unopened, Unfrozen, Unboarded, Different, Stopped, ReadFault, WriteFault, Unwritten, NoMemory, Absent}
use Rattle.mpy_endings.specs.Ending.{IsSettled}
use Rattle.command_files.specs.Opened.{HoldsModule, Refuses}
use Rattle.tool_laws.specs.Laws.{FileLaws}

pub record AtUnread (files : FileOf) (name : List ℕ) (ending : Ending) : Type 0 where
  pub fault : FileFault
  pub bytes : List ℕ
  pub is : ending ≡ Unread fault
  pub at : files name ≡ Some bytes
  pub first : FirstFault bytes fault

pub record AtUnverified (files : FileOf) (name : List ℕ) (ending : Ending) : Type 0 where
  pub fault : VerifyFault
  pub bytes : List ℕ
  pub read : Module
  pub is : ending ≡ Unverified fault
  pub at : files name ≡ Some bytes
  pub file : IsFile bytes read
  pub first : IsFirstFault read fault

pub record AtAbsent (files : FileOf) (name : List ℕ) (ending : Ending) : Type 0 where
  pub is : ending ≡ Absent
  pub at : files name ≡ None

-- the file isn't one of a verified module, and the command ends so
abbrev pub Refused : (files : FileOf) (name : List ℕ) → Ending → Type 0
Refused files name ending = AtUnread files name ending ⊎ AtUnverified files name ending ⊎ AtAbsent files name ending

pub same_content : (o : Option (List ℕ)) (a b : List ℕ) → o ≡ Some a → o ≡ Some b → a ≡ b
same_content o a b e f = let both : Some a ≡ Some b = sym e ∙ f in cc

pub none_there : (o : Option (List ℕ)) (a : List ℕ) → o ≡ None → o ≡ Some a → ⊥
none_there o a e f = let wrong : None ≡ Some a = sym e ∙ f in cc

pub refused_of : (files : FileOf) (name : List ℕ) (ending : Ending) → IsSettled ending → Refuses (Some files) name ending → Refused files name ending
refused_of files name Done s p = absurd p
refused_of files name (Unaccepted fault) s p = absurd p
refused_of files name (Unread fault) s p = inl (record { fault = fault; bytes = p.0; is = refl; at = p.1; first = p.2 })
refused_of files name (Unverified fault) s p =
    inr (inl (record { fault = fault; bytes = p.0; read = p.2.read; is = refl; at = p.1; file = p.2.file; first = p.2.first }))
refused_of files name (Unmerged fault) s p = absurd p
refused_of files name (Unopened fault) s p = absurd p
refused_of files name (Unfrozen fault) s p = absurd p
refused_of files name (Unboarded fault) s p = absurd p
refused_of files name (Different difference) s p = absurd p
refused_of files name (Stopped stop) s p = absurd p
refused_of files name ReadFault s p = absurd s
refused_of files name WriteFault s p = absurd p
refused_of files name Unwritten s p = absurd p
refused_of files name NoMemory s p = absurd s
refused_of files name Absent s p = inr (inr (record { is = refl; at = p }))

module _ (laws : FileLaws) (files : FileOf) (name : List ℕ) where
  pub same_module : (x y : List ℕ) (m n : Module) → files name ≡ Some x → files name ≡ Some y → IsFile x m → IsFile y n → m ≡ n
  same_module x y m n at there file other = laws.one_module y m n (subst (λ (z : List ℕ). IsFile z m) (same_content (files name) x y at there) file) other

  pub same_unread : (one other : Ending) → AtUnread files name one → AtUnread files name other → one ≡ other
  same_unread one other x y =
      let first = subst (λ (z : List ℕ). FirstFault z x.fault) (same_content (files name) x.bytes y.bytes x.at y.at) x.first in
      x.is ∙ (ap Unread (laws.one_fault y.bytes x.fault y.fault first y.first) ∙ sym y.is)

  pub never_unread : (ending : Ending) (bytes : List ℕ) (m : Module) → files name ≡ Some bytes → IsFile bytes m → AtUnread files name ending → ⊥
  never_unread ending bytes m at file x =
      laws.not_both x.bytes m x.fault (subst (λ (z : List ℕ). IsFile z m) (same_content (files name) bytes x.bytes at x.at) file) x.first

  pub one_refused : (one other : Ending) → Refused files name one → Refused files name other → one ≡ other
  one_refused one other (inl x) (inl y) = same_unread one other x y
  one_refused one other (inl x) (inr (inl y)) = absurd (never_unread one y.bytes y.read y.at y.file x)
  one_refused one other (inl x) (inr (inr y)) = absurd (none_there (files name) x.bytes y.at x.at)
  one_refused one other (inr (inl x)) (inl y) = absurd (never_unread other x.bytes x.read x.at x.file y)
  one_refused one other (inr (inl x)) (inr (inl y)) =
      let same = same_module x.bytes y.bytes x.read y.read x.at y.at x.file y.file in
      x.is ∙ (ap Unverified (laws.one_first y.read x.fault y.fault (subst (λ (m : Module). IsFirstFault m x.fault) same x.first) y.first) ∙ sym y.is)
  one_refused one other (inr (inl x)) (inr (inr y)) = absurd (none_there (files name) x.bytes y.at x.at)
  one_refused one other (inr (inr x)) (inl y) = absurd (none_there (files name) y.bytes x.at y.at)
  one_refused one other (inr (inr x)) (inr (inl y)) = absurd (none_there (files name) y.bytes x.at y.at)
  one_refused one other (inr (inr x)) (inr (inr y)) = x.is ∙ sym y.is

  pub one_held : (m n : Module) → HoldsModule (Some files) name m → HoldsModule (Some files) name n → m ≡ n
  one_held m n h k = same_module h.bytes k.bytes m n h.holds k.holds h.file k.file

  pub never_refused : (m : Module) (ending : Ending) → HoldsModule (Some files) name m → Refused files name ending → ⊥
  never_refused m ending h (inl x) = never_unread ending h.bytes m h.holds h.file x
  never_refused m ending h (inr (inl x)) =
      let same = same_module x.bytes h.bytes x.read m x.at h.holds x.file h.file in
      laws.never_verified m x.fault (subst (λ (z : Module). IsFirstFault z x.fault) same x.first) h.verified
  never_refused m ending h (inr (inr x)) = none_there (files name) h.bytes x.at h.holds
