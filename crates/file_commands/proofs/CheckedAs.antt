-- How a check of a file against a source ends.
use Rattle.std.proofs.Common.{◌≡◌, [], ℕ, List, Option, Some, None, Result, Ok, Err, inl, inr, refl, sym, subst, ◌∙◌}
use Rattle.std.specs.Prelude.{Vec, IfErr}
use Rattle.std.specs.declared.alloc.Global.{Global}
use Rattle.std.proofs.KnownBytes.{Keeps-refl}
use Rattle.mpy_base.specs.declared.refused.Refused.{Refused}
use Rattle.mpy_base.specs.declared.refused.Refused.TheVariants as refused
use Rattle.mpy_base.specs.declared.source.SourceFault.{SourceFault}
use Rattle.mpy_base.specs.Fault.{too_long}
use Rattle.mpy_io.specs.Files.{FileOf}
use Rattle.command_files.specs.mpy_writer.mpy_tree.declared.module.ModuleCode.{ModuleCode}
use Rattle.command_files.specs.mpy_writer.mpy_tree.File.{IsModule, IsFile}
use Rattle.command_files.specs.mpy_writer.mpy_tree.Raw.{Module}
use Rattle.command_files.specs.mpy_writer.mpy_tree.Resolved.{ResolvedModule, Resolves, name_at}
use Rattle.mpy_reader.specs.declared.fault.FileFault.{FileFault}
use Rattle.mpy_reader.specs.Reading.{FirstFault}
use Rattle.trans_check.specs.trans_parts.declared.part.What.{What}
use Rattle.trans_check.specs.declared.comparing.Compared.{Compared}
use Rattle.trans_check.specs.declared.comparing.Compared.TheVariants.{Same, Differs}
use Rattle.trans_check.specs.Says.{Says}
use Rattle.command_files.specs.mpy_compile.Compiled.{IsFileOf, IsCompiled, IsFault, Refuses}
use Rattle.command_files.specs.mpy_compile.Checked.{Compares}
use Rattle.command_files.specs.mpy_endings.declared.ending.Ended.{Ended}
use Rattle.command_files.specs.mpy_endings.declared.ending.Ending.{Ending}
use Rattle.command_files.specs.mpy_endings.declared.ending.Ending.TheVariants.{Done, Unaccepted, Unread, Unverified, Unmerged, Unopened, Unfrozen, Unboarded, Different, Stopped, ReadFault, WriteFault, Unwritten, NoMemory, Absent}
use Rattle.command_files.specs.Folder.{MayHold, IsNotRead}
use Rattle.command_files.specs.Source.{HoldsFaulty}
use Rattle.command_files.proofs.Long.{not_read, long_faulty}
use Rattle.file_commands.specs.Check.{count_of}
use Rattle.file_commands.specs.CheckAs.{IsThere, HoldsTranslation, ChecksAs}
use Rattle.file_commands.specs.Texts.{HoldsText}

pub is_there : (files : Option FileOf) (name : List ℕ) (text : Option (Vec ℕ Global)) → HoldsText files name text → IsThere files name
is_there files name (Some text) h = (text.items, h)
is_there None name None h = ([], tt)
is_there (Some held) name None h = (h.0, h.1)

-- what a folder has after a read that changed nothing, under a name whose bytes are lent
pub held : (old new : Option FileOf) (name bytes lent : List ℕ) → new ≡ old → lent ≡ bytes → MayHold new name (Some bytes) → MayHold old name (Some lent)
held old new name bytes lent e l h =
    subst (λ (f : Option FileOf). MayHold f name (Some lent)) e (subst (λ (bs : List ℕ). MayHold new name (Some bs)) (sym l) h)

-- a module's tree, by the name that it stores
pub record Named (m : Module) (stored : List ℕ) : Type 0 where
  pub tree : ResolvedModule
  pub resolves : Resolves m tree
  pub name : stored ≡ tree.source

pub named : ((m : Module) → IsModule m → (tree : ResolvedModule) × Resolves m tree) → (m : Module) → IsModule m → (stored : List ℕ) → name_at m 0 ≡ Some stored → Named m stored
named tree_of m is stored e =
    let t = tree_of m is in
    let found : Some stored ≡ Some t.0.source = sym e ∙ t.1.source in
    record { tree = t.0; resolves = t.1; name = cc }

-- a refusal of the source under that name
pub refused_as : (level : ℕ) (text stored name : List ℕ) (r : Refused SourceFault) (fault : SourceFault) → r ≡ refused.Fault fault → stored ≡ name → Refuses level text stored r → IsFault level text name fault
refused_as level text stored name r fault e n h =
    subst (λ (s : List ℕ). IsFault level text s fault) n (subst (λ (x : Refused SourceFault). Refuses level text stored x) e h)

-- what keeps a text from being the source of a file's module keeps the source from it that has the text
pub refused_by : (level : ℕ) (r : Result ℕ Ended) (text : Option (Vec ℕ Global)) (own : Vec ℕ Global) (lent bytes : List ℕ) (m : Module) → text ≡ Some own → lent ≡ own.items → IsFile bytes m
    → IfErr r (λ ended. (files : Option FileOf) (source file bs : List ℕ) (told : Option (List ℕ)) → MayHold files source (Some lent) → MayHold files file (Some bs) → IsFile bs m
    → ChecksAs level files source file told told ended.place ended.ending)
    → IfErr r (λ ended. (files : Option FileOf) (source file : List ℕ) (told : Option (List ℕ)) → HoldsText files source text → MayHold files file (Some bytes)
    → ChecksAs level files source file told told ended.place ended.ending)
refused_by level (Ok count) text own lent bytes m e l is h = tt
refused_by level (Err ended) text own lent bytes m e l is h = λ files source file told has holds.
    h files source file bytes told (subst (λ (bs : List ℕ). MayHold files source (Some bs)) (sym l) (subst (HoldsText files source) e has)) holds is

module _ (level : ℕ) (files : Option FileOf) (source file : List ℕ) (told : Option (List ℕ)) where
  abbrev EndedSo : ℕ → Ending → Type 0
  EndedSo place ending = ChecksAs level files source file told told place ending

  -- the source isn't read, and not for its length
  pub no_source : (ending : Ending) → ((fault : FileFault) → ending ≡ Unread fault → ⊥) → IsNotRead files source ending → EndedSo 1 ending
  no_source Done long h = absurd h
  no_source (Unaccepted fault) long h = absurd h
  no_source (Unread fault) long h = absurd (long fault refl)
  no_source (Unverified fault) long h = absurd h
  no_source (Unmerged fault) long h = absurd h
  no_source (Unopened fault) long h = absurd h
  no_source (Unfrozen fault) long h = absurd h
  no_source (Unboarded fault) long h = absurd h
  no_source (Different difference) long h = absurd h
  no_source (Stopped stop) long h = absurd h
  no_source ReadFault long h = (inl refl, Keeps-refl told)
  no_source WriteFault long h = absurd h
  no_source Unwritten long h = absurd h
  no_source NoMemory long h = Keeps-refl told
  no_source Absent long h = (inl (refl, h), Keeps-refl told)

  -- the source is there, and the file isn't read
  pub no_file : IsThere files source → (ending : Ending) → IsNotRead files file ending → EndedSo 2 ending
  no_file there Done h = absurd h
  no_file there (Unaccepted fault) h = absurd h
  no_file there (Unread fault) h = (refl, there, not_read files file (Unread fault) h, Keeps-refl told)
  no_file there (Unverified fault) h = absurd h
  no_file there (Unmerged fault) h = absurd h
  no_file there (Unopened fault) h = absurd h
  no_file there (Unfrozen fault) h = absurd h
  no_file there (Unboarded fault) h = absurd h
  no_file there (Different difference) h = absurd h
  no_file there (Stopped stop) h = absurd h
  no_file there ReadFault h = (inr (refl, there), Keeps-refl told)
  no_file there WriteFault h = absurd h
  no_file there Unwritten h = absurd h
  no_file there NoMemory h = Keeps-refl told
  no_file there Absent h = (inr (refl, there, h), Keeps-refl told)

  -- the file is no module
  pub unread : IsThere files source → (bytes : List ℕ) → MayHold files file (Some bytes) → (fault : FileFault) → FirstFault bytes fault → EndedSo 2 (Unread fault)
  unread there bytes holds fault first = (refl, there, (bytes, holds, first), Keeps-refl told)

  -- the file is one of this module and its tree
  module _ (bytes : List ℕ) (holds : MayHold files file (Some bytes)) (m : Module) (is : IsFile bytes m) (tree : ResolvedModule) (resolves : Resolves m tree) where
    unaccepted_by : (fault : SourceFault) → HoldsFaulty level files source tree.source fault → EndedSo 1 (Unaccepted fault)
    unaccepted_by fault faulty = (refl, record { bytes = bytes; has_file = holds; read = tree; reads = (m, is, resolves); faulty = faulty }, Keeps-refl told)

    -- the source is too long
    pub long_source : HoldsText files source None → (fault : SourceFault) → fault ≡ too_long → EndedSo 1 (Unaccepted fault)
    long_source long fault e =
        unaccepted_by fault (subst (HoldsFaulty level files source tree.source) (sym e) (long_faulty level files source tree.source long))

    -- the source has this text
    module _ (text : List ℕ) (has : MayHold files source (Some text)) where
      pub unaccepted : (fault : SourceFault) → IsFault level text tree.source fault → EndedSo 1 (Unaccepted fault)
      unaccepted fault is_fault = unaccepted_by fault (record { source = text; holds = has; is = is_fault })

      -- and compiles to this module
      module _ (whole : ModuleCode) (own : List ℕ) (compiled : IsCompiled level text tree.source whole) (made : IsFileOf whole own) where
        -- what the source's own file is read as
        abbrev pub wanted : ResolvedModule
        wanted = made.reads.tree

        abbrev compares : Compares level text bytes wanted tree
        compares = record {
          own = own;
          compiles = record { whole = whole; compiled = compiled; file = made };
          is_want = made.reads.reads;
          is_have = (m, is, resolves);
        }

        pub same : (found : Compared) → found ≡ Same → Says wanted.code tree.code found → (count : ℕ) → count ≡ count_of m → HoldsTranslation level files source file count
        same found e says count counted = record {
          text = text;
          has_source = has;
          bytes = bytes;
          has_file = holds;
          is = record { want = wanted; have = tree; compares = compares; fits = subst (Says wanted.code tree.code) e says };
          count_is = counted;
        }

        pub different : (found : Compared) (path : List ℕ) (what : What) (at : ℕ) → found ≡ Differs path what at → Says wanted.code tree.code found
            → EndedSo 2 (Different (record { path = path; what = what; at = at }))
        different found path what at e says =
            let told_of : Says wanted.code tree.code (Differs path what at) = subst (Says wanted.code tree.code) e says in (
              refl,
              record {
                text = text;
                has_source = has;
                bytes = bytes;
                has_file = holds;
                is = record { want = wanted; have = tree; compares = compares; inner = told_of.0; path_is = told_of.1; first = told_of.2 };
              },
              Keeps-refl told,
            )
