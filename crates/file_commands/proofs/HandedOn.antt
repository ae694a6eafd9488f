-- A command that was done, and whose text couldn't be handed on: all of it is told, as a front of itself.
use Rattle.std.proofs.Common.{List, [], ℕ, Option, sym}
use Rattle.std.proofs.lemmas.List.{append-nil}
use Rattle.std.specs.Io.KnownBytes.{Appends, Keeps}
use Rattle.std.proofs.KnownBytes.{Appends-kept}
use Rattle.mpy_io.specs.Files.{FileOf}
use Rattle.mpy_io.specs.Told.{AppendsFront}
use Rattle.command_files.specs.mpy_endings.declared.ending.Ending.TheVariants.{Done, WriteFault}
use Rattle.file_commands.specs.Check.{Checks, verified_line}
use Rattle.file_commands.specs.CheckAs.{ChecksAs, translation_line}
use Rattle.file_commands.specs.Cross.{Crosses}
use Rattle.file_commands.specs.Dump.{Dumps}

all_is_front : (a b c : Option (List ℕ)) (text : List ℕ) → Keeps b c → Appends a b text → AppendsFront a c text
all_is_front a b c text q p = record { front = text; rest = []; parts = sym (append-nil text); added = Appends-kept a b c text p q }

pub checks_cut : (files : Option FileOf) (name : List ℕ) (a b c : Option (List ℕ)) → Keeps b c → Checks files name Done a b → Checks files name WriteFault a c
checks_cut files name a b c q p = (p.0, p.1, all_is_front a b c (verified_line p.0) q p.2)

pub checks_as_cut : (level : ℕ) (files : Option FileOf) (source file : List ℕ) (a b c : Option (List ℕ)) (place : ℕ) → Keeps b c → ChecksAs level files source file a b place Done → ChecksAs level files source file a c place WriteFault
checks_as_cut level files source file a b c place q p = (p.0, p.1, all_is_front a b c (translation_line p.0) q p.2)

pub dumps_cut : (files : Option FileOf) (name : List ℕ) (a b c : Option (List ℕ)) → Keeps b c → Dumps files name Done a b → Dumps files name WriteFault a c
dumps_cut files name a b c q p = (p.0, p.1, all_is_front a b c p.0 q p.2)

pub crosses_cut : (level : ℕ) (name stored written : List ℕ) (old new : Option FileOf) → Crosses level name stored written old new Done → Crosses level name stored written old new WriteFault
crosses_cut level name stored written old new p = p
