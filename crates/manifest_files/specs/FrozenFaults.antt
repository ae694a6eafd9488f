-- What the fault of a manifest comes to, and what a refusal says.
use Rattle.std.specs.Prelude.{ℕ, Bool, true, false, List, if◌then◌else◌, bytes_eq, Result, Ok, Err}
use Rattle.mpy_base.specs.declared.refused.Refused.{Refused}
use Rattle.mpy_base.specs.declared.refused.Refused.TheVariants as refused
use Rattle.manifest_files.specs.declared.fault.ManifestFault.{ManifestFault}
use Rattle.manifest_files.specs.declared.fault.ManifestFault.TheVariants as manifests
use Rattle.manifest_files.specs.declared.frozen_fault.SourcesFault.{SourcesFault}
use Rattle.manifest_files.specs.declared.frozen_fault.SourcesFault.TheVariants.{Manifest, Absent, Unaccepted, Unread}
use Rattle.manifest_files.specs.declared.frozen_fault.FrozenFault.{FrozenFault}
use Rattle.manifest_files.specs.declared.frozen_fault.FrozenFault.TheVariants.{Sources, Image}

-- the first manifest where it is absent, and a manifest whose read failed, are told as files; each other fault as the manifest's
abbrev pub of_manifest : (manifest : List ℕ) → ManifestFault → SourcesFault
of_manifest manifest (manifests.Absent name) = if bytes_eq name manifest then Absent name else Manifest (manifests.Absent name)
of_manifest manifest (manifests.ReadFault name) = Unread name
of_manifest manifest (manifests.BadCall name line) = Manifest (manifests.BadCall name line)
of_manifest manifest (manifests.Loop name) = Manifest (manifests.Loop name)
of_manifest manifest (manifests.Twice name) = Manifest (manifests.Twice name)
of_manifest manifest (manifests.Required name) = Manifest (manifests.Required name)
of_manifest manifest (manifests.Deep name) = Manifest (manifests.Deep name)
of_manifest manifest manifests.TooMany = Manifest manifests.TooMany

-- a fault of the call is such a one; want of memory says nothing
abbrev pub FaultIs : {F : Type 0} → (F → Type 0) → Refused F → Type 0
FaultIs Fault (refused.Fault fault) = Fault fault
FaultIs Fault refused.NoMemory = Unit {0}

-- whether a read failed outside
abbrev pub is_read_fault : SourcesFault → Bool
is_read_fault (Manifest fault) = false
is_read_fault (Absent name) = false
is_read_fault (Unaccepted name fault) = false
is_read_fault (Unread name) = true

-- is it the fault of a read that failed outside?
abbrev pub is_read_failure : FrozenFault → Bool
is_read_failure (Sources fault) = is_read_fault fault
is_read_failure (Image fault) = false

-- is a call's answer a fault of that kind?
abbrev pub failed_by : {A F : Type 0} → (F → Bool) → Result A (Refused F) → Bool
failed_by failed (Ok x) = false
failed_by failed (Err (refused.Fault fault)) = failed fault
failed_by failed (Err refused.NoMemory) = false
