pub use Rattle.frozen_files.specs as frozen_files
pub use Rattle.frozen_files.specs.image_freeze
pub use Rattle.frozen_files.specs.pkg_paths
pub use Rattle.frozen_files.specs.source_files
pub use Rattle.image_open.specs as image_open
pub use Rattle.manifest_files.specs.image_grammar
pub use Rattle.meant_runs.specs as meant_runs
pub use Rattle.meant_runs.specs.mpy_base
pub use Rattle.meant_runs.specs.mpy_io
pub use Rattle.meant_runs.specs.port_set
pub use Rattle.meant_runs.specs.prim_outputs
pub use Rattle.meant_runs.specs.py_effects
pub use Rattle.meant_runs.specs.py_meaning
pub use Rattle.meant_runs.specs.py_values
pub use Rattle.meant_runs.specs.vm_frames
pub use Rattle.meant_runs.specs.vm_starting
pub use Rattle.meant_runs.specs.vm_states
pub mod Built
pub mod Imported
pub mod Libraries
pub mod Programs
pub mod Readings
pub mod Sources
