pub use Rattle.trans_laws.proofs as trans_laws_lemmas
mod Early
mod Links
mod Means
mod Meant
