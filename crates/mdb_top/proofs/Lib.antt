pub mod ForCallers
mod Asking
mod AuditLemmas
mod InputLemmas
mod OpenLemmas
mod Progress
mod ResumeLemmas
mod TopLemmas
mod UsedDisks
