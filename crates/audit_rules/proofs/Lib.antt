pub mod ForCallers
mod AnswersAlike
mod Cycles
mod NextLine
mod Reasons
mod Endings
mod YesAgrees
mod AgreementIsYes
mod FirstFault
mod EachMerge
mod Spoken
mod OneLocalRun
mod EitherOrder
mod PrintedCycle
mod Refuted
