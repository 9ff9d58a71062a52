-- What is made of an input before anything is put.
use Rattle.std.specs.Prelude.{ℕ, List, Result, Ok, Err}
use Rattle.mdb_base.specs.declared.names.Memory.{Memory}
use Rattle.journal_disk.specs.Disk.{Seen}
use Rattle.outputs.specs.declared.output.Output.{Output}
use Rattle.outputs.specs.declared.output.Output.TheVariants.{Whole, Broken}

-- an output is a whole one of which the fact holds
abbrev pub IfWhole : Result Output Memory → (List ℕ → Type 0) → Type 0
IfWhole (Ok (Whole bytes)) P = P bytes.items
IfWhole (Ok (Broken bytes)) P = ⊥
IfWhole (Err why) P = Unit {0}

-- an output is a broken one of which the fact holds
abbrev pub IfBroken : Result Output Memory → (List ℕ → Type 0) → Type 0
IfBroken (Ok (Whole bytes)) P = ⊥
IfBroken (Ok (Broken bytes)) P = P bytes.items
IfBroken (Err why) P = Unit {0}

-- what a command of the program says of the output that it makes of what an input spells, and of the disks before and behind: where all was done,
-- where a call of a disk failed, and where memory was wanting
pub record Account (X : Type 0) : Type 1 where
  pub whole : (output : List ℕ) → (old new : List Seen) → X → Type 0
  pub broken : (output : List ℕ) → (old new : List Seen) → X → Type 0
  pub short : (old new : List Seen) → X → Type 0

-- the output is one of which the account speaks
abbrev pub IsOutput : {X : Type 0} → Account X → Result Output Memory → List Seen → List Seen → X → Type 0
IsOutput account (Ok (Whole bytes)) old new x = account.whole bytes.items old new x
IsOutput account (Ok (Broken bytes)) old new x = account.broken bytes.items old new x
IsOutput account (Err why) old new x = account.short old new x
