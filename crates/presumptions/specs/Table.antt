-- The two tables of the commit protocols (Mohan, Lindsay, Obermarck 1986; the profile's records and acknowledgements).
use Rattle.std.specs.Prelude.{Bool, true, false}
use Rattle.presumptions.specs.declared.Protocol.{Protocol}
use Rattle.presumptions.specs.declared.Protocol.TheVariants as By
use Rattle.presumptions.specs.declared.Decision.{Decision}
use Rattle.presumptions.specs.declared.Decision.TheVariants as Decided

-- a site forces its Ended record where a lost one would be presumed the other way, and always under presumed nothing
abbrev pub forces : Protocol → Decision → Bool
forces By.Nothing decision = true
forces By.Abort Decided.Commit = true
forces By.Abort Decided.Abort = false
forces By.Commit Decided.Commit = false
forces By.Commit Decided.Abort = true

-- a site acknowledges what it forces
abbrev pub acks : Protocol → Decision → Bool
acks = forces

-- what is presumed of a transaction that the coordinator doesn't know; presumed nothing is answered abort
abbrev pub presumed : Protocol → Decision
presumed By.Nothing = Decided.Abort
presumed By.Abort = Decided.Abort
presumed By.Commit = Decided.Commit
