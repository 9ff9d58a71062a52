-- What is said of an output.
use Rattle.std.proofs.Common.{ℕ, Result, Ok, Err, List}
use Rattle.mdb_base.specs.declared.names.Memory.{Memory}
use Rattle.outputs.specs.declared.output.Output.{Output}
use Rattle.outputs.specs.declared.output.Output.TheVariants.{Whole, Broken}
use Rattle.outputs.specs.Outputs.{IfWhole}

-- what an output says of a whole one follows from more
pub whole_weaker : (r : Result Output Memory) (P Q : List ℕ → Type 0) → ((bytes : List ℕ) → P bytes → Q bytes) → IfWhole r P → IfWhole r Q
whole_weaker (Ok (Whole bytes)) P Q f p = f bytes.items p
whole_weaker (Ok (Broken bytes)) P Q f p = p
whole_weaker (Err why) P Q f p = p
