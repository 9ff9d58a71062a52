-- Attempts by transaction and then by attempt are attempts by their numbers.
use Rattle.std.proofs.Common.{◌≡◌, ◌<◌, true, arith}
use Rattle.mdb_base.specs.declared.names.Tid.{Tid}
use Rattle.mdb_base.specs.Names.{tid_before}
use Rattle.field_bytes.specs.Fields.{IsTid}
use Rattle.record_fields.specs.Sums.{tid_number}

pub before-less : (a b : Tid) → IsTid a → IsTid b → tid_before a b ≡ true → tid_number a < tid_number b
before-less a b x y e = let one = x.attempts in let two = y.attempts in grind arith

pub less-before : (a b : Tid) → IsTid a → IsTid b → tid_number a < tid_number b → tid_before a b ≡ true
less-before a b x y lt = let one = x.attempts in let two = y.attempts in grind arith
