use Rattle.std.proofs.Common.{arith}
use Rattle.coord_journal.proofs.Found.{is_found}
use Rattle.coord_journal.proofs.decoding.record_of.Goals as goal

pub returns-clause-found : goal.returns-clause-found
returns-clause-found c = is_found c.args.payload.now c.all_of.result (λ i. omega (arith, c.type_inv.payload i)) c.all_of.ensures
