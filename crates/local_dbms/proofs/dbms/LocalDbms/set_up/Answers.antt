use Rattle.local_dbms.proofs.Lines.{own_named}
use Rattle.local_dbms.proofs.dbms.LocalDbms.set_up.Goals as goal

pub returns-in-Ok-set_up-clause-stands : goal.returns-in-Ok-set_up-clause-stands
returns-in-Ok-set_up-clause-stands g c = record {
  core = c.in-Ok-set_up.ensures.stands;
  owns = record { held = c.in-Ok.ensures; named = own_named c.args.line.site c.args.transactions.now c.requires.named; owned = tt };
}
