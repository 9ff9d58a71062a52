use Rattle.std.proofs.Common.{Some, nat_eq}
use Rattle.std.specs.HashMap.{Updates}
use Rattle.std.proofs.lemmas.Result.{IfOk-at_ok}
use Rattle.site_tables.proofs.versions.write_over.Goals as goal

pub returns-clause-written : goal.returns-clause-written
returns-clause-written c key =
    let put = c.args.put in
    let updates = IfOk-at_ok (λ _. Updates nat_eq c.args.versions.now c.insert-inserted.new.self put.key.0 (Some (record { value = put.value; number = 0 }))) c.unwrap.ensures c.insert-inserted.ensures.updates in
    updates.0 key.0
