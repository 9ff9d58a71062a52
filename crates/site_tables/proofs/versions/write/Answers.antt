use Rattle.std.proofs.Common.{Some, ap, sym, ◌∙◌, nat_eq}
use Rattle.std.specs.HashMap.{get, Updates}
use Rattle.std.proofs.lemmas.Result.{IfOk-at_ok}
use Rattle.site_tables.proofs.Writes.{writes_one, keeps_one}
use Rattle.site_tables.proofs.versions.write.Goals as goal

pub returns-then-is_newer-clause-written : goal.returns-then-is_newer-clause-written
returns-then-is_newer-clause-written c key =
    let old = c.args.versions.now in
    let put = c.args.put in
    let number = c.args.number in
    let updates = IfOk-at_ok (λ _. Updates nat_eq old c.insert-inserted.new.self put.key.0 (Some (record { value = put.value; number = number }))) c.unwrap.ensures c.insert-inserted.ensures.updates in
    writes_one number put.value put.key.0 key.0 (get nat_eq old put.key.0) _ _ (sym c.is_newer.ensures ∙ c.if-is_newer.true) (λ same. ap (get nat_eq old) (sym same)) (updates.0 key.0)

pub returns-else-is_newer-clause-written : goal.returns-else-is_newer-clause-written
returns-else-is_newer-clause-written c key =
    let old = c.args.versions.now in
    let put = c.args.put in
    keeps_one c.args.number put.value put.key.0 key.0 (get nat_eq old put.key.0) _ (sym c.is_newer.ensures ∙ c.if-is_newer.false) (λ same. ap (get nat_eq old) (sym same))
