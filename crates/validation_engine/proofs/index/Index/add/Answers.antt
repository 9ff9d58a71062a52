use Rattle.std.proofs.Common.{is_some, Option, sym, ap, ◌∙◌}
use Rattle.std.specs.FinMap.{get}
use Rattle.std.proofs.lemmas.Result.{on_ok_weaker}
use Rattle.site_tables.proofs.ForCallers.{get-lookup}
use Rattle.validation_engine.specs.declared.index.Writers.{Writers}
use Rattle.validation_engine.specs.Index.{Index}
use Rattle.validation_engine.proofs.Entries.{added_there, added_new}
use Rattle.validation_engine.proofs.index.Index.add.Goals as goal

pub returns-then-contains_key-clause-added : goal.returns-then-contains_key-clause-added
returns-then-contains_key-clause-added c =
    let found = c.contains_key.ensures ∙ ap (λ (o : Option Writers). is_some o) (sym (get-lookup c.self.inside.keys.entries c.args.key.0) ∙ ap (λ (m : Index). get m c.args.key.0) c.self.view_is) in
    added_there c.args.key c.args.self.now (sym found ∙ c.if-contains_key.true)

pub returns-clause-added : goal.returns-clause-added
returns-clause-added c =
    let found = c.contains_key.ensures ∙ ap (λ (o : Option Writers). is_some o) (sym (get-lookup c.self.inside.keys.entries c.args.key.0) ∙ ap (λ (m : Index). get m c.args.key.0) c.self.view_is) in
    on_ok_weaker c.put.result (λ made. made ∙ added_new c.args.key c.args.self.now (sym found ∙ c.if-contains_key.false)) c.put.ensures.put
