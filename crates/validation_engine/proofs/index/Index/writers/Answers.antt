use Rattle.std.proofs.Common.{Option, sym, ap, ◌∙◌}
use Rattle.std.specs.FinMap.{get}
use Rattle.std.specs.Option.{option_copied}
use Rattle.mdb_base.specs.Words.{or_else}
use Rattle.site_tables.proofs.ForCallers.{get-lookup}
use Rattle.validation_engine.specs.declared.index.Writers.{Writers}
use Rattle.validation_engine.specs.Index.{Index, nobody}
use Rattle.validation_engine.proofs.index.Index.writers.Goals as goal

pub returns-in-Some : goal.returns-in-Some
returns-in-Some c =
    let found = ap option_copied (sym c.in-Some.is) ∙ c.get.ensures.value in
    ap (λ (o : Option Writers). or_else o nobody) (found ∙ sym (get-lookup c.self.inside.keys.entries c.args.key.0) ∙ ap (λ (m : Index). get m c.args.key.0) c.self.view_is)

pub returns-in-None : goal.returns-in-None
returns-in-None c =
    let found = ap option_copied (sym c.in-None.is) ∙ c.get.ensures.value in
    ap (λ (o : Option Writers). or_else o nobody) (found ∙ sym (get-lookup c.self.inside.keys.entries c.args.key.0) ∙ ap (λ (m : Index). get m c.args.key.0) c.self.view_is)
