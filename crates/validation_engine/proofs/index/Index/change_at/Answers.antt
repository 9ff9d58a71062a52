use Rattle.std.proofs.Common.{cond, sym, ap, ◌∙◌}
use Rattle.std.specs.FinMap.{from_entries, get}
use Rattle.std.specs.Option.{option_copied_mut}
use Rattle.mdb_base.specs.Names.{same_key}
use Rattle.mdb_base.specs.Words.{map_some}
use Rattle.run_book.proofs.ForCallers.{some-found}
use Rattle.site_tables.proofs.ForCallers.{get-lookup}
use Rattle.validation_engine.specs.Index.{Index, changed_by}
use Rattle.validation_engine.proofs.Entries.{change_there, change_none}
use Rattle.validation_engine.proofs.index.Index.change_at.Goals as goal

pub returns : goal.returns
returns c =
    let change = changed_by c.args.change in
    let found = sym c.get_mut.ensures.value ∙ ap option_copied_mut c.in-Some.is in
    λ k. change_there c.self.inside.keys.entries _ c.args.key k c.in-Some.writers.now c.of.result change found c.of.ensures
    ((c.get_mut.follows.holds c.of.result).3 (some-found _ _ found)).0
    ∙ ap (λ (m : Index). cond (same_key c.args.key k) (map_some change (get m k.0)) (get m k.0)) c.self.view_is

pub returns-in_default : goal.returns-in_default
returns-in_default c =
    let es = c.self.inside.keys.entries in
    let change = changed_by c.args.change in
    let none = sym c.get_mut.ensures.value ∙ ap option_copied_mut c.in_default.is in
    λ k. rw c.get_mut.follows.holds-at-none
    (change_none (from_entries es) c.args.key k change (get-lookup es c.args.key.0 ∙ none)
    ∙ ap (λ (m : Index). cond (same_key c.args.key k) (map_some change (get m k.0)) (get m k.0)) c.self.view_is)
