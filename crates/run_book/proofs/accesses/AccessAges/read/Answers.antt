use Rattle.std.proofs.Common.{cond, Option, IsSome, sym, ap, ◌∙◌, subst}
use Rattle.std.specs.FinMap.{get}
use Rattle.std.specs.Option.{option_copied_mut}
use Rattle.mdb_base.specs.Names.{same_key}
use Rattle.mdb_base.proofs.ForCallers.{lent}
use Rattle.run_book.proofs.HeldBy.{some-found}
use Rattle.site_tables.proofs.ForCallers.{get-lookup}
use Rattle.run_book.specs.declared.key_ages.KeyAges.{KeyAges}
use Rattle.run_book.specs.Ages.{Ages, ages_of, with_reader}
use Rattle.run_book.proofs.KeyMaps.{ages_changed}
use Rattle.run_book.proofs.accesses.AccessAges.read.Goals as goal

pub unwrap-place-requires : goal.unwrap-place-requires
unwrap-place-requires c =
    let there = subst (λ (m : Ages). IsSome (get m c.args.key.0)) (sym c.self.view_is) c.requires in
    lent c.get_mut.result (subst (λ (o : Option KeyAges). IsSome o) (sym (c.get_mut.ensures.value ∙ sym (get-lookup c.self.inside.keys.entries c.args.key.0))) there)

pub returns : goal.returns
returns c =
    let change = with_reader c.args.run in
    let found = sym c.get_mut.ensures.value ∙ ap option_copied_mut c.unwrap-place.ensures in
    λ q. ages_changed c.self.inside.keys.entries _ c.args.key c.unwrap-place.result.now c.with_reader.result change found c.with_reader.ensures
    ((c.get_mut.follows.holds c.with_reader.result).3 (some-found _ _ found)).0 q
    ∙ ap (λ (m : Ages). cond (same_key c.args.key q) (change (ages_of m q)) (ages_of m q)) c.self.view_is
