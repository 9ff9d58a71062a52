use Rattle.std.proofs.Common.{Option, sym, ap, ◌∙◌}
use Rattle.std.specs.Option.{option_copied}
use Rattle.mdb_base.specs.Words.{or_else}
use Rattle.run_book.specs.declared.key_ages.KeyAges.{KeyAges}
use Rattle.run_book.specs.Ages.{Ages, ages_of, no_ages}
use Rattle.run_book.proofs.KeyMaps.{ages_kept}
use Rattle.run_book.proofs.accesses.AccessAges.of.Goals as goal

pub returns-in-Some : goal.returns-in-Some
returns-in-Some c =
    ap (λ (o : Option KeyAges). or_else o no_ages) (sym (ap option_copied c.in-Some.is) ∙ c.get.ensures.value)
    ∙ (sym (ages_kept c.self.inside.keys.entries c.args.key) ∙ ap (λ (m : Ages). ages_of m c.args.key) c.self.view_is)

pub returns-in-None : goal.returns-in-None
returns-in-None c =
    c.none.ensures ∙ (ap (λ (o : Option KeyAges). or_else o no_ages) (sym (ap option_copied c.in-None.is) ∙ c.get.ensures.value)
    ∙ (sym (ages_kept c.self.inside.keys.entries c.args.key) ∙ ap (λ (m : Ages). ages_of m c.args.key) c.self.view_is))
