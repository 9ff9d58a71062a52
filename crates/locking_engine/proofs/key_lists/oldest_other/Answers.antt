use Rattle.std.proofs.Common.{Option, List, sym, ap, ◌∙◌, subst}
use Rattle.std.specs.Option.{option_copied}
use Rattle.run_book.specs.declared.rival.Rival.{Rival}
use Rattle.locking_engine.specs.ByAge.{first_other}
use Rattle.locking_engine.specs.Holders.{IsOldestOther}
use Rattle.locking_engine.specs.Lists.{holders_in}
use Rattle.locking_engine.proofs.KeyLists.{oldest_listed, nobody_listed}
use Rattle.locking_engine.proofs.key_lists.oldest_other.Goals as goal

pub returns-in-Some : goal.returns-in-Some
returns-in-Some c =
    let es = c.args.lists.now.entries in
    let age = c.args.age in
    let first = c.oldest_other.ensures ∙ ap (λ (xs : List Rival). first_other age xs) c.as_slice.ensures.value in
    subst (λ (o : Option Rival). IsOldestOther (holders_in es) c.args.key age o) (sym first)
    (oldest_listed es c.args.key c.requires age c.in-Some.holders.now (sym c.get.ensures.value ∙ ap option_copied c.in-Some.is))

pub returns-in-None : goal.returns-in-None
returns-in-None c = nobody_listed c.args.lists.now.entries c.args.key c.requires c.args.age (sym c.get.ensures.value ∙ ap option_copied c.in-None.is)
