-- What ends a session asks for no Checkpoint.
use Rattle.std.proofs.Common.{◌≡◌, true, false, refl, sym, subst}
use Rattle.mdb_base.proofs.ForCallers.{append_each, each_map}
use Rattle.fed_rules.specs.declared.commands.Command.{Command}
use Rattle.fed_rules.specs.declared.commands.Command.TheVariants as Cmd
use Rattle.fed_rules.specs.Closing.{closed}
use Rattle.progress_laws.specs.Added.{ClosingAddsItsOwn, FinishingAddsItsOwn, is_of_clients, is_of_closing}
use Rattle.made_laws.specs.Unchecked.{AreUnchecked, EndsAreUnchecked, is_check}

closing_unchecked : (command : Command) → is_of_closing command ≡ true → is_check command ≡ false
closing_unchecked (Cmd.Check actor) e = cc
closing_unchecked command e = refl

clients_unchecked : (command : Command) → is_of_clients command ≡ true → is_check command ≡ false
clients_unchecked (Cmd.Check actor) e = cc
clients_unchecked command e = refl

pub ends_unchecked : ClosingAddsItsOwn → FinishingAddsItsOwn → EndsAreUnchecked
ends_unchecked closing_adds finishing_adds scenario commands none =
    let closing = closing_adds scenario commands in
    let finishing = finishing_adds scenario (closed scenario commands) in
    subst AreUnchecked (sym finishing.is)
    (append_each (λ command. is_check command ≡ false) finishing.front (closed scenario commands)
    (each_map (λ command. is_of_clients command ≡ true) (λ command. is_check command ≡ false) clients_unchecked finishing.front finishing.each)
    (subst AreUnchecked (sym closing.is)
    (append_each (λ command. is_check command ≡ false) closing.front commands
    (each_map (λ command. is_of_closing command ≡ true) (λ command. is_check command ≡ false) closing_unchecked closing.front closing.each) none)))
