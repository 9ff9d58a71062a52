use Rattle.std.proofs.Common.{◌≡◌, is_some, Option, Some, None, refl, sym, ap, ◌∙◌}
use Rattle.std.specs.Option.{option_copied}
use Rattle.std.specs.Borrow.{Bor}
use Rattle.local_dbms.proofs.dbms.LocalDbms.is_own.Goals as goal

copied_some : {A : Type 0} (o : Option (Bor A)) → is_some (option_copied o) ≡ is_some o
copied_some None = refl
copied_some (Some x) = refl

pub returns : goal.returns
returns g c home programs past r = c.is_some.ensures ∙ sym (copied_some c.find.result) ∙ ap is_some (c.find.ensures ∙ r.owns.held c.args.tx)
