use Rattle.std.proofs.Common.{is_some, Option, ℕ, sym, ap, ◌∙◌}
use Rattle.mdb_base.proofs.ForCallers.{no_number, some_number}
use Rattle.validation_engine.proofs.Indexed.{kept_same}
use Rattle.validation_engine.proofs.Lines.{stands_aborted, stands_given_up}
use Rattle.validation_engine.proofs.engine.ValidationEngineLocalEngine.abort.Goals as goal

pub returns-then-is_some : goal.returns-then-is_some
returns-then-is_some c =
    let run = c.take_out-run.result in
    let sealed = some_number run.run.sealed (ap (λ (o : Option ℕ). is_some o) (sym c.sealed.ensures) ∙ (sym c.is_some.ensures ∙ c.if-is_some.true)) in
    λ start lines s. stands_aborted c.args.self.now start lines s c.args.tid run c.take_out-run.ensures.run _ sealed.0 sealed.1 c.take_out-run.ensures.book c.change.ensures

pub returns : goal.returns
returns c =
    let run = c.take_out-run.result in
    let live = no_number run.run.sealed (ap (λ (o : Option ℕ). is_some o) (sym c.sealed.ensures) ∙ (sym c.is_some.ensures ∙ c.if-is_some.false)) in
    λ start lines s. stands_given_up c.args.self.now start lines s c.args.tid run c.take_out-run.ensures.run _ live c.take_out-run.ensures.book (kept_same c.args.self.now.index)
