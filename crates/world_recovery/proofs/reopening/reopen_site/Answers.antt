use Rattle.std.proofs.Common.{List, refl, sym, subst, arith}
use Rattle.mdb_base.specs.declared.rows.Put.{Put}
use Rattle.mdb_base.specs.Rising.{IsRising}
use Rattle.std.proofs.lemmas.Result.{IfOk-weaker}
use Rattle.world_recovery.proofs.BackSteps.{of_rule}
use Rattle.world_recovery.proofs.reopening.reopen_site.Goals as goal

pub returns-in_default-clause-image : goal.returns-in_default-clause-image
returns-in_default-clause-image g c = refl

pub returns-in_default-clause-cause : goal.returns-in_default-clause-cause
returns-in_default-clause-cause g c = record { later = omega arith; failed = λ e. cc; clean = λ other. refl }

pub of-requires : goal.of-requires
of-requires g c = subst (λ (puts : List Put). IsRising (λ (put : Put). put.key.0) puts) (sym c.new.ensures.items) tt

pub reopen-requires-clause-told : goal.reopen-requires-clause-told
reopen-requires-clause-told g c = c.requires.told

pub reopen-requires-clause-found : goal.reopen-requires-clause-found
reopen-requires-clause-found g c =
    let (home, journal, on, rule) = c.requires.found in
    record { home = home; journal = journal; found = on; of_kind = of_rule c.in-Ok.engine c.args.rule c.of.result c.in-Ok.ensures home.engine rule }

pub returns-clause-stands : goal.returns-clause-stands
returns-clause-stands g c =
    IfOk-weaker c.reopen.result _ _ (λ dbms stood home journal on rule. stood home journal on (of_rule c.in-Ok.engine c.args.rule c.of.result c.in-Ok.ensures home.engine rule))
    c.reopen.ensures.stands

pub returns-clause-image : goal.returns-clause-image
returns-clause-image g c = c.reopen.ensures.image

pub returns-clause-cause : goal.returns-clause-cause
returns-clause-cause g c = c.reopen.ensures.cause
