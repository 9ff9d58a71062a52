use Rattle.std.proofs.Common.{List, ◌≡◌, reverse, sym, subst}
use Rattle.std.specs.BTreeSet.{contains}
use Rattle.mdb_base.specs.Words.{some_of}
use Rattle.fed_rules.specs.declared.records.SiteRecord.{SiteRecord}
use Rattle.fed_rules.specs.Usable.{counted}
use Rattle.usable_journals.specs.PartedTold.{is_global_of}
use Rattle.mdb_base.specs.Names.{tx_cmp}
use Rattle.usable_journals.specs.SiteTests.{is_local_of}
use Rattle.usable_journals.proofs.PartedLaws.{globals_are, locals_are, none_global, none_local}
use Rattle.usable_journals.proofs.parted.transactions.Goals as goal

pub returns-in_default-clause-locals : goal.returns-in_default-clause-locals
returns-in_default-clause-locals c = none_local c.args.records.now c.new.result c.new.ensures.empty c.in_default.ensures.cases

pub returns-in_default-clause-globals : goal.returns-in_default-clause-globals
returns-in_default-clause-globals c = none_global c.args.records.now c.new-2.result c.new-2.ensures.empty c.in_default.ensures.cases

pub returns-clause-locals : goal.returns-clause-locals
returns-clause-locals c tx =
    subst (λ (rs : List SiteRecord). contains tx_cmp c.take_all.new.self.locals tx ≡ some_of (is_local_of tx) (counted (reverse rs))) (sym c.in-Some.ensures.cases.0)
    (locals_are c.in-Some.first.now c.in-Some.newer.now (record { locals = c.new.result; globals = c.new-2.result }) c.take_first.new.self c.take_all.new.self
    c.new.ensures.empty c.in_ok-take_first.ensures c.in_ok-take_all.ensures tx)

pub returns-clause-globals : goal.returns-clause-globals
returns-clause-globals c tx =
    subst (λ (rs : List SiteRecord). contains tx_cmp c.take_all.new.self.globals tx ≡ some_of (is_global_of tx) (reverse rs)) (sym c.in-Some.ensures.cases.0)
    (globals_are c.in-Some.first.now c.in-Some.newer.now (record { locals = c.new.result; globals = c.new-2.result }) c.take_first.new.self c.take_all.new.self
    c.new-2.ensures.empty c.in_ok-take_first.ensures c.in_ok-take_all.ensures tx)
