use Rattle.std.proofs.Common.{List, ◌≡◌, reverse, sym, subst}
use Rattle.std.specs.BTreeSet.{contains}
use Rattle.mdb_base.specs.Words.{some_of}
use Rattle.fed_rules.specs.declared.records.CoordRecord.{CoordRecord}
use Rattle.fed_rules.specs.Usable.{coord_read}
use Rattle.usable_journals.specs.Named.{is_attempt_of}
use Rattle.mdb_base.specs.Names.{tx_cmp}
use Rattle.usable_journals.proofs.NamedLaws.{names_are, no_names}
use Rattle.usable_journals.proofs.unnamed.names_of.Goals as goal

pub returns-in_default : goal.returns-in_default
returns-in_default c = no_names c.args.records.now c.new-names.result c.new-names.ensures.empty c.in_default.ensures.cases

pub returns : goal.returns
returns c tx =
    subst (λ (rs : List CoordRecord). contains tx_cmp c.add_all.new.names tx ≡ some_of (is_attempt_of tx) (coord_read (reverse rs))) (sym c.in-Some.ensures.cases.0)
    (names_are c.in-Some.first.now c.in-Some.newer.now c.new-names.result c.add_first.new.names c.add_all.new.names c.new-names.ensures.empty c.in_ok-add_first.ensures
    c.in_ok-add_all.ensures tx)
