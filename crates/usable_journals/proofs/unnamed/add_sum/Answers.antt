use Rattle.std.proofs.Common.{List, refl, subst}
use Rattle.std.proofs.lemmas.Result.{on_ok_weaker}
use Rattle.mdb_base.specs.Words.{some_of}
use Rattle.fed_rules.specs.declared.sums.CommittedAttempt.{CommittedAttempt}
use Rattle.fed_rules.specs.declared.sums.OpenAttempt.{OpenAttempt}
use Rattle.usable_journals.specs.Named.{AddsTo, is_committed_of, is_named_in, is_open_of}
use Rattle.usable_journals.proofs.NamedLaws.{adds_then}
use Rattle.usable_journals.proofs.unnamed.add_sum.Goals as goal

pub returns : goal.returns
returns c =
    let sum = c.args.sum.now in
    on_ok_weaker c.add_committed.result
    (λ second.
    adds_then (λ tx. some_of (is_open_of tx) sum.open_attempts) (λ tx. some_of (is_committed_of tx) sum.committed) (λ tx. is_named_in tx sum)
    c.args.names.now c.add_open.new.names c.add_committed.new.names
    (subst (λ (xs : List OpenAttempt). AddsTo (λ tx. some_of (is_open_of tx) xs) c.args.names.now c.add_open.new.names) c.as_slice.ensures c.in_ok-add_open.ensures)
    (subst (λ (xs : List CommittedAttempt). AddsTo (λ tx. some_of (is_committed_of tx) xs) c.add_open.new.names c.add_committed.new.names) c.as_slice-2.ensures second) (λ tx. refl)) c.add_committed.ensures
