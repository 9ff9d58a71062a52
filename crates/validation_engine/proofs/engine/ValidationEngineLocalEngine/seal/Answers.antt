use Rattle.std.proofs.Common.{◌≡◌, ◌+◌, Some, IfSome, Option, sym, ap, ◌∙◌}
use Rattle.std.proofs.lemmas.Option.{same_Some}
use Rattle.mdb_base.specs.declared.names.Engine.TheVariants.{Validation}
use Rattle.mdb_base.specs.Words.{map_some}
use Rattle.run_book.specs.declared.counters.Counters.{Counters}
use Rattle.run_book.specs.Held.{Held, held_in}
use Rattle.run_book.specs.Book.{Book, sealed_with}
use Rattle.run_book.proofs.ForCallers.{held_in-changed_own, if_found, sealable_held, some-found}
use Rattle.validation_engine.proofs.Indexed.{kept_same}
use Rattle.validation_engine.proofs.Lines.{next_ticket, stands_refused, stands_sealed, stop_found, passes_rule, hides_none}
use Rattle.validation_engine.proofs.engine.ValidationEngineLocalEngine.seal.Goals as goal

pub returns-in-Some-clause-failed : goal.returns-in-Some-clause-failed
returns-in-Some-clause-failed c =
    let old = c.args.self.now in
    let here = sealable_held Validation old.book.book c.requires.start c.requires.lines c.args.tid c.requires.stood.keeps.keeps c.requires.holds in
    let refused = stop_found old.index old.book.book c.args.tid here.held c.run-run.result.now c.counters-counters.result _ here.found c.run-run.ensures c.counters-counters.ensures (sym c.seal_stop.ensures ∙ c.in-Some.is) in
    λ start lines s. stands_refused old start lines s c.args.tid here.held here.found _ c.in-Some.why here.live refused c.take_out-refused.ensures.book (kept_same old.index)

pub returns-in_err-writes-clause-unhidden : goal.returns-in_err-writes-clause-unhidden
returns-in_err-writes-clause-unhidden c =
    let old = c.args.self.now in
    let here = sealable_held Validation old.book.book c.requires.start c.requires.lines c.args.tid c.requires.stood.keeps.keeps c.requires.holds in
    let passed = stop_found old.index old.book.book c.args.tid here.held c.run-run.result.now c.counters-counters.result _ here.found c.run-run.ensures c.counters-counters.ensures (sym c.seal_stop.ensures ∙ c.in_default.is) in
    hides_none _ old c.args.tid (passes_rule old c.args.tid here.held here.found here.live passed)

pub seal-requires-clause-next : goal.seal-requires-clause-next
seal-requires-clause-next c =
    let old = c.args.self.now in
    let here = sealable_held Validation old.book.book c.requires.start c.requires.lines c.args.tid c.requires.stood.keeps.keeps c.requires.holds in
    let passed = stop_found old.index old.book.book c.args.tid here.held c.run-run.result.now c.counters-counters.result _ here.found c.run-run.ensures c.counters-counters.ensures (sym c.seal_stop.ensures ∙ c.in_default.is) in
    if_found (λ h. IfSome h.run.ticket (λ t. t ≡ old.book.book.counters.published + 1)) _ here.held here.found
    (next_ticket old c.requires.start c.requires.lines c.requires.stood c.args.tid here.held here.found here.live passed)

pub returns-in_err-seal-clause-unhidden : goal.returns-in_err-seal-clause-unhidden
returns-in_err-seal-clause-unhidden c =
    let old = c.args.self.now in
    let here = sealable_held Validation old.book.book c.requires.start c.requires.lines c.args.tid c.requires.stood.keeps.keeps c.requires.holds in
    let passed = stop_found old.index old.book.book c.args.tid here.held c.run-run.result.now c.counters-counters.result _ here.found c.run-run.ensures c.counters-counters.ensures (sym c.seal_stop.ensures ∙ c.in_default.is) in
    hides_none _ old c.args.tid (passes_rule old c.args.tid here.held here.found here.live passed)

pub run-requires : goal.run-requires
run-requires c =
    let book = c.args.self.now.book.book in
    let here = sealable_held Validation book c.requires.start c.requires.lines c.args.tid c.requires.stood.keeps.keeps c.requires.holds in
    let change = sealed_with (c.counters-counters.result.counter + 1) book.counters in
    some-found _ (change here.held)
    (ap (λ (b : Book). held_in b.runs c.args.tid) c.in_ok-seal.ensures.sealed
    ∙ (held_in-changed_own book.runs c.args.tid change ∙ ap (λ (o : Option Held). map_some change o) here.found))

pub returns-clause-sealed : goal.returns-clause-sealed
returns-clause-sealed c =
    let old = c.args.self.now in
    let book = old.book.book in
    let n = c.counters-counters.result.counter + 1 in
    let here = sealable_held Validation book c.requires.start c.requires.lines c.args.tid c.requires.stood.keeps.keeps c.requires.holds in
    let passed = stop_found old.index book c.args.tid here.held c.run-run.result.now c.counters-counters.result _ here.found c.run-run.ensures c.counters-counters.ensures (sym c.seal_stop.ensures ∙ c.in_default.is) in
    let change = sealed_with n book.counters in
    let then : held_in c.seal.new.self.book.runs c.args.tid ≡ Some (change here.held) =
    ap (λ (b : Book). held_in b.runs c.args.tid) c.in_ok-seal.ensures.sealed
    ∙ (held_in-changed_own book.runs c.args.tid change ∙ ap (λ (o : Option Held). map_some change o) here.found) in
    let same = same_Some c.run.result.now (change here.held) (sym c.run.ensures ∙ then) in
    λ start lines s.
    stands_sealed old start lines s c.args.tid here.held here.found _ n c.run.result.now.run.acts here.live passed (ap (λ (m : Counters). m.counter + 1) c.counters-counters.ensures)
    c.in_ok-seal.ensures.sealed c.in_ok-seal.ensures.room (ap (λ (h : Held). h.run.acts) same) c.change.ensures
