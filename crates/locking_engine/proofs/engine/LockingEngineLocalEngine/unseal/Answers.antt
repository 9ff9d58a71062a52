use Rattle.std.proofs.Common.{◌≡◌, ℕ, true, false, is_some, Some, Option, refl, sym, ap, ◌∙◌}
use Rattle.std.proofs.lemmas.Bool.{cond-true, cond-false}
use Rattle.mdb_base.specs.declared.names.Engine.TheVariants.{Locking}
use Rattle.mdb_base.specs.declared.names.Tid.{Tid}
use Rattle.mdb_base.specs.Words.{map_some}
use Rattle.fed_rules.specs.Runs.{has_ticket}
use Rattle.engine_laws.proofs.ForCallers.{tid_is}
use Rattle.run_book.specs.declared.rival.Rival.{Rival}
use Rattle.run_book.specs.Held.{Held, held_in}
use Rattle.run_book.specs.Book.{Book, not_sealed}
use Rattle.run_book.proofs.ForCallers.{held_in-changed_own, just_sealed_held, run_at-held, some-found, some_held, unseals_well}
use Rattle.locking_engine.proofs.Numbers.{stands_unsealed}
use Rattle.locking_engine.proofs.engine.LockingEngineLocalEngine.unseal.Goals as goal

pub run-run-requires : goal.run-run-requires
run-run-requires c =
    let book = c.args.self.now.book.book in
    let there = some_held _ (just_sealed_held Locking book c.requires.start c.requires.lines c.args.tid c.requires.stood.keeps.keeps c.requires.holds) in
    some-found _ (not_sealed there.0)
    (ap (λ (b : Book). held_in b.runs c.args.tid) c.unseal.ensures.book
    ∙ (held_in-changed_own book.runs c.args.tid not_sealed ∙ ap (λ (o : Option Held). map_some not_sealed o) there.1))

pub returns-then-is_some : goal.returns-then-is_some
returns-then-is_some c =
    let old = c.args.self.now in
    let run = c.run-run.result.now.run in
    let has : has_ticket run ≡ true = ap (λ (o : Option ℕ). is_some o) (sym c.ticket.ensures) ∙ (sym c.is_some.ensures ∙ c.if-is_some.true) in
    λ start older n s.
    let keeps = unseals_well Locking old.book c.unseal.new.self start older c.args.tid n s.keeps c.unseal.ensures.book c.unseal.ensures.room in
    let here = run_at-held Locking c.unseal.new.self.book start older c.args.tid c.run-run.result.now keeps.keeps c.run-run.ensures in
    let named = tid_is start older keeps.keeps.right c.args.tid run here in
    let mine : Rival = record { tid = c.args.tid; rank = run.age } in
    stands_unsealed old _ start older c.args.tid n run s c.unseal.ensures.book c.unseal.ensures.room refl refl here
    (ap (λ (r : Rival). Some r) (c.by_age.ensures ∙ ap (λ (t : Tid). let r : Rival = record mine { tid = t } in r) named) ∙ sym (cond-true _ _ _ has))

pub returns-else-is_some : goal.returns-else-is_some
returns-else-is_some c =
    let old = c.args.self.now in
    let run = c.run-run.result.now.run in
    let lacks : has_ticket run ≡ false = ap (λ (o : Option ℕ). is_some o) (sym c.ticket.ensures) ∙ (sym c.is_some.ensures ∙ c.if-is_some.false) in
    λ start older n s.
    let keeps = unseals_well Locking old.book c.unseal.new.self start older c.args.tid n s.keeps c.unseal.ensures.book c.unseal.ensures.room in
    let here = run_at-held Locking c.unseal.new.self.book start older c.args.tid c.run-run.result.now keeps.keeps c.run-run.ensures in
    stands_unsealed old _ start older c.args.tid n run s c.unseal.ensures.book c.unseal.ensures.room refl refl here (sym (cond-false _ _ _ lacks))
