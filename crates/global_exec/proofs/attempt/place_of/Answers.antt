use Rattle.std.proofs.Common.{◌≡◌, false, List, sym, subst, ◌∙◌}
use Rattle.std.proofs.lemmas.List.{take_all}
use Rattle.mdb_base.specs.Words.{Each}
use Rattle.global_exec.specs.declared.progress.Progress.{Progress}
use Rattle.global_exec.specs.Live.{is_at}
use Rattle.global_exec.proofs.Firsts.{each_more, place_nowhere, place_there}
use Rattle.global_exec.proofs.attempt.place_of.Goals as goal

abbrev nothing : Progress
nothing = record { site = record { 0 = 0 }; epoch = 0; n = 0; ticket = false; voted = false }

pub returns-then-eq-clause-place : goal.returns-then-eq-clause-place
returns-then-eq-clause-place c =
    sym (place_there (is_at c.args.site) c.args.sites.now c.loop-place.place nothing c.loop-place.invariant c.loop-place-test.true (sym c.eq.ensures ∙ c.if-eq.true))

pub loop-place-preserved : goal.loop-place-preserved
loop-place-preserved c =
    each_more (is_at c.args.site) c.args.sites.now c.loop-place.place nothing c.loop-place.invariant c.loop-place-test.true (sym c.eq.ensures ∙ c.if-eq.false)

pub returns-clause-place : goal.returns-clause-place
returns-clause-place c =
    sym (place_nowhere (is_at c.args.site) c.args.sites.now
    (subst (λ (ps : List Progress). Each (λ p. is_at c.args.site p ≡ false) ps) (take_all c.loop-place.place c.args.sites.now c.loop-place-test.false) c.loop-place.invariant))
