use Rattle.std.proofs.Common.{false, sym, ◌∙◌}
use Rattle.global_exec.specs.declared.progress.Progress.{Progress}
use Rattle.global_exec.specs.Live.{is_at, with_vote}
use Rattle.global_exec.proofs.Firsts.{missing, stands}
use Rattle.global_exec.proofs.attempt.vote_at.Goals as goal

abbrev nothing : Progress
nothing = record { site = record { 0 = 0 }; epoch = 0; n = 0; ticket = false; voted = false }

pub returns-in-None : goal.returns-in-None
returns-in-None c =
    sym ((missing (is_at c.args.site) c.args.sites.now (sym c.place_of.ensures.place ∙ c.in-None.is)).set with_vote)

pub returns : goal.returns
returns c =
    (stands (is_at c.args.site) c.args.sites.now c.in-Some.place (sym c.place_of.ensures.place ∙ c.in-Some.is)).set nothing with_vote
