use Rattle.std.proofs.Common.{false, slice_set, sym, ap, ◌∙◌}
use Rattle.mdb_base.proofs.ForCallers.{each_get_or}
use Rattle.global_exec.specs.declared.progress.Progress.{Progress}
use Rattle.global_exec.specs.Counted.{HasRoom, answered}
use Rattle.global_exec.specs.Live.{is_at}
use Rattle.global_exec.proofs.Firsts.{missing, stands}
use Rattle.global_exec.proofs.attempt.answer_at.Goals as goal

abbrev nothing : Progress
nothing = record { site = record { 0 = 0 }; epoch = 0; n = 0; ticket = false; voted = false }

pub answered-requires : goal.answered-requires
answered-requires c =
    each_get_or HasRoom c.args.sites.now c.in-Some.place nothing c.requires (stands (is_at c.args.site) c.args.sites.now c.in-Some.place (sym c.place_of.ensures.place ∙ c.in-Some.is)).within

pub returns-in-None : goal.returns-in-None
returns-in-None c =
    sym ((missing (is_at c.args.site) c.args.sites.now (sym c.place_of.ensures.place ∙ c.in-None.is)).set (answered c.args.epoch c.args.reply))

pub returns : goal.returns
returns c =
    ap (λ (p : Progress). slice_set c.args.sites.now c.in-Some.place p) c.answered.ensures
    ∙ (stands (is_at c.args.site) c.args.sites.now c.in-Some.place (sym c.place_of.ensures.place ∙ c.in-Some.is)).set nothing (answered c.args.epoch c.args.reply)
