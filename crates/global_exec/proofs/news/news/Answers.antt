use Rattle.std.proofs.Common.{◌++◌, false, Option, List, get_or, option_to_list, sym, ap, subst, ◌∙◌}
use Rattle.std.proofs.lemmas.List.{take_all}
use Rattle.mdb_base.specs.Rising.{IsRising}
use Rattle.mdb_base.specs.Words.{found}
use Rattle.mdb_base.proofs.ForCallers.{each_get_or}
use Rattle.fed_rules.specs.Site_of.{due_site}
use Rattle.fed_rules.specs.declared.messages.Due.{Due}
use Rattle.global_exec.specs.declared.progress.Progress.{Progress}
use Rattle.global_exec.specs.Counted.{HasRoom, news_left}
use Rattle.global_exec.specs.Live.{site_number}
use Rattle.global_exec.proofs.DueSites.{news_left_at_site}
use Rattle.global_exec.proofs.Finds.{found_more}
use Rattle.global_exec.proofs.Rises.{found_rises}
use Rattle.global_exec.proofs.news.news.Goals as goal

abbrev nothing : Progress
nothing = record { site = record { 0 = 0 }; epoch = 0; n = 0; ticket = false; voted = false }

pub news_at-due-requires : goal.news_at-due-requires
news_at-due-requires c = each_get_or HasRoom c.args.sites.now c.loop-progress.progress-index nothing c.requires.room c.loop-progress-test.true

pub loop-progress-preserved : goal.loop-progress-preserved
loop-progress-preserved c =
    let items = c.args.sites.now in
    let i = c.loop-progress.progress-index in
    let look : Progress → Option Due = news_left c.args.site c.args.epoch c.args.reply c.args.left.now c.args.next in
    c.in_ok-put_some.ensures ∙ ap (λ (o : Option Due). c.loop-progress.dues ++ option_to_list o) c.news_at-due.ensures
    ∙ ap (λ (ds : List Due). ds ++ option_to_list (look (get_or items i nothing))) c.loop-progress.invariant
    ∙ found_more look items i nothing c.loop-progress-test.true

pub of_few-requires : goal.of_few-requires
of_few-requires c =
    let items = c.args.sites.now in
    let look : Progress → Option Due = news_left c.args.site c.args.epoch c.args.reply c.args.left.now c.args.next in
    subst (IsRising (λ (b : Due). (due_site b).0))
    (sym (c.loop-progress.invariant ∙ ap (found look) (take_all c.loop-progress.progress-index items c.loop-progress-test.false)))
    (found_rises site_number (λ (b : Due). (due_site b).0) look (λ p b e. news_left_at_site p b c.args.site c.args.epoch c.args.reply c.args.left.now c.args.next e) items c.requires.rising)
