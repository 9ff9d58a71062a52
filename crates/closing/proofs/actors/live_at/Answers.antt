use Rattle.std.proofs.Common.{is_some, sym, ap, ◌∙◌, subst}
use Rattle.fed_rules.specs.SitePast.{live}
use Rattle.fed_rules.specs.Closing as rules
use Rattle.fed_rules.specs.Story.{past_of, story_in}
use Rattle.fed_rules.proofs.ForCallers.{its-site}
use Rattle.site_book.specs.Listing.{Lists}
use Rattle.closing.proofs.Cores.{on_ok}
use Rattle.closing.proofs.Listed.{lives_in}
use Rattle.closing.proofs.actors.live_at.Goals as goal

pub returns-in-None : goal.returns-in-None
returns-in-None c session commands r up = c.new.ensures.items ∙ ap (λ o. rules.live_at o (story_in session commands)) (sym (c.in-None.ensures session commands r))

pub returns-in-Some : goal.returns-in-Some
returns-in-Some c =
    on_ok _ _ c.live_tids.result
    (λ tids listed session commands r up.
    let l = c.in-Some.ensures session commands r in
    let own = its-site session.plan c.args.site l.home l.declared in
    lives_in c.stories_have_right_lines.ensures c.sites_begin_attempts_once.ensures session r.has.begins commands c.args.site l.home l.declared tids.items
    (subst (λ s. Lists (λ tid. is_some (live l.home (past_of s (story_in session commands)) tid)) tids.items) (sym own)
    (listed l.home _ (c.core.ensures.held l.home _ _ l.recalls) (up.sites c.args.site)))
    ∙ ap (λ o. rules.live_at o (story_in session commands)) (sym l.declared))
    c.live_tids.ensures
