-- One name that opens every rule, so that examples compute.
use Rattle.mdb_base.specs.Words.{when, given}
use Rattle.fed_rules.specs.Coord
use Rattle.fed_rules.specs.CoordCommands
use Rattle.fed_rules.specs.Happenings
use Rattle.fed_rules.specs.Site
use Rattle.fed_rules.specs.SiteCommands
use Rattle.fed_rules.specs.Story

unfoldable pub opened : Unit {0}
unfolding when given
    Coord.sends_dues Coord.sends_news Coord.sends_all Coord.aborts Coord.commits_it Coord.of_go Coord.did_reply Coord.of_did Coord.last_vote Coord.yes_vote
    Coord.vote_counted Coord.of_vote Coord.ack_counts Coord.acked_while Coord.of_ack Coord.asked_while Coord.of_inquiry Coord.of_take
    Coord.again_while Coord.of_again Coord.of_late Coord.of_fate Coord.of_back Coord.of_check Coord.answered Coord.coord_line
    Happenings.stopped Happenings.tripped
    Site.of_begin Site.of_act Site.seals_local Site.of_commit Site.of_abort Site.of_fate Site.did Site.unknown Site.first_work
    Site.next_work Site.next_take Site.repeated Site.work_live Site.of_work Site.take_live Site.of_take Site.votes_again Site.votes_no
    Site.votes_yes Site.seals_global Site.prepare_live Site.of_prepare Site.settles Site.unheld Site.of_decide Site.of_give Site.of_ask
    Site.of_drop Site.of_back Site.of_check Site.answered Site.site_line
    SiteCommands.begin_next SiteCommands.with_live SiteCommands.next_step SiteCommands.when_done SiteCommands.request
    CoordCommands.go_next CoordCommands.go_request CoordCommands.fate_request CoordCommands.attempt_request
    Story.on_local Story.on_go Story.on_fate Story.on_attempt Story.on_site Story.on_give Story.on_take Story.on_actor Story.happens
opened = tt
