-- A trip that is set changes no answer.
use Rattle.std.proofs.Common.{◌≡◌, ℕ, List, ◌∷◌, refl}
use Rattle.presumptions.specs.declared.Participant.{Participant}
use Rattle.fed_rules.specs.declared.answers.Answer.TheVariants as Say
use Rattle.fed_rules.specs.declared.events.CoordEvent.{CoordEvent}
use Rattle.fed_rules.specs.declared.events.CoordEvent.TheVariants as Ev
use Rattle.fed_rules.specs.declared.messages.FromSite.TheVariants as From
use Rattle.fed_rules.specs.Happenings.{quiet}
use Rattle.fed_rules.specs.Policies.{Policy}
use Rattle.fed_rules.specs.Coord.{sends_dues, sends_news, sends_all, aborts, commits_it, of_go, did_reply, of_did, last_vote, yes_vote, vote_counted, of_vote, ack_counts, acked_while, of_ack, asked_while, of_inquiry, of_take, again_while, of_again, of_late, of_fate, of_check, answered}
use Rattle.fed_rules.specs.CoordPast.{CoordPast}
use Rattle.coord_tables.specs.Terms.{IsUsual}

pub trip_hidden : (protocols : List Participant) (policy : Policy) (past : CoordPast) (calls cut : ℕ) (event : CoordEvent) → IsUsual event
    → answered protocols policy (quiet (Ev.Trip calls cut) Say.Set ∷ past) event ≡ answered protocols policy past event
unfolding answered of_go of_take of_did of_vote of_ack of_inquiry of_again of_late of_fate of_check did_reply sends_news sends_all sends_dues aborts vote_counted yes_vote last_vote commits_it acked_while ack_counts asked_while again_while
trip_hidden protocols policy past calls cut (Ev.Go tid steps) u = refl
trip_hidden protocols policy past calls cut (Ev.Take site (From.Did tid epoch n reply)) u = refl
trip_hidden protocols policy past calls cut (Ev.Take site (From.Vote tid vote)) u = refl
trip_hidden protocols policy past calls cut (Ev.Take site (From.Ack tid)) u = refl
trip_hidden protocols policy past calls cut (Ev.Take site (From.Inquiry tid)) u = refl
trip_hidden protocols policy past calls cut (Ev.Again tid) u = refl
trip_hidden protocols policy past calls cut (Ev.Late tid) u = refl
trip_hidden protocols policy past calls cut (Ev.Fate tx) u = refl
trip_hidden protocols policy past calls cut (Ev.Halt cut') u = absurd u
trip_hidden protocols policy past calls cut (Ev.Trip calls' cut') u = absurd u
trip_hidden protocols policy past calls cut Ev.Back u = absurd u
trip_hidden protocols policy past calls cut Ev.Check u = refl
