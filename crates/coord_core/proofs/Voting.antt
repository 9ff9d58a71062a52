-- The steps of votes.
use Rattle.std.proofs.Common.{◌≡◌, ℕ, Bool, false, Option, Some, None, [], refl, sym, ap, subst, ◌∙◌}
use Rattle.mdb_base.specs.declared.names.SiteId.{SiteId}
use Rattle.mdb_base.specs.declared.names.Tid.{Tid}
use Rattle.mdb_base.specs.Words.{holds_of}
use Rattle.fed_rules.specs.declared.answers.Answer.TheVariants as Say
use Rattle.fed_rules.specs.declared.events.CoordStep.{CoordStep}
use Rattle.fed_rules.specs.Happenings.{quiet}
use Rattle.fed_rules.specs.Coord.{vote_counts}
use Rattle.fed_rules.specs.CoordPast.{CoordPast, standing}
use Rattle.fed_rules.specs.CoordPast as Past
use Rattle.fed_rules.specs.Policies.{Policy}
use Rattle.journal_disk.specs.Disk.{Seen}
use Rattle.actor_store.specs.declared.store.Standing.TheVariants.{Up}
use Rattle.global_exec.specs.Firsts.{replaced}
use Rattle.global_exec.specs.Live.{awaits_vote, is_of, live_of, voted}
use Rattle.global_exec.specs.Pasts.{IsAmong}
use Rattle.protocol_table.specs.Attempts.{changed}
use Rattle.protocol_table.specs.Ends as ends
use Rattle.coord_core.specs.declared.coord.CoordCore.{CoordCore}
use Rattle.coord_tables.specs.Trees.{noted}
use Rattle.coord_core.specs.Found.{was_found}
use Rattle.coord_core.specs.Stands.{Stands, Steps}
use Rattle.coord_core.specs.Store.{Keeps}
use Rattle.coord_tables.specs.Terms.{Terms, line_of}
use Rattle.coord_tables.specs.Voting.{CountsVote, last_tickets, vote_event}
use Rattle.coord_tables.proofs.ForCallers.{awaits_are, calm_answer, prints_calm, uncounted_calm, vote_ignored, vote_more, vote_serving}
use Rattle.coord_core.proofs.Endings.{pending_quiet}
use Rattle.coord_core.proofs.Events.{calm_steps}
use Rattle.coord_core.proofs.Still.{serves, up_is}

-- ---- the steps

-- the answer is that the vote counts, or that it doesn't
pub vote_counted_as : {P : Type 0} (test : P → Policy) (tells : Bool) (core : CoordCore P) (seen : Seen) (terms : Terms) (past : CoordPast) (site : SiteId) (tid : Tid) (b : Bool)
    → Stands test tells core seen terms past → core.store.standing ≡ Up → IsAmong site terms.protocols → b ≡ holds_of (awaits_vote site) (live_of tid core.tables.exec) → vote_counts past site tid ≡ b
vote_counted_as test tells core seen terms past site tid b k up among is = sym (is ∙ awaits_are core.tables terms past (serves test tells core terms past k.holds up) site tid among)

-- a vote that doesn't count
pub ignored_vote_steps : {P : Type 0} (test : P → Policy) (tells : Bool) (step : CoordStep) (core : CoordCore P) (seen : Seen) (terms : Terms) (past : CoordPast) (site : SiteId) (tid : Tid) (vote : Option ℕ)
    → Stands test tells core seen terms past → core.store.standing ≡ Up → IsAmong site terms.protocols → vote_counts past site tid ≡ false
    → step.answer ≡ Say.Ignored → step.sends ≡ [] → Steps test tells 0 seen step core seen terms past (line_of terms past (vote_event site tid vote))
ignored_vote_steps test tells step core seen terms past site tid vote k up among off said silent =
    calm_steps test tells step core core seen terms past (vote_event site tid vote) (quiet (vote_event site tid vote) Say.Ignored) k up among tt
    (vote_ignored terms past site tid vote off) refl (uncounted_calm (vote_event site tid vote) Say.Ignored tt refl) (record { answer = said; sends = silent }) refl

-- a yes vote that isn't the last one
pub vote_steps : {P : Type 0} (test : P → Policy) (tells : Bool) (step : CoordStep) (old new : CoordCore P) (seen : Seen) (terms : Terms) (past : CoordPast) (site : SiteId) (tid : Tid) (ticket : ℕ)
    → Stands test tells old seen terms past → old.store.standing ≡ Up → CountsVote site tid terms past → last_tickets terms.protocols past site tid ticket ≡ None
    → new.protocols ≡ old.protocols → new.policy ≡ old.policy → new.begun ≡ old.begun → new.store ≡ old.store
    → new.tables ≡ record old.tables { known = changed tid (ends.after_vote site ticket) old.tables.known; exec = replaced (is_of tid) (voted site) old.tables.exec }
    → step.answer ≡ Say.Voted → step.sends ≡ [] → Steps test tells 0 seen step new seen terms past (line_of terms past (vote_event site tid (Some ticket)))
vote_steps test tells step old new seen terms past site tid ticket k up counted none sites policy begun store tables said silent =
    let s = serves test tells old terms past k.holds up in
    let x = quiet (vote_event site tid (Some ticket)) Say.Voted in
    pending_quiet test tells step new seen terms past (vote_event site tid (Some ticket)) x
    (record {
      answered = record {
        usual = tt;
        line = vote_more terms past site tid ticket counted.counts none;
        heard = refl;
        numbered = tt;
        goes = refl;
        stays = refl;
        answer = prints_calm terms.protocols past x (vote_event site tid (Some ticket)) step.answer (calm_answer Say.Voted tt) said;
        sends = silent;
      };
      ready = record {
        stored = subst (λ st. Keeps (was_found past) tells seen st (Past.disk past) (Past.trip past)) (sym store) k.stored;
        up = up_is test tells old terms past k.holds up;
        protocols = sites ∙ k.holds.protocols;
        policy = ap test policy ∙ k.holds.policy;
        sound = k.holds.sound;
        in_range = k.holds.sound.in_range;
        serving = vote_serving terms past site tid ticket counted old.tables new.tables k.holds.sound s tables;
        begun = λ tx. ap (λ b. noted b.listed tx) begun ∙ k.holds.begun tx;
      };
      none_begun = refl;
      makes = refl;
    }) (ap (λ st. st.standing) store ∙ up)
