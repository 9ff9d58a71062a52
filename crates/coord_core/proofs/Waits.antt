-- The step of a wait.
use Rattle.std.proofs.Common.{◌≡◌, ℕ, Bool, true, Some, [], refl, sym, ap, subst, ◌∙◌}
use Rattle.mdb_base.specs.declared.names.SiteId.{SiteId}
use Rattle.mdb_base.specs.declared.names.Tid.{Tid}
use Rattle.mdb_base.specs.declared.replies.Reply.{Reply}
use Rattle.mdb_base.specs.declared.replies.Reply.TheVariants as Reply_is
use Rattle.fed_rules.specs.declared.answers.Answer.TheVariants as Say
use Rattle.fed_rules.specs.declared.events.CoordStep.{CoordStep}
use Rattle.fed_rules.specs.Happenings.{quiet}
use Rattle.fed_rules.specs.Coord.{did_counts}
use Rattle.fed_rules.specs.CoordPast.{CoordPast, standing}
use Rattle.fed_rules.specs.CoordPast as Past
use Rattle.fed_rules.specs.Policies.{Policy}
use Rattle.journal_disk.specs.Disk.{Seen}
use Rattle.actor_store.specs.declared.store.Standing.TheVariants.{Up}
use Rattle.global_exec.specs.Pasts.{IsAmong}
use Rattle.coord_core.specs.declared.coord.CoordCore.{CoordCore}
use Rattle.coord_tables.specs.Trees.{noted}
use Rattle.coord_core.specs.Found.{was_found}
use Rattle.coord_core.specs.Store.{Keeps}
use Rattle.coord_tables.specs.declared.replies.Taken.{Taken}
use Rattle.coord_tables.specs.Replies.{CountsReply, reply_event}
use Rattle.coord_tables.specs.Sending.{after_taken}
use Rattle.coord_core.specs.Stands.{Stands, Steps}
use Rattle.coord_tables.specs.Terms.{Terms, line_of}
use Rattle.coord_tables.proofs.ForCallers.{calm_answer, did_event, did_waits, prints_calm, wait_serving}
use Rattle.coord_core.proofs.Endings.{pending_quiet}
use Rattle.coord_core.proofs.Still.{serves, up_is}

-- the line of a wait
pub wait_steps : {P : Type 0} (test : P → Policy) (tells : Bool) (step : CoordStep) (old new : CoordCore P) (seen : Seen) (terms : Terms) (past : CoordPast) (site : SiteId) (tid : Tid) (epoch n : ℕ) (by : Tid)
    → Stands test tells old seen terms past → old.store.standing ≡ Up → IsAmong site terms.protocols → did_counts past site tid epoch n (Reply_is.Wait by) ≡ true
    → new.protocols ≡ old.protocols → new.policy ≡ old.policy → new.begun ≡ old.begun → new.store ≡ old.store
    → new.tables ≡ record old.tables { exec = after_taken tid (Some (record { site = site; epoch = epoch; n = n; reply = Reply_is.Wait by })) old.tables.exec }
    → step.answer ≡ Say.TookWaits → step.sends ≡ [] → Steps test tells 0 seen step new seen terms past (line_of terms past (did_event site tid epoch n (Reply_is.Wait by)))
wait_steps test tells step old new seen terms past site tid epoch n by k up among c sites policy begun store tables said silent =
    let s = serves test tells old terms past k.holds up in
    let x = quiet (did_event site tid epoch n (Reply_is.Wait by)) Say.TookWaits in
    pending_quiet test tells step new seen terms past (did_event site tid epoch n (Reply_is.Wait by)) x
    (record {
      answered = record {
        usual = tt;
        line = did_waits terms past site tid epoch n by c;
        heard = refl;
        numbered = tt;
        goes = refl;
        stays = refl;
        answer = prints_calm terms.protocols past x (did_event site tid epoch n (Reply_is.Wait by)) step.answer (calm_answer Say.TookWaits tt) said;
        sends = silent;
      };
      ready = record {
        stored = subst (λ st. Keeps (was_found past) tells seen st (Past.disk past) (Past.trip past)) (sym store) k.stored;
        up = up_is test tells old terms past k.holds up;
        protocols = sites ∙ k.holds.protocols;
        policy = ap test policy ∙ k.holds.policy;
        sound = k.holds.sound;
        in_range = k.holds.sound.in_range;
        serving = wait_serving old.tables new.tables terms past k.holds.sound s site tid epoch n by among c tables;
        begun = λ tx. ap (λ b. noted b.listed tx) begun ∙ k.holds.begun tx;
      };
      none_begun = refl;
      makes = refl;
    }) (ap (λ st. st.standing) store ∙ up)

-- the same of a reply that is one
pub wait_taken : {P : Type 0} (test : P → Policy) (tells : Bool) (step : CoordStep) (old new : CoordCore P) (seen : Seen) (terms : Terms) (past : CoordPast) (taken : Taken) (tid by : Tid)
    → taken.reply ≡ Reply_is.Wait by → Stands test tells old seen terms past → old.store.standing ≡ Up → CountsReply tid taken terms past
    → new.protocols ≡ old.protocols → new.policy ≡ old.policy → new.begun ≡ old.begun → new.store ≡ old.store
    → new.tables ≡ record old.tables { exec = after_taken tid (Some taken) old.tables.exec }
    → step.answer ≡ Say.TookWaits → step.sends ≡ [] → Steps test tells 0 seen step new seen terms past (line_of terms past (reply_event tid taken))
wait_taken test tells step old new seen terms past taken tid by is k up counts_it sites policy begun store tables said silent =
    let of : Reply → Taken = λ r. record { site = taken.site; epoch = taken.epoch; n = taken.n; reply = r } in
    subst (λ (r : Reply). Steps test tells 0 seen step new seen terms past (line_of terms past (reply_event tid (of r)))) (sym is)
    (wait_steps test tells step old new seen terms past taken.site tid taken.epoch taken.n by k up counts_it.among
    (subst (λ (r : Reply). did_counts past taken.site tid taken.epoch taken.n r ≡ true) is counts_it.counts) sites policy begun store
    (tables ∙ ap (λ (r : Reply). record old.tables { exec = after_taken tid (Some (of r)) old.tables.exec }) is) said silent)
