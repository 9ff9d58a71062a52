-- A wait that counts.
use Rattle.std.proofs.Common.{◌≡◌, ℕ, Bool, true, false, cond, Option, Some, None, List, [], ◌∷◌, refl, sym, ap, subst, ◌∙◌}
use Rattle.std.proofs.lemmas.Bool.{cond-true}
use Rattle.mdb_base.specs.declared.names.SiteId.{SiteId}
use Rattle.mdb_base.specs.declared.names.Tid.{Tid}
use Rattle.mdb_base.specs.declared.replies.Reply.TheVariants as Reply_is
use Rattle.mdb_base.specs.Names.{same_tid}
use Rattle.mdb_base.specs.Words.{found, map_some, with_some}
use Rattle.fed_rules.specs.declared.answers.Answer.TheVariants as Say
use Rattle.fed_rules.specs.Happenings.{quiet}
use Rattle.fed_rules.specs.Coord.{did_counts}
use Rattle.fed_rules.specs.CoordPast.{CoordHappening, CoordPast, Standing, Undecided, is_open, known_decision, standing, standing_of, counted}
use Rattle.global_exec.specs.Counted.{after_did, counts}
use Rattle.global_exec.specs.Live.{Live, live_of}
use Rattle.global_exec.specs.Pasts.{IsAmong}
use Rattle.global_exec.proofs.ForCallers.{did_same, wait_of_past}
use Rattle.protocol_table.specs.declared.known.Known.{Known}
use Rattle.protocol_table.specs.Agreement.{IsKnownAs}
use Rattle.protocol_table.specs.Attempts.{known_of}
use Rattle.protocol_table.proofs.ForCallers.{undecided_stay}
use Rattle.coord_tables.specs.declared.tables.Tables.{Tables}
use Rattle.fed_rules.specs.CoordRecords.{commits}
use Rattle.fed_rules.specs.CoordPast.{records}
use Rattle.ticket_graph.specs.Graph.{AreHeld, StandsFor}
use Rattle.fed_rules.proofs.ForCallers.{counts_open}
use Rattle.global_exec.specs.Agreement.{IsOfPast}
use Rattle.coord_tables.specs.Attempts.{IsLiveAs}
use Rattle.coord_tables.specs.Trees.{committed_in}
use Rattle.coord_tables.specs.Stages.{AreStagesOf}
use Rattle.coord_tables.specs.Sending.{after_taken}
use Rattle.coord_tables.specs.Tables.{IsServing}
use Rattle.coord_tables.specs.Terms.{Terms, IsSound}
use Rattle.coord_tables.specs.Waiting.{counted_tickets, ticket_in, waiting}
use Rattle.coord_tables.proofs.Dids.{did_event, live_changed, live_unchanged, own_live, rising_only}
use Rattle.coord_tables.proofs.Initiations.{known_open}
use Rattle.coord_tables.proofs.Lines.{IsAsBefore, elsewhere}
use Rattle.coord_tables.proofs.Own.{serving_own}
use Rattle.coord_tables.proofs.Waiting.{held_still}
use Rattle.coord_tables.proofs.Serving.{stages_stay}

module _ (tables now : Tables) (terms : Terms) (past : CoordPast) (sound : IsSound terms past) (s : IsServing tables terms past) (site : SiteId) (tid : Tid) (epoch n : ℕ) (by : Tid) (among : IsAmong site terms.protocols)
    (c : did_counts past site tid epoch n (Reply_is.Wait by) ≡ true) where
  abbrev pub wait_line : CoordHappening
  wait_line = quiet (did_event site tid epoch n (Reply_is.Wait by)) Say.TookWaits

  u : is_open past tid ≡ true
  u = counts_open past site tid epoch n (Reply_is.Wait by) c

  others : (t : Tid) → same_tid tid t ≡ false → IsAsBefore terms.protocols past wait_line t
  others t e = elsewhere terms.protocols past wait_line t (record { goes = refl; about = e; begins = refl; named = refl; takes = refl; prepares = refl })

  either : (b old : Bool) → cond b old old ≡ old
  either true old = refl
  either false old = refl

  still_open : (t : Tid) → is_open (wait_line ∷ past) t ≡ is_open past t
  still_open t = either (same_tid tid t) (is_open past t)

  same_tickets : (t : Tid) → counted_tickets (wait_line ∷ past) t ≡ counted_tickets past t
  same_tickets t = by_test (same_tid tid t) where
    by_test : (b : Bool) → found ticket_in (with_some (cond b (Some (record { site = site; epoch = epoch; reply = Reply_is.Wait by })) None) (counted past t)) ≡ counted_tickets past t
    by_test true = refl
    by_test false = refl

  now_open : is_open (wait_line ∷ past) tid ≡ true
  now_open = still_open tid ∙ u

  known_by : (o : Option Known) → IsKnownAs terms.protocols past tid Undecided o → IsKnownAs terms.protocols (wait_line ∷ past) tid Undecided o
  known_by None k = absurd k
  known_by (Some known) k = undecided_stay terms.protocols past tid known k wait_line (record { participants = λ protocols. refl; votes = λ at. refl }) refl

  live_by : (live : Live) × (live_of tid tables.exec ≡ Some live) × IsOfPast terms.protocols past tid live × (counts site epoch n (Reply_is.Wait by) live ≡ true) → live_of tid now.exec ≡ map_some (after_did site epoch n (Reply_is.Wait by)) (live_of tid tables.exec) → IsLiveAs terms.protocols (wait_line ∷ past) tid true (live_of tid now.exec)
  live_by (live, e, l, k) is =
      let gone = wait_of_past terms.protocols past tid live l site epoch n (Reply_is.Wait by) wait_line refl refl refl (rising_only site live.program terms.protocols sound.rising) by refl in
      subst (λ (o : Option Live). IsLiveAs terms.protocols (wait_line ∷ past) tid true o)
      (sym (is ∙ ap (map_some (after_did site epoch n (Reply_is.Wait by))) e ∙ ap (λ (v : Live). Some v) (cond-true _ _ _ k))) gone

  pub wait_serving : now ≡ record tables { exec = after_taken tid (Some (record { site = site; epoch = epoch; n = n; reply = Reply_is.Wait by })) tables.exec } → IsServing now terms (wait_line ∷ past)
  wait_serving is =
      let undecided : standing terms.protocols (wait_line ∷ past) tid ≡ Undecided = ap (λ o. standing_of o (known_decision terms.protocols (wait_line ∷ past) tid)) now_open in
      let known = ap (λ (t : Tables). t.known) is in
      let exec = ap (λ (t : Tables). t.exec) is in
      serving_own tables now terms past wait_line tid (record {
        others = others;
        known_others = λ t e. ap (known_of t) known;
        live_others = λ t e. ap (live_of t) exec ∙ live_unchanged tid t (after_did site epoch n (Reply_is.Wait by)) (did_same site epoch n (Reply_is.Wait by)) tables.exec e;
        known_own = subst (λ (st : Standing). IsKnownAs terms.protocols (wait_line ∷ past) tid st (known_of tid now.known)) (sym undecided)
            (subst (λ (ks : List Known). IsKnownAs terms.protocols (wait_line ∷ past) tid Undecided (known_of tid ks)) (sym known) (known_by (known_of tid tables.known) (known_open tables terms past tid s u)));
        live_own = subst (λ b. IsLiveAs terms.protocols (wait_line ∷ past) tid b (live_of tid now.exec)) (sym now_open)
            (live_by (own_live tables terms past sound s site tid epoch n (Reply_is.Wait by) among c) (ap (live_of tid) exec ∙ live_changed tid (after_did site epoch n (Reply_is.Wait by)) (did_same site epoch n (Reply_is.Wait by)) tables.exec));
        stages = subst (λ (t : Tables). AreStagesOf terms.protocols (wait_line ∷ past) t.stages.listed) (sym is)
            (stages_stay terms.protocols past wait_line tables.stages.listed refl still_open (λ t. record { program = refl; takes = refl; prepares = refl; tickets = same_tickets t }) s.stages);
        committed = λ tx. ap (λ (t : Tables). committed_in t.committed.listed tx) is ∙ s.committed tx;
        graph = subst (λ (t : Tables). StandsFor (commits (records past)) t.graph) (sym is) s.graph;
        pruned = subst (λ (t : Tables). AreHeld (waiting (wait_line ∷ past)) t.graph) (sym is) (held_still past wait_line tables.graph refl still_open s.pruned);
      }) s
