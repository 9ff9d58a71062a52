-- A site that was just set up stands for the past in which nothing happened.
use Rattle.std.proofs.Common.{◌≡◌, Bool, true, false, not, ◌⊎◌, is_some, Option, Some, None, List, [], inl, inr, sym, ap, ◌∙◌, subst}
use Rattle.std.specs.FinMap.{get-empty}
use Rattle.mdb_base.specs.declared.names.Tid.{Tid}
use Rattle.mdb_base.specs.declared.names.Tx.{Tx}
use Rattle.fed_rules.specs.Runs as Lines
use Rattle.fed_rules.specs.Runs.{EngineLine, Run}
use Rattle.fed_rules.specs.SitePast.{SitePast, epoch_start, is_closed}
use Rattle.fed_rules.specs.SitePast as Past
use Rattle.fed_rules.specs.SiteRecords.{Home}
use Rattle.journal_disk.specs.Disk.{Seen}
use Rattle.engine_contract.specs.Calls.{fresh_start}
use Rattle.prepared_state.specs.Book.{doubt_about}
use Rattle.actor_store.specs.declared.store.Standing.{Standing}
use Rattle.actor_store.specs.declared.store.Standing.TheVariants.{Up}
use Rattle.actor_store.specs.Store.{is_up}
use Rattle.site_book.specs.Book.{Book, begun_in, blank, committed_part, count_of, live_in, live_part, running_in, running_part}
use Rattle.mdb_base.specs.Names.{tx_cmp, tid_cmp}
use Rattle.site_core.specs.Order.{IsInOrder}
use Rattle.site_core.specs.declared.site.SiteCore.{SiteCore}
use Rattle.site_core.specs.Notes.{NotesPast}
use Rattle.site_core.specs.Stands.{IsIn, IsUp, Stands}
use Rattle.site_core.specs.Store.{Keeps}
use Rattle.site_core.proofs.RememberLaws.{kept_records}

none_some : (b : Tid) → ◌≡◌ {A = Option Tid} None (Some b) → ⊥
none_some b e = cc

none_run : (run : Run) → ◌≡◌ {A = Option Run} None (Some run) → ⊥
none_run run e = cc

false_true : false ≡ true → ⊥
false_true e = cc

order_blank : IsInOrder blank
order_blank =
    let none_runs : (tx : Tx) → running_in blank tx ≡ None = λ tx. ap running_part (get-empty tx_cmp tx) in
    let none_lives : (u : Tid) → live_in blank u ≡ None = λ u. ap live_part (get-empty tid_cmp u) in
    record {
      own = (λ tx t e. absurd (none_some t (sym (none_runs tx) ∙ e)));
      live = (λ tx t e. absurd (none_some t (sym (none_runs tx) ∙ e)));
      running = (λ u lives again. absurd (false_true (sym (ap is_some (none_lives u)) ∙ lives)));
      counted = (λ tx t e. absurd (none_some t (sym (none_runs tx) ∙ e)));
    }

notes_blank : (home : Home) → NotesPast blank home []
notes_blank home = record {
  follows = record { attempts = (λ u. get-empty tid_cmp u) };
  order = order_blank;
  committed_is = (λ tx. ap committed_part (get-empty tx_cmp tx));
  known = (λ u at. unknown at);
  few = (λ u run e. absurd (none_run run e));
} where
  unknown : {A : Type 0} → (false ≡ true) ⊎ (false ≡ true) → A
  unknown (inl e) = absurd (false_true e)
  unknown (inr e) = absurd (false_true e)

pub stands_first : {E : Type 0} (stands : E → Lines.Start → List EngineLine → Type 0) (tells : Bool) (core : SiteCore E) (disk : Seen) (home : Home)
    → Keeps false tells disk core.store (Past.disk home []) None → core.store.standing ≡ Up → stands core.engine (fresh_start home.engine home.items) [] → core.book ≡ blank → core.doubts.doubts ≡ []
    → core.epoch ≡ 1 → core.protocol ≡ home.protocol → Stands stands tells core disk home []
stands_first stands tells core disk home kept up engine book doubts epoch protocol =
    let N : Book → Type 0 = λ b. NotesPast b home [] in
    let here : IsUp stands core home [] = record {
      engine = engine;
      notes = subst N (sym book) (notes_blank home);
      doubts = (λ tid. ap (doubt_about tid) doubts);
      epoch = epoch;
    } in
    let P : Standing → Type 0 = λ s. IsIn stands core s home [] in
    record {
      holds = record {
        made = tt;
        memory = record {
          records = kept_records tells disk core.store _ _ kept;
          trip = kept.behind.trip;
          armed = kept.behind.armed;
          standing = sym (ap (λ s. not (is_up s)) up);
          standing_in = subst P (sym up) here;
          begun = (λ tx. ap (λ (b : Book). begun_in b tx) book ∙ ap count_of (get-empty tx_cmp tx));
          protocol = protocol;
          once = tt;
        };
      };
      stored = kept;
    }
