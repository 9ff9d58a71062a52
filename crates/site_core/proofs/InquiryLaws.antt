-- What a core has in memory behind an inquiry and behind a drop.
use Rattle.std.proofs.Common.{◌≡◌, ℕ, suc, ◌==◌, ◌||◌, Bool, true, false, cond, not, is_some, Option, Some, None, List, [], ◌∷◌, refl, sym, ap, ◌∙◌, arith}
use Rattle.std.specs.Prelude.{option_to_list}
use Rattle.std.proofs.lemmas.Bool.{cond-true, cond-false, eq-eqb, ne_eqb}
use Rattle.mdb_base.specs.declared.names.Tid.{Tid}
use Rattle.mdb_base.specs.declared.names.Tx.{Tx}
use Rattle.mdb_base.specs.Words.{given, map_some, some_of, when}
use Rattle.fed_rules.specs.declared.answers.Answer.TheVariants as Say
use Rattle.fed_rules.specs.declared.events.SiteEvent.TheVariants as Ev
use Rattle.fed_rules.specs.declared.events.SiteStep.{SiteStep}
use Rattle.fed_rules.specs.declared.messages.FromSite.TheVariants as From
use Rattle.fed_rules.specs.declared.runs.Doubt.{Doubt}
use Rattle.fed_rules.specs.Happenings.{is_down, quiet}
use Rattle.fed_rules.specs.Runs as Lines
use Rattle.fed_rules.specs.Runs.{EngineLine, Aborts, Run}
use Rattle.fed_rules.specs.Site.{answered, of_ask, of_drop, site_line, unless_tripped, with_lines}
use Rattle.fed_rules.specs.SitePast.{SiteHappening, SitePast, attempts_of, begins_tx, is_local, live, records}
use Rattle.fed_rules.specs.SiteRecords.{Held, Home, doubt_of}
use Rattle.prepared_state.specs.Book.{doubt_about}
use Rattle.journal_sums.specs.Starts.{doubt_held}
use Rattle.actor_store.specs.declared.store.Standing.TheVariants.{Up}
use Rattle.site_core.specs.declared.site.SiteCore.{SiteCore}
use Rattle.site_core.specs.Stands.{Adds, Holds}
use Rattle.site_core.proofs.RememberLaws.{IsPlain, adds_as, is_up_at, remembers_line}
use Rattle.site_core.proofs.RuleWalks.{walk_ask, walk_drop}
use Rattle.site_core.proofs.UpLaws.{up_same}

-- the line of an inquiry
abbrev pub ask_line : Tid → SiteHappening
ask_line tid = record { event = Ev.Ask tid; answer = Say.Asks tid; sends = From.Inquiry tid ∷ []; calls = []; lines = [] }

pub ask_asks : (home : Home) (past : SitePast) (tid : Tid) (held : Held) → doubt_of (records home past) tid ≡ Some held → of_ask home past tid ≡ ask_line tid
unfolding of_ask given
ask_asks home past tid held e = rw e refl

pub ask_idle : (home : Home) (past : SitePast) (tid : Tid) → doubt_of (records home past) tid ≡ None → of_ask home past tid ≡ quiet (Ev.Ask tid) Say.Idle
unfolding of_ask given
ask_idle home past tid e = rw e refl

-- an attempt is of a local transaction where one was begun
local_counted : (past : SitePast) (tid : Tid) → is_local past tid ≡ not (attempts_of past tid.tx == 0)
local_counted [] tid = refl
local_counted (x ∷ past) tid = by_test (begins_tx tid.tx x.answer) (local_counted past tid) where
  by_test : (b : Bool) → is_local past tid ≡ not (attempts_of past tid.tx == 0) → (b || is_local past tid) ≡ not (cond b (suc (attempts_of past tid.tx)) (attempts_of past tid.tx) == 0)
  by_test true rest = sym (ap not (ne_eqb (suc (attempts_of past tid.tx)) 0 (λ z. omega arith)))
  by_test false rest = rest

pub was_local_one : (past : SitePast) (tid : Tid) → (attempts_of past tid.tx ≡ 0 → ⊥) → is_local past tid ≡ true
was_local_one past tid some = local_counted past tid ∙ ap not (ne_eqb (attempts_of past tid.tx) 0 some)

pub was_global_one : (past : SitePast) (tid : Tid) → attempts_of past tid.tx ≡ 0 → is_local past tid ≡ false
was_global_one past tid none = local_counted past tid ∙ ap not (eq-eqb (attempts_of past tid.tx) 0 none)

pub drop_local : (home : Home) (past : SitePast) (tid : Tid) → is_local past tid ≡ true → of_drop home past tid ≡ quiet (Ev.Drop tid) Say.Idle
unfolding of_drop when
drop_local home past tid e = rw e refl

pub drop_idle : (home : Home) (past : SitePast) (tid : Tid) → is_local past tid ≡ false → live home past tid ≡ None → of_drop home past tid ≡ quiet (Ev.Drop tid) Say.Idle
unfolding of_drop when given
drop_idle home past tid e f = rw (e, f) refl

pub drop_drops : (home : Home) (past : SitePast) (tid : Tid) (run : Run) → is_local past tid ≡ false → live home past tid ≡ Some run → of_drop home past tid ≡ with_lines (Ev.Drop tid) (Say.Dropped tid) (Aborts tid ∷ [])
unfolding of_drop when given
drop_drops home past tid run e f = rw (e, f) refl

pub ask_up : (home : Home) (past : SitePast) (tid : Tid) → is_down past ≡ false → site_line home past (Ev.Ask tid) ≡ unless_tripped home past (of_ask home past tid)
unfolding site_line answered when
ask_up home past tid u = rw u refl

pub drop_up : (home : Home) (past : SitePast) (tid : Tid) → is_down past ≡ false → site_line home past (Ev.Drop tid) ≡ unless_tripped home past (of_drop home past tid)
unfolding site_line answered when
drop_up home past tid u = rw u refl

pub ask_quiet : (home : Home) (past : SitePast) (tid : Tid) → (of_ask home past tid).calls ≡ []
ask_quiet home past tid = walk_ask (λ x. x.calls ≡ []) home past tid (λ a s l. refl)

pub drop_quiet : (home : Home) (past : SitePast) (tid : Tid) → (of_drop home past tid).calls ≡ []
drop_quiet home past tid = walk_drop (λ x. x.calls ≡ []) home past tid (λ a s l. refl)

module _ {E : Type 0} (stands : E → Lines.Start → List EngineLine → Type 0) where
  -- a line that sends something and changes nothing
  pub ask_adds : (core : SiteCore E) (home : Home) (past : SitePast) (tid : Tid) (step : SiteStep) → Holds stands core home past → core.store.standing ≡ Up
      → step ≡ record { answer = Say.Asks tid; sends = Some (From.Inquiry tid) } → Adds stands step core home past (ask_line tid)
  ask_adds core home past tid step h up says =
      let p : IsPlain (ask_line tid) = record { goes = refl; stays = refl; sets = refl } in
      let m = h.memory in
      record {
        answer = ap (λ (s : SiteStep). s.answer) says;
        sends = ap (λ (s : SiteStep). option_to_list s.sends) says;
        memory = remembers_line stands core core home past (ask_line tid) m up refl p refl (up_same stands core core home past (ask_line tid) p refl refl (λ t. refl) (is_up_at stands core home past m up) refl refl refl refl) m.begun refl;
      }

  -- whether the core is in doubt of an attempt
  pub doubted : (core : SiteCore E) (home : Home) (past : SitePast) (tid : Tid) (d : Option Doubt) → Holds stands core home past → core.store.standing ≡ Up → d ≡ doubt_about tid core.doubts.doubts
      → d ≡ map_some doubt_held (doubt_of (records home past) tid)
  doubted core home past tid d h up is = is ∙ (is_up_at stands core home past h.memory up).doubts tid

pub none_doubted : (o : Option Held) → map_some doubt_held o ≡ None → o ≡ None
none_doubted None e = refl
none_doubted (Some held) e = cc

pub some_doubted : (o : Option Held) (d : Doubt) → map_some doubt_held o ≡ Some d → (held : Held) × (o ≡ Some held)
some_doubted None d e = cc
some_doubted (Some held) d e = (held, refl)
