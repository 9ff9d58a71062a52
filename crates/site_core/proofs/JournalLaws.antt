-- What stands on the disk of a site is its journal, and says what all its records say.
use Rattle.std.proofs.Common.{◌≡◌, List, [], ◌∷◌, ◌++◌, ◌⊎◌, inl, inr, reverse, refl, sym, ap, ◌∙◌, subst}
use Rattle.std.proofs.lemmas.List.{append_assoc, reverse-reverse}
use Rattle.fed_rules.specs.declared.records.SiteRecord.{SiteRecord}
use Rattle.fed_rules.specs.declared.records.SiteRecord.TheVariants as Rec
use Rattle.fed_rules.specs.declared.sums.SiteSum.{SiteSum}
use Rattle.fed_rules.specs.Disk.{bytes_of, standing}
use Rattle.fed_rules.specs.Runs as Lines
use Rattle.fed_rules.specs.Runs.{EngineLine}
use Rattle.fed_rules.specs.SitePast.{SitePast, disk, journal}
use Rattle.fed_rules.specs.SitePast as Past
use Rattle.fed_rules.specs.SiteRecords.{Home, site_frame}
use Rattle.fed_rules.specs.SiteSums.{journal_sum, site_sum}
use Rattle.frame_journal.specs.Journal.{records}
use Rattle.fed_rules.proofs.ForCallers.{standing_all}
use Rattle.site_history.specs.Sums.{AreSums}
use Rattle.site_history.proofs.ForCallers.{Begins as Stands, IsSummed, IsTrimmed, founded, standing_trimmed, sums_front}
use Rattle.journal_sums.specs.Journals.{Begins, IsJournal, IsJournalOf}
use Rattle.site_core.specs.declared.site.SiteCore.{SiteCore}
use Rattle.site_core.specs.Made.{IsGoingOn}
use Rattle.site_core.specs.Stands.{Remembers}
use Rattle.site_core.proofs.MadeLaws.{lawful, made_says_all}

-- the journal of a past that events made
pub made_journal : (home : Home) (past : SitePast) → IsGoingOn home past → IsJournalOf home (journal home past)
made_journal home past made = by_front s.front where
  s : IsSummed home (disk home past)
  s = (lawful home past made).sums.summed

  begins : (first : SiteRecord) (before : List SiteRecord) → Stands home first before → AreSums home (first ∷ before) → Begins home first
  begins (Rec.Checkpoint sum) before b sums = (ap (λ (x : SiteSum). x.site) sums.0, ap (λ (x : SiteSum). x.engine) sums.0, ap (λ (x : SiteSum). x.protocol) sums.0)
  begins (Rec.Setup site engine protocol items) before b sums = b.0
  begins (Rec.Start n) before b sums = absurd b
  begins (Rec.Prepared t e n ticket writes) before b sums = absurd b
  begins (Rec.Ended t d) before b sums = absurd b
  begins (Rec.Local t n writes) before b sums = absurd b

  by_front : ((disk home past).trimmed ≡ 0) ⊎ IsTrimmed home (Past.records home past) (disk home past).synced (disk home past).trimmed → IsJournalOf home (journal home past)
  by_front (inl none) =
      let f = founded home past in
      record {
        newer = f.newer ++ Rec.Start 1 ∷ [];
        oldest = Rec.Setup home.site home.engine home.protocol home.items;
        begins = (refl, refl, refl, refl);
        stands = ap (λ n. standing site_frame n (Past.records home past)) none ∙ standing_all (Past.records home past) ∙ f.founded ∙ sym (append_assoc f.newer (Rec.Start 1 ∷ []) (Rec.Setup home.site home.engine home.protocol home.items ∷ []));
      }
  by_front (inr t) =
      record {
        newer = t.newer;
        oldest = t.first;
        begins = begins t.first t.before t.begins (sums_front home t.newer (t.first ∷ t.before) (subst (AreSums home) t.all s.sums));
        stands = ap (λ n. standing site_frame n (Past.records home past)) t.at ∙ ap (standing site_frame (bytes_of site_frame t.before)) t.all ∙ standing_trimmed t.newer t.first t.before;
      }

module _ {E : Type 0} (stands : E → Lines.Start → List EngineLine → Type 0) where
  -- the records that are read are the journal
  pub read_is : (core : SiteCore E) (home : Home) (past : SitePast) (slice : List SiteRecord) → Remembers stands core home past → slice ≡ records core.store.journal → reverse slice ≡ journal home past
  read_is core home past slice m is = ap reverse (is ∙ m.records) ∙ reverse-reverse (journal home past)

  journal_read : (core : SiteCore E) (home : Home) (past : SitePast) (slice : List SiteRecord) → IsGoingOn home past → Remembers stands core home past → slice ≡ records core.store.journal → IsJournalOf home (reverse slice)
  journal_read core home past slice made m is = subst (IsJournalOf home) (sym (read_is core home past slice m is)) (made_journal home past made)

  pub is_journal : (core : SiteCore E) (home : Home) (past : SitePast) (slice : List SiteRecord) → IsGoingOn home past → Remembers stands core home past → slice ≡ records core.store.journal → IsJournal (reverse slice)
  is_journal core home past slice made m is = record { home = home; journal = journal_read core home past slice made m is }

  -- what is read of them is what all records say
  pub sum_is : (core : SiteCore E) (home : Home) (past : SitePast) (slice : List SiteRecord) (sum : SiteSum) → IsGoingOn home past → Remembers stands core home past → slice ≡ records core.store.journal
      → ((other : Home) → IsJournalOf other (reverse slice) → sum ≡ journal_sum other (reverse slice)) → sum ≡ site_sum home (Past.records home past)
  sum_is core home past slice sum made m is read =
      read home (journal_read core home past slice made m is) ∙ ap (journal_sum home) (read_is core home past slice m is)
      ∙ made_says_all home past made
