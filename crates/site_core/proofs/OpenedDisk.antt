-- The disk of the past that a journal stands for: its records stand behind those that the first one is read as, which are trimmed, and all is synced.
use Rattle.std.proofs.Common.{◌≡◌, ℕ, ◌+◌, Some, List, [], ◌∷◌, ◌++◌, refl, sym, ap, ◌∙◌, arith}
use Rattle.std.proofs.lemmas.List.{append_assoc}
use Rattle.fed_rules.specs.declared.records.SiteRecord.{SiteRecord}
use Rattle.fed_rules.specs.Disk.{Disk, bytes_of}
use Rattle.fed_rules.specs.Reopened.{long_site, oldest, opened_site, site_reads_as}
use Rattle.fed_rules.specs.SitePast.{disk}
use Rattle.fed_rules.specs.SiteRecords.{Home, site_frame}
use Rattle.fed_rules.proofs.ForCallers.{expanded, opened_length, opened_lost, opened_synced, opened_trimmed}
use Rattle.site_history.proofs.ForCallers.{disk_is, foundation, opened_is, torn_short}

-- the records with what the first one is read as are the journal before that
split : (newest : SiteRecord) (older : List SiteRecord) → expanded site_reads_as newest older ≡ (newest ∷ older) ++ site_reads_as (oldest newest older)
split first [] = refl
split newest (next ∷ older) = ap (λ rs. newest ∷ rs) (split next older)

-- what the first record is read as, with the set-up below it
abbrev pub trimmed_off : Home → SiteRecord → List SiteRecord → List SiteRecord
trimmed_off home newest older = site_reads_as (oldest newest older) ++ foundation home

pub record StandsBehind (home : Home) (newest : SiteRecord) (older : List SiteRecord) (torn : ℕ) (rules : Disk SiteRecord) : Type 0 where
  pub parts : rules.records ≡ (newest ∷ older) ++ trimmed_off home newest older
  pub border : rules.trimmed ≡ bytes_of site_frame (trimmed_off home newest older)
  pub long : rules.length ≡ bytes_of site_frame rules.records + torn
  pub synced : rules.synced ≡ rules.length
  pub lost : rules.lost ≡ Some (long_site torn)

pub stands_behind : (home : Home) (newest : SiteRecord) (older : List SiteRecord) (torn : ℕ)
    → StandsBehind home newest older torn (disk home (opened_site (record { records = newest ∷ older; torn = torn })))
stands_behind home newest older torn =
    let first : Disk SiteRecord = disk home [] in
    let base : first.length ≡ bytes_of site_frame first.records = omega arith in
    let is = disk_is home newest older torn in
    let all = opened_is home newest older torn (torn_short torn) in
    let apart : expanded site_reads_as newest older ++ foundation home ≡ (newest ∷ older) ++ trimmed_off home newest older =
    ap (λ rs. rs ++ foundation home) (split newest older) ∙ append_assoc (newest ∷ older) (site_reads_as (oldest newest older)) (foundation home) in
    record {
      parts = all ∙ apart;
      border = ap (λ (d : Disk SiteRecord). d.trimmed) is ∙ opened_trimmed site_frame site_reads_as newest older (long_site torn) torn first;
      long = ap (λ (d : Disk SiteRecord). d.length) is ∙ opened_length site_frame site_reads_as newest older (long_site torn) torn first (torn_short torn) base
          ∙ sym (ap (λ rs. bytes_of site_frame rs + torn) all);
      synced = ap (λ (d : Disk SiteRecord). d.synced) is ∙ opened_synced site_frame site_reads_as newest older (long_site torn) torn first ∙ sym (ap (λ (d : Disk SiteRecord). d.length) is);
      lost = ap (λ (d : Disk SiteRecord). d.lost) is ∙ opened_lost site_frame site_reads_as newest older (long_site torn) torn first (torn_short torn) base;
    }
