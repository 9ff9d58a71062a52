-- The journals of sites that are read from disks in their order are those of the declared sites in theirs.
use Rattle.std.proofs.Common.{◌≡◌, ◌⊎◌, ℕ, ◌+◌, ◌<◌, ◌≤◌, Option, None, List, [], ◌∷◌, ◌++◌, inl, inr, length, map, refl, ◌∙◌, ap, ap₂, arith}
use Rattle.std.proofs.lemmas.Bool.{cases_lt}
use Rattle.mdb_base.specs.declared.names.SiteId.{SiteId}
use Rattle.mdb_base.specs.Words.{Among, Each, found as each_found, with_some}
use Rattle.mdb_base.proofs.ForCallers.{each_map}
use Rattle.presumptions.specs.declared.Participant.{Participant}
use Rattle.fed_rules.specs.declared.records.SiteRecord.{SiteRecord}
use Rattle.fed_rules.specs.Found.{Journal}
use Rattle.fed_rules.proofs.ForCallers.{MembersRise}
use Rattle.commit_laws.proofs.ForCallers.{rising_on, rising_over}
use Rattle.journal_disk.specs.Disk.{Image}
use Rattle.frame_journal.specs.Journal.{Kept, records}
use Rattle.site_journal.specs.Spelling as Sites
use Rattle.found_disks.specs.Finding.{journal_on, sites_from, unless_empty}

module _ (look : SiteId → Option (Journal SiteRecord)) (images : List Image) where
  -- of this disk is found what is looked up of its site
  abbrev pub IsFoundAt : ℕ → Kept SiteRecord → Type 0
  IsFoundAt number kept =
      (others : List (Journal SiteRecord)) → unless_empty (records kept) (journal_on Sites.spelling images number kept) ++ others ≡ with_some (look (record { 0 = number })) others

  -- so of those from this number on
  abbrev pub AreFoundFrom : ℕ → List (Kept SiteRecord) → Type 0
  AreFoundFrom number [] = Unit {0}
  AreFoundFrom number (kept ∷ more) = IsFoundAt number kept × AreFoundFrom (number + 1) more

  -- nothing is looked up of a site that isn't among these
  abbrev pub IsAmong : List Participant → SiteId → Type 0
  IsAmong members site = (look site ≡ None) ⊎ Among (λ (m : Participant). m.site ≡ site) members

  none_before : (number : ℕ) (members : List Participant) → Each (λ (m : Participant). number < m.site.0) members → Among (λ (m : Participant). m.site ≡ record { 0 = number }) members → ⊥
  none_before number [] later i = i
  none_before number (m ∷ members) later (inl e) =
      let here : m.site.0 ≡ number = ap (λ (s : SiteId). s.0) e in
      let less = later.0 in
      omega (arith, here, less)
  none_before number (m ∷ members) later (inr i) = none_before number members later.1 i

  not_among : (number : ℕ) (members : List Participant) → Each (λ (m : Participant). number < m.site.0) members → IsAmong members (record { 0 = number })
      → look (record { 0 = number }) ≡ None
  not_among number members later (inl none) = none
  not_among number members later (inr i) = absurd (none_before number members later i)

  -- a site behind the first of these is among the others
  behind_first : (number : ℕ) (m : Participant) (members : List Participant) → number ≡ m.site.0 → (site : SiteId) → number + 1 ≤ site.0 → IsAmong (m ∷ members) site → IsAmong members site
  behind_first number m members here site later (inl none) = inl none
  behind_first number m members here site later (inr (inr i)) = inr i
  behind_first number m members here site later (inr (inl e)) =
      let same : m.site.0 ≡ site.0 = ap (λ (s : SiteId). s.0) e in
      absurd (omega (arith, here, same, later))

  later_on : (number : ℕ) (members : List Participant) → Each (λ (m : Participant). number < m.site.0) members → Each (λ (m : Participant). number + 1 ≤ m.site.0) members
  later_on number members later = each_map (λ (m : Participant). number < m.site.0) (λ m. number + 1 ≤ m.site.0) (λ m less. omega (arith, less)) members later

  within : (number : ℕ) (more : List (Kept SiteRecord)) (kept : Kept SiteRecord) (members : List Participant) → Each (λ (m : Participant). m.site.0 < number + length (kept ∷ more)) members
      → Each (λ (m : Participant). m.site.0 < number + 1 + length more) members
  within number more kept members most =
      each_map (λ (m : Participant). m.site.0 < number + length (kept ∷ more)) (λ m. m.site.0 < number + 1 + length more) (λ m less. omega (arith, less)) members most

  pub sites_are : (number : ℕ) (journals : List (Kept SiteRecord)) (members : List Participant) → AreFoundFrom number journals → MembersRise members
      → Each (λ (m : Participant). number ≤ m.site.0) members → Each (λ (m : Participant). m.site.0 < number + length journals) members
      → ((site : SiteId) → number ≤ site.0 → IsAmong members site)
      → sites_from number images journals ≡ each_found look (map (λ (m : Participant). m.site) members)
  sites_are number [] [] are rise least most declared = refl
  sites_are number [] (m ∷ members) are rise least most declared = (let low = least.0 in let high = most.0 in absurd (omega (arith, low, high)))
  sites_are number (kept ∷ more) [] are rise least most declared =
      are.0 (sites_from (number + 1) images more)
      ∙ ap (λ o. with_some o (sites_from (number + 1) images more)) (not_among number [] tt (declared (record { 0 = number }) (omega arith)))
      ∙ sites_are (number + 1) more [] are.1 tt tt tt (λ site later. declared site (omega (arith, later)))
  sites_are number (kept ∷ more) (m ∷ members) are rise least most declared = elim (cases_lt number m.site.0) [
    | inl less ↦
        let later : Each (λ (k : Participant). number < k.site.0) (m ∷ members) =
        (less, each_map (λ (k : Participant). m.site.0 < k.site.0) (λ k. number < k.site.0) (λ k above. omega (arith, less, above)) members (rising_over m members rise)) in
        are.0 (sites_from (number + 1) images more)
        ∙ ap (λ o. with_some o (sites_from (number + 1) images more)) (not_among number (m ∷ members) later (declared (record { 0 = number }) (omega arith)))
        ∙ sites_are (number + 1) more (m ∷ members) are.1 rise (later_on number (m ∷ members) later) (within number more kept (m ∷ members) most) (λ site behind. declared site (omega (arith, behind)))
    | inr most_here ↦
        let low = least.0 in
        let here : number ≡ m.site.0 = omega (arith, low, most_here) in
        let its : record { 0 = number } ≡ m.site = ap (λ k. let s : SiteId = record { 0 = k } in s) here in
        let later : Each (λ (k : Participant). number < k.site.0) members =
        each_map (λ (k : Participant). m.site.0 < k.site.0) (λ k. number < k.site.0) (λ k above. omega (arith, here, above)) members (rising_over m members rise) in
        are.0 (sites_from (number + 1) images more)
        ∙ ap₂ (λ (s : SiteId) (js : List (Journal SiteRecord)). with_some (look s) js) its
        (sites_are (number + 1) more members are.1 (rising_on m members rise) (later_on number members later) (within number more kept members most.1)
        (λ site behind. behind_first number m members here site behind (declared site (omega (arith, behind)))))
  ]
