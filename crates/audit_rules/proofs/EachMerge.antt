-- What the headline says of the least merge it says of any merge, and so a yes implies it with the printed order.
use Rattle.std.proofs.Common.{◌≡◌, ℕ, Bool, Some, List, [], sym, ◌∙◌, subst}
use Rattle.mdb_base.specs.declared.names.SiteId.{SiteId}
use Rattle.mdb_base.specs.declared.names.Tid.{Tid}
use Rattle.mdb_base.specs.Names.{same_tid}
use Rattle.mdb_base.specs.Words.{those}
use Rattle.order_laws.specs.Chains.{In, Distinct}
use Rattle.order_laws.specs.Merge as merge
use Rattle.order_laws.specs.Orders.{is_in}
use Rattle.order_laws.proofs.ForCallers.{each_at, merge_names, tells_tids, those_in}
use Rattle.fed_rules.specs.declared.commands.Line.{Line}
use Rattle.fed_rules.specs.declared.scenario.Scenario.{Scenario}
use Rattle.fed_rules.specs.Headline.{Headline, HeadlineOf}
use Rattle.fed_rules.specs.Orders.{orders, IsMerge, IsSerial}
use Rattle.fed_rules.specs.Reports.{printed_order}
use Rattle.fed_rules.specs.Right.{story_told}
use Rattle.fed_rules.specs.Scenarios.{home_of, sites}
use Rattle.fed_rules.specs.SiteRecords.{Home}
use Rattle.fed_rules.specs.Story.{Story}
use Rattle.audit_rules.specs.declared.verdict.Verdict.TheVariants.{Agrees}
use Rattle.audit_rules.specs.Agreement.{Printed, Entry, verdict_from}
use Rattle.audit_rules.specs.Agreements.{Agreement, SiteRests}
use Rattle.audit_rules.specs.Audited.{Audited}
use Rattle.audit_rules.proofs.YesAgrees.{yes_agrees}

-- whoever stands in one merge of some orders stands in each
pub in_each_merge : (all : List (List Tid)) (o p : List Tid) → merge.IsMerge same_tid all o → merge.IsMerge same_tid all p → (tid : Tid) → In tid o → In tid p
in_each_merge all o p of_o of_p tid i =
    let (ts, listed, here) = merge_names same_tid tells_tids all o of_o tid i in
    let kept : those (is_in same_tid ts) p ≡ ts = each_at (λ us. those (is_in same_tid us) p ≡ us) ts all of_p.kept listed in
    (those_in (is_in same_tid ts) tid p (subst (In tid) (sym kept) here)).0

-- the headline of a story with any merge in place of the least: each merge is named once and gives reads and dues, as the least does
pub headline_of : (scenario : Scenario) (story : Story) → Headline scenario story
    → ((order : List Tid) → IsMerge scenario story order → Distinct order)
    → ((order : List Tid) → IsMerge scenario story order → IsSerial scenario story order)
    → (order : List Tid) → IsMerge scenario story order → HeadlineOf scenario story order
headline_of scenario story least once serial order merge =
    let gives = serial order merge in
    let into = in_each_merge (orders scenario story) (printed_order scenario story) order least.is_merge merge in
    let back = in_each_merge (orders scenario story) order (printed_order scenario story) merge least.is_merge in
    record {
      holds_committed = record {
        locals = λ site tid number writes i. into tid (least.holds_committed.locals site tid number writes i);
        globals = λ tid e. into tid (least.holds_committed.globals tid e);
      };
      names_once = record {
        attempts = once order merge;
        transactions = λ a b i j same. least.names_once.transactions a b (back a i) (back b j) same;
      };
      is_merge = merge;
      gives_reads_and_dues = gives;
      leaves_tables = λ site home declared none key.
          gives.tables site home declared key ∙ sym (least.gives_reads_and_dues.tables site home declared key) ∙ least.leaves_tables site home declared none key;
      ends_alike = least.ends_alike;
      forgets_exactly = least.forgets_exactly;
      answers_in_doubt = least.answers_in_doubt;
    }

-- what holds of the story of a printed run: the headline, and that each merge names each attempt once and gives reads and dues
pub record Laws (scenario : Scenario) (story : Story) : Type 0 where
  pub least : Headline scenario story
  pub once : (order : List Tid) → IsMerge scenario story order → Distinct order
  pub serial : (order : List Tid) → IsMerge scenario story order → IsSerial scenario story order

pub audited : {A : Type 0} (read : A → Printed) (is : A → Entry → Bool) (scenario : Scenario) → ((lines : List Line) → Laws scenario (story_told scenario lines))
    → ((site : SiteId) (home : Home) → home_of scenario site ≡ Some home → In site (sites scenario))
    → (n : ℕ) (texts : List A) → verdict_from read is scenario n texts [] ≡ Agrees → Audited read is scenario texts
audited read is scenario laws among n texts e =
    let agreement : Agreement read is scenario texts = yes_agrees read is scenario n texts [] (record { declared = tt; right = tt }) e in
    let story = story_told scenario agreement.lines in
    let law = laws agreement.lines in
    let headline = headline_of scenario story law.least law.once law.serial agreement.order agreement.merge in
    record {
      agreement = agreement;
      headline = headline;
      reads = sym headline.gives_reads_and_dues.reads;
      tables = λ site home declared key.
          let rests = each_at (SiteRests scenario story) site (sites scenario) agreement.rests.sites (among site home declared) in
          sym (headline.leaves_tables site home declared rests.none_in_doubt key);
    }
