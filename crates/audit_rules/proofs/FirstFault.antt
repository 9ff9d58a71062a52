-- The line that a verdict names is the first that fails.
use Rattle.std.proofs.Common.{◌≡◌, ℕ, suc, ◌+◌, Bool, true, false, Option, Some, None, List, [], ◌∷◌, refl, sym, ap, subst, inl, inr, arith}
use Rattle.mdb_base.specs.declared.names.Tid.{Tid}
use Rattle.mdb_base.specs.Words.{when}
use Rattle.mdb_base.proofs.ForCallers.{not_both}
use Rattle.fed_rules.specs.declared.commands.Line.{Line}
use Rattle.fed_rules.specs.declared.scenario.Scenario.{Scenario}
use Rattle.fed_rules.specs.Orders.{orders}
use Rattle.fed_rules.specs.Right.{story_told}
use Rattle.fed_rules.specs.Story.{Story, tell}
use Rattle.audit_rules.specs.declared.verdict.Verdict.{Verdict}
use Rattle.audit_rules.specs.declared.verdict.Verdict.TheVariants.{Agrees, Differs}
use Rattle.audit_rules.specs.declared.verdict.What.{What}
use Rattle.audit_rules.specs.declared.verdict.What.TheVariants as Fails
use Rattle.audit_rules.specs.Agreement.{Printed, Says, Orders, Neither, Entry, due, what_of, verdict_on_report, verdict_at_order, unless_fault, verdict_at, verdict_from}
use Rattle.audit_rules.specs.Agreements.{AreRight, Rests}
use Rattle.audit_rules.specs.Differences.{FailsInReport, FailsAtOrder, FailsHere, FailsNext, DiffersBehind}
use Rattle.audit_rules.specs.Ends.{rests, merges}
use Rattle.audit_rules.specs.Faults.{fault_of}
use Rattle.audit_rules.proofs.Endings.{merge_means, merge_passes, rest_means, rest_passes}
use Rattle.audit_rules.proofs.NextLine.{no_fault_means}
use Rattle.audit_rules.proofs.Reasons.{fault_means}

line_in : Verdict → ℕ
line_in Agrees = 0
line_in (Differs n what) = n

what_in : Verdict → What
what_in Agrees = Fails.Form
what_in (Differs n what) = what

same_line : (n m : ℕ) (a b : What) → Differs n a ≡ Differs m b → (n ≡ m) × (a ≡ b)
unfolding line_in what_in
same_line n m a b e = (ap line_in e, ap what_in e)

-- it fails so many lines on
abbrev Later : (ℕ → What → Type 0) → ℕ → ℕ → What → Type 0
Later P n line what = (k : ℕ) × (line ≡ n + k) × P k what

at_once : (P : ℕ → What → Type 0) (n line : ℕ) (what named : What) → Differs n named ≡ Differs line what → P 0 named → Later P n line what
at_once P n line what named e p = let (same, reason) = same_line n line named what e in (0, omega (arith, same), subst (λ w. P 0 w) reason p)

-- ---- the report

in_report : {A : Type 0} (is : A → Entry → Bool) (n : ℕ) (entries : List Entry) (texts : List A) (line : ℕ) (what : What)
    → verdict_on_report is n entries texts ≡ Differs line what → Later (FailsInReport is entries texts) n line what
unfolding verdict_on_report when
in_report is n [] [] line what e = cc
in_report is n [] (text ∷ texts) line what e = at_once (FailsInReport is [] (text ∷ texts)) n line what Fails.Form e (refl, refl)
in_report is n (entry ∷ entries) [] line what e = at_once (FailsInReport is (entry ∷ entries) []) n line what Fails.Form e (refl, refl)
in_report {A} is n (entry ∷ entries) (text ∷ texts) line what e = by_test (is text entry) refl e (λ f. in_report is (suc n) entries texts line what f) where
  by_test : (b : Bool) → is text entry ≡ b → when b (verdict_on_report is (suc n) entries texts) (Differs n (what_of entry)) ≡ Differs line what
      → (verdict_on_report is (suc n) entries texts ≡ Differs line what → Later (FailsInReport is entries texts) (suc n) line what)
      → Later (FailsInReport is (entry ∷ entries) (text ∷ texts)) n line what
  by_test true f g rest = let (k, same, fails) = rest g in (suc k, omega (arith, same), (f, fails))
  by_test false f g rest = at_once (FailsInReport is (entry ∷ entries) (text ∷ texts)) n line what (what_of entry) g (f, refl)

-- ---- the order

at_order : {A : Type 0} (is : A → Entry → Bool) (scenario : Scenario) (n : ℕ) (order : List Tid) (behind : List A) (story : Story) (line : ℕ) (what : What)
    → verdict_at_order is scenario n order behind story ≡ Differs line what → Later (FailsAtOrder is scenario story order behind) n line what
unfolding verdict_at_order when
at_order {A} is scenario n order behind story line what e = by_rest (rests scenario story) refl e where
  by_merge : Rests scenario story → (b : Bool) → merges (orders scenario story) order ≡ b
      → when b (verdict_on_report is (suc n) (due scenario story order) behind) (Differs n Fails.Order) ≡ Differs line what
      → Later (FailsAtOrder is scenario story order behind) n line what
  by_merge quiet true f g =
      let (k, same, fails) = in_report is (suc n) (due scenario story order) behind line what g in
      (suc k, omega (arith, same), (quiet, merge_means (orders scenario story) order f, fails))
  by_merge quiet false f g =
      at_once (FailsAtOrder is scenario story order behind) n line what Fails.Order g
      (inr (quiet, λ m. not_both _ (merge_passes (orders scenario story) order m) f, refl))

  by_rest : (b : Bool) → rests scenario story ≡ b
      → when b (when (merges (orders scenario story) order) (verdict_on_report is (suc n) (due scenario story order) behind) (Differs n Fails.Order)) (Differs n Fails.Open) ≡ Differs line what
      → Later (FailsAtOrder is scenario story order behind) n line what
  by_rest true f g = by_merge (rest_means scenario story f) (merges (orders scenario story) order) refl g
  by_rest false f g = at_once (FailsAtOrder is scenario story order behind) n line what Fails.Open g (inl (λ r. not_both _ (rest_passes scenario story r) f, refl))

-- ---- all

pub first_fault : {A : Type 0} (read : A → Printed) (is : A → Entry → Bool) (scenario : Scenario) (n : ℕ) (texts : List A) (before : List Line) (line : ℕ) (what : What)
    → AreRight scenario before → verdict_from read is scenario n texts (story_told scenario before) ≡ Differs line what
    → (place : ℕ) × (line ≡ n + place) × DiffersBehind read is scenario before texts place what
unfolding verdict_from verdict_at unless_fault
first_fault read is scenario n [] before line what right e =
    let (k, same, fails) = at_once (FailsNext read is scenario (story_told scenario before) []) n line what Fails.Form e (refl, refl) in
    (k, same, record { lines = before; spoken = []; left = []; parts = refl; are_lines = refl; right = right; within = k; fails = fails; place_is = omega arith })
first_fault {A} read is scenario n (text ∷ texts) before line what right e =
    by_read (read text) refl e (λ lines good f. first_fault read is scenario (suc n) texts lines line what good f)
  where
    story : Story
    story = story_told scenario before

    next : Story → Verdict
    next = verdict_from read is scenario (suc n) texts

    More : Type 0
    More = (lines : List Line) → AreRight scenario lines → verdict_from read is scenario (suc n) texts (story_told scenario lines) ≡ Differs line what
        → (place : ℕ) × (line ≡ suc n + place) × DiffersBehind read is scenario lines texts place what

    Found : Type 0
    Found = (place : ℕ) × (line ≡ n + place) × DiffersBehind read is scenario before (text ∷ texts) place what

    here : (printed : Printed) → read text ≡ printed → Later (FailsHere is scenario story printed texts) n line what → Found
    here printed says (k, same, fails) = (
      k,
      same,
      record {
        lines = before;
        spoken = [];
        left = text ∷ texts;
        parts = refl;
        are_lines = refl;
        right = right;
        within = k;
        fails = subst (λ p. FailsHere is scenario story p texts k what) (sym says) fails;
        place_is = omega arith;
      },
    )

    by_line : (said : Line) → read text ≡ Says said → (fault : Option What) → fault_of scenario story said ≡ fault
        → unless_fault n fault next (tell scenario story said.command ∷ story) ≡ Differs line what → More → Found
    by_line said says (Some named) f g more =
        here (Says said) says (at_once (FailsHere is scenario story (Says said) texts) n line what named g (refl, fault_means scenario story said named f))
    by_line said says None f g more =
        let (declared, is_next) = no_fault_means scenario story said f in
        let (place, same, rest) = more (said ∷ before) (record { declared = (declared, right.declared); right = (right.right, is_next) }) g in (
          suc place,
          omega (arith, same),
          record {
            lines = rest.lines;
            spoken = text ∷ rest.spoken;
            left = rest.left;
            parts = ap (λ xs. text ∷ xs) rest.parts;
            are_lines = (said, says, rest.are_lines);
            right = rest.right;
            within = rest.within;
            fails = rest.fails;
            place_is = (let p = rest.place_is in omega (arith, p));
          },
        )

    by_read : (printed : Printed) → read text ≡ printed → verdict_at is scenario n printed texts next story ≡ Differs line what → More → Found
    by_read (Says said) says f more = by_line said says (fault_of scenario story said) refl f more
    by_read (Orders order) says f more = here (Orders order) says (at_order is scenario n order texts story line what f)
    by_read Neither says f more = here Neither says (at_once (FailsHere is scenario story Neither texts) n line what Fails.Form f (refl, refl))
