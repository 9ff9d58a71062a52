-- The unended runs after the lines, and the one that stands first of those that a test holds of.
use Rattle.std.proofs.Common.{◌≡◌, ℕ, ◌⊎◌, Bool, Option, Some, None, List, [], ◌∷◌, inl, inr, sym, ap, ◌∙◌, arith}
use Rattle.std.proofs.lemmas.Option.{same_Some}
use Rattle.mdb_base.specs.declared.names.Tid.{Tid}
use Rattle.mdb_base.specs.Words.{map_some, with_some, found, those, least}
use Rattle.fed_rules.specs.Runs.{Start, EngineLine, Run, run_at, attempts, unended}
use Rattle.fed_rules.specs.Replies.{age_of}
use Rattle.fed_rules.specs.EngineLines.{IsRight, IsStart}
use Rattle.engine_laws.proofs.ForCallers.{attempts_have, tid_is}
use Rattle.run_book.specs.declared.rival.Rival.{Rival}
use Rattle.run_book.specs.Rivals.{rival_by, IsOldest}
use Rattle.run_book.proofs.Ages.{ages-differ}
use Rattle.run_book.proofs.Best.{TellsApart, least-found, least-empty}
use Rattle.run_book.proofs.Members.{Is, is-those, those-is}

-- what a look-up finds
with_some-is : {A : Type 0} (o : Option A) (xs : List A) (y : A) → Is y (with_some o xs) → (o ≡ Some y) ⊎ Is y xs
with_some-is None xs y h = inr h
with_some-is (Some x) xs y h = elim h [ inl e ↦ inl (ap (λ (z : _). Some z) e) | inr m ↦ inr m ]

is-with_some : {A : Type 0} (o : Option A) (xs : List A) (y : A) → (o ≡ Some y) ⊎ Is y xs → Is y (with_some o xs)
is-with_some None xs y h = elim h [ inl e ↦ cc | inr m ↦ m ]
is-with_some (Some x) xs y h = elim h [ inl e ↦ inl (same_Some x y e) | inr m ↦ inr m ]

found-is : {A B : Type 0} (look : A → Option B) (xs : List A) (y : B) → Is y (found look xs) → (x : A) × (look x ≡ Some y)
found-is look [] y h = absurd h
found-is look (x ∷ xs) y h = elim (with_some-is (look x) (found look xs) y h) [ inl e ↦ (x, e) | inr m ↦ found-is look xs y m ]

is-found : {A B : Type 0} (look : A → Option B) (xs : List A) (x : A) (y : B) → Is x xs → look x ≡ Some y → Is y (found look xs)
is-found look [] x y h e = absurd h
is-found look (z ∷ zs) x y h e =
    is-with_some (look z) (found look zs) y (elim h [ inl same ↦ inl (ap look same ∙ e) | inr m ↦ inr (is-found look zs x y m e) ])

-- the unended runs are those that the look-up finds
pub unended-is : (start : Start) (lines : List EngineLine) (run : Run) → Is run (unended start lines) → (u : Tid) × (run_at start lines u ≡ Some run)
unended-is start lines run h = found-is (run_at start lines) (attempts start lines) run h

pub is-unended : (start : Start) (lines : List EngineLine) (u : Tid) (run : Run) → IsRight start lines → run_at start lines u ≡ Some run → Is run (unended start lines)
is-unended start lines u run right h = is-found (run_at start lines) (attempts start lines) u run (attempts_have start lines right u run h) h

-- the unended runs' ages tell them apart
pub unended-apart : (start : Start) (lines : List EngineLine) → IsStart start → IsRight start lines → TellsApart age_of (unended start lines)
unended-apart start lines starts right a b ha hb same =
    let u = unended-is start lines a ha in let v = unended-is start lines b hb in
    let one = ages-differ start lines u.0 v.0 a b starts right u.1 v.1 same in
    same_Some a b (sym u.1 ∙ (ap (λ (t : Tid). run_at start lines t) one ∙ v.1))

apart-those : {A : Type 0} (m : A → ℕ) (test : A → Bool) (xs : List A) → TellsApart m xs → TellsApart m (those test xs)
apart-those m test xs apart a b ha hb same = apart a b (those-is test xs a ha).0 (those-is test xs b hb).0 same

-- the oldest of those that a test holds of is the one that the rules look for
pub oldest-least : (start : Start) (lines : List EngineLine) (test : Run → Bool) (o : Option Rival) → IsStart start → IsRight start lines → IsOldest (run_at start lines) test o →
    o ≡ map_some (rival_by age_of) (least age_of (those test (unended start lines)))
oldest-least start lines test None starts right none =
    sym (ap (λ (o : Option Run). map_some (rival_by age_of) o)
    (least-empty age_of (those test (unended start lines))
    (λ run h. let m = those-is test (unended start lines) run h in let at = unended-is start lines run m.0 in none at.0 run at.1 m.1)))
oldest-least start lines test (Some rival) starts right oldest =
    let run = oldest.run in
    let named : Rival = rival_by age_of run in
    let is : rival ≡ named =
    ap (λ (t : Tid). let r : Rival = record rival { tid = t } in r) (sym (tid_is start lines right rival.tid run oldest.at))
    ∙ ap (λ (n : ℕ). let r : Rival = record named { rank = n } in r) oldest.rank in
    ap (λ (r : Rival). Some r) is
    ∙ sym (ap (λ (o : Option Run). map_some (rival_by age_of) o)
    (least-found age_of (those test (unended start lines)) run (apart-those age_of test _ (unended-apart start lines starts right))
    (record {
      is = is-those test (unended start lines) run (is-unended start lines rival.tid run right oldest.at) oldest.counts_here;
      below = λ other h.
          let m = those-is test (unended start lines) other h in
          let at = unended-is start lines other m.0 in
          let le = oldest.below at.0 other at.1 m.1 in
          let rank = oldest.rank in
          omega arith;
    })))
