-- The engine lines of a site's line leave no live run of an attempt that is closed or in doubt.
use Rattle.std.proofs.Common.{◌≡◌, ◌⊎◌, inl, inr, Bool, true, false, cond, ◌||◌, is_some, Option, Some, None, List, [], ◌∷◌, ◌++◌, refl, ap, ◌∙◌}
use Rattle.std.proofs.lemmas.Bool.{and_right}
use Rattle.mdb_base.specs.declared.names.Tid.{Tid}
use Rattle.mdb_base.specs.declared.replies.Reply.TheVariants as Reply_is
use Rattle.mdb_base.specs.Names.{same_tid}
use Rattle.mdb_base.specs.Words.{some_of}
use Rattle.fed_rules.specs.declared.runs.Kept.{Kept}
use Rattle.fed_rules.specs.Happenings.{stops, comes_up, is_down}
use Rattle.fed_rules.specs.Runs.{EngineLine, Begins, Acts, Takes, Seals, Refuses, Commits, Aborts, Run, Start, restored, restored_at, changed, run_at, gives_up, tid_of}
use Rattle.fed_rules.specs.SitePast.{SiteHappening, SitePast, records, epoch_start, engine_lines, live_one, ends, decides_on, is_closed}
use Rattle.fed_rules.specs.SiteRecords.{Home, doubt_of}
use Rattle.commit_laws.proofs.SiteFacts.{Shut}

-- a restored run is sealed
pub restored-sealed : (ks : List Kept) (g : Tid) → live_one (restored_at ks g) ≡ None
restored-sealed [] g = refl
restored-sealed (k ∷ ks) g = by_test (same_tid k.tid g) (restored-sealed ks g) where
  by_test : (b : Bool) → live_one (restored_at ks g) ≡ None → live_one (cond b (Some (restored k)) (restored_at ks g)) ≡ None
  by_test true h = refl
  by_test false h = h

-- a line of another attempt ends no run of this one
ends-other : (g : Tid) (l : EngineLine) → same_tid (tid_of l) g ≡ false → ends g l ≡ false
ends-other g (Commits tid) e = e
ends-other g (Begins tid n) e = refl
ends-other g (Acts tid act reply) e = and_right (gives_up (Acts tid act reply)) _ e
ends-other g (Takes tid reply) e = and_right (gives_up (Takes tid reply)) _ e
ends-other g (Seals tid n) e = refl
ends-other g (Refuses tid why) e = e
ends-other g (Aborts tid) e = e

-- what a line does to the live run of an attempt: it ends it or seals it, or it leaves an attempt that is neither closed nor in doubt
abbrev pub Leaves : Start → List EngineLine → Tid → Bool → List EngineLine → Type 0
Leaves start rest g over lines = (live_one (run_at start (lines ++ rest) g) ≡ None) ⊎
    ((some_of (ends g) lines ≡ false) × (over ≡ false))

or-false : (a b : Bool) → a ≡ false → (a || b) ≡ true → b ≡ true
or-false true b e h = cc
or-false false b e h = h

or-assoc : (a b c : Bool) → ((a || b) || c) ≡ true → (a || (b || c)) ≡ true
or-assoc true b c h = refl
or-assoc false b c h = h

-- the shut attempt of a line, from what its engine lines do where they are about it, and that they leave the others alone
pub leaves-shut : (start : Start) (rest : List EngineLine) (g : Tid) (closed d : Bool) (lines : List EngineLine)
    → Leaves start rest g (closed || d) lines → ((some_of (ends g) lines || closed) || d) ≡ true
    → live_one (run_at start (lines ++ rest) g) ≡ None
leaves-shut start rest g closed d lines (inl e) h = e
leaves-shut start rest g closed d lines (inr (unended, free)) h =
    let h2 : (closed || d) ≡ true = or-false (some_of (ends g) lines) (closed || d) unended
    (or-assoc (some_of (ends g) lines) closed d h) in cc

-- one line of another attempt
pub other-line : (start : Start) (rest : List EngineLine) (g : Tid) (l : EngineLine) → same_tid (tid_of l) g ≡ false
    → (run_at start (l ∷ rest) g ≡ run_at start rest g) × (some_of (ends g) (l ∷ []) ≡ false)
other-line start rest g l e = (
  ap (λ b. cond b (changed l (run_at start rest g)) (run_at start rest g)) e,
  ap (λ b. b || false) (ends-other g l e),
)

pub other-lines : (start : Start) (rest : List EngineLine) (g : Tid) (l m : EngineLine) → same_tid (tid_of l) g ≡ false
    → same_tid (tid_of m) g ≡ false → (run_at start (l ∷ m ∷ rest) g ≡ run_at start rest g) × (some_of (ends g) (l ∷ m ∷ []) ≡ false)
other-lines start rest g l m e f = (
  ap (λ b. cond b (changed l (run_at start (m ∷ rest) g)) (run_at start (m ∷ rest) g)) e ∙ (other-line start rest g m f).0,
  ap (λ b. b || (ends g m || false)) (ends-other g l e) ∙ (other-line start rest g m f).1,
)

-- one line of this attempt
pub this-line : (start : Start) (rest : List EngineLine) (g : Tid) (l : EngineLine) → same_tid (tid_of l) g ≡ true
    → run_at start (l ∷ rest) g ≡ changed l (run_at start rest g)
this-line start rest g l e = ap (λ b. cond b (changed l (run_at start rest g)) (run_at start rest g)) e

-- a line that ends or seals its run leaves no live one
pub given-up : (l : EngineLine) (old : Option Run) → gives_up l ≡ true → live_one (changed l old) ≡ None
given-up (Begins tid n) old e = cc
given-up (Acts tid act (Reply_is.Refused why)) None e = refl
given-up (Acts tid act (Reply_is.Refused why)) (Some run) e = refl
given-up (Acts tid act (Reply_is.Wait by)) old e = cc
given-up (Acts tid act (Reply_is.Ticket n)) old e = cc
given-up (Acts tid act Reply_is.Unknown) old e = cc
given-up (Acts tid act (Reply_is.Value value)) old e = cc
given-up (Acts tid act Reply_is.Done) old e = cc
given-up (Takes tid (Reply_is.Refused why)) None e = refl
given-up (Takes tid (Reply_is.Refused why)) (Some run) e = refl
given-up (Takes tid (Reply_is.Wait by)) old e = cc
given-up (Takes tid (Reply_is.Ticket n)) old e = cc
given-up (Takes tid Reply_is.Unknown) old e = cc
given-up (Takes tid (Reply_is.Value value)) old e = cc
given-up (Takes tid Reply_is.Done) old e = cc
given-up (Seals tid n) old e = cc
given-up (Refuses tid why) old e = refl
given-up (Commits tid) old e = cc
given-up (Aborts tid) old e = refl

pub sealed-now : (tid : Tid) (n : _) (old : Option Run) → live_one (changed (Seals tid n) old) ≡ None
sealed-now tid n None = refl
sealed-now tid n (Some run) = refl

down-no : (s c d : Bool) → s ≡ false → c ≡ false → d ≡ false → cond s true (cond c false d) ≡ true → ⊥
down-no true c d e f h i = cc
down-no false true d e f h i = cc
down-no false false true e f h i = cc
down-no false false false e f h i = cc

over-part : (g : Tid) (s c closed d : Bool) (start old : Start) (lines : List EngineLine) → s ≡ false → c ≡ false
    → ((closed || d) ≡ true → live_one (run_at old lines g) ≡ None) → (cond c false closed || d) ≡ true
    → live_one (run_at (cond (s || c) start old) (cond (s || c) [] lines) g) ≡ None
over-part g true c closed d start old lines e f k h = cc
over-part g false true closed d start old lines e f k h = cc
over-part g false false closed d start old lines e f k h = k h

-- a line of a site that is up, and that neither stops nor starts it
pub shut-on : (home : Home) (g : Tid) (past : SitePast) (x : SiteHappening) → stops x.answer ≡ false → comes_up x.answer ≡ false
    → is_down past ≡ false
    → (((decides_on g x.event || some_of (ends g) x.lines || is_closed past g) || is_some (doubt_of (records home (x ∷ past)) g)) ≡ true
    → live_one (run_at (epoch_start home past) (x.lines ++ engine_lines past) g) ≡ None)
    → Shut home g (x ∷ past)
shut-on home g past x s c up k = record {
  down = (λ h. absurd (down-no (stops x.answer) (comes_up x.answer) (is_down past) s c up h));
  over = over-part g (stops x.answer) (comes_up x.answer) _ _ _ _ _ s c k;
}
