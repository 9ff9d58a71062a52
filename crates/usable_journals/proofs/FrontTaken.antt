-- Those in doubt that are taken as Prepareds, the first one of a list first.
use Rattle.std.proofs.Common.{◌≡◌, true, false, List, [], ◌∷◌, ◌++◌, map, reverse, refl, sym, ap, subst, ◌∙◌}
use Rattle.std.proofs.lemmas.List.{append_assoc, append-nil, map-append, reverse-append}
use Rattle.fed_rules.specs.SiteRecords.{Held}
use Rattle.usable_journals.specs.declared.fronts.Front.{Front}
use Rattle.usable_journals.specs.Fronts.{Takes, TakesAll, held_read, walk}
use Rattle.usable_journals.proofs.FrontSteps.{of_every_front}
use Rattle.usable_journals.proofs.WalkLaws.{takes_none, takes_stop, takes_then}

abbrev pub Taken : (before after : Front) → (left all : List Held) → Type 0
Taken before after left all = (done : List Held) × (done ++ left ≡ all) × TakesAll before after (map held_read (reverse done)) true

pub none_taken : (front : Front) (all : List Held) → Taken front front all all
none_taken front all = ([], refl, takes_none walk front)

pushed : (done : List Held) (held : Held) → held_read held ∷ map held_read (reverse done) ≡ map held_read (reverse (done ++ held ∷ []))
pushed done held = sym (ap (map held_read) (reverse-append done (held ∷ [])))

-- one more
pub one_more : (a b c : Front) (held : Held) (left all : List Held) → Taken a b (held ∷ left) all → Takes b c (held_read held) true → Taken a c left all
one_more a b c held left all (done, is, taken) next = (
  done ++ held ∷ [],
  append_assoc done (held ∷ []) left ∙ is,
  subst (λ rs. TakesAll a c rs true) (pushed done held) (takes_then walk of_every_front a b c (map held_read (reverse done)) (held_read held ∷ []) true taken next),
)

-- one that may not stand there
pub stops_at : (a b c e : Front) (held : Held) (left all : List Held) → Taken a b (held ∷ left) all → Takes b c (held_read held) false → TakesAll a e (map held_read (reverse all)) false
stops_at a b c e held left all (done, is, taken) next =
    let front : TakesAll a c (map held_read (reverse (done ++ held ∷ []))) false =
    subst (λ rs. TakesAll a c rs false) (pushed done held) (takes_then walk of_every_front a b c (map held_read (reverse done)) (held_read held ∷ []) false taken next) in
    let parts : map held_read (reverse all) ≡ map held_read (reverse left) ++ map held_read (reverse (done ++ held ∷ [])) =
    ap (λ hs. map held_read (reverse hs)) (sym is ∙ sym (append_assoc done (held ∷ []) left))
    ∙ ap (map held_read) (reverse-append (done ++ held ∷ []) left) ∙ map-append held_read (reverse left) (reverse (done ++ held ∷ [])) in
    subst (λ rs. TakesAll a e rs false) (sym parts) (takes_stop walk of_every_front a c e (map held_read (reverse (done ++ held ∷ []))) (map held_read (reverse left)) front)

pub whole_taken : (a b : Front) (left all : List Held) → left ≡ [] → Taken a b left all → TakesAll a b (map held_read (reverse all)) true
whole_taken a b left all none (done, is, taken) =
    subst (λ hs. TakesAll a b (map held_read (reverse hs)) true) (sym (append-nil done) ∙ ap (λ hs. done ++ hs) (sym none) ∙ is) taken
