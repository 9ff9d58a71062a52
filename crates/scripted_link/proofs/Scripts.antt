-- What scripts do to packets of any kind.
use Rattle.std.proofs.Common.{◌≡◌, ℕ, zero, suc, ◌+◌, inl, inr, Bool, true, false, cond, nat_eq, Option, Some, None, List, [], ◌∷◌, ◌++◌, length, map, slice_get, refl, ap, sym, ◌∙◌, subst, append_assoc}
use Rattle.std.specs.Option.{option_map, option_to_list}
use Rattle.std.proofs.lemmas.Option.{slice_get-map}
use Rattle.std.proofs.lemmas.List.{length-map, map-append}
use Rattle.mdb_base.specs.declared.names.Fate.{Fate}
use Rattle.mdb_base.specs.declared.names.Fate.TheVariants as Fated
use Rattle.mdb_base.specs.Words.{Among}
use Rattle.mdb_base.proofs.ForCallers.{among_append, among_behind, among_split}
use Rattle.scripted_link.specs.declared.script.FateAt.{FateAt}
use Rattle.scripted_link.specs.Script.{fate_at, copies, due, due_at, at_offer, through_behind}
use Rattle.scripted_link.specs.Laws.{SeePlacesAlone, WereOffered}

-- Renamed packets.

list_map : {A B : Type 0} (f : A → B) (o : Option A) → option_to_list (option_map f o) ≡ map f (option_to_list o)
list_map f None = refl
list_map f (Some x) = refl

cond_map : {A B : Type 0} (f : A → B) (b : Bool) (xs : List A) → cond b (map f xs) [] ≡ map f (cond b xs [])
cond_map f true xs = refl
cond_map f false xs = refl

copies_map : {A B : Type 0} (f : A → B) (fate : Fate) (packet : A) → copies fate (f packet) ≡ map f (copies fate packet)
copies_map f Fated.Pass packet = refl
copies_map f Fated.Drop packet = refl
copies_map f Fated.Twice packet = refl
copies_map f (Fated.Hold further) packet = refl

due_at_map : {A B : Type 0} (f : A → B) (place : ℕ) (fate : Fate) (offered : List A) → due_at place fate (map f offered) ≡ map f (due_at place fate offered)
due_at_map f place Fated.Pass offered = refl
due_at_map f place Fated.Drop offered = refl
due_at_map f place Fated.Twice offered = refl
due_at_map {A} {B} f place (Fated.Hold further) offered =
    ap (λ (n : ℕ). cond (nat_eq (place + further + 1) n) (option_to_list (slice_get (map f offered) place)) []) (length-map offered f)
    ∙ (ap (λ (xs : List B). cond (nat_eq (place + further + 1) (length offered)) xs []) (ap option_to_list (slice_get-map f offered place) ∙ list_map f (slice_get offered place))
    ∙ cond_map f (nat_eq (place + further + 1) (length offered)) (option_to_list (slice_get offered place)))

due_map : {A B : Type 0} (f : A → B) (script : List FateAt) (offered : List A) → due script (map f offered) ≡ map f (due script offered)
due_map f [] offered = refl
due_map {A} {B} f (s ∷ script) offered =
    ap (λ (xs : List B). xs ++ due script (map f offered)) (due_at_map f s.place s.fate offered)
    ∙ (ap (λ (xs : List B). map f (due_at s.place s.fate offered) ++ xs) (due_map f script offered)
    ∙ sym (map-append f (due_at s.place s.fate offered) (due script offered)))

at_offer_map : {A B : Type 0} (f : A → B) (script : List FateAt) (before : List A) (packet : A) → at_offer script (map f before) (f packet) ≡ map f (at_offer script before packet)
at_offer_map {A} {B} f script before packet =
    ap (λ (n : ℕ). copies (fate_at script n) (f packet) ++ due script (map f before ++ f packet ∷ [])) (length-map before f)
    ∙ (ap (λ (xs : List B). xs ++ due script (map f before ++ f packet ∷ [])) (copies_map f (fate_at script (length before)) packet)
    ∙ (ap (λ (xs : List B). map f (copies (fate_at script (length before)) packet) ++ due script xs) (sym (map-append f before (packet ∷ [])))
    ∙ (ap (λ (xs : List B). map f (copies (fate_at script (length before)) packet) ++ xs) (due_map f script (before ++ packet ∷ []))
    ∙ sym (map-append f (copies (fate_at script (length before)) packet) (due script (before ++ packet ∷ []))))))

behind_map : {A B : Type 0} (f : A → B) (script : List FateAt) (before packets : List A) →
    through_behind script (map f before) (map f packets) ≡ map f (through_behind script before packets)
behind_map f script before [] = refl
behind_map {A} {B} f script before (p ∷ ps) =
    ap (λ (xs : List B). xs ++ through_behind script (map f before ++ f p ∷ []) (map f ps)) (at_offer_map f script before p)
    ∙ (ap (λ (xs : List B). map f (at_offer script before p) ++ through_behind script xs (map f ps)) (sym (map-append f before (p ∷ [])))
    ∙ (ap (λ (xs : List B). map f (at_offer script before p) ++ xs) (behind_map f script (before ++ p ∷ []) ps)
    ∙ sym (map-append f (at_offer script before p) (through_behind script (before ++ p ∷ []) ps))))

pub see_places_alone : (A B : Type 0) → SeePlacesAlone A B
see_places_alone A B script rename offered = behind_map rename script [] offered

-- Packets that were offered.

in_copies : {A : Type 0} (P : A → Type 0) (fate : Fate) (packet : A) → Among P (copies fate packet) → P packet
in_copies P Fated.Pass packet (inl h) = h
in_copies P Fated.Pass packet (inr h) = absurd h
in_copies P Fated.Drop packet h = absurd h
in_copies P Fated.Twice packet (inl h) = h
in_copies P Fated.Twice packet (inr (inl h)) = h
in_copies P Fated.Twice packet (inr (inr h)) = absurd h
in_copies P (Fated.Hold further) packet h = absurd h

at_place : {A : Type 0} (P : A → Type 0) (offered : List A) (place : ℕ) → Among P (option_to_list (slice_get offered place)) → Among P offered
at_place P [] place h = absurd h
at_place P (x ∷ xs) zero (inl h) = inl h
at_place P (x ∷ xs) zero (inr h) = absurd h
at_place P (x ∷ xs) (suc place) h = inr (at_place P xs place h)

if_so : {A : Type 0} (P : A → Type 0) (b : Bool) (xs : List A) → Among P (cond b xs []) → Among P xs
if_so P true xs h = h
if_so P false xs h = absurd h

in_due_at : {A : Type 0} (P : A → Type 0) (place : ℕ) (fate : Fate) (offered : List A) → Among P (due_at place fate offered) → Among P offered
in_due_at P place Fated.Pass offered h = absurd h
in_due_at P place Fated.Drop offered h = absurd h
in_due_at P place Fated.Twice offered h = absurd h
in_due_at P place (Fated.Hold further) offered h = at_place P offered place (if_so P (nat_eq (place + further + 1) (length offered)) (option_to_list (slice_get offered place)) h)

in_due : {A : Type 0} (P : A → Type 0) (script : List FateAt) (offered : List A) → Among P (due script offered) → Among P offered
in_due P [] offered h = absurd h
in_due P (s ∷ script) offered h = elim (among_split P (due_at s.place s.fate offered) (due script offered) h) [
  | inl l ↦ in_due_at P s.place s.fate offered l
  | inr r ↦ in_due P script offered r
]

in_behind : {A : Type 0} (P : A → Type 0) (script : List FateAt) (before packets : List A) → Among P (through_behind script before packets) → Among P (before ++ packets)
in_behind P script before [] h = absurd h
in_behind {A} P script before (p ∷ ps) h = elim (among_split P (at_offer script before p) (through_behind script (before ++ p ∷ []) ps) h) [
  | inl l ↦ elim (among_split P (copies (fate_at script (length before)) p) (due script (before ++ p ∷ [])) l) [
    | inl c ↦ among_behind P before (p ∷ ps) (inl (in_copies P (fate_at script (length before)) p c))
    | inr d ↦ subst (Among P) (append_assoc before (p ∷ []) ps) (among_append P (before ++ p ∷ []) ps (in_due P script (before ++ p ∷ []) d))
  ]
  | inr r ↦ subst (Among P) (append_assoc before (p ∷ []) ps) (in_behind P script (before ++ p ∷ []) ps r)
]

pub were_offered : (A : Type 0) → WereOffered A
were_offered A script offered packet h = in_behind (λ p. p ≡ packet) script [] offered h
