-- A word has one spelling.
use Rattle.std.proofs.Common.{◌≡◌, ◌≢◌, ◌⊎◌, inl, inr, ℕ, ◌<◌, ◌^◌, ◌&&◌, IsTrue, List, [], ◌∷◌, ◌++◌, map, true, Some, None, decimal, codes, length, get_or, nat_lt, append_assoc, append-nil, refl, sym, ap, ◌∙◌, subst, arith}
use Rattle.std.proofs.lemmas.Bool.{ltb-true}
use Rattle.std.proofs.lemmas.Option.{same_Some}
use Rattle.std.proofs.lemmas.Fmt.{decimal_nonempty}
use Rattle.std.specs.Int.{IsInRange}
use Rattle.mdb_base.specs.Texts.{tid_text}
use Rattle.mdb_base.specs.declared.names.SiteId.{SiteId}
use Rattle.mdb_base.specs.declared.names.Tid.{Tid}
use Rattle.mdb_base.specs.declared.replies.Edge.{Edge}
use Rattle.mdb_base.proofs.ForCallers.{all_append, is_true_parts}
use Rattle.fed_rules.specs.declared.commands.Place.{Place}
use Rattle.line_text.specs.declared.word.Keyword.{Keyword}
use Rattle.line_text.specs.declared.word.Keyword.TheVariants as Key
use Rattle.line_text.specs.declared.word.Word.{Word}
use Rattle.line_text.specs.declared.word.Word.TheVariants.{Plain, Number, Attempt, Sent, Joined}
use Rattle.line_text.specs.Range.{is_large, is_site, is_tid, is_place, is_edge, is_word}
use Rattle.line_text.specs.Words.{keyword_text, place_text, edge_text, word_text}
use Rattle.trace_lines.specs.Lexing.{Spells, target_text, site_text}
use Rattle.trace_lines.specs.Lexed.{keyword_in}
use Rattle.trace_lines.proofs.Bytes.{AreDigits, Lacks, digits-decimal, lacks-decimal}
use Rattle.trace_lines.proofs.Pairs.{one_parting}
use Rattle.trace_lines.proofs.Named.{one_number, one_pair, site_is_large, tid_is_large, place_is_large, lacks-tid, lacks_in_tid, tid_parts, place_parts, edge_parts}
use Rattle.trace_lines.proofs.Pieces.{AreWords}

-- a keyword's spelling is read as it
pub keyword_again : (keyword : Keyword) → keyword_in (keyword_text keyword) ≡ Some keyword
unfolding keyword_in
keyword_again Key.Arrow = refl
keyword_again keyword = refl

pub one_keyword : (j k : Keyword) → keyword_text j ≡ keyword_text k → j ≡ k
one_keyword j k e = same_Some j k (sym (keyword_again j) ∙ ap keyword_in e ∙ keyword_again k)

-- a keyword begins with what is above the digits
lettered : (keyword : Keyword) → IsTrue (nat_lt 57 (get_or (keyword_text keyword) 0 0))
lettered Key.Arrow = refl
lettered keyword = refl

-- a number begins with a digit, whatever follows it
first_digit : (ds rest : List ℕ) → AreDigits ds → 0 < length ds → IsInRange 48 57 (get_or (ds ++ rest) 0 0)
first_digit [] rest h l = absurd (omega arith)
first_digit (d ∷ ds) rest h l = h.0

-- bytes of which the first is no digit
abbrev pub Undigited : List ℕ → Type 0
Undigited bs = IsInRange 48 57 (get_or bs 0 0) → ⊥

undigited : (keyword : Keyword) → Undigited (keyword_text keyword)
undigited keyword digit = let letter = ltb-true 57 (get_or (keyword_text keyword) 0 0) (lettered keyword) in omega (arith, digit.1, letter)

no_number : (bs : List ℕ) → Undigited bs → (n : ℕ) (rest : List ℕ) → IsTrue (is_large n) → bs ≡ decimal n ++ rest → ⊥
no_number bs other n rest h e =
    let small = ltb-true n (2 ^ 64) h in
    other (subst (IsInRange 48 57) (sym (ap (λ l. get_or l 0 0) e)) (first_digit (decimal n) rest (digits-decimal n small) (decimal_nonempty n small)))

-- a list that lacks a byte isn't one with it
pub lacks_not : (c : ℕ) (all xs ys : List ℕ) → Lacks c all → all ≡ xs ++ c ∷ ys → ⊥
lacks_not c [] [] ys h e = cc
lacks_not c [] (x ∷ xs) ys h e = cc
lacks_not c (b ∷ bs) [] ys h e = h.0 cc
lacks_not c (b ∷ bs) (x ∷ xs) ys h e = lacks_not c bs xs ys h.1 (cc)

-- an attempt, a place and an edge have one spelling each
one_tid : (s t : Tid) → IsTrue (is_tid s) → IsTrue (is_tid t) → tid_text s ≡ tid_text t → s ≡ t
one_tid s t h k e =
    ap (λ (p : ℕ × ℕ). record { tx = record { 0 = p.0 }; attempt = p.1 }) (one_pair 46 (omega arith) (s.tx.0, s.attempt) (t.tx.0, t.attempt) (tid_is_large s h) (tid_is_large t k) (sym (tid_parts s) ∙ e ∙ tid_parts t))

one_place : (s t : Place) → IsTrue (is_place s) → IsTrue (is_place t) → place_text s ≡ place_text t → s ≡ t
one_place s t h k e =
    ap (λ (p : ℕ × ℕ). record { site = record { 0 = p.0 }; place = p.1 })
    (one_pair 47 (omega arith) (s.site.0, s.place) (t.site.0, t.place) (place_is_large s h) (place_is_large t k) (sym (place_parts s) ∙ e ∙ place_parts t))

one_site : (s t : SiteId) → IsTrue (is_site s) → IsTrue (is_site t) → site_text s ≡ site_text t → s ≡ t
one_site s t h k e = ap (λ (n : ℕ). record { 0 = n }) (one_number s.0 t.0 (site_is_large s h) (site_is_large t k) e)

one_edge : (a b : Edge) → IsTrue (is_edge a) → IsTrue (is_edge b) → edge_text a ≡ edge_text b → a ≡ b
one_edge a b h k e =
    let ah = is_true_parts (is_tid a.from && is_tid a.to) (is_site a.site) h in
    let bh = is_true_parts (is_tid b.from && is_tid b.to) (is_site b.site) k in
    let at = is_true_parts (is_tid a.from) (is_tid a.to) ah.0 in
    let bt = is_true_parts (is_tid b.from) (is_tid b.to) bh.0 in
    let outer = one_parting 62 (tid_text a.from) (tid_text b.from) (target_text (a.to, a.site)) (target_text (b.to, b.site)) (lacks-tid 62 (omega arith) a.from at.0) (lacks-tid 62 (omega arith) b.from bt.0) (sym (edge_parts a) ∙ e ∙ edge_parts b) in
    let inner = one_parting 64 (tid_text a.to) (tid_text b.to) (site_text a.site) (site_text b.site) (lacks-tid 64 (omega arith) a.to at.1) (lacks-tid 64 (omega arith) b.to bt.1) outer.1 in
    let from : a.from ≡ b.from = one_tid a.from b.from at.0 bt.0 outer.0 in
    let to : a.to ≡ b.to = one_tid a.to b.to at.1 bt.1 inner.0 in
    let site : a.site ≡ b.site = one_site a.site b.site ah.1 bh.1 inner.1 in
    ap (λ f. record { from = f; to = a.to; site = a.site }) from ∙ ap (λ t. record { from = b.from; to = t; site = a.site }) to ∙ ap (λ s. record { from = b.from; to = b.to; site = s }) site

-- what lacks the marks of the others
number_lacks : (c n : ℕ) → (c < 48) ⊎ (57 < c) → IsTrue (is_large n) → Lacks c (decimal n)
number_lacks c n outside h = lacks-decimal c n outside (ltb-true n (2 ^ 64) h)

place_lacks : (sent : Place) → IsTrue (is_place sent) → Lacks 62 (place_text sent)
place_lacks sent h =
    let large = is_true_parts (is_large sent.site.0) (is_large sent.place) (place_is_large sent h) in
    all_append (λ b. b ≢ 62) (decimal sent.site.0 ++ codes "/") (decimal sent.place)
    (all_append (λ b. b ≢ 62) (decimal sent.site.0) (codes "/") (number_lacks 62 sent.site.0 (inr (omega arith)) large.0) ((λ e. omega arith), tt))
    (number_lacks 62 sent.place (inr (omega arith)) large.1)

-- each word but a keyword begins with a number
no_tid : (bs : List ℕ) → Undigited bs → (tid : Tid) → IsTrue (is_tid tid) → bs ≡ tid_text tid → ⊥
no_tid bs other tid h e = no_number bs other tid.tx.0 (46 ∷ decimal tid.attempt) (is_true_parts (is_large tid.tx.0) (is_large tid.attempt) (tid_is_large tid h)).0 (e ∙ tid_parts tid)

no_place : (bs : List ℕ) → Undigited bs → (sent : Place) → IsTrue (is_place sent) → bs ≡ place_text sent → ⊥
no_place bs other sent h e = no_number bs other sent.site.0 (47 ∷ decimal sent.place) (is_true_parts (is_large sent.site.0) (is_large sent.place) (place_is_large sent h)).0 (e ∙ place_parts sent)

no_edge : (bs : List ℕ) → Undigited bs → (edge : Edge) → IsTrue (is_edge edge) → bs ≡ edge_text edge → ⊥
no_edge bs other edge h e =
    let from = (is_true_parts (is_tid edge.from) (is_tid edge.to) (is_true_parts (is_tid edge.from && is_tid edge.to) (is_site edge.site) h).0).0 in
    let rest : List ℕ = 62 ∷ target_text (edge.to, edge.site) in
    no_number bs other edge.from.tx.0 ((46 ∷ decimal edge.from.attempt) ++ rest) (is_true_parts (is_large edge.from.tx.0) (is_large edge.from.attempt) (tid_is_large edge.from from)).0
    (e ∙ edge_parts edge ∙ ap (λ bs. bs ++ rest) (tid_parts edge.from) ∙ append_assoc (decimal edge.from.tx.0) (46 ∷ decimal edge.from.attempt) rest)

-- where the first byte is no digit and no keyword is spelled, no word is
pub no_word : (bs : List ℕ) → Undigited bs → Spells (λ _. true) keyword_text bs None → Spells is_word word_text bs None
no_word bs other none (Plain keyword) is spelled = none keyword refl spelled
no_word bs other none (Number n) is spelled = no_number bs other n [] is (spelled ∙ sym (append-nil (decimal n)))
no_word bs other none (Attempt tid) is spelled = no_tid bs other tid is spelled
no_word bs other none (Sent sent) is spelled = no_place bs other sent is spelled
no_word bs other none (Joined edge) is spelled = no_edge bs other edge is spelled

no_number_tid : (n : ℕ) (tid : Tid) → IsTrue (is_large n) → decimal n ≡ tid_text tid → ⊥
no_number_tid n tid h e = lacks_not 46 (decimal n) (decimal tid.tx.0) (decimal tid.attempt) (number_lacks 46 n (inl (omega arith)) h) (e ∙ tid_parts tid)

no_number_place : (n : ℕ) (sent : Place) → IsTrue (is_large n) → decimal n ≡ place_text sent → ⊥
no_number_place n sent h e = lacks_not 47 (decimal n) (decimal sent.site.0) (decimal sent.place) (number_lacks 47 n (inl (omega arith)) h) (e ∙ place_parts sent)

no_number_edge : (n : ℕ) (edge : Edge) → IsTrue (is_large n) → decimal n ≡ edge_text edge → ⊥
no_number_edge n edge h e = lacks_not 62 (decimal n) (tid_text edge.from) (target_text (edge.to, edge.site)) (number_lacks 62 n (inr (omega arith)) h) (e ∙ edge_parts edge)

no_tid_place : (tid : Tid) (sent : Place) → IsTrue (is_tid tid) → tid_text tid ≡ place_text sent → ⊥
no_tid_place tid sent h e = lacks_not 47 (tid_text tid) (decimal sent.site.0) (decimal sent.place) (lacks_in_tid 47 (inl (omega arith)) (λ d. omega arith) tid h) (e ∙ place_parts sent)

no_tid_edge : (tid : Tid) (edge : Edge) → IsTrue (is_tid tid) → tid_text tid ≡ edge_text edge → ⊥
no_tid_edge tid edge h e = lacks_not 62 (tid_text tid) (tid_text edge.from) (target_text (edge.to, edge.site)) (lacks-tid 62 (omega arith) tid h) (e ∙ edge_parts edge)

no_place_edge : (sent : Place) (edge : Edge) → IsTrue (is_place sent) → place_text sent ≡ edge_text edge → ⊥
no_place_edge sent edge h e = lacks_not 62 (place_text sent) (tid_text edge.from) (target_text (edge.to, edge.site)) (place_lacks sent h) (e ∙ edge_parts edge)

-- two words that are spelled alike are one
pub one_word : (w v : Word) → IsTrue (is_word w) → IsTrue (is_word v) → word_text w ≡ word_text v → w ≡ v
one_word (Plain j) (Plain k) h i e = ap Plain (one_keyword j k e)
one_word (Plain j) (Number n) h i e = absurd (no_number (keyword_text j) (undigited j) n [] i (e ∙ sym (append-nil (decimal n))))
one_word (Plain j) (Attempt tid) h i e = absurd (no_tid (keyword_text j) (undigited j) tid i e)
one_word (Plain j) (Sent sent) h i e = absurd (no_place (keyword_text j) (undigited j) sent i e)
one_word (Plain j) (Joined edge) h i e = absurd (no_edge (keyword_text j) (undigited j) edge i e)
one_word (Number m) (Plain k) h i e = absurd (no_number (keyword_text k) (undigited k) m [] h (sym e ∙ sym (append-nil (decimal m))))
one_word (Number m) (Number n) h i e = ap Number (one_number m n h i e)
one_word (Number m) (Attempt tid) h i e = absurd (no_number_tid m tid h e)
one_word (Number m) (Sent sent) h i e = absurd (no_number_place m sent h e)
one_word (Number m) (Joined edge) h i e = absurd (no_number_edge m edge h e)
one_word (Attempt s) (Plain k) h i e = absurd (no_tid (keyword_text k) (undigited k) s h (sym e))
one_word (Attempt s) (Number n) h i e = absurd (no_number_tid n s i (sym e))
one_word (Attempt s) (Attempt t) h i e = ap Attempt (one_tid s t h i e)
one_word (Attempt s) (Sent sent) h i e = absurd (no_tid_place s sent h e)
one_word (Attempt s) (Joined edge) h i e = absurd (no_tid_edge s edge h e)
one_word (Sent s) (Plain k) h i e = absurd (no_place (keyword_text k) (undigited k) s h (sym e))
one_word (Sent s) (Number n) h i e = absurd (no_number_place n s i (sym e))
one_word (Sent s) (Attempt t) h i e = absurd (no_tid_place t s i (sym e))
one_word (Sent s) (Sent t) h i e = ap Sent (one_place s t h i e)
one_word (Sent s) (Joined edge) h i e = absurd (no_place_edge s edge h e)
one_word (Joined a) (Plain k) h i e = absurd (no_edge (keyword_text k) (undigited k) a h (sym e))
one_word (Joined a) (Number n) h i e = absurd (no_number_edge n a i (sym e))
one_word (Joined a) (Attempt t) h i e = absurd (no_tid_edge t a i (sym e))
one_word (Joined a) (Sent s) h i e = absurd (no_place_edge s a i (sym e))
one_word (Joined a) (Joined b) h i e = ap Joined (one_edge a b h i e)

-- words that are spelled alike are the same
pub one_words : (ws vs : List Word) → AreWords ws → AreWords vs → map word_text ws ≡ map word_text vs → ws ≡ vs
one_words [] [] h i e = refl
one_words [] (v ∷ vs) h i e = cc
one_words (w ∷ ws) [] h i e = cc
one_words (w ∷ ws) (v ∷ vs) h i e =
    let first : word_text w ≡ word_text v = cc in
    let others : map word_text ws ≡ map word_text vs = cc in
    ap (λ u. u ∷ ws) (one_word w v h.0 i.0 first) ∙ ap (λ us. v ∷ us) (one_words ws vs h.1 i.1 others)
