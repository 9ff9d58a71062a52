-- One more put, and one more piece read.
use Rattle.std.proofs.Common.{◌≡◌, ℕ, zero, suc, ◌+◌, ◌-◌, ◌*◌, ◌<◌, ◌≤◌, ◌⊎◌, inl, inr, Bool, true, false, cond, ◌==◌, IsTrue, List, [], ◌++◌, length, take, drop, sym, ◌∙◌, ap, arith}
use Rattle.std.proofs.lemmas.Bool.{eqb-true}
use Rattle.std.proofs.lemmas.List.{append_assoc, append-nil, length-append, length-drop, length-take-le, take-append-drop, take_all}
use Rattle.std.proofs.Math.Seq.{drop-append_seam, take-add, take-append_seam}
use Rattle.mdb_base.proofs.ForCallers.{nothing_left, take_left}
use Rattle.mdb_top.specs.Streams.{Gives, Takes}
use Rattle.mdb_top.specs.Progress.{HasPut, ReadsOn, HasTaken}

-- a front of the rest is put behind what was put
pub put-more : (tells : Bool) (before now new : List ℕ) (f g h : ℕ) (bytes : List ℕ) (place n : ℕ) → HasPut tells before now f g bytes place → Takes n (length (take (length bytes - place) (drop place bytes))) → (IsTrue tells → new ≡ now ++ take n (take (length bytes - place) (drop place bytes))) → h ≡ g → HasPut tells before new f h bytes (place + n)
put-more tells before now new f g h bytes place n p le w gh =
    let rest = take_left bytes place in
    record {
      within = (let a = p.within in let b = length-drop place bytes in let c = ap length rest in let d = le.within in omega arith);
      written = (λ t. w t ∙ ap (λ xs. now ++ take n xs) rest ∙ ap (λ xs. xs ++ take n (drop place bytes)) (p.written t)
          ∙ append_assoc before (take place bytes) (take n (drop place bytes)) ∙ ap (λ xs. before ++ xs) (sym (take-add place n bytes)));
      faults = gh ∙ p.faults;
    }

-- each turn leaves fewer bytes
pub fewer-left : (bytes : List ℕ) (place n : ℕ) → place < length bytes → Takes n (length (take (length bytes - place) (drop place bytes))) → length bytes - (place + n) < length bytes - place
fewer-left bytes place n l t =
    let c = ap length (take_left bytes place) in let b = length-drop place bytes in
    let some : 0 < length (take (length bytes - place) (drop place bytes)) = omega (arith, c, b, l) in
    let a = t.some some in omega arith

-- what a source gives goes behind the text
pub reads-on : (tells : Bool) (count room : ℕ) (before now old new into : List ℕ) → 0 < room → count ≤ room → length into ≡ room → (IsTrue tells → Gives count before now room into) → new ≡ old ++ take count into → ReadsOn tells count room before now old new
reads-on tells count room before now old new into some le seen gives e = record {
  longer = (let a : length new ≡ length (old ++ take count into) = ap length e in let b = length-append old (take count into) in
      let c : count ≤ length into = omega arith in let d = length-take-le count into c in omega arith);
  within = le;
  taken = (λ t.
      let g = gives t in
      sym (ap (λ xs. xs ++ now) e ∙ append_assoc old (take count into) now
      ∙ ap (λ xs. old ++ (xs ++ now)) g.bytes ∙ ap (λ xs. old ++ (take count before ++ xs)) g.rest
      ∙ ap (λ xs. old ++ xs) (take-append-drop count before)));
  end = (λ t z.
      let g = gives t in
      elim (g.end z) [
        | inl r ↦ absurd (omega arith)
        | inr b ↦ g.rest ∙ ap (λ xs. drop count xs) b ∙ ap (λ n. drop n []) z
      ]);
}

-- one piece more
pub taken-more : (tells : Bool) (before now new text longer : List ℕ) (most ask n : ℕ) → HasTaken tells false before now text most → ReadsOn tells n ask now new text longer → ask ≤ most - length text → HasTaken tells (n == 0) before new longer most
taken-more tells before now new text longer most ask n h r le = record {
  within = (let a = h.within in let b = r.longer in let c = r.within in omega arith);
  taken = (λ t. h.taken t ∙ r.taken t);
  end = (λ t e. r.end t (eqb-true n 0 e));
}

flag-le : (b : Bool) → cond b 0 1 ≤ 1
flag-le true = omega arith
flag-le false = omega arith

-- each turn leaves less to do
pub less-to-do : (n len longer most ask : ℕ) → longer ≡ len + n → n ≤ ask → ask ≤ most - len → len < most → 2 * (most - longer) + cond (n == 0) 0 1 < 2 * (most - len) + cond false 0 1
less-to-do zero len longer most ask e h k l = omega arith
less-to-do (suc n) len longer most ask e h k l = let f = flag-le (suc n == 0) in omega (arith, f)

-- at the end of the loop the text is all, or as much as was asked for
pub all-taken : (tells at_end : Bool) (before now text : List ℕ) (most : ℕ) → HasTaken tells at_end before now text most → (at_end ≡ true) ⊎ (most ≤ length text) → IsTrue tells → text ≡ take most before
all-taken tells at_end before now text most h (inl e) t =
    sym (ap (take most) (h.taken t ∙ ap (λ xs. text ++ xs) (h.end t e) ∙ append-nil text) ∙ take_all most text h.within)
all-taken tells at_end before now text most h (inr le) t =
    let same : most ≡ length text = (let a = h.within in omega arith) in
    sym (ap (take most) (h.taken t) ∙ ap (λ n. take n (text ++ now)) same ∙ take-append_seam text now)

-- nothing stands behind the end
none_behind : (n : ℕ) (xs : List ℕ) → length xs ≤ n → drop n xs ≡ []
none_behind n xs le = nothing_left (drop n xs) (omega (arith, length-drop n xs))

-- what is left then is what stands behind as much as was asked for
pub rest-left : (tells at_end : Bool) (before now text : List ℕ) (most : ℕ) → HasTaken tells at_end before now text most → (at_end ≡ true) ⊎ (most ≤ length text) → IsTrue tells → now ≡ drop most before
rest-left tells at_end before now text most h (inl e) t =
    let all : before ≡ text = h.taken t ∙ ap (λ xs. text ++ xs) (h.end t e) ∙ append-nil text in
    h.end t e ∙ sym (ap (drop most) all ∙ none_behind most text h.within)
rest-left tells at_end before now text most h (inr le) t =
    let same : most ≡ length text = (let a = h.within in omega arith) in
    sym (ap (drop most) (h.taken t) ∙ ap (λ n. drop n (text ++ now)) same ∙ drop-append_seam text now)
