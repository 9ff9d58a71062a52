-- Tickets that are met one after the other.
use Rattle.std.proofs.Common.{ℕ, suc, ◌≡◌, ◌+◌, ◌<◌, false, List, [], ◌∷◌, ◌++◌, length, take, drop, get_or, refl, sym, ap, ◌∙◌, subst, append_assoc, arith}
use Rattle.std.proofs.Math.Seq.{drop-cons}
use Rattle.std.proofs.lemmas.List.{take_more}
use Rattle.mdb_base.specs.declared.names.SiteTicket.{SiteTicket}
use Rattle.ticket_graph.specs.Reach.{is_over, are_before, joined, IsLowest}

pub met_more : (lowest : List ℕ) (met ks : List SiteTicket) (i : ℕ) (d : SiteTicket) → i < length ks →
    IsLowest lowest ((met ++ take i ks) ++ get_or ks i d ∷ []) → IsLowest lowest (met ++ take (i + 1) ks)
met_more lowest met ks i d h is =
    subst (IsLowest lowest) (append_assoc met (take i ks) (get_or ks i d ∷ []) ∙ ap (λ zs. met ++ zs) (sym (take_more ks i d h))) is

pub joined_last : (waiting : List (List SiteTicket)) (ks : List SiteTicket) → joined (waiting ++ ks ∷ []) ≡ joined waiting ++ ks
joined_last [] ks = nil ks
  where
    nil : (xs : List SiteTicket) → xs ++ [] ≡ xs
    nil [] = refl
    nil (x ∷ xs) = ap (λ zs. x ∷ zs) (nil xs)
joined_last (k ∷ waiting) ks = ap (λ zs. k ++ zs) (joined_last waiting ks) ∙ sym (append_assoc k (joined waiting) ks)

pub met_all_more : (lowest : List ℕ) (met : List SiteTicket) (waiting : List (List SiteTicket)) (i : ℕ) (ks d : List SiteTicket) → i < length waiting →
    ks ≡ get_or waiting i d → IsLowest lowest ((met ++ joined (take i waiting)) ++ ks) → IsLowest lowest (met ++ joined (take (i + 1) waiting))
met_all_more lowest met waiting i ks d h e is =
    subst (IsLowest lowest) (append_assoc met (joined (take i waiting)) ks
    ∙ ap (λ zs. met ++ zs) (sym (joined_last (take i waiting) ks) ∙ ap joined (ap (λ k. take i waiting ++ k ∷ []) e ∙ sym (take_more waiting i d h)))) is

-- a ticket that none is smaller than doesn't count
pub led_on : (met ks : List SiteTicket) (i : ℕ) (d : SiteTicket) → i < length ks → is_over met (get_or ks i d) ≡ false →
    are_before met (drop i ks) ≡ are_before met (drop (i + 1) ks)
led_on met ks i d h e =
    let next : suc i ≡ i + 1 = omega arith in
    ap (are_before met) (drop-cons ks i d h) ∙ (rw e (ap (λ n. are_before met (drop n ks)) next))
