-- The named fields are exact.
use Rattle.std.specs.Prelude.{ℕ, ◌≡◌, ◌<◌, ◌⊎◌, ◌&&◌, Bool, true, false, cond, eqb, Option, Some, refl}
use Rattle.std.proofs.Common.{sym, ap, subst, ◌∙◌, arith, inl, inr, leb}
use Rattle.std.proofs.lemmas.Bool.{and_parts, eqb-true, leb-true, le-leb}
use Rattle.mdb_base.specs.declared.names.SiteId.{SiteId}
use Rattle.mdb_base.specs.declared.names.Engine.{Engine}
use Rattle.mdb_base.specs.declared.names.Engine.TheVariants.{Locking, Timestamp, Validation, Multiversion}
use Rattle.presumptions.specs.declared.Protocol.{Protocol}
use Rattle.presumptions.specs.declared.Protocol.TheVariants as By
use Rattle.field_bytes.proofs.ForCallers.{decision_again, decision_takes, tid_again, tid_takes}
use Rattle.record_fields.specs.Field.{IsExact, a_number, both}
use Rattle.record_fields.specs.Exact.{some_is, IsCode, exact_number, exact_both, exact_made, exact_coded}
use Rattle.record_fields.specs.ExactItems.{exact_rising}
use Rattle.mdb_base.proofs.ForCallers.{cond_some}
use Rattle.record_fields.specs.Named.{IsSite, site_of, a_site, engine_code, engine_of, an_engine, protocol_code, protocol_of, a_protocol, a_tid, a_decision, a_put, a_participant, a_ticket, writes, participants, tickets}

site_code : IsCode 1 (λ (site : SiteId). site.0) site_of IsSite
site_code = record {
  low = λ site fits. omega (arith, fits.greatest);
  back = λ k site e.
      let g = cond_some (leb 1 k && leb k 8) (record { 0 = k }) site e in
      let parts = and_parts (leb 1 k) (leb k 8) g.0 in
      let same = g.1 in
      (ap (λ (s : SiteId). s.0) (sym same), subst IsSite same (record { least = leb-true _ _ parts.0; greatest = leb-true _ _ parts.1 }));
  there = λ site fits.
      let one = le-leb 1 site.0 fits.least in
      let two = le-leb site.0 8 fits.greatest in
      rw (one, two) refl;
}

pub exact_site : IsExact a_site
exact_site = exact_coded 1 (λ (site : SiteId). site.0) site_of IsSite site_code

-- a choice is the first one of its code, or one of the rest
choice : {A : Type 0} (k n : ℕ) (a x : A) (rest : Option A) → cond (eqb k n) (Some a) rest ≡ Some x → ((k ≡ n) × (a ≡ x)) ⊎ (rest ≡ Some x)
choice k n a x rest e = by_test (eqb k n) refl e
  where
    by_test : (t : Bool) → eqb k n ≡ t → cond t (Some a) rest ≡ Some x → ((k ≡ n) × (a ≡ x)) ⊎ (rest ≡ Some x)
    by_test true is f = inl (eqb-true k n is, some_is a x f)
    by_test false is f = inr f

low_engine : (engine : Engine) → engine_code engine < 256
low_engine Locking = omega arith
low_engine Timestamp = omega arith
low_engine Validation = omega arith
low_engine Multiversion = omega arith

there_engine : (engine : Engine) → engine_of (engine_code engine) ≡ Some engine
there_engine Locking = refl
there_engine Timestamp = refl
there_engine Validation = refl
there_engine Multiversion = refl

back_engine : (k : ℕ) (engine : Engine) → engine_of k ≡ Some engine → engine_code engine ≡ k
back_engine k engine e =
    elim (choice k 1 Locking engine _ e) [
      | inl one ↦ ap engine_code (sym one.1) ∙ sym one.0
      | inr e2 ↦ elim (choice k 2 Timestamp engine _ e2) [
        | inl two ↦ ap engine_code (sym two.1) ∙ sym two.0
        | inr e3 ↦ elim (choice k 3 Validation engine _ e3) [
          | inl three ↦ ap engine_code (sym three.1) ∙ sym three.0
          | inr e4 ↦ elim (choice k 4 Multiversion engine _ e4) [
            | inl four ↦ ap engine_code (sym four.1) ∙ sym four.0
            | inr e5 ↦ cc
          ]
        ]
      ]
    ]

pub exact_engine : IsExact an_engine
exact_engine = exact_coded 1 engine_code engine_of (λ _. Unit {0}) (record { low = λ engine fits. low_engine engine; back = λ k engine e. (back_engine k engine e, tt); there = λ engine fits. there_engine engine })

low_protocol : (protocol : Protocol) → protocol_code protocol < 256
low_protocol By.Nothing = omega arith
low_protocol By.Abort = omega arith
low_protocol By.Commit = omega arith

there_protocol : (protocol : Protocol) → protocol_of (protocol_code protocol) ≡ Some protocol
there_protocol By.Nothing = refl
there_protocol By.Abort = refl
there_protocol By.Commit = refl

back_protocol : (k : ℕ) (protocol : Protocol) → protocol_of k ≡ Some protocol → protocol_code protocol ≡ k
back_protocol k protocol e =
    elim (choice k 1 By.Nothing protocol _ e) [
      | inl one ↦ ap protocol_code (sym one.1) ∙ sym one.0
      | inr e2 ↦ elim (choice k 2 By.Abort protocol _ e2) [
        | inl two ↦ ap protocol_code (sym two.1) ∙ sym two.0
        | inr e3 ↦ elim (choice k 3 By.Commit protocol _ e3) [
          | inl three ↦ ap protocol_code (sym three.1) ∙ sym three.0
          | inr e4 ↦ cc
        ]
      ]
    ]

pub exact_protocol : IsExact a_protocol
exact_protocol = exact_coded 1 protocol_code protocol_of (λ _. Unit {0}) (record { low = λ protocol fits. low_protocol protocol; back = λ k protocol e. (back_protocol k protocol e, tt); there = λ protocol fits. there_protocol protocol })

pub exact_tid : IsExact a_tid
exact_tid = record { takes = tid_takes; again = tid_again }

pub exact_decision : IsExact a_decision
exact_decision = record { takes = λ bytes found fits e. (decision_takes bytes found fits e, tt); again = λ decision rest fits. decision_again decision rest }

pub exact_put : IsExact a_put
exact_put = exact_made _ _ (both (a_number 2) (a_number 8)) (λ row. refl) (λ p. refl) (exact_both (a_number 2) (a_number 8) (exact_number 2) (exact_number 8))

pub exact_participant : IsExact a_participant
exact_participant = exact_made _ _ (both a_site a_protocol) (λ x. refl) (λ p. refl) (exact_both a_site a_protocol exact_site exact_protocol)

pub exact_ticket : IsExact a_ticket
exact_ticket = exact_made _ _ (both a_site (a_number 8)) (λ x. refl) (λ p. refl) (exact_both a_site (a_number 8) exact_site (exact_number 8))

pub exact_writes : IsExact writes
exact_writes = exact_rising 2 (λ put. put.key.0) a_put exact_put

pub exact_participants : IsExact participants
exact_participants = exact_rising 1 (λ participant. participant.site.0) a_participant exact_participant

pub exact_tickets : IsExact tickets
exact_tickets = exact_rising 1 (λ ticket. ticket.site.0) a_ticket exact_ticket
