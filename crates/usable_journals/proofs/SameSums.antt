-- Sums that are compared part by part.
use Rattle.std.proofs.Common.{ℕ, ◌≡◌, ◌==◌, true, refl, ap, subst, arith}
use Rattle.std.specs.Bool.{Decides}
use Rattle.std.specs.Cmp.Lexicographic.{pointwise}
use Rattle.std.proofs.lemmas.Slice.Eq.{slice_eq-Decides}
use Rattle.mdb_base.specs.declared.names.Tid.{Tid}
use Rattle.mdb_base.specs.declared.rows.Put.{Put}
use Rattle.mdb_base.specs.Names.{same_tid}
use Rattle.mdb_base.proofs.ForCallers.{is_true_both, is_true_parts, same_tid-equal, same_tid-refl}
use Rattle.fed_rules.specs.SiteRecords.{Held}
use Rattle.fed_rules.specs.declared.sums.SiteSum.{SiteSum}
use Rattle.usable_journals.specs.SiteReads.{HasSameLists, HasSameMarks, IsSameHome, same_held, same_put}

put_there : (a b : Put) → same_put a b ≡ true → a ≡ b
put_there a b e = grind arith

put_self : (a : Put) → same_put a a ≡ true
put_self a = grind arith

pub put_decides : (a b : Put) → Decides (same_put a b) (a ≡ b)
put_decides a b = (put_there a b, λ e. subst (λ c. same_put a c ≡ true) e (put_self a))

pub tid_decides : (a b : Tid) → Decides (same_tid a b) (a ≡ b)
tid_decides a b = (same_tid-equal a b, λ e. subst (λ c. same_tid a c ≡ true) e (same_tid-refl a))

held_there : (a b : Held) → same_held a b ≡ true → a ≡ b
held_there a b e =
    let one = is_true_parts (same_tid a.tid b.tid) _ e in
    let two = is_true_parts (a.epoch == b.epoch) _ one.1 in
    let three = is_true_parts (a.number == b.number) _ two.1 in
    let four = is_true_parts (a.ticket == b.ticket) _ three.1 in
    let tid : a.tid ≡ b.tid = same_tid-equal a.tid b.tid one.0 in
    let epoch : a.epoch ≡ b.epoch = grind (arith, two.0) in
    let number : a.number ≡ b.number = grind (arith, three.0) in
    let ticket : a.ticket ≡ b.ticket = grind (arith, four.0) in
    let writes : a.writes ≡ b.writes = (slice_eq-Decides put_decides a.writes b.writes (pointwise same_put a.writes b.writes) refl).0 four.1 in
    rw (tid, epoch, number, ticket, writes) refl

held_self : (a : Held) → same_held a a ≡ true
held_self a =
    let itself : (n : ℕ) → (n == n) ≡ true = λ n. grind arith in
    is_true_both (same_tid a.tid a.tid) _ (same_tid-refl a.tid)
    (is_true_both (a.epoch == a.epoch) _ (itself a.epoch)
    (is_true_both (a.number == a.number) _ (itself a.number)
    (is_true_both (a.ticket == a.ticket) (pointwise same_put a.writes a.writes) (itself a.ticket)
    ((slice_eq-Decides put_decides a.writes a.writes (pointwise same_put a.writes a.writes) refl).1 refl))))

pub held_decides : (a b : Held) → Decides (same_held a b) (a ≡ b)
held_decides a b = (held_there a b, λ e. subst (λ c. same_held a c ≡ true) e (held_self a))

-- sums with the same parts are the same
pub sum_is : (a b : SiteSum) → IsSameHome a b → HasSameMarks a b → HasSameLists a b → a ≡ b
sum_is a b h m l = rw (h.site, h.engine, h.protocol, m.epoch, m.counter, m.published, m.owner, l.rows, l.locals, l.doubtful) refl

pub same_home : (a b : SiteSum) → a ≡ b → IsSameHome a b
same_home a b e = record { site = ap (λ (s : SiteSum). s.site) e; engine = ap (λ (s : SiteSum). s.engine) e; protocol = ap (λ (s : SiteSum). s.protocol) e }

pub same_marks : (a b : SiteSum) → a ≡ b → HasSameMarks a b
same_marks a b e = record { epoch = ap (λ (s : SiteSum). s.epoch) e; counter = ap (λ (s : SiteSum). s.counter) e; published = ap (λ (s : SiteSum). s.published) e; owner = ap (λ (s : SiteSum). s.owner) e }

pub same_lists : (a b : SiteSum) → a ≡ b → HasSameLists a b
same_lists a b e = record { rows = ap (λ (s : SiteSum). s.rows) e; locals = ap (λ (s : SiteSum). s.locals) e; doubtful = ap (λ (s : SiteSum). s.doubtful) e }
