-- What is outstanding at a participant is at its site.
use Rattle.std.proofs.Common.{◌≡◌, ℕ, Bool, true, false, cond, Option, Some, None, List, drop, refl, subst}
use Rattle.mdb_base.specs.declared.acts.Step.{Step}
use Rattle.mdb_base.specs.declared.names.SiteId.{SiteId}
use Rattle.mdb_base.specs.declared.program.Next.{Next}
use Rattle.mdb_base.specs.declared.replies.Reply.{Reply}
use Rattle.mdb_base.specs.Names.{same_site}
use Rattle.mdb_base.specs.Programs.{next_of}
use Rattle.fed_rules.specs.Site_of.{due_site}
use Rattle.fed_rules.specs.declared.messages.Due.{Due}
use Rattle.fed_rules.specs.declared.messages.Due.TheVariants as Due_is
use Rattle.fed_rules.specs.CoordPast.{is_ticket, visits}
use Rattle.fed_rules.proofs.ForCallers.{due_number}
use Rattle.global_exec.specs.declared.progress.Progress.{Progress}
use Rattle.global_exec.specs.Counted.{answered, news_left}
use Rattle.global_exec.specs.Due.{due, due_left, prepare, work, take as take_due}
use Rattle.global_exec.specs.Live.{site_number}

same_due : (n : ℕ) (x b : Due) → Some x ≡ Some b → due_number x ≡ n → due_number b ≡ n
same_due n x b e is = let same : x ≡ b = cc in subst (λ (d : Due). due_number d ≡ n) same is

nothing_due : (n : ℕ) (b : Due) → None ≡ Some b → due_number b ≡ n
nothing_due n b e = cc

module _ (progress : Progress) (b : Due) where
  work_site : (o : Option Next) → work progress o ≡ Some b → due_number b ≡ site_number progress
  work_site None e = nothing_due (site_number progress) b e
  work_site (Some next) e = by_test (same_site next.site progress.site) e
    where
      by_test : (c : Bool) → cond c (Some (Due_is.Work progress.site progress.epoch progress.n next.act)) None ≡ Some b → due_number b ≡ site_number progress
      by_test true e = same_due (site_number progress) (Due_is.Work progress.site progress.epoch progress.n next.act) b e refl
      by_test false e = nothing_due (site_number progress) b e

  prepare_site : (c : Bool) → cond c None (Some (Due_is.Prepare progress.site progress.epoch progress.n)) ≡ Some b → due_number b ≡ site_number progress
  prepare_site true e = nothing_due (site_number progress) b e
  prepare_site false e = same_due (site_number progress) (Due_is.Prepare progress.site progress.epoch progress.n) b e refl

  else_site : (c : Bool) → cond c (prepare progress) (take_due progress) ≡ Some b → due_number b ≡ site_number progress
  else_site true e = prepare_site progress.voted e
  else_site false e = same_due (site_number progress) (Due_is.Take progress.site progress.epoch progress.n) b e refl

  left_at_site : (left : List Step) (next : Option Next) → due_left left next progress ≡ Some b → due_number b ≡ site_number progress
  left_at_site left next e = by_visit (visits progress.site left) e
    where
      by_visit : (c : Bool) → cond c (work progress next) (cond progress.ticket (prepare progress) (take_due progress)) ≡ Some b → due_number b ≡ site_number progress
      by_visit true e = work_site next e
      by_visit false e = else_site progress.ticket e

  pub due_at_site : (program : List Step) (done : ℕ) (reads : List ℕ) → due program done reads progress ≡ Some b → (due_site b).0 ≡ site_number progress
  due_at_site program done reads e = left_at_site (drop done program) (next_of program done reads) e

pub news_left_at_site : (progress : Progress) (b : Due) (site : SiteId) (epoch : ℕ) (reply : Reply) (left : List Step) (next : Option Next)
    → news_left site epoch reply left next progress ≡ Some b → (due_site b).0 ≡ site_number progress
news_left_at_site progress b site epoch reply left next e = by_site (same_site progress.site site) e
  where
    by_ticket : (c : Bool) → cond c None (work progress next) ≡ Some b → due_number b ≡ site_number progress
    by_ticket true e = nothing_due (site_number progress) b e
    by_ticket false e = work_site progress b next e

    by_site : (c : Bool) → cond c (due_left left next (answered epoch reply progress)) (cond (is_ticket reply) None (work progress next)) ≡ Some b → due_number b ≡ site_number progress
    by_site true e = left_at_site (answered epoch reply progress) b left next e
    by_site false e = by_ticket (is_ticket reply) e
