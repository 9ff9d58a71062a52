-- How a session ends that goes on: what was made of the disks was put, or why nothing was.
use Rattle.std.proofs.Common.{◌≡◌, ◌⊎◌, ℕ, Ok, Err, List, [], ◌∷◌, inl, inr, refl, sym, subst}
use Rattle.order_laws.specs.Chains.{In}
use Rattle.fed_rules.specs.declared.commands.Command.{Command}
use Rattle.fed_rules.specs.declared.scenario.Scenario.{Scenario}
use Rattle.fed_rules.specs.Story.{story_of}
use Rattle.journal_disk.specs.Disk.{Seen}
use Rattle.found_disks.specs.declared.errors.ReopenErr.{ReopenErr}
use Rattle.found_disks.specs.declared.errors.ReopenErr.TheVariants.{Damaged, Disk, Foreign, Memory}
use Rattle.left_disks.specs.Left.{IsLeft}
use Rattle.resume_output.specs.Resumes.{AllGoesOn, GoesOnFromLeft, IsRefusedAs, ResumesAs, ResumesBroken, ResumesShort, ResumesWhole}
use Rattle.outputs.specs.declared.output.Output.{Output}
use Rattle.outputs.specs.declared.output.Output.TheVariants.{Whole, Broken}
use Rattle.outputs.specs.Texts.{disk_failed_text}
use Rattle.mdb_top.specs.Audits.{IsSaid}
use Rattle.mdb_top.specs.Endings.{GetsSome, IsPut, IsPutWhole}
use Rattle.mdb_top.specs.Resuming.{IsRefusalPut, ResumeEnds, SomeFailed, SomeUntold}
use Rattle.mdb_top.specs.Streams.{Gets, Stream}
use Rattle.mdb_top.specs.Texts.{disk_damaged_text, disk_foreign_text, no_memory_text}
use Rattle.mdb_top.proofs.AuditLemmas.{not_two}

not_four : (status a b c d : ℕ) → (status ≡ a → ⊥) → (status ≡ b → ⊥) → (status ≡ c → ⊥) → (status ≡ d → ⊥) → In status (a ∷ b ∷ c ∷ d ∷ []) → ⊥
not_four status a b c d f g h k (inl e) = f (sym e)
not_four status a b c d f g h k (inr (inl e)) = g (sym e)
not_four status a b c d f g h k (inr (inr i)) = not_two status c d h k i

-- the session goes on rightly from whatever is found, where a session left the disks
abbrev Goes : List Seen → Type 0
Goes disks = (scenario : Scenario) (commands : List Command) → IsLeft disks scenario commands → AllGoesOn disks scenario (story_of scenario commands)

module _ {D : Type 0} (see : D → Seen) (sink : Stream) (old new : List Seen) where
  -- memory is wanting
  short_ends : Goes old → (ResumesShort see old new ⊎ SomeUntold see old new) → Gets sink no_memory_text → ResumeEnds see 6 sink old new
  short_ends goes short text = record {
    led = inr (inr (inr (inl refl)));
    done = λ e. absurd cc;
    no_write_failed = λ e. absurd cc;
    no_disk_failed = λ i. absurd (not_four 6 0 4 10 11 (λ e. cc) (λ e. cc) (λ e. cc) (λ e. cc) i);
    cut_off = λ e. absurd cc;
    write_failed = λ e. absurd cc;
    broken = λ e. absurd cc;
    no_memory = λ e. text;
    short = λ e. short;
    damaged = λ e. absurd cc;
    foreign = λ e. absurd cc;
    left = λ scenario commands l. (not_two 6 10 11 (λ e. cc) (λ e. cc), goes scenario commands l);
  }

  -- a call of a disk failed
  failed_ends : Goes old → (GetsSome sink (λ output. ResumesBroken see output old new) ⊎ SomeFailed see sink old new) → ResumeEnds see 5 sink old new
  failed_ends goes broken = record {
    led = inr (inr (inl refl));
    done = λ e. absurd cc;
    no_write_failed = λ e. absurd cc;
    no_disk_failed = λ i. absurd (not_four 5 0 4 10 11 (λ e. cc) (λ e. cc) (λ e. cc) (λ e. cc) i);
    cut_off = λ e. absurd cc;
    write_failed = λ e. absurd cc;
    broken = λ e. broken;
    no_memory = λ e. absurd cc;
    short = λ e. absurd cc;
    damaged = λ e. absurd cc;
    foreign = λ e. absurd cc;
    left = λ scenario commands l. (not_two 5 10 11 (λ e. cc) (λ e. cc), goes scenario commands l);
  }

  -- the output is whole
  whole_ends : (status : ℕ) (output : List ℕ) → Goes old → ResumesWhole output old new → IsPutWhole status sink output → ResumeEnds see status sink old new
  whole_ends status output goes whole put = by_status put.either
    where
      by_status : In status (0 ∷ 4 ∷ []) → ResumeEnds see status sink old new
      by_status i =
          let other : (n : ℕ) → (n ≡ 0 → ⊥) → (n ≡ 4 → ⊥) → status ≡ n → ⊥ =
          λ n f g e. not_two n 0 4 f g (subst (λ (m : ℕ). In m (0 ∷ 4 ∷ [])) e i) in
          record {
            led = elim i [ inl z ↦ inl z | inr j ↦ elim j [ inl z ↦ inr (inl z) | inr k ↦ absurd k ] ];
            done = λ e. record { output = output; holds = whole; put = put.all e };
            no_write_failed = put.calm;
            no_disk_failed = λ j. whole.calm;
            cut_off = λ e. record { output = output; holds = whole; put = put.front e };
            write_failed = put.rose;
            broken = λ e. absurd (other 5 (λ f. cc) (λ f. cc) e);
            no_memory = λ e. absurd (other 6 (λ f. cc) (λ f. cc) e);
            short = λ e. absurd (other 6 (λ f. cc) (λ f. cc) e);
            damaged = λ e. absurd (other 10 (λ f. cc) (λ f. cc) e);
            foreign = λ e. absurd (other 11 (λ f. cc) (λ f. cc) e);
            left = λ scenario commands l.
                (λ j. elim j [ inl e ↦ other 10 (λ f. cc) (λ f. cc) (sym e) | inr k ↦ elim k [ inl e ↦ other 11 (λ f. cc) (λ f. cc) (sym e) | inr n ↦ n ] ], goes scenario commands l);
          }

  -- what was made of the disks was put
  pub output_ends : (status : ℕ) (output : Output) → ResumesAs see (Ok output) old new → GoesOnFromLeft {T = Output} (Ok output) old → IsPut status sink (Ok output) → ResumeEnds see status sink old new
  output_ends status (Whole bytes) made left put = whole_ends status bytes.items (λ scenario commands l. (left scenario commands l).1) made put
  output_ends status (Broken bytes) made left put = subst (λ (n : ℕ). ResumeEnds see n sink old new) (sym put.0)
      (failed_ends (λ scenario commands l. (left scenario commands l).1) (inl (record { output = bytes.items; holds = made; put = put.1 })))

  -- a text was said with its status, or memory was wanting for it
  said_ends : (status own : ℕ) (text : List ℕ) → Goes old → (ResumesShort see old new ⊎ SomeUntold see old new) → IsSaid own text status sink → (Gets sink text → ResumeEnds see own sink old new) → ResumeEnds see status sink old new
  said_ends status own text goes short said ends = by_status said.either
    where
      by_status : In status (own ∷ 6 ∷ []) → ResumeEnds see status sink old new
      by_status (inl e) = subst (λ (n : ℕ). ResumeEnds see n sink old new) e (ends (said.said (sym e)))
      by_status (inr (inl e)) = subst (λ (n : ℕ). ResumeEnds see n sink old new) e (short_ends goes short (said.no_memory (sym e)))
      by_status (inr (inr e)) = absurd e

  -- a disk is damaged
  damaged_ends : (number at : ℕ) → GoesOnFromLeft {T = Output} (Err (Damaged number at)) old → IsRefusedAs see (Damaged number at) old new → Gets sink (disk_damaged_text number at) → ResumeEnds see 10 sink old new
  damaged_ends number at left refused text = record {
    led = inr (inr (inr (inr (inl refl))));
    done = λ e. absurd cc;
    no_write_failed = λ e. absurd cc;
    no_disk_failed = λ i. refused.1;
    cut_off = λ e. absurd cc;
    write_failed = λ e. absurd cc;
    broken = λ e. absurd cc;
    no_memory = λ e. absurd cc;
    short = λ e. absurd cc;
    damaged = λ e. record { number = number; at = at; refused = refused; put = text };
    foreign = λ e. absurd cc;
    left = λ scenario commands l. absurd (left scenario commands l).0;
  }

  -- or foreign
  foreign_ends : (number : ℕ) → GoesOnFromLeft {T = Output} (Err (Foreign number)) old → IsRefusedAs see (Foreign number) old new → Gets sink (disk_foreign_text number) → ResumeEnds see 11 sink old new
  foreign_ends number left refused text = record {
    led = inr (inr (inr (inr (inr (inl refl)))));
    done = λ e. absurd cc;
    no_write_failed = λ e. absurd cc;
    no_disk_failed = λ i. refused.1;
    cut_off = λ e. absurd cc;
    write_failed = λ e. absurd cc;
    broken = λ e. absurd cc;
    no_memory = λ e. absurd cc;
    short = λ e. absurd cc;
    damaged = λ e. absurd cc;
    foreign = λ e. record { number = number; refused = refused; put = text };
    left = λ scenario commands l. absurd (left scenario commands l).0;
  }

  -- why no session goes on was put
  pub refusal_ends : (status : ℕ) (why : ReopenErr) → IsRefusedAs see why old new → GoesOnFromLeft {T = Output} (Err why) old → IsRefusalPut status sink why → ResumeEnds see status sink old new
  refusal_ends status (Damaged number at) refused left put =
      said_ends status 10 (disk_damaged_text number at) (λ scenario commands l. (left scenario commands l).1) (inl (inl (refused.0.images, refused.1))) put (damaged_ends number at left refused)
  refusal_ends status (Foreign number) refused left put =
      said_ends status 11 (disk_foreign_text number) (λ scenario commands l. (left scenario commands l).1) (inl (inl (refused.0.images, refused.1))) put (foreign_ends number left refused)
  refusal_ends status (Disk number) refused left put =
      said_ends status 5 (disk_failed_text number) (λ scenario commands l. (left scenario commands l).1) (inr (number, refused)) put
      (λ text. failed_ends (λ scenario commands l. (left scenario commands l).1) (inr (record { number = number; refused = refused; put = text })))
  refusal_ends status Memory refused left put = subst (λ (n : ℕ). ResumeEnds see n sink old new) (sym put.0) (short_ends (λ scenario commands l. (left scenario commands l).1) (inl refused) put.1)
