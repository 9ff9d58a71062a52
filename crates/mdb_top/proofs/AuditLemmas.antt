-- How an audit ends whose verdict was put.
use Rattle.std.proofs.Common.{◌≡◌, ℕ, ◌≤◌, ◌<◌, ◌+◌, inl, inr, Bool, true, false, IsTrue, IfOk, Option, Some, None, List, [], ◌∷◌, length, take, Bor, Result, Ok, Err, refl, sym, ◌∙◌, subst}
use Rattle.order_laws.specs.Chains.{In}
use Rattle.journal_disk.specs.Disk.{Seen}
use Rattle.fed_rules.specs.Plans.{Plan}
use Rattle.fed_world.specs.declared.errors.WorldErr.{WorldErr}
use Rattle.fed_world.specs.declared.errors.WorldErr.TheVariants as World_err
use Rattle.fed_world.specs.Faults.{CountsTell, RisesAt, faults_of}
use Rattle.scenario_text.specs.Pieces.{lines}
use Rattle.scenario_text.specs.declared.bad.BadLine.{BadLine}
use Rattle.audit_rules.specs.declared.verdict.Verdict.TheVariants.{Agrees, Differs}
use Rattle.audit_rules.specs.declared.verdict.Verdict as audit
use Rattle.audit_rules.specs.declared.verdict.What.{What}
use Rattle.audit_text.specs.Texts.{audit_of}
use Rattle.run_audit.specs.declared.submitted.Submitted.{Submitted}
use Rattle.run_audit.specs.Audits.{AgreesWhole, IsHanded, RunIsAudited, StandsBehind, verdict_of}
use Rattle.session_outputs.specs.Disks.{is_used, sizes_of}
use Rattle.outputs.specs.Texts.{disk_failed_text}
use Rattle.mdb_top.specs.Audits.{AuditEnds, HandedEnds, IsSaid, IsVerdictPut, Names, TextEnds, agrees_text, differs_text, statuses}
use Rattle.mdb_top.specs.Endings.{IsPutWhole}
use Rattle.mdb_top.specs.Inputs.{SomeInput}
use Rattle.mdb_top.specs.Streams.{Gets, IsCalm, IsRead, Rose, Stream, longest}
use Rattle.mdb_top.specs.Texts.{no_memory_text, read_failed_text}
use Rattle.mdb_top.specs.Verdicts.{Verdict, TooLong, BadInput, Spells, verdict}
use Rattle.mdb_top.proofs.InputLemmas.{front_or_longer, verdict-long, verdict-short}

-- a status that is none of these isn't among them
pub not_two : (status m n : ℕ) → (status ≡ m → ⊥) → (status ≡ n → ⊥) → In status (m ∷ n ∷ []) → ⊥
not_two status m n f g (inl e) = f (sym e)
not_two status m n f g (inr (inl e)) = g (sym e)
not_two status m n f g (inr (inr e)) = e

not_three : (status m n k : ℕ) → (status ≡ m → ⊥) → (status ≡ n → ⊥) → (status ≡ k → ⊥) → In status (m ∷ n ∷ k ∷ []) → ⊥
not_three status m n k f g h (inl e) = f (sym e)
not_three status m n k f g h (inr i) = not_two status n k g h i

module _ (sink : Stream) (old new : List Seen) (handed : Submitted) where
  -- a status that the verdict leads to
  led_as : (used : Bool) (status : ℕ) → is_used (sizes_of old) ≡ used → (found : audit.Verdict) → found ≡ verdict_of handed → In status (6 ∷ statuses used (Spells found))
      → In status (6 ∷ statuses (is_used (sizes_of old)) (Spells (verdict_of handed)))
  led_as used status is found same i = subst (λ (b : Bool). In status (6 ∷ statuses b (Spells (verdict_of handed)))) (sym is)
      (subst (λ (v : audit.Verdict). In status (6 ∷ statuses used (Spells v))) same i)

  -- memory is wanting
  short_ends : Gets sink no_memory_text → HandedEnds 6 sink old new handed
  short_ends text = record {
    led = inl refl;
    agrees = λ i. absurd (not_two 6 0 4 (λ e. cc) (λ e. cc) i);
    told = λ e. absurd cc;
    no_write_failed = λ e. absurd cc;
    cut_off = λ e. absurd cc;
    write_failed = λ e. absurd cc;
    differs = λ e. absurd cc;
    no_memory = λ e. text;
    used = λ e. absurd cc;
    broken = λ e. absurd cc;
    no_disk_failed = λ i. absurd (not_three 6 0 4 9 (λ e. cc) (λ e. cc) (λ e. cc) i);
  }

  -- the run agrees
  agrees_ends : (status : ℕ) → is_used (sizes_of old) ≡ false → Agrees ≡ verdict_of handed → RunIsAudited handed.scenario handed.printed → faults_of new ≡ faults_of old
      → IsPutWhole status sink agrees_text → HandedEnds status sink old new handed
  agrees_ends status unused is audited calm put = by_status put.either
    where
      by_status : In status (0 ∷ 4 ∷ []) → HandedEnds status sink old new handed
      by_status i = record {
        led = led_as false status unused Agrees is (inr (elim i [ inl z ↦ inl z | inr j ↦ elim j [ inl z ↦ inr (inl z) | inr k ↦ absurd k ] ]));
        agrees = λ j. (sym is, audited);
        told = put.all;
        no_write_failed = put.calm;
        cut_off = put.front;
        write_failed = put.rose;
        differs = λ e. absurd (not_two 9 0 4 (λ e. cc) (λ e. cc) (subst (λ (n : ℕ). In n (0 ∷ 4 ∷ [])) e i));
        no_memory = λ e. absurd (not_two 6 0 4 (λ e. cc) (λ e. cc) (subst (λ (n : ℕ). In n (0 ∷ 4 ∷ [])) e i));
        used = λ e. absurd (not_two 8 0 4 (λ e. cc) (λ e. cc) (subst (λ (n : ℕ). In n (0 ∷ 4 ∷ [])) e i));
        broken = λ e. absurd (not_two 5 0 4 (λ e. cc) (λ e. cc) (subst (λ (n : ℕ). In n (0 ∷ 4 ∷ [])) e i));
        no_disk_failed = λ j. calm;
      }

  -- a line differs
  differs_ends : is_used (sizes_of old) ≡ false → (number : ℕ) (what : What) → Differs number what ≡ verdict_of handed → faults_of new ≡ faults_of old
      → Gets sink (differs_text number what) → HandedEnds 9 sink old new handed
  differs_ends unused number what is calm text = record {
    led = led_as false 9 unused (Differs number what) is (inr (inl refl));
    agrees = λ i. absurd (not_two 9 0 4 (λ e. cc) (λ e. cc) i);
    told = λ e. absurd cc;
    no_write_failed = λ e. absurd cc;
    cut_off = λ e. absurd cc;
    write_failed = λ e. absurd cc;
    differs = λ e. subst (Names sink) is text;
    no_memory = λ e. absurd cc;
    used = λ e. absurd cc;
    broken = λ e. absurd cc;
    no_disk_failed = λ i. calm;
  }

  -- a call of a disk failed
  led_broken : (v : audit.Verdict) → In 5 (6 ∷ statuses false (Spells v))
  led_broken Agrees = inr (inr (inr (inl refl)))
  led_broken (Differs number what) = inr (inr (inl refl))

  broken_ends : is_used (sizes_of old) ≡ false → (number : ℕ) → RisesAt number old new → Gets sink (disk_failed_text number) → HandedEnds 5 sink old new handed
  broken_ends unused number rose text = record {
    led = led_as false 5 unused (verdict_of handed) refl (led_broken (verdict_of handed));
    agrees = λ i. absurd (not_two 5 0 4 (λ e. cc) (λ e. cc) i);
    told = λ e. absurd cc;
    no_write_failed = λ e. absurd cc;
    cut_off = λ e. absurd cc;
    write_failed = λ e. absurd cc;
    differs = λ e. absurd cc;
    no_memory = λ e. absurd cc;
    used = λ e. absurd cc;
    broken = λ e. (number, text, rose);
    no_disk_failed = λ i. absurd (not_three 5 0 4 9 (λ e. cc) (λ e. cc) (λ e. cc) i);
  }

  -- a text was said with its status, or memory was wanting for it
  said_ends : (status own : ℕ) (text : List ℕ) → IsSaid own text status sink → (Gets sink text → HandedEnds own sink old new handed) → HandedEnds status sink old new handed
  said_ends status own text said ends = by_status said.either
    where
      by_status : In status (own ∷ 6 ∷ []) → HandedEnds status sink old new handed
      by_status (inl e) = subst (λ (n : ℕ). HandedEnds n sink old new handed) e (ends (said.said (sym e)))
      by_status (inr (inl e)) = subst (λ (n : ℕ). HandedEnds n sink old new handed) e (short_ends (said.no_memory (sym e)))
      by_status (inr (inr e)) = absurd e

  -- the verdict was put, where no disk was used, or why there is none
  pub verdict_ends : (status : ℕ) (outcome : Result audit.Verdict WorldErr) → is_used (sizes_of old) ≡ false → IfOk outcome (λ found. found ≡ verdict_of handed)
      → IfOk outcome (λ found. found ≡ Agrees → RunIsAudited handed.scenario handed.printed) → CountsTell outcome old new → IsVerdictPut status sink outcome → HandedEnds status sink old new handed
  verdict_ends status (Ok Agrees) unused is audited cause put = agrees_ends status unused is (audited refl) cause put
  verdict_ends status (Ok (Differs number what)) unused is audited cause put = said_ends status 9 (differs_text number what) put (differs_ends unused number what is cause)
  verdict_ends status (Err (World_err.Disk number)) unused is audited cause put = said_ends status 5 (disk_failed_text number) put (broken_ends unused number cause)
  verdict_ends status (Err World_err.Memory) unused is audited cause put = subst (λ (n : ℕ). HandedEnds n sink old new handed) (sym put.0) (short_ends put.1)

-- a status that no verdict on a text leads to
not_led : (n status : ℕ) (used : Bool) (found : Verdict audit.Verdict) → (n ≡ 6 → ⊥) → (n ≡ 7 → ⊥) → (n ≡ 2 → ⊥) → (n ≡ 8 → ⊥) → (n ≡ 0 → ⊥) → (n ≡ 4 → ⊥) → (n ≡ 5 → ⊥) → (n ≡ 9 → ⊥)
    → In status (6 ∷ statuses used found) → status ≡ n → ⊥
not_led n status used found six seven two eight none four five nine (inl i) e = six (sym e ∙ sym i)
not_led n status used TooLong six seven two eight none four five nine (inr (inl i)) e = seven (sym e ∙ sym i)
not_led n status used TooLong six seven two eight none four five nine (inr (inr i)) e = i
not_led n status used (BadInput bad) six seven two eight none four five nine (inr (inl i)) e = two (sym e ∙ sym i)
not_led n status used (BadInput bad) six seven two eight none four five nine (inr (inr i)) e = i
not_led n status true (Spells found) six seven two eight none four five nine (inr (inl i)) e = eight (sym e ∙ sym i)
not_led n status true (Spells found) six seven two eight none four five nine (inr (inr i)) e = i
not_led n status false (Spells Agrees) six seven two eight none four five nine (inr i) e = not_three status 0 4 5 (λ z. none (sym e ∙ z)) (λ z. four (sym e ∙ z)) (λ z. five (sym e ∙ z)) i
not_led n status false (Spells (Differs number what)) six seven two eight none four five nine (inr i) e = not_two status 9 5 (λ z. nine (sym e ∙ z)) (λ z. five (sym e ∙ z)) i

-- nor one on what was handed in
not_spelled : (n status : ℕ) (used : Bool) (found : audit.Verdict) → (n ≡ 6 → ⊥) → (n ≡ 8 → ⊥) → (n ≡ 0 → ⊥) → (n ≡ 4 → ⊥) → (n ≡ 5 → ⊥) → (n ≡ 9 → ⊥)
    → In status (6 ∷ statuses used (Spells found)) → status ≡ n → ⊥
not_spelled n status used found six eight none four five nine (inl i) e = six (sym e ∙ sym i)
not_spelled n status true found six eight none four five nine (inr (inl i)) e = eight (sym e ∙ sym i)
not_spelled n status true found six eight none four five nine (inr (inr i)) e = i
not_spelled n status false Agrees six eight none four five nine (inr i) e = not_three status 0 4 5 (λ z. none (sym e ∙ z)) (λ z. four (sym e ∙ z)) (λ z. five (sym e ∙ z)) i
not_spelled n status false (Differs number what) six eight none four five nine (inr i) e = not_two status 9 5 (λ z. nine (sym e ∙ z)) (λ z. five (sym e ∙ z)) i

-- the printed run that was handed in stands behind the lines that spell its scenario
agrees_whole : (text : List ℕ) (scenario : Plan) (printed : Option (Bor (List ℕ))) → StandsBehind text scenario printed → RunIsAudited scenario printed → AgreesWhole text
agrees_whole text scenario None behind audited = absurd audited
agrees_whole text scenario (Some printed) behind audited =
    record { scenario = scenario; before = behind.0; printed = lines printed.now; cut = behind.1; spelled = behind.2; audited = audited }

module _ (status : ℕ) (sink : Stream) (old new : List Seen) where
  -- a text that was handed in ends as what was
  pub handed_ends : (input : List ℕ) (handed : Submitted) → length input ≤ longest → IsHanded handed input → HandedEnds status sink old new handed → TextEnds status sink old new input
  handed_ends input handed few h e =
      let is = verdict-short audit_of input (Ok (verdict_of handed)) few h.verdict in
      let used = is_used (sizes_of old) in
      record {
        led = subst (λ (v : Verdict audit.Verdict). In status (6 ∷ statuses used v)) (sym is) e.led;
        agrees = λ i. record { found = verdict_of handed; is = is; holds = ((e.agrees i).0, agrees_whole input handed.scenario handed.printed h.behind (e.agrees i).1) };
        told = e.told;
        no_write_failed = e.no_write_failed;
        cut_off = e.cut_off;
        write_failed = e.write_failed;
        differs = λ nine. record { found = verdict_of handed; is = is; holds = e.differs nine };
        refused = λ two. absurd (not_spelled 2 status used (verdict_of handed) (λ z. cc) (λ z. cc) (λ z. cc) (λ z. cc) (λ z. cc) (λ z. cc) e.led two);
        no_memory = e.no_memory;
        too_long = λ seven. absurd (not_spelled 7 status used (verdict_of handed) (λ z. cc) (λ z. cc) (λ z. cc) (λ z. cc) (λ z. cc) (λ z. cc) e.led seven);
        used = e.used;
        broken = e.broken;
        no_disk_failed = e.no_disk_failed;
      }

module _ (status : ℕ) (sink : Stream) (old new : List Seen) where
  -- the front that is read ends as the whole text
  front_ends : (text : List ℕ) → TextEnds status sink old new (take (longest + 1) text) → TextEnds status sink old new text
  front_ends text e = elim (front_or_longer longest text) [ inl same ↦ subst (TextEnds status sink old new) same e | inr more ↦ longer more.0 (verdict-long audit_of (take (longest + 1) text) more.1) ]
    where
      nothing : {P : Type 0} (found : audit.Verdict) → verdict audit_of (take (longest + 1) text) ≡ TooLong → verdict audit_of (take (longest + 1) text) ≡ Spells found → P
      nothing found long is = let both = sym is ∙ long in cc

      no_bad_line : {P : Type 0} (bad : BadLine) → verdict audit_of (take (longest + 1) text) ≡ TooLong → verdict audit_of (take (longest + 1) text) ≡ BadInput bad → P
      no_bad_line bad long is = let both = sym is ∙ long in cc

      longer : longest < length text → verdict audit_of (take (longest + 1) text) ≡ TooLong → TextEnds status sink old new text
      longer more long = record {
        led = subst (λ (v : Verdict audit.Verdict). In status (6 ∷ statuses (is_used (sizes_of old)) v)) (long ∙ sym (verdict-long audit_of text more)) e.led;
        agrees = λ i. nothing (e.agrees i).found long (e.agrees i).is;
        told = e.told;
        no_write_failed = e.no_write_failed;
        cut_off = e.cut_off;
        write_failed = e.write_failed;
        differs = λ nine. nothing (e.differs nine).found long (e.differs nine).is;
        refused = λ two. no_bad_line (e.refused two).bad long (e.refused two).is;
        no_memory = e.no_memory;
        too_long = e.too_long;
        used = e.used;
        broken = e.broken;
        no_disk_failed = e.no_disk_failed;
      }

  -- what was read is the front of what was left, or where nothing is told the bytes that came
  some_text : (tells : Bool) (left text : List ℕ) → (IsTrue tells → text ≡ take (longest + 1) left) → TextEnds status sink old new text → SomeInput tells left (TextEnds status sink old new)
  some_text true left text is e = record { input = left; told = (λ t. refl); holds = front_ends left (subst (TextEnds status sink old new) (is refl) e) }
  some_text false left text is e = record { input = text; told = (λ t. absurd cc); holds = e }

  -- an audit whose text was read
  pub read_ends : (source : Stream) (tells : Bool) (left text : List ℕ) → (IsTrue tells → text ≡ take (longest + 1) left) → IsRead source → IsCalm source → TextEnds status sink old new text
      → SomeInput tells left (AuditEnds status source sink old new)
  read_ends source tells left text is read calm e =
      let input = some_text tells left text is e in
      let not_failed = not_led 3 status (is_used (sizes_of old)) (verdict audit_of text) (λ z. cc) (λ z. cc) (λ z. cc) (λ z. cc) (λ z. cc) (λ z. cc) (λ z. cc) (λ z. cc) e.led in
      record {
        input = input.input;
        told = input.told;
        holds = record { read = λ i. read; read_failed = λ z. absurd (not_failed z); no_read_failed = λ f. calm; unread = λ z. absurd (not_failed z); ends = inr (inr input.holds) };
      }

-- the statuses of an input that was read
not_among : (n : ℕ) → (n ≡ 0 → ⊥) → (n ≡ 2 → ⊥) → (n ≡ 4 → ⊥) → (n ≡ 5 → ⊥) → (n ≡ 7 → ⊥) → (n ≡ 8 → ⊥) → (n ≡ 9 → ⊥) → In n (0 ∷ 2 ∷ 4 ∷ 5 ∷ 7 ∷ 8 ∷ 9 ∷ []) → ⊥
not_among n none two four five seven eight nine (inl e) = none (sym e)
not_among n none two four five seven eight nine (inr (inl e)) = two (sym e)
not_among n none two four five seven eight nine (inr (inr (inl e))) = four (sym e)
not_among n none two four five seven eight nine (inr (inr (inr (inl e)))) = five (sym e)
not_among n none two four five seven eight nine (inr (inr (inr (inr i)))) = not_three n 7 8 9 seven eight nine i

module _ (source sink : Stream) (disks : List Seen) where
  -- nothing was read
  pub failed_ends : (status : ℕ) (input : List ℕ) → status ≡ 3 → Rose source → Gets sink read_failed_text → AuditEnds status source sink disks disks input
  failed_ends status input is rose text = record {
    read = λ i. absurd (not_among 3 (λ z. cc) (λ z. cc) (λ z. cc) (λ z. cc) (λ z. cc) (λ z. cc) (λ z. cc) (subst (λ (n : ℕ). In n (0 ∷ 2 ∷ 4 ∷ 5 ∷ 7 ∷ 8 ∷ 9 ∷ [])) is i));
    read_failed = λ e. rose;
    no_read_failed = λ f. absurd (f is);
    unread = λ e. text;
    ends = inl is;
  }

  -- memory was wanting before there was a text
  pub unread_ends : (status : ℕ) (input : List ℕ) → status ≡ 6 → IsCalm source → Gets sink no_memory_text → AuditEnds status source sink disks disks input
  unread_ends status input is calm text = record {
    read = λ i. absurd (not_among 6 (λ z. cc) (λ z. cc) (λ z. cc) (λ z. cc) (λ z. cc) (λ z. cc) (λ z. cc) (subst (λ (n : ℕ). In n (0 ∷ 2 ∷ 4 ∷ 5 ∷ 7 ∷ 8 ∷ 9 ∷ [])) is i));
    read_failed = λ e. (let both : 6 ≡ 3 = sym is ∙ e in cc);
    no_read_failed = λ f. calm;
    unread = λ e. (let both : 6 ≡ 3 = sym is ∙ e in cc);
    ends = inr (inl (is, text));
  }
