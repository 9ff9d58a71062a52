-- How a command ends whose output was put.
use Rattle.std.proofs.Common.{◌≡◌, ℕ, Bool, true, false, Result, Ok, Err, List, [], ◌∷◌, inl, inr, refl, sym, ◌∙◌, subst}
use Rattle.mdb_base.specs.declared.names.Memory.{Memory}
use Rattle.order_laws.specs.Chains.{In}
use Rattle.journal_disk.specs.Disk.{Seen}
use Rattle.fed_world.specs.Faults.{faults_of}
use Rattle.scenario_text.specs.declared.bad.BadLine.{BadLine}
use Rattle.outputs.specs.declared.output.Output.{Output}
use Rattle.outputs.specs.declared.output.Output.TheVariants.{Whole, Broken}
use Rattle.session_outputs.specs.Disks.{is_used, sizes_of}
use Rattle.mdb_top.specs.Endings.{Carries, Ends, IsLedTo, IsPut, statuses}
use Rattle.mdb_top.specs.Inputs.{SomeInput}
use Rattle.outputs.specs.Outputs.{Account, IsOutput}
use Rattle.mdb_top.specs.Streams.{IsCalm, IsRead, Stream}
use Rattle.mdb_top.specs.Verdicts.{Spells, verdict}

-- each of the other statuses is no end of what was carried out
not_done : (status : ℕ) → (status ≡ 0 → ⊥) → (status ≡ 4 → ⊥) → In status (0 ∷ 4 ∷ []) → ⊥
not_done status f g (inl e) = f (sym e)
not_done status f g (inr (inl e)) = g (sym e)
not_done status f g (inr (inr e)) = e

five : In {A = ℕ} 5 (0 ∷ 4 ∷ []) → ⊥
five = not_done 5 (λ e. cc) (λ e. cc)

six : In {A = ℕ} 6 (0 ∷ 4 ∷ []) → ⊥
six = not_done 6 (λ e. cc) (λ e. cc)

eight : In {A = ℕ} 8 (0 ∷ 4 ∷ []) → ⊥
eight = not_done 8 (λ e. cc) (λ e. cc)

module _ {X : Type 0} (account : Account X) (sink : Stream) (old new : List Seen) (x : X) where
  -- what was made was put, where no disk was used
  pub carries_put : (status : ℕ) (made : Result Output Memory) → is_used (sizes_of old) ≡ false → ((output : List ℕ) → account.whole output old new x → faults_of new ≡ faults_of old)
      → IsOutput account made old new x → IsPut status sink made → Carries account status sink old new x
  carries_put status (Ok (Whole output)) unused calm out put = by_status put.either
    where
      by_status : In status (0 ∷ 4 ∷ []) → Carries account status sink old new x
      by_status i = record {
        led = rw unused (inr (elim i [ inl z ↦ inl z | inr j ↦ elim j [ inl z ↦ inr (inl z) | inr k ↦ absurd k ] ]));
        done = λ e. record { output = output.items; holds = out; put = put.all e };
        no_write_failed = λ e. put.calm e;
        no_disk_failed = λ j. calm output.items out;
        cut_off = λ e. record { output = output.items; holds = out; put = put.front e };
        write_failed = λ e. put.rose e;
        broken = λ e. absurd (five (subst (λ (n : ℕ). In n (0 ∷ 4 ∷ [])) e i));
        no_memory = λ e. absurd (six (subst (λ (n : ℕ). In n (0 ∷ 4 ∷ [])) e i));
        short = λ e. absurd (six (subst (λ (n : ℕ). In n (0 ∷ 4 ∷ [])) e i));
        used = λ e. absurd (eight (subst (λ (n : ℕ). In n (0 ∷ 4 ∷ [])) e i));
      }
  carries_put status (Ok (Broken output)) unused calm out put = subst (λ n. Carries account n sink old new x) (sym put.0) (record {
    led = rw unused (inr (inr (inr (inl refl))));
    done = λ e. absurd cc;
    no_write_failed = λ e. absurd cc;
    no_disk_failed = λ i. absurd (five i);
    cut_off = λ e. absurd cc;
    write_failed = λ e. absurd cc;
    broken = λ e. record { output = output.items; holds = out; put = put.1 };
    no_memory = λ e. absurd cc;
    short = λ e. absurd cc;
    used = λ e. absurd cc;
  })
  carries_put status (Err why) unused calm out put = subst (λ n. Carries account n sink old new x) (sym put.0) (record {
    led = inl refl;
    done = λ e. absurd cc;
    no_write_failed = λ e. absurd cc;
    no_disk_failed = λ i. absurd (six i);
    cut_off = λ e. absurd cc;
    write_failed = λ e. absurd cc;
    broken = λ e. absurd cc;
    no_memory = λ e. put.1;
    short = λ e. inr out;
    used = λ e. absurd cc;
  })

-- none of these statuses comes where the input spells what is asked for
not_led : {X : Type 0} (x : X) (n status : ℕ) (used : Bool) → (n ≡ 6 → ⊥) → (n ≡ 8 → ⊥) → (n ≡ 0 → ⊥) → (n ≡ 4 → ⊥) → (n ≡ 5 → ⊥) → status ≡ n → In status (6 ∷ statuses used (Spells x)) → ⊥
not_led x n status used six eight none four five e (inl i) = six (sym e ∙ sym i)
not_led x n status true six eight none four five e (inr (inl i)) = eight (sym e ∙ sym i)
not_led x n status true six eight none four five e (inr (inr i)) = i
not_led x n status false six eight none four five e (inr (inl i)) = none (sym e ∙ sym i)
not_led x n status false six eight none four five e (inr (inr (inl i))) = four (sym e ∙ sym i)
not_led x n status false six eight none four five e (inr (inr (inr (inl i)))) = five (sym e ∙ sym i)
not_led x n status false six eight none four five e (inr (inr (inr (inr i)))) = i

module _ {X : Type 0} (reads : List ℕ → Result X BadLine) (account : Account X) (status : ℕ) (source sink : Stream) (old new : List Seen) (x : X) where
  -- a command ends as it does with what its input spells
  carried : (read : IsRead source) (calm : IsCalm source) → Carries account status sink old new x → (input : List ℕ) → verdict reads input ≡ Spells x → Ends reads account status source sink old new input
  carried read calm c input is =
      let not_two = not_led x 2 status (is_used (sizes_of old)) (λ e. cc) (λ e. cc) (λ e. cc) (λ e. cc) (λ e. cc) in
      let not_three = not_led x 3 status (is_used (sizes_of old)) (λ e. cc) (λ e. cc) (λ e. cc) (λ e. cc) (λ e. cc) in
      let not_seven = not_led x 7 status (is_used (sizes_of old)) (λ e. cc) (λ e. cc) (λ e. cc) (λ e. cc) (λ e. cc) in
      record {
        led = subst (λ v. IsLedTo status (is_used (sizes_of old)) v) (sym is) (inr c.led);
        read = λ i. read;
        read_failed = λ e. absurd (not_three e c.led);
        no_read_failed = λ f. calm;
        done = λ e. record { spelled = x; is = is; holds = c.done e };
        no_write_failed = c.no_write_failed;
        no_disk_failed = c.no_disk_failed;
        refused = λ e. absurd (not_two e c.led);
        unread = λ e. absurd (not_three e c.led);
        cut_off = λ e. record { spelled = x; is = is; holds = c.cut_off e };
        write_failed = c.write_failed;
        broken = λ e. record { spelled = x; is = is; holds = c.broken e };
        no_memory = c.no_memory;
        short = λ e. elim (c.short e) [ inl same ↦ inl same | inr short ↦ inr (read, record { spelled = x; is = is; holds = short }) ];
        too_long = λ e. absurd (not_seven e c.led);
        used = c.used;
      }

  pub ends_carried : (tells : Bool) (left : List ℕ) → IsRead source → IsCalm source → SomeInput tells left (λ input. verdict reads input ≡ Spells x) → Carries account status sink old new x
      → SomeInput tells left (Ends reads account status source sink old new)
  ends_carried tells left read calm input c = record { input = input.input; told = input.told; holds = carried read calm c input.input input.holds }

-- the status of what was put
pub put_status : (status : ℕ) (sink : Stream) (made : Result Output Memory) → IsPut status sink made → In status (0 ∷ 4 ∷ 5 ∷ 6 ∷ 8 ∷ [])
put_status status sink (Ok (Whole bytes)) put = elim put.either [ inl e ↦ inl e | inr i ↦ elim i [ inl e ↦ inr (inl e) | inr j ↦ absurd j ] ]
put_status status sink (Ok (Broken bytes)) put = inr (inr (inl (sym put.0)))
put_status status sink (Err why) put = inr (inr (inr (inl (sym put.0))))
