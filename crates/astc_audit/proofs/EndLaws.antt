-- From the steps of an audit to its end.
use Rattle.std.proofs.Common.{◌≡◌, ℕ, zero, suc, Bool, true, false, eqb-true, List, [], ◌∷◌, ◌++◌, map, Option, refl, ◌∙◌, ap, subst, arith, inr}
use Rattle.std.specs.Prelude.{◌==◌, if◌then◌else◌}
use Rattle.tex_shelf.specs.Files.{with_text}
use Rattle.tex_shelf.specs.declared.stop.ShelfStop.{ShelfStop}
use Rattle.tex_shelf.specs.declared.stop.ShelfStop.TheVariants.{Failed, NoMemory}
use Rattle.images.specs.Pictures.{Pictures}
use Rattle.images.specs.Chains.{chain_of}
use Rattle.ktx_file.specs.Files.{File}
use Rattle.astc_words.specs.declared.job.AuditJob.{AuditJob}
use Rattle.outcomes.specs.declared.outcome.Outcome.TheVariants.{Done, Found}
use Rattle.outcomes.specs.Outcomes.{report_outcome}
use Rattle.outcomes.specs.Causes.{Stopped, IsPartlyTold, text_of}
use Rattle.astc_audit.specs.declared.gathering.AuditedImage.{AuditedImage}
use Rattle.astc_audit.specs.Audits.{AreAudited, all_images}
use Rattle.astc_audit.specs.Reports.{image_line, total_line, error_in, bad_in}
use Rattle.astc_audit.specs.Ends.{Judges, TellsAll, EndsWithBoth}

-- ---- after both are read

module _ (job : AuditJob) (file : File) (images : Pictures) (audited : List AuditedImage)
    (error bad : ℕ) (are : AreAudited file (chain_of images file.shape.levels) job.preset
    job.weights (all_images file) audited)
    (error_is : error ≡ error_in audited) (bad_is : bad ≡ bad_in audited)
    (written after : Option (List ℕ)) (before now : ℕ) where
  abbrev lines : List (List ℕ)
  lines = map image_line audited ++ total_line error bad ∷ []

  judges : Judges job file images lines bad
  judges = record {
    audited = audited;
    findings = are;
    told = ap (λ e. map image_line audited ++ total_line e bad ∷ []) error_is
        ∙ ap (λ b. map image_line audited ++ total_line (error_in audited) b ∷ []) bad_is;
    counted = bad_is;
  }

  pub ends-told : after ≡ with_text written (text_of lines)
      → EndsWithBoth job file images written after before now (if bad == 0 then Done else Found bad)
  ends-told told = number (bad == 0) bad refl (lines, judges, told)
    where
      number : (none : Bool) (n : ℕ) → n == 0 ≡ none → TellsAll job file images written after n
          → EndsWithBoth job file images written after before now (if none then Done else Found n)
      number true n is all = subst (λ k. TellsAll job file images written after k)
          (eqb-true n 0 is) all
      number false zero is all = absurd (cc)
      number false (suc n) is all = (omega arith, all)

  pub ends-stopped : (stop : ShelfStop) → Stopped before now (IsPartlyTold written after lines) stop
      → EndsWithBoth job file images written after before now (report_outcome stop)
  ends-stopped Failed stopped = (stopped.0, (lines, bad, judges, stopped.1))
  ends-stopped NoMemory stopped = inr (lines, bad, judges, stopped)
