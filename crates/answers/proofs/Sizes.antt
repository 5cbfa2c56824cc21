-- What the checks of fire, the size checks of resume and the checks of survey say.
use Rattle.std.proofs.Common.{◌≡◌, ℕ, ◌+◌, ◌<◌, true, false, not, eqb, List, length, Some, None, Decides, refl, subst, inl, inr, arith}
use Rattle.std.proofs.lemmas.Bool.{cases_Bool, both_ways, ltb-true, ltb-false, lt-ltb, le-ltb, leb-true, leb-false, le-leb, lt-leb, eqb-true, eqb-false, eq-eqb, ne_eqb, not-false, not_from_true}
use Rattle.std.proofs.lemmas.Bool.Decides.{Decides-and, Decides-ltb, Decides-eqb, Decides-like}
use Rattle.refusals.specs.declared.Refusal.{Refusal}
use Rattle.theory.specs.Nets.{NetMeaning}
use Rattle.theory.specs.Rows.{at}
use Rattle.theory.specs.Tallies.{steps_asked}
use Rattle.answers.specs.States.{State, Target, done_total, done_limit, findings_needed, yields_of, yields_asked}
use Rattle.answers.specs.Answers.{fire_checks, fire_refusal, rows_fit, size_checks, size_refusal}
use Rattle.answers.specs.Findings.{survey_checks, survey_refusal}
use Rattle.answers.specs.Reasons.{FireFits, WhyFire, RowsFit, ResumeFits, WhyResume, SurveyFits, WhySurvey}
use Rattle.answers.specs.Reasons.WhyFire.{no_such_step, input_empty, limit_reached as fire-limit, spare_short as fire-spare}
use Rattle.answers.specs.Reasons.WhyResume.{rows_unfit as resume-rows, limit_reached as resume-limit, memory_short as resume-memory, spare_short as resume-spare}
use Rattle.answers.specs.Reasons.WhySurvey.{rows_unfit as survey-rows, limit_reached as survey-limit, memory_short as survey-memory}
use Rattle.answers.proofs.Options.{WrongFirst, all_right, right_none, wrong_first, wrong_some}

pos_from : (a : ℕ) → eqb a 0 ≡ false → 0 < a
pos_from a h = omega (arith, eqb-false a 0 h)

from_pos : (a : ℕ) → 0 < a → eqb a 0 ≡ false
from_pos a h = ne_eqb a 0 (λ e. omega arith)

-- FIRE

module _ (N : NetMeaning) (s : State) (t : ℕ) where
  pub fire_fits : fire_refusal N s t ≡ None → FireFits N s t
  fire_fits h =
      let a = all_right (fire_checks N s t) h in
      record {
        a_step = leb-false N.steps t a.0;
        within_limit = ltb-false done_limit (done_total s + 1) a.1.0;
        input_holds = pos_from (s.counts (N.input t)) a.1.1.0;
        spare_holds = ltb-false (s.spare + 1) (yields_of N t) a.1.1.1.0;
      }

  pub fits_fire : FireFits N s t → fire_refusal N s t ≡ None
  fits_fire f =
      right_none (fire_checks N s t) (
        lt-leb N.steps t f.a_step,
        (
          le-ltb done_limit (done_total s + 1) f.within_limit,
          (
            from_pos (s.counts (N.input t)) f.input_holds,
            (le-ltb (s.spare + 1) (yields_of N t) f.spare_holds, tt),
          ),
        ),
      )

  pub why_fire : (e : Refusal) → fire_refusal N s t ≡ Some e → WhyFire N s t e
  why_fire e h = go (wrong_first (fire_checks N s t) e h)
    where
      go : WrongFirst (fire_checks N s t) e → WhyFire N s t e
      go (inl (w, q)) = subst (WhyFire N s t) q (no_such_step (leb-true _ _ w))
      go (inr (a, inl (w, q))) = subst (WhyFire N s t) q (fire-limit (leb-false _ _ a) (ltb-true _ _ w))
      go (inr (a, inr (b, inl (w, q)))) =
          subst (WhyFire N s t) q (input_empty (leb-false _ _ a) (ltb-false _ _ b) (eqb-true _ _ w))
      go (inr (a, inr (b, inr (c, inl (w, q))))) =
          subst (WhyFire N s t) q (fire-spare (leb-false _ _ a) (ltb-false _ _ b) (pos_from _ c) (ltb-true _ _ w))
      go (inr (a, inr (b, inr (c, inr (d, z))))) = absurd z

  pub fire_why : (e : Refusal) → WhyFire N s t e → fire_refusal N s t ≡ Some e
  fire_why e w = wrong_some (fire_checks N s t) e (go w)
    where
      go : {d : Refusal} → WhyFire N s t d → WrongFirst (fire_checks N s t) d
      go (no_such_step a) = inl (le-leb _ _ a, refl)
      go (fire-limit a b) = inr (lt-leb _ _ a, inl (lt-ltb _ _ b, refl))
      go (input_empty a b c) = inr (lt-leb _ _ a, inr (le-ltb _ _ b, inl (eq-eqb _ _ c, refl)))
      go (fire-spare a b c d) = inr (lt-leb _ _ a, inr (le-ltb _ _ b, inr (from_pos _ c, inl (lt-ltb _ _ d, refl))))

-- ROWS

pub rows_decided : (N : NetMeaning) (tally : List ℕ) (target : Target) → Decides (rows_fit N tally target) (RowsFit N tally target)
rows_decided N tally target =
    Decides-like (rows_fit N tally target)
    (λ h. record { tally_long = h.0; target_long = h.1.0; known_kind = h.1.1 })
    (λ f. (f.tally_long, (f.target_long, f.known_kind)))
    (Decides-and (eqb (length tally) N.steps) _ (Decides-eqb (length tally) N.steps)
    (Decides-and (eqb (length target.numbers) N.places) _ (Decides-eqb (length target.numbers) N.places)
    (Decides-ltb target.kind 2)))

module _ (N : NetMeaning) (tally : List ℕ) (target : Target) where
  fit_from : not (rows_fit N tally target) ≡ false → RowsFit N tally target
  fit_from h = (rows_decided N tally target).0 (not-false (rows_fit N tally target) h)

  pub from_fit : RowsFit N tally target → not (rows_fit N tally target) ≡ false
  from_fit f = not_from_true (rows_fit N tally target) ((rows_decided N tally target).1 f)

  unfit_from : not (rows_fit N tally target) ≡ true → RowsFit N tally target → ⊥
  unfit_from h f = both_ways (not (rows_fit N tally target)) (from_fit f) h

  pub from_unfit : (RowsFit N tally target → ⊥) → not (rows_fit N tally target) ≡ true
  from_unfit u =
      elim (cases_Bool (not (rows_fit N tally target))) [
        | inl h ↦ h
        | inr h ↦ absurd (u (fit_from h))
      ]

module _ (N : NetMeaning) (s : State) (tally : List ℕ) (target : Target) (memory : ℕ) where
  -- RESUME

  pub size_fits : size_refusal N s tally target memory ≡ None → ResumeFits N s tally target memory
  size_fits h =
      let a = all_right (size_checks N s tally target memory) h in
      record {
        rows = fit_from N tally target a.0;
        within_limit = ltb-false done_limit (done_total s + steps_asked N (at tally)) a.1.0;
        memory_holds = ltb-false memory (steps_asked N (at tally)) a.1.1.0;
        spare_holds = ltb-false s.spare (yields_asked N (at tally)) a.1.1.1.0;
      }

  pub fits_size : ResumeFits N s tally target memory → size_refusal N s tally target memory ≡ None
  fits_size f =
      right_none (size_checks N s tally target memory) (
        from_fit N tally target f.rows,
        (
          le-ltb done_limit (done_total s + steps_asked N (at tally)) f.within_limit,
          (
            le-ltb memory (steps_asked N (at tally)) f.memory_holds,
            (le-ltb s.spare (yields_asked N (at tally)) f.spare_holds, tt),
          ),
        ),
      )

  pub why_size : (e : Refusal) → size_refusal N s tally target memory ≡ Some e → WhyResume N s tally target memory e
  why_size e h = go (wrong_first (size_checks N s tally target memory) e h)
    where
      go : WrongFirst (size_checks N s tally target memory) e → WhyResume N s tally target memory e
      go (inl (w, q)) = subst (WhyResume N s tally target memory) q (resume-rows (unfit_from N tally target w))
      go (inr (a, inl (w, q))) =
          subst (WhyResume N s tally target memory) q (resume-limit (fit_from N tally target a) (ltb-true _ _ w))
      go (inr (a, inr (b, inl (w, q)))) =
          subst (WhyResume N s tally target memory) q (resume-memory (fit_from N tally target a) (ltb-false _ _ b) (ltb-true _ _ w))
      go (inr (a, inr (b, inr (c, inl (w, q))))) =
          subst (WhyResume N s tally target memory) q
          (resume-spare (fit_from N tally target a) (ltb-false _ _ b) (ltb-false _ _ c) (ltb-true _ _ w))
      go (inr (a, inr (b, inr (c, inr (d, z))))) = absurd z

  -- SURVEY

  pub survey_fits : survey_refusal N s tally target memory ≡ None → SurveyFits N s tally target memory
  survey_fits h =
      let a = all_right (survey_checks N s tally target memory) h in
      record {
        rows = fit_from N tally target a.0;
        within_limit = ltb-false done_limit (done_total s + steps_asked N (at tally)) a.1.0;
        memory_holds = ltb-false memory findings_needed a.1.1.0;
      }

  pub fits_survey : SurveyFits N s tally target memory → survey_refusal N s tally target memory ≡ None
  fits_survey f =
      right_none (survey_checks N s tally target memory) (
        from_fit N tally target f.rows,
        (
          le-ltb done_limit (done_total s + steps_asked N (at tally)) f.within_limit,
          (le-ltb memory findings_needed f.memory_holds, tt),
        ),
      )

  pub why_survey : (e : Refusal) → survey_refusal N s tally target memory ≡ Some e → WhySurvey N s tally target memory e
  why_survey e h = go (wrong_first (survey_checks N s tally target memory) e h)
    where
      go : WrongFirst (survey_checks N s tally target memory) e → WhySurvey N s tally target memory e
      go (inl (w, q)) = subst (WhySurvey N s tally target memory) q (survey-rows (unfit_from N tally target w))
      go (inr (a, inl (w, q))) =
          subst (WhySurvey N s tally target memory) q (survey-limit (fit_from N tally target a) (ltb-true _ _ w))
      go (inr (a, inr (b, inl (w, q)))) =
          subst (WhySurvey N s tally target memory) q (survey-memory (fit_from N tally target a) (ltb-false _ _ b) (ltb-true _ _ w))
      go (inr (a, inr (b, inr (c, z)))) = absurd z

  pub survey_why : (e : Refusal) → WhySurvey N s tally target memory e → survey_refusal N s tally target memory ≡ Some e
  survey_why e w = wrong_some (survey_checks N s tally target memory) e (go w)
    where
      go : {d : Refusal} → WhySurvey N s tally target memory d → WrongFirst (survey_checks N s tally target memory) d
      go (survey-rows u) = inl (from_unfit N tally target u, refl)
      go (survey-limit f b) = inr (from_fit N tally target f, inl (lt-ltb _ _ b, refl))
      go (survey-memory f b c) = inr (from_fit N tally target f, inr (le-ltb _ _ b, inl (lt-ltb _ _ c, refl)))
