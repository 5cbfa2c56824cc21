-- Whatever has the clauses of the promise is what the definitions give.
use Rattle.std.proofs.Common.{◌≡◌, ℕ, ◌⊎◌, List, [], ◌∷◌, ◌++◌, ℤ, Some, None, Option, sym, refl, ap, ◌∙◌, ap₂, inl, inr, arith}
use mathlib.Core.Path.{fun_ext}
use Rattle.std.proofs.lemmas.Int.{ints}
use Rattle.refusals.specs.declared.Refusal.{Refusal}
use Rattle.theory.specs.Nets.{NetMeaning}
use Rattle.theory.specs.Rows.{at}
use Rattle.theory.specs.Firing.{Marking}
use Rattle.theory.specs.Tallies.{Tally, final_number}
use Rattle.theory.specs.Orders.{Earlier}
use Rattle.theory.proofs.FirstOrder.{earlier_one_way}
use Rattle.answers.specs.declared.Cause.{Cause}
use Rattle.answers.specs.declared.Cause.TheVariants as cause
use Rattle.answers.specs.declared.Finding.{Finding}
use Rattle.answers.specs.States.{Target}
use Rattle.answers.specs.Answers.{the_order, fire_refusal, resume_refusal}
use Rattle.answers.specs.Findings.{findings, survey_refusal}
use Rattle.answers.specs.Reasons.{Exactly, findings_at, AllFound}
use Rattle.answers.specs.Pinned.{ComesExactly, Pinned}
use Rattle.answers.proofs.Rising.{Among, Rising, among_contains, contains_among, strictly_rising}
use Rattle.answers.proofs.Leading.{leads_same}
use Rattle.answers.proofs.Promised.{promise}
use Rattle.answers.proofs.Transcripts.{one_transcript}

-- two that come exactly when the same says so are the same
one_refusal : (Fits : Type 0) (Why : Refusal → Type 0) (r q : Option Refusal) → ComesExactly Fits Why r → ComesExactly Fits Why q → r ≡ q
one_refusal Fits Why None q f g = sym (g.none.1 (f.none.0 refl))
one_refusal Fits Why (Some e) q f g = sym ((g.some e).1 ((f.some e).0 refl))

-- rising lists of the same numbers are the same
rising_same : (ps qs : List ℕ) → Rising ps → Rising qs → ((p : ℕ) → Among p ps → Among p qs) → ((p : ℕ) → Among p qs → Among p ps) → ps ≡ qs
rising_same [] [] r s to from = refl
rising_same [] (q ∷ qs) r s to from = absurd (from q (inl refl))
rising_same (p ∷ ps) [] r s to from = absurd (to p (inl refl))
rising_same (p ∷ ps) (q ∷ qs) r s to from =
    let e : p ≡ q = heads (to p (inl refl)) (from q (inl refl)) in
    ap₂ ◌∷◌ e (rising_same ps qs r.1 s.1 (λ k a. onward e k a (to k (inr a))) (λ k a. backward e k a (from k (inr a))))
  where
    heads : Among p (q ∷ qs) → Among q (p ∷ ps) → p ≡ q
    heads (inl e) b = e
    heads (inr a) (inl e) = sym e
    heads (inr a) (inr b) = absurd (omega (arith, s.0 p a, r.0 q b))

    onward : p ≡ q → (k : ℕ) → Among k ps → Among k (q ∷ qs) → Among k qs
    onward e k a (inl h) = absurd (omega (arith, r.0 k a))
    onward e k a (inr h) = h

    backward : p ≡ q → (k : ℕ) → Among k qs → Among k (p ∷ ps) → Among k ps
    backward e k a (inl h) = absurd (omega (arith, s.0 k a))
    backward e k a (inr h) = h

exactly_one : (n : ℕ) (P : ℕ → Type 0) (ps qs : List ℕ) → Exactly n P ps → Exactly n P qs → ps ≡ qs
exactly_one n P ps qs f g =
    rising_same ps qs (strictly_rising ps f.rising) (strictly_rising qs g.rising)
    (λ p a. contains_among p qs ((g.exact p).1 ((f.exact p).0 (among_contains p ps a))))
    (λ p a. contains_among p ps ((f.exact p).1 ((g.exact p).0 (among_contains p qs a))))

found_one : (N : NetMeaning) (m : Marking) (x : Tally) (target : Target) (list other : List Finding) →
    AllFound N m x target list → AllFound N m x target other → list ≡ other
found_one N m x target list other f g =
    f.listed
    ∙ ap₂ ◌++◌ (same_at (λ p. cause.Short (final_number N m x p)) (exactly_one _ _ _ _ f.all_short g.all_short))
    (ap₂ ◌++◌ (same_at (λ p. cause.CutOff) (exactly_one _ _ _ _ f.all_cut_off g.all_cut_off))
    (same_at (λ p. cause.Missed (f.missed_number p)) (exactly_one _ _ _ _ f.all_missed g.all_missed)
    ∙ ap (λ (h : ℕ → ℤ). findings_at (λ p. cause.Missed (h p)) g.missed_places) (fun_ext one_number)))
    ∙ sym g.listed
  where
    same_at : (h : ℕ → Cause) {ps qs : List ℕ} → ps ≡ qs → findings_at h ps ≡ findings_at h qs
    same_at h e = ap (findings_at h) e

    one_number : (p : ℕ) → f.missed_number p ≡ g.missed_number p
    one_number p = omega (arith, ints, f.with_the_target p, g.with_the_target p)

-- two orders, neither later than the other, are the same
one_first : (a b : List ℕ) → (a ≡ b) ⊎ Earlier a b → (b ≡ a) ⊎ Earlier b a → a ≡ b
one_first a b (inl e) g = e
one_first a b (inr f) (inl e) = sym e
one_first a b (inr f) (inr g) = absurd (earlier_one_way a b f g)

pub pinned : Pinned
pinned N law s =
    let p = promise.in_any_state N law s in
    record {
      fire_refused = λ t r c.
          one_refusal _ _ r (fire_refusal N s t) c (record { none = p.fires_exactly t; some = p.fire_refused_for t });
      resume_refused = λ tally target memory r c.
          one_refusal _ _ r (resume_refusal N s tally target memory) c
          (record { none = p.resumes_exactly tally target memory; some = p.resume_refused_for tally target memory });
      survey_refused = λ tally target memory r c.
          one_refusal _ _ r (survey_refusal N s tally target memory) c
          (record { none = p.surveys_exactly tally target memory; some = p.survey_refused_for tally target memory });
      order_written = λ tally target memory h order such before.
          let w = p.writes_the_first tally target memory h in
          one_first order (the_order N s tally) (before (the_order N s tally) w.0) (w.1 order such);
      findings_listed = λ tally target memory h list f.
          found_one N s.counts (at tally) target list (findings N s.counts (at tally) target) f (p.finds_all tally target memory h);
      transcript_said = one_transcript N s;
      state_left = λ order a b. leads_same N s a b order;
    }
