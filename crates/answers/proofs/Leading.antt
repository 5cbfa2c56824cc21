-- What a call leaves: the state that the steps it fired lead to.
use Rattle.std.proofs.Common.{◌≡◌, ℕ, zero, suc, ◌+◌, ◌-◌, ◌≤◌, List, [], ◌∷◌, ◌++◌, length, Some, None, Option, sym, refl, ap, ◌∙◌, subst, inl, inr, arith}
use mathlib.Core.Path.{fun_ext}
use Rattle.std.proofs.lemmas.Bool.{cases_lt}
use Rattle.refusals.specs.declared.Refusal.{Refusal}
use Rattle.theory.specs.Nets.{NetMeaning, NetLaw}
use Rattle.theory.specs.Rows.{at}
use Rattle.theory.specs.Firing.{Marking, fired, CanFire, after, times}
use Rattle.theory.specs.Tallies.{Tally, steps_asked, Realizes}
use Rattle.theory.specs.Orders.{less}
use Rattle.theory.proofs.TallySums.{one_other, sum_less, sum_nothing}
use Rattle.theory.proofs.Realized.{first_counts, rest_realizes}
use Rattle.theory.proofs.Appended.{can_fire_appended, after_appended, times_appended}
use Rattle.answers.specs.States.{State, Target, yields_of, yields_asked}
use Rattle.answers.specs.Answers.{unless, fire_refusal, after_fire, resume_refusal, the_order, after_resume}
use Rattle.answers.specs.Calls.{Call, refusal_of, order_of, next_state, fired_by, after_call, order_yields}
use Rattle.answers.specs.Calls.Call.{fire, resume, survey}
use Rattle.answers.specs.Promise.{Leads, SameState}
use Rattle.answers.proofs.Sizes.{fire_fits}
use Rattle.answers.proofs.Resumes.{fits_now, such_now, long_now}

-- ORDERS

-- a row is 0 past its end
pub at_past : (row : List ℕ) (i : ℕ) → length row ≤ i → at row i ≡ 0
at_past [] i l = refl
at_past (x ∷ xs) zero l = absurd (omega arith)
at_past (x ∷ xs) (suc i) l = at_past xs i (omega arith)

-- what can be fired has steps of the net only
pub times_past : (N : NetMeaning) (m : Marking) (order : List ℕ) → CanFire N m order → (t : ℕ) → N.steps ≤ t → times order t ≡ 0
times_past N m [] c t l = refl
times_past N m (u ∷ us) c t l =
    omega (arith, one_other u t (λ e. omega (arith, c.0)), times_past N (fired N m u) us c.2 t l)

pub length_both : (a b : List ℕ) → length (a ++ b) ≡ length a + length b
length_both [] b = omega arith
length_both (u ∷ us) b = omega (arith, length_both us b)

pub yields_both : (N : NetMeaning) (a b : List ℕ) → order_yields N (a ++ b) ≡ order_yields N a + order_yields N b
yields_both N [] b = omega arith
yields_both N (u ∷ us) b = omega (arith, yields_both N us b)

-- the yields of an order are those of the tally that it does
pub yields_is : (N : NetMeaning) (m : Marking) (x : Tally) (order : List ℕ) → Realizes N m x order → order_yields N order ≡ yields_asked N x
yields_is N m x [] r = sym (sum_nothing x (yields_of N) N.steps (λ u l. sym (r.1 u l)))
yields_is N m x (t ∷ ts) r =
    omega (
      arith,
      sum_less x (yields_of N) t N.steps r.0.0 (first_counts N m x t ts r),
      yields_is N (fired N m t) (less x t) ts (rest_realizes N m x t ts r),
    )

-- LEADING ON

pub leads_nowhere : (N : NetMeaning) (s : State) → Leads N [] s s
leads_nowhere N s = record { can_fire = tt; counts = λ p. refl; spare = refl; done = λ t. omega arith }

pub leads_both : (N : NetMeaning) (s z y : State) (a b : List ℕ) → Leads N a s z → Leads N b z y → Leads N (a ++ b) s y
leads_both N s z y a b f g =
    let e : z.counts ≡ after N s.counts a = fun_ext f.counts in
    record {
      can_fire = (can_fire_appended N s.counts a b).1 (f.can_fire, subst (λ (m : Marking). CanFire N m b) e g.can_fire);
      counts = λ p. subst (λ (m : Marking). y.counts p ≡ after N m b p) e (g.counts p) ∙ sym (after_appended N s.counts a b p);
      spare = spares (order_yields N a) (order_yields N b) (order_yields N (a ++ b)) (length a) (length b) (length (a ++ b))
          f.spare g.spare (yields_both N a b) (length_both a b);
      done = λ t. omega (arith, f.done t, g.done t, times_appended a b t);
    }
  where
    spares : (ya yb yc la lb lc : ℕ) → z.spare + ya ≡ s.spare + la → y.spare + yb ≡ z.spare + lb → yc ≡ ya + yb → lc ≡ la + lb →
        y.spare + yc ≡ s.spare + lc
    spares ya yb yc la lb lc h i j k = omega arith

-- two states that one order leads to are the same
pub leads_same : (N : NetMeaning) (s a b : State) (order : List ℕ) → Leads N order s a → Leads N order s b → SameState a b
leads_same N s a b order f g =
    record {
      counts = λ p. f.counts p ∙ sym (g.counts p);
      spare = spares (order_yields N order) (length order) f.spare g.spare;
      done = λ t. f.done t ∙ sym (g.done t);
    }
  where
    spares : (y l : ℕ) → a.spare + y ≡ s.spare + l → b.spare + y ≡ s.spare + l → a.spare ≡ b.spare
    spares y l h k = omega arith

-- CALLS

module _ (N : NetMeaning) (s : State) where
  pub fire_leads : (t : ℕ) → fire_refusal N s t ≡ None → Leads N (t ∷ []) s (after_fire N s t)
  fire_leads t h =
      let f = fire_fits N s t h in
      record {
        can_fire = (f.a_step, f.input_holds, tt);
        counts = λ p. refl;
        spare = spare_of (yields_of N t) f.spare_holds;
        done = λ u. omega arith;
      }
    where
      spare_of : (y : ℕ) → y ≤ s.spare + 1 → ((s.spare + 1) - y) + (y + 0) ≡ s.spare + 1
      spare_of y h = omega arith

  pub resume_leads : NetLaw N → (tally : List ℕ) (target : Target) (memory : ℕ) → resume_refusal N s tally target memory ≡ None →
      Leads N (the_order N s tally) s (after_resume N s tally)
  resume_leads law tally target memory h =
      let f = fits_now N law s tally target memory h in
      let order : List ℕ = the_order N s tally in
      let r : Realizes N s.counts (at tally) order = (such_now N law s tally target memory h).0 in
      record {
        can_fire = r.0;
        counts = λ p. refl;
        spare = spare_of (steps_asked N (at tally)) (yields_asked N (at tally)) (order_yields N order) (length order)
            f.spare_holds (yields_is N s.counts (at tally) order r) (long_now N law s tally target memory h);
        done = λ t. ap (λ (k : ℕ). s.done t + k) (elim (cases_lt t N.steps) [
          | inl l ↦ sym (r.1 t l)
          | inr l ↦ at_past tally t (omega (arith, f.rows.tally_long)) ∙ sym (times_past N s.counts order r.0 t l)
        ]);
      }
    where
      spare_of : (n y a l : ℕ) → y ≤ s.spare → a ≡ y → l ≡ n → ((s.spare + n) - y) + a ≡ s.spare + l
      spare_of n y a l h e f = omega arith

  pub call_leads : NetLaw N → (c : Call) → Leads N (fired_by N s c) s (after_call N s c)
  call_leads law c = go c (refusal_of N s c) refl
    where
      go : (c : Call) (o : Option Refusal) → refusal_of N s c ≡ o →
          Leads N (unless o [] (order_of N s c)) s (unless o s (next_state N s c))
      go c (Some e) h = leads_nowhere N s
      go (fire t) None h = fire_leads t h
      go (resume tally target memory) None h = resume_leads law tally target memory h
      go (survey tally target memory) None h = leads_nowhere N s
