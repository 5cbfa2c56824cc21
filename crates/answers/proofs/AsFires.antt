-- An accepted resume is as a fire of each step of its order.
use Rattle.std.proofs.Common.{◌≡◌, ℕ, suc, ◌+◌, ◌-◌, ◌<◌, ◌≤◌, List, [], ◌∷◌, length, None, Option, sym, refl, ap, subst, arith}
use Rattle.refusals.specs.declared.Refusal.{Refusal}
use Rattle.theory.specs.Sums.{sum_to}
use Rattle.theory.specs.Nets.{NetMeaning, NetLaw}
use Rattle.theory.specs.Rows.{at}
use Rattle.theory.specs.Firing.{one_at, CanFire}
use Rattle.theory.specs.Tallies.{Tally}
use Rattle.theory.proofs.SumLaws.{sum_to_add, sum_to_change, sum_to_none}
use Rattle.theory.proofs.TallySums.{one_same, one_other}
use Rattle.answers.specs.States.{State, Target, done_total, done_limit, yields_of}
use Rattle.answers.specs.Answers.{unless, fire_refusal, after_fire, resume_refusal, the_order, after_resume}
use Rattle.answers.specs.Calls.{after_call, after_calls, fires, order_yields}
use Rattle.answers.specs.Calls.Call.{fire, resume}
use Rattle.answers.specs.Promise.{Leads, AllAccepted, AsFires, SameState}
use Rattle.answers.proofs.Sizes.{fits_fire}
use Rattle.answers.proofs.Resumes.{fits_now, such_now, long_now}
use Rattle.answers.proofs.Leading.{leads_nowhere, leads_both, leads_same, fire_leads, resume_leads, yields_is}

-- the row that is 1 at t and 0 elsewhere adds up to 1
pub sum_one : (t n : ℕ) → t < n → sum_to (one_at t) n ≡ 1
sum_one t n l =
    omega (
      arith,
      sum_to_change (λ _. 0) (one_at t) n t l (λ u d. one_other t u (λ e. d (sym e))),
      sum_to_none (λ _. 0) n (λ u _. refl),
      one_same t t refl,
    )

pub one_more : (f : Tally) (t n : ℕ) → t < n → sum_to (λ u. f u + one_at t u) n ≡ sum_to f n + 1
one_more f t n l = omega (arith, sum_to_add f (one_at t) n, sum_one t n l)

-- where each step of the order can be fired, with spare for all yields and within the limit, no fire is refused
all_accepted : (N : NetMeaning) → NetLaw N → (s : State) (order : List ℕ) → CanFire N s.counts order →
    order_yields N order ≤ s.spare → done_total s + length order ≤ done_limit →
    AllAccepted N s (fires order) × Leads N order s (after_calls N s (fires order))
all_accepted N law s [] c room limit = (tt, leads_nowhere N s)
all_accepted N law s (t ∷ ts) c room limit =
    let ok : fire_refusal N s t ≡ None =
    fits_fire N s t (record {
      a_step = c.0;
      within_limit = one_fits (done_total s) (length ts) limit;
      input_holds = c.1;
      spare_holds = fits (yields_of N t) (order_yields N ts) room;
    }) in
    let e : after_call N s (fire t) ≡ after_fire N s t = ap (λ (o : Option Refusal). unless o s (after_fire N s t)) ok in
    let rest = all_accepted N law (after_fire N s t) ts c.2 (left (yields_of N t) (order_yields N ts) room)
    (one_on (done_total s) (done_total (after_fire N s t)) (length ts)
    (one_more s.done t 128 (below N.steps c.0 law.few_steps)) limit) in (
      (ok, subst (λ (z : State). AllAccepted N z (fires ts)) (sym e) rest.0),
      leads_both N s (after_fire N s t) (after_calls N (after_call N s (fire t)) (fires ts)) (t ∷ []) ts
          (fire_leads N s t ok)
          (subst (λ (z : State). Leads N ts (after_fire N s t) (after_calls N z (fires ts))) (sym e) rest.1),
    )
  where
    one_fits : (n k : ℕ) → n + suc k ≤ 65535 → n + 1 ≤ 65535
    one_fits n k h = omega arith

    fits : (a b : ℕ) → a + b ≤ s.spare → a ≤ s.spare + 1
    fits a b h = omega arith

    left : (a b : ℕ) → a + b ≤ s.spare → b ≤ (s.spare + 1) - a
    left a b h = omega arith

    below : (n : ℕ) → t < n → n ≤ 128 → t < 128
    below n l h = omega arith

    one_on : (n k l : ℕ) → k ≡ n + 1 → n + suc l ≤ 65535 → k + l ≤ 65535
    one_on n k l e h = omega arith

pub resume_as_fires : (N : NetMeaning) → NetLaw N → (s : State) (tally : List ℕ) (target : Target) (memory : ℕ) →
    resume_refusal N s tally target memory ≡ None → AsFires N s tally target memory
resume_as_fires N law s tally target memory h =
    let f = fits_now N law s tally target memory h in
    let order : List ℕ = the_order N s tally in
    let r = (such_now N law s tally target memory h).0 in
    let e : after_call N s (resume tally target memory) ≡ after_resume N s tally =
    ap (λ (o : Option Refusal). unless o s (after_resume N s tally)) h in
    let b = all_accepted N law s order r.0
    (subst (λ (k : ℕ). k ≤ s.spare) (sym (yields_is N s.counts (at tally) order r)) f.spare_holds)
    (subst (λ (k : ℕ). done_total s + k ≤ done_limit) (sym (long_now N law s tally target memory h)) f.within_limit) in
    record {
      none_refused = b.0;
      same_state = subst (λ (z : State). SameState (after_calls N s (fires order)) z) (sym e)
          (leads_same N s (after_calls N s (fires order)) (after_resume N s tally) order b.1
          (resume_leads N s law tally target memory h));
    }
