-- Lists of calls: the order that they fire together, the done row, and the blocks on the board.
use Rattle.std.proofs.Common.{◌≡◌, ℕ, zero, suc, ◌+◌, ◌<◌, ◌≤◌, List, [], ◌∷◌, length, Some, None, Option, sym, refl, ap, ◌∙◌, inl, inr, arith}
use Rattle.std.proofs.lemmas.Bool.{cases_eq}
use Rattle.refusals.specs.declared.Refusal.{Refusal}
use Rattle.theory.specs.Sums.{sum_to}
use Rattle.theory.specs.Nets.{NetMeaning, NetLaw}
use Rattle.theory.specs.Rows.{at}
use Rattle.theory.specs.Firing.{Marking, one_at, fired, CanFire, after}
use Rattle.theory.specs.Tallies.{steps_asked}
use Rattle.theory.proofs.SumLaws.{sum_to_same, sum_to_add, sum_to_none}
use Rattle.theory.proofs.TallySums.{one_other}
use Rattle.theory.proofs.Realized.{fired_is}
use Rattle.answers.specs.States.{State, Target, New, done_total, done_limit}
use Rattle.answers.specs.Answers.{unless, fire_refusal, after_fire, resume_refusal, after_resume}
use Rattle.answers.specs.Calls.{Call, refusal_of, next_state, asked_by, fired_by, after_call, after_calls, history, accepted_times, order_yields}
use Rattle.answers.specs.Calls.Call.{fire, resume, survey}
use Rattle.answers.specs.Promise.{Leads}
use Rattle.answers.proofs.Sizes.{fire_fits}
use Rattle.answers.proofs.Resumes.{fits_now}
use Rattle.answers.proofs.Leading.{at_past, leads_nowhere, leads_both, call_leads}
use Rattle.answers.proofs.AsFires.{sum_one, one_more}

pub calls_lead : (N : NetMeaning) → NetLaw N → (s : State) (calls : List Call) → Leads N (history N s calls) s (after_calls N s calls)
calls_lead N law s [] = leads_nowhere N s
calls_lead N law s (c ∷ cs) =
    leads_both N s (after_call N s c) (after_calls N (after_call N s c) cs) (fired_by N s c) (history N (after_call N s c) cs)
    (call_leads N s law c) (calls_lead N law (after_call N s c) cs)

-- THE DONE ROW

-- an accepted call adds what it asks for
next_done : (N : NetMeaning) (s : State) (c : Call) (t : ℕ) → (next_state N s c).done t ≡ s.done t + asked_by c t
next_done N s (fire u) t = refl
next_done N s (resume tally target memory) t = refl
next_done N s (survey tally target memory) t = omega arith

call_done : (N : NetMeaning) (s : State) (c : Call) (t : ℕ) →
    (after_call N s c).done t ≡ s.done t + unless (refusal_of N s c) 0 (asked_by c t)
call_done N s c t = go (refusal_of N s c)
  where
    go : (o : Option Refusal) → (unless o s (next_state N s c)).done t ≡ s.done t + unless o 0 (asked_by c t)
    go None = next_done N s c t
    go (Some e) = omega arith

pub calls_done : (N : NetMeaning) (s : State) (calls : List Call) (t : ℕ) →
    (after_calls N s calls).done t ≡ s.done t + accepted_times N s calls t
calls_done N s [] t = omega arith
calls_done N s (c ∷ cs) t = omega (arith, call_done N s c t, calls_done N (after_call N s c) cs t)

-- what is 0 from k on adds nothing past k
pub sum_past : (f : ℕ → ℕ) (k n : ℕ) → k ≤ n → ((u : ℕ) → k ≤ u → f u ≡ 0) → sum_to f n ≡ sum_to f k
unfolding sum_to
sum_past f k zero l z = ap (sum_to f) e
  where
    e : 0 ≡ k
    e = omega arith
sum_past f k (suc n) l z =
    elim (cases_eq k (suc n)) [
      | inl e ↦ ap (sum_to f) (sym e)
      | inr d ↦ omega (arith, sum_past f k n (omega arith) z, z n (omega arith))
    ]

-- the done row has steps of the net only, and not too many
pub record Within (N : NetMeaning) (s : State) : Type 0 where
  pub only : (t : ℕ) → N.steps ≤ t → s.done t ≡ 0
  pub limit : done_total s ≤ done_limit

pub new_within : (N : NetMeaning) (s : State) → New s → Within N s
new_within N s new = record {
  only = λ t _. new t;
  limit = below (done_total s) (sum_to_none s.done 128 (λ u _. new u));
}
  where
    below : (n : ℕ) → n ≡ 0 → n ≤ 65535
    below n e = omega arith

module _ (N : NetMeaning) (law : NetLaw N) where
  fire_within : (s : State) (u : ℕ) → Within N s → fire_refusal N s u ≡ None → Within N (after_fire N s u)
  fire_within s u w h =
      let f = fire_fits N s u h in
      record {
        only = λ t k. outside t k f.a_step;
        limit = fits (done_total s) (done_total (after_fire N s u)) (one_more s.done u 128 (below N.steps f.a_step law.few_steps))
            f.within_limit;
      }
    where
      outside : (t : ℕ) → N.steps ≤ t → u < N.steps → s.done t + one_at u t ≡ 0
      outside t k l = let z : one_at u t ≡ 0 = one_other u t (λ e. omega arith) in omega (arith, w.only t k)

      below : (n : ℕ) → u < n → n ≤ 128 → u < 128
      below n l h = omega arith

      fits : (a b : ℕ) → b ≡ a + 1 → a + 1 ≤ 65535 → b ≤ 65535
      fits a b e h = omega arith

  -- the numbers of a tally add up to the steps that it asks for
  pub asked_is : (tally : List ℕ) → length tally ≡ N.steps → sum_to (at tally) 128 ≡ steps_asked N (at tally)
  asked_is tally e = sum_past (at tally) N.steps 128 law.few_steps (λ u l. at_past tally u (omega arith))

  resume_within : (s : State) (tally : List ℕ) (target : Target) (memory : ℕ) → Within N s →
      resume_refusal N s tally target memory ≡ None → Within N (after_resume N s tally)
  resume_within s tally target memory w h =
      let f = fits_now N law s tally target memory h in
      record {
        only = λ t k. outside t k f.rows.tally_long;
        limit = fits (done_total s) (sum_to (at tally) 128) (done_total (after_resume N s tally)) (steps_asked N (at tally))
            (sum_to_add s.done (at tally) 128) (asked_is tally f.rows.tally_long) f.within_limit;
      }
    where
      outside : (t : ℕ) → N.steps ≤ t → length tally ≡ N.steps → s.done t + at tally t ≡ 0
      outside t k l = let z : at tally t ≡ 0 = at_past tally t (omega arith) in omega (arith, w.only t k)

      fits : (a b c d : ℕ) → c ≡ a + b → b ≡ d → a + d ≤ 65535 → c ≤ 65535
      fits a b c d e h l = omega arith

  call_within : (s : State) (c : Call) → Within N s → Within N (after_call N s c)
  call_within s c w = go c (refusal_of N s c) refl
    where
      go : (c : Call) (o : Option Refusal) → refusal_of N s c ≡ o → Within N (unless o s (next_state N s c))
      go c (Some e) h = w
      go (fire t) None h = fire_within s t w h
      go (resume tally target memory) None h = resume_within s tally target memory w h
      go (survey tally target memory) None h = w

  pub calls_within : (s : State) (calls : List Call) → Within N s → Within N (after_calls N s calls)
  calls_within s [] w = w
  calls_within s (c ∷ cs) w = calls_within (after_call N s c) cs (call_within s c w)

-- THE BLOCKS

-- a firing takes one block and puts down its yields
sum_fired : (N : NetMeaning) (m : Marking) (t n : ℕ) → N.input t < n → 0 < m (N.input t) →
    sum_to (fired N m t) n + 1 ≡ sum_to m n + sum_to (N.yields t) n
sum_fired N m t n l h =
    omega (
      arith,
      sum_to_same (λ p. fired N m t p + one_at (N.input t) p) (λ p. m p + N.yields t p) n (λ p _. fired_is N m t p h),
      sum_to_add (fired N m t) (one_at (N.input t)) n,
      sum_to_add m (N.yields t) n,
      sum_one (N.input t) n l,
    )

sum_after : (N : NetMeaning) → NetLaw N → (n : ℕ) → N.places ≤ n → (m : Marking) (order : List ℕ) → CanFire N m order →
    sum_to (after N m order) n + length order ≡ sum_to m n + order_yields N order
sum_after N law n few m [] c = refl
sum_after N law n few m (t ∷ ts) c =
    let i : N.input t < N.places = law.inputs_inside t c.0 in
    omega (
      arith,
      sum_fired N m t n (omega arith) c.1,
      sum_past (N.yields t) N.places n few (λ p. law.no_yield_outside_places t p),
      sum_after N law n few (fired N m t) ts c.2,
    )

pub blocks_stay : (N : NetMeaning) → NetLaw N → (order : List ℕ) (s z : State) → Leads N order s z →
    sum_to z.counts 64 + z.spare ≡ sum_to s.counts 64 + s.spare
blocks_stay N law order s z f =
    add (sum_to z.counts 64) (sum_to (after N s.counts order) 64) (sum_to s.counts 64) (order_yields N order) (length order)
    (sum_to_same z.counts (after N s.counts order) 64 (λ p _. f.counts p))
    (sum_after N law 64 law.few_places s.counts order f.can_fire) f.spare
  where
    add : (a b c y l : ℕ) → a ≡ b → b + l ≡ c + y → z.spare + y ≡ s.spare + l → a + z.spare ≡ c + s.spare
    add a b c y l h i j = omega arith

after_outside : (N : NetMeaning) → NetLaw N → (m : Marking) (order : List ℕ) → CanFire N m order →
    (p : ℕ) → N.places ≤ p → after N m order p ≡ m p
after_outside N law m [] c p l = refl
after_outside N law m (t ∷ ts) c p l =
    let i : N.input t < N.places = law.inputs_inside t c.0 in
    let z : one_at (N.input t) p ≡ 0 = one_other (N.input t) p (λ e. omega arith) in
    omega (arith, after_outside N law (fired N m t) ts c.2 p l, law.no_yield_outside_places t p l)

pub outside_stays : (N : NetMeaning) → NetLaw N → (order : List ℕ) (s z : State) → Leads N order s z →
    (p : ℕ) → N.places ≤ p → z.counts p ≡ s.counts p
outside_stays N law order s z f p l = f.counts p ∙ after_outside N law s.counts order f.can_fire p l
